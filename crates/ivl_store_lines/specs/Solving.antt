-- What carrying out a request does to the variables, their domains, and the rules between them.
--     State      one name and one domain for each variable, the rules, whether each of these is settled, what the narrowings of a line may count
--         for, and how far the domains are narrowed: `Complete`, or stopped by the `Budget`
--     variable_named names name      the index of the variable with this name
--     variables_named names words      the indexes of the variables that have these names, in order
--     HasEmptyDomain state      some domain is empty, so that there is no solution
--     domain_range      the least and the greatest number that a domain may hold
--     Settles limit rules before flags after flags' progress      narrowings by the rules that count for no more than the
--         limit (`AreRulesCounted`) lead from the one domains to the others, which keep each supported family; to the greatest
--         one if it is complete, which it is exactly where each rule is settled. If the limit stopped it, a rule that is not
--         settled counts for more than is left. A rule that was settled is still, unless a variable that it names lost a
--         member (`KeepsSettled`); each narrowing removes a member, or leaves one rule fewer to settle
--     AddsUnset old new      flags after the others, none of which is set
--     Requires rules old new      the rules hold from now on (`AreRequired`), those that are new are not settled at first, and
--         all rules so far narrow the domains
--     Carries asked old new      the request takes the solver from `old` to `new`: `Defines` adds a name and a
--         domain, `Cuts` cuts a domain and then narrows (`Settles`), `Adds`, `Relates` and `different` require rules
--         and then narrow, all or nothing, `GoesOn` narrows, `Limits` sets the limit, `show` changes nothing
--     IsTakenBack old new      all is as it was, but that rules may have to be settled anew, if not all were settled
--     IsUndone told old new      nothing changes for a fault that is told; for want of memory all is taken back
--     pairs_fault pairs      the fault of pairs that are not all in range (`is_in_range`), or of the first whose bounds cross (`is_crossed`,
--         `crossed_fault`); `None` if there is none
--     name_fault name pairs number      the fault of a name that is a number, or else of the pairs
--     unknown_name known names, repeated_name names      the first name that no variable has; the first that stands
--         again after itself; `None` if there is none
--     fault_of asked old      the fault of a request (`var`, `cut`, `sum`, `relate`, `different`, or `show` with a
--         name; `limit`, `go_on` and `show` alone have none), by the solver before it: `var_fault`, `cut_fault`,
--         `sum_fault`, `pair_fault`, `show_fault` by the variables that have the names, `names_fault` by the first
--         unknown and the first repeated name; `None` if it has none
use Rattle.std.specs.Prelude.{◌≡◌, ◌↔◌, ◌<◌, ◌≤◌, ◌+◌, ◌-◌, ◌*◌, ◌^◌, ◌||◌, ◌==◌, ℕ, ℤ, pos, negsuc, Bool, false, List, All, Any, [], ◌∷◌, ◌++◌, bytes_eq, filter_map, find, if◌then◌else◌, int_lt, is_none, length, position, Option, Some, None}
use Rattle.std.specs.List.{list_all, list_any}
use Rattle.ivl_lines.specs.Numbers.{is_in_range, number_of}
use Rattle.ivl_laws.specs.Runs.{Covers, IsRunsOf}
use Rattle.ivl_laws.specs.Families.{set_at}
use Rattle.ivl_store.specs.declared.store.constraint.Constraint.{Constraint}
use Rattle.ivl_store.specs.Measure.{total}
use Rattle.ivl_network.specs.Network.{IsCutAt, IsUnsettledIn}
use Rattle.ivl_network.specs.Queue.{unsettled_count}
use Rattle.ivl_network.specs.Settled.{KeepsSettled}
use Rattle.ivl_rules.specs.declared.rules.Rule.{Rule}
use Rattle.ivl_rules.specs.declared.rules.Rule.TheVariants.{Sum}
use Rattle.ivl_network.specs.Costs.{AreRulesCounted, cost_of_rule}
use Rattle.ivl_network.specs.Families.{IsGreatestUnder, KeepsUnder}
use Rattle.ivl_store_lines.specs.declared.relation.Relation.{Relation}
use Rattle.ivl_store_lines.specs.declared.progress.Progress.{Progress}
use Rattle.ivl_store_lines.specs.declared.progress.Progress.TheVariants.{Complete, Budget}
use Rattle.ivl_store_lines.specs.Faults.{Told, out_of_range, unknown, defined, repeated, numeral, crossed}
use Rattle.ivl_store_lines.specs.Required.{AreRequired, each_pair, related}
use Rattle.ivl_store_lines.specs.Requests.{Asked, var, cut, sum, relate, different, limit, go_on, show, solve, count, least, greatest}

-- one name and one domain for each variable
pub record State : Type 0 where
  pub names : List (List ℕ)
  pub domains : List (List (ℤ × ℤ))
  pub rules : List Rule
  pub settled : List Bool
  pub limit : ℕ
  pub progress : Progress

abbrev pub variable_named : List (List ℕ) → List ℕ → Option ℕ
variable_named names name = position (λ known. bytes_eq known name) names

-- names that no variable has are passed over
abbrev pub variables_named : List (List ℕ) → List (List ℕ) → List ℕ
variables_named names words = filter_map (λ word. variable_named names word) words

abbrev pub HasEmptyDomain : State → Type 0
HasEmptyDomain state = Any (λ L. L ≡ []) state.domains

abbrev pub domain_range : ℤ × ℤ
domain_range = (negsuc (2 ^ 63 - 2), pos (2 ^ 63 - 1))

-- no supported family loses a member; if the limit stopped it, a rule that is not settled counts for more than is left
pub record Settles (limit : ℕ) (rules : List Rule) (before : List (List (ℤ × ℤ))) (flags : List Bool) (after : List (List (ℤ × ℤ))) (flags' : List Bool) (progress : Progress) : Type 0 where
  pub by : List Rule
  pub cost : ℕ
  pub counted : AreRulesCounted rules by cost before after
  pub within_limit : cost ≤ limit
  pub keeps : KeepsUnder rules before after
  pub complete : progress ≡ Complete → IsGreatestUnder rules (set_at before) (set_at after)
  pub one_each : length flags' ≡ length rules
  pub exactly : progress ≡ Complete ↔ unsettled_count flags' ≡ 0
  pub used_up : progress ≡ Budget → (next : Rule) × IsUnsettledIn rules flags' next × (limit < cost + cost_of_rule next after)
  pub stays : KeepsSettled rules (set_at before) (set_at after) flags flags'
  pub fewer : length by + (total domain_range after * (length rules + 1) + unsettled_count flags')
      ≤ total domain_range before * (length rules + 1) + unsettled_count flags

-- one more variable, whose domain is the union of the pairs
pub record Defines (name : List ℕ) (pairs : List (ℤ × ℤ)) (old new : State) : Type 0 where
  pub is_new : variable_named old.names name ≡ None
  pub domain : List (ℤ × ℤ)
  pub is_union : IsRunsOf domain (Covers pairs)
  pub added : new ≡ record { names = old.names ++ name ∷ []; domains = old.domains ++ domain ∷ []; rules = old.rules; settled = old.settled; limit = old.limit; progress = old.progress }

pub record AddsUnset (old new : List Bool) : Type 0 where
  pub added : List Bool
  pub after : new ≡ old ++ added
  pub unset : All (λ flag. flag ≡ false) added

-- the domain is cut, and then the rules narrow all domains
pub record Cuts (name : List ℕ) (pairs : List (ℤ × ℤ)) (old new : State) : Type 0 where
  pub variable : ℕ
  pub named : variable_named old.names name ≡ Some variable
  pub allowed : List (ℤ × ℤ)
  pub is_union : IsRunsOf allowed (Covers pairs)
  pub cut : List (List (ℤ × ℤ))
  pub is_cut : IsCutAt variable (Covers allowed) (set_at old.domains) (set_at cut)
  pub flags : List Bool
  pub stays : KeepsSettled old.rules (set_at old.domains) (set_at cut) old.settled flags
  pub settled : Settles new.limit new.rules cut flags new.domains new.settled new.progress
  pub names : new.names ≡ old.names
  pub rules : new.rules ≡ old.rules
  pub limit : new.limit ≡ old.limit

-- the rules are among those that hold from now on, and all these narrow the domains
pub record Requires (rules : List Rule) (old new : State) : Type 0 where
  pub required : AreRequired rules old.rules new.rules
  pub flags : List Bool
  pub unset : AddsUnset old.settled flags
  pub settled : Settles new.limit new.rules old.domains flags new.domains new.settled new.progress
  pub names : new.names ≡ old.names
  pub limit : new.limit ≡ old.limit

-- the numbers of two variables add up to that of a third
pub record Adds (x y z : List ℕ) (old new : State) : Type 0 where
  pub sum : Constraint
  pub named_x : variable_named old.names x ≡ Some sum.x
  pub named_y : variable_named old.names y ≡ Some sum.y
  pub named_z : variable_named old.names z ≡ Some sum.z
  pub requires : Requires (Sum sum ∷ []) old new

-- the number of one variable, shifted, is so related to that of another
pub record Relates (relation : Relation) (x y : List ℕ) (by : ℤ) (old new : State) : Type 0 where
  pub first : ℕ
  pub second : ℕ
  pub named_x : variable_named old.names x ≡ Some first
  pub named_y : variable_named old.names y ≡ Some second
  pub requires : Requires (related relation first second by ∷ []) old new

-- the rules narrow all domains further
pub record GoesOn (old new : State) : Type 0 where
  pub settled : Settles new.limit new.rules old.domains old.settled new.domains new.settled new.progress
  pub names : new.names ≡ old.names
  pub rules : new.rules ≡ old.rules
  pub limit : new.limit ≡ old.limit

abbrev pub Limits : ℕ → State → State → Type 0
Limits n old new = new ≡ record { names = old.names; domains = old.domains; rules = old.rules; settled = old.settled; limit = n; progress = old.progress }

abbrev pub Carries : Asked → State → State → Type 0
Carries (var name pairs) old new = Defines name pairs old new
Carries (cut name pairs) old new = Cuts name pairs old new
Carries (sum x y z) old new = Adds x y z old new
Carries (relate relation x y by) old new = Relates relation x y by old new
Carries (different names) old new = Requires (each_pair (variables_named old.names names)) old new
Carries (limit n) old new = Limits n old new
Carries go_on old new = GoesOn old new
Carries (show name) old new = new ≡ old
Carries (solve most) old new = new ≡ old
Carries count old new = new ≡ old
Carries (least name) old new = new ≡ old
Carries (greatest name) old new = new ≡ old

pub record IsTakenBack (old new : State) : Type 0 where
  pub others : new ≡ record { names = old.names; domains = old.domains; rules = old.rules; settled = new.settled; limit = old.limit; progress = old.progress }
  pub all : unsettled_count old.settled ≡ 0 → unsettled_count new.settled ≡ 0

abbrev pub IsUndone : Option Told → State → State → Type 0
IsUndone (Some why) old new = new ≡ old
IsUndone None old new = IsTakenBack old new

abbrev pub is_crossed : ℤ × ℤ → Bool
is_crossed pair = int_lt pair.1 pair.0

abbrev pub crossed_fault : Option (ℤ × ℤ) → Option Told
crossed_fault None = None
crossed_fault (Some pair) = Some (crossed pair.0 pair.1)

-- no bound of a set over i64 is its least number, and none is above the other of its pair
abbrev pub pairs_fault : List (ℤ × ℤ) → Option Told
pairs_fault pairs = if list_all is_in_range pairs then crossed_fault (find is_crossed pairs) else Some out_of_range

-- by the number that the name is
abbrev pub name_fault : List ℕ → List (ℤ × ℤ) → Option ℤ → Option Told
name_fault name pairs (Some number) = Some (numeral name)
name_fault name pairs None = pairs_fault pairs

-- by the variable that has the name
abbrev pub var_fault : List ℕ → List (ℤ × ℤ) → Option ℕ → Option Told
var_fault name pairs (Some i) = Some (defined name)
var_fault name pairs None = name_fault name pairs (number_of name)

abbrev pub cut_fault : List ℕ → List (ℤ × ℤ) → Option ℕ → Option Told
cut_fault name pairs None = Some (unknown name)
cut_fault name pairs (Some i) = pairs_fault pairs

abbrev pub show_fault : List ℕ → Option ℕ → Option Told
show_fault name None = Some (unknown name)
show_fault name (Some i) = None

-- by the variables that have the names, which have to be three
abbrev pub sum_fault : List ℕ → List ℕ → List ℕ → Option ℕ → Option ℕ → Option ℕ → Option Told
sum_fault x y z None _ _ = Some (unknown x)
sum_fault x y z (Some i) None _ = Some (unknown y)
sum_fault x y z (Some i) (Some j) None = Some (unknown z)
sum_fault x y z (Some i) (Some j) (Some k) =
    if i == j then Some (repeated x) else if i == k || j == k then Some (repeated z) else None

-- the same for two
abbrev pub pair_fault : List ℕ → List ℕ → Option ℕ → Option ℕ → Option Told
pair_fault x y None _ = Some (unknown x)
pair_fault x y (Some i) None = Some (unknown y)
pair_fault x y (Some i) (Some j) = if i == j then Some (repeated x) else None

-- the first name that no variable has
abbrev pub unknown_name : List (List ℕ) → List (List ℕ) → Option (List ℕ)
unknown_name known names = find (λ name. is_none (variable_named known name)) names

-- the first name that stands again after itself
abbrev pub repeated_name : List (List ℕ) → Option (List ℕ)
repeated_name [] = None
repeated_name (name ∷ names) = if list_any (λ other. bytes_eq name other) names then Some name else repeated_name names

-- an unknown name is told before one that is repeated
abbrev pub names_fault : Option (List ℕ) → Option (List ℕ) → Option Told
names_fault (Some name) _ = Some (unknown name)
names_fault None (Some name) = Some (repeated name)
names_fault None None = None

abbrev pub fault_of : Asked → State → Option Told
fault_of (var name pairs) old = var_fault name pairs (variable_named old.names name)
fault_of (cut name pairs) old = cut_fault name pairs (variable_named old.names name)
fault_of (sum x y z) old = sum_fault x y z (variable_named old.names x) (variable_named old.names y) (variable_named old.names z)
fault_of (relate relation x y by) old = pair_fault x y (variable_named old.names x) (variable_named old.names y)
fault_of (different names) old = names_fault (unknown_name old.names names) (repeated_name names)
fault_of (limit n) old = None
fault_of go_on old = None
fault_of (show None) old = None
fault_of (show (Some name)) old = show_fault name (variable_named old.names name)
fault_of (solve most) old = None
fault_of count old = None
fault_of (least name) old = show_fault name (variable_named old.names name)
fault_of (greatest name) old = show_fault name (variable_named old.names name)
