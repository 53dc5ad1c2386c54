-- Which rules name a variable, and which have to be looked at again.
--     unsettled_count flags      how many flags are not set
--     waits flags k      1 where flag k is not set, and else 0
--     times_in k list      how often the number stands in the list
--     Removes k old new told      one k is taken from the list, or, if that is what is told, there is none and the list stays
--     IsListed singles i rule      the rule names variable i, and is one of those that need single numbers, or one of the others, as told
--     IsRulePlace k i place rule      a place that rule k has for a variable i that it names: 4 k + 1 for its x, 4 k + 2 for its y, 4 k + 3 for its z
--     IsListedAt singles k i place rule      such a place of a rule that is one of those that need single numbers, or one of the others, as told
--     IsLastNamingRule singles rules i before place      such a place of the last of the first `before` rules that has one, and 0 where none has
--     lasts_of singles index      the places that an index has for the variables, of the rules of one kind
--     IsRuleIndex count rules index      for each of so many variables the last rule of each kind that names it, and for each place of a rule the last rule
--         before it that is of its kind and names the same; and the hashes of the rules
--     AreKnown rules hashes      the lists of the rules' hashes
--     IsRuleQueue queue      each rule that is not settled stands in the queue once, and nothing else does; there is room for all rules
use Rattle.std.specs.Prelude.{◌≡◌, ◌<◌, ◌≤◌, ◌+◌, ◌*◌, ◌⊎◌, ℕ, Bool, true, false, List, [], ◌∷◌, eqb, if◌then◌else◌, length, map, not, slice_index_or}
use Rattle.std.specs.List.{count_by}
use Rattle.std.specs.Vec.{vec_capacity}
use Rattle.ivl_rules.specs.declared.rules.Rule.{Rule}
use Rattle.ivl_rules.specs.Rules.{NamesOf, needs_singles, places}
use Rattle.ivl_network.specs.declared.network.hashes.Hashes.{Hashes}
use Rattle.ivl_network.specs.declared.network.index.Index.{Index}
use Rattle.ivl_network.specs.declared.network.queue.Queue.{Queue}
use Rattle.ivl_network.specs.Hashes.{AreHashLists}
use Rattle.ivl_network.specs.RuleHashes.{hash_of_rule}

abbrev pub unsettled_count : List Bool → ℕ
unsettled_count flags = count_by not flags

abbrev pub waits : List Bool → ℕ → ℕ
waits flags k = if slice_index_or flags k true then 0 else 1

abbrev pub times_in : ℕ → List ℕ → ℕ
times_in k list = count_by (λ j. eqb j k) list

abbrev pub Removes : ℕ → List ℕ → List ℕ → Bool → Type 0
Removes k old new true = ((j : ℕ) → times_in j new + times_in j (k ∷ []) ≡ times_in j old) × (length new + 1 ≡ length old)
Removes k old new false = (new ≡ old) × (times_in k old ≡ 0)

abbrev pub IsListed : Bool → ℕ → Rule → Type 0
IsListed singles variable rule = NamesOf rule variable × (needs_singles rule ≡ singles)

abbrev pub IsRulePlace : ℕ → ℕ → ℕ → Rule → Type 0
IsRulePlace k variable place rule =
    ((place ≡ 4 * k + 1) × (variable ≡ (places rule).x)) ⊎ ((place ≡ 4 * k + 2) × (variable ≡ (places rule).y)) ⊎ ((place ≡ 4 * k + 3) × (variable ≡ (places rule).z))

abbrev pub IsListedAt : Bool → ℕ → ℕ → ℕ → Rule → Type 0
IsListedAt singles k variable place rule = IsRulePlace k variable place rule × (needs_singles rule ≡ singles)

pub record IsLastNamingRule (singles : Bool) (rules : List Rule) (variable before place : ℕ) : Type 0 where
  pub low : 0 < place → place < 4 * before
  pub names : (k : ℕ) (d : Rule) → 0 < place → 4 * k ≤ place → place < 4 * k + 4 → IsListedAt singles k variable place (slice_index_or rules k d)
  pub none : (k : ℕ) (d : Rule) → place ≤ 4 * k → k < before → ¬ (IsListed singles variable (slice_index_or rules k d))

abbrev pub lasts_of : Bool → Index → List ℕ
lasts_of true index = index.single_lasts.items
lasts_of false index = index.lasts.items

abbrev pub AreKnown : List Rule → Hashes → Type 0
AreKnown rules hashes = AreHashLists hashes × (hashes.hashes.items ≡ map hash_of_rule rules)

pub record IsRuleIndex (count : ℕ) (rules : List Rule) (index : Index) : Type 0 where
  pub one_each : (singles : Bool) → length (lasts_of singles index) ≡ count
  pub four_each : length index.links.items ≡ 4 * length rules
  pub lasts : (singles : Bool) (i : ℕ) → IsLastNamingRule singles rules i (length rules) (slice_index_or (lasts_of singles index) i 0)
  pub links : (singles : Bool) (k i place : ℕ) (d : Rule) → k < length rules → IsListedAt singles k i place (slice_index_or rules k d)
      → IsLastNamingRule singles rules i k (slice_index_or index.links.items place 0)
  pub known : AreKnown rules index.hashes

pub record IsRuleQueue (queue : Queue) : Type 0 where
  pub once : (k : ℕ) → times_in k queue.round.items + times_in k queue.later.items + times_in k queue.late.items ≡ waits queue.settled.items k
  pub as_many : length queue.round.items + length queue.later.items + length queue.late.items ≡ unsettled_count queue.settled.items
  pub room : length queue.settled.items ≤ vec_capacity queue.round
  pub room_later : length queue.settled.items ≤ vec_capacity queue.later
  pub room_late : length queue.settled.items ≤ vec_capacity queue.late
