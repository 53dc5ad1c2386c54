-- Constraints as rules: the same points solve them.
use Rattle.std.proofs.Common.{◌≡◌, ◌↔◌, ◌∙◌, ◌+◌, ◌-◌, ◌*◌, ◌/◌, ℕ, List, [], ◌∷◌, ap, length, map, max, refl, subst, sym}
use Rattle.std.specs.Prelude.{ℤ, All, Option, Some, None, IfNone, if◌then◌else◌, nat_le}
use Rattle.std.specs.Option.{option_or}
use Rattle.std.proofs.lemmas.List.{length-map}
use Rattle.std.proofs.lemmas.List.Elements.{All-cons, All-head, All-map, All-nil, All-tail, All-weaker}
use Rattle.ivl_store.specs.declared.store.constraint.Constraint.{Constraint}
use Rattle.ivl_store.specs.Narrowing.{first_unknown, first_unknown_of}
use Rattle.ivl_store.specs.Solutions.{AreDistinct}
use Rattle.ivl_rules.specs.declared.rules.Rule.{Rule}
use Rattle.ivl_rules.specs.declared.rules.Rule.TheVariants.{Sum}
use Rattle.ivl_rules.specs.Rules.{AreDifferent, Satisfies}
use Rattle.ivl_search.specs.Budget.{nodes_enough, nodes_for_best, points_of}
use Rattle.ivl_search.specs.declared.search.End.{End}
use Rattle.ivl_search.specs.Points.{Finds, Solves, SolvesRules, coordinate, first_unknown_of_rules, first_unknown_or, first_unknown_or_rules}

all_of_sums : (P : Rule → Type 0) (constraints : List Constraint) → All P (map Sum constraints) → All (λ c. P (Sum c)) constraints
all_of_sums P [] all = All-nil (λ c. P (Sum c))
all_of_sums P (c ∷ constraints) all =
    All-cons (λ c. P (Sum c)) c constraints (All-head P (Sum c) (map Sum constraints) all) (all_of_sums P constraints (All-tail P (Sum c) (map Sum constraints) all))

-- a point solves constraints exactly if it satisfies their rules
pub sums_solve : (constraints : List Constraint) (rules : List Rule) (sets : List (List (ℤ × ℤ))) → rules ≡ map Sum constraints
    → (point : List ℤ) → Solves constraints sets point ↔ SolvesRules rules sets point
sums_solve constraints rules sets is point = (
  (λ s. record {
    one_each = s.one_each;
    members = s.members;
    satisfied = subst (All (λ rule. Satisfies rule (coordinate point))) (sym is) (All-map (λ rule. Satisfies rule (coordinate point)) Sum constraints s.sums);
  }),
  (λ s. record {
    one_each = s.one_each;
    members = s.members;
    sums = all_of_sums (λ rule. Satisfies rule (coordinate point)) constraints (subst (All (λ rule. Satisfies rule (coordinate point))) is s.satisfied);
  }),
)

-- the rules of constraints over three different variables each
pub sums_different : (constraints : List Constraint) (rules : List Rule) → rules ≡ map Sum constraints → All AreDistinct constraints → All AreDifferent rules
sums_different constraints rules is all = subst (All AreDifferent) (sym is) (All-map AreDifferent Sum constraints all)

-- they name the same variables
unknown_in_sums : (count : ℕ) (constraints : List Constraint) → first_unknown_of_rules count (map Sum constraints) ≡ first_unknown_of count constraints
unknown_in_sums count [] = refl
unknown_in_sums count (c ∷ constraints) = ap (option_or (first_unknown count c)) (unknown_in_sums count constraints)

pub sums_unknown : (constraints : List Constraint) (rules : List Rule) (count : ℕ) → rules ≡ map Sum constraints → first_unknown_of_rules count rules ≡ first_unknown_of count constraints
sums_unknown constraints rules count is = ap (first_unknown_of_rules count) is ∙ unknown_in_sums count constraints

pub sums_unknown_or : (variable : ℕ) (constraints : List Constraint) (rules : List Rule) (count : ℕ) → rules ≡ map Sum constraints
    → first_unknown_or_rules variable count rules ≡ first_unknown_or variable count constraints
sums_unknown_or variable constraints rules count is = ap (λ o. option_or o (if nat_le count variable then Some variable else None)) (sums_unknown constraints rules count is)

-- there are as many
sums_count : (constraints : List Constraint) (rules : List Rule) → rules ≡ map Sum constraints → length rules ≡ length constraints
sums_count constraints rules is = ap length is ∙ length-map constraints Sum

-- so as many nodes suffice
pub sums_enough : (whole : ℤ × ℤ) (constraints : List Constraint) (rules : List Rule) (sets : List (List (ℤ × ℤ))) → rules ≡ map Sum constraints
    → nodes_enough whole rules sets ≡ nodes_enough whole constraints sets
sums_enough whole constraints rules sets is = ap (λ n. (2 * max 1 (points_of whole sets) - 1) * (n / 500 + 1)) (sums_count constraints rules is)

pub sums_for_best : (whole : ℤ × ℤ) (constraints : List Constraint) (rules : List Rule) (sets : List (List (ℤ × ℤ))) → rules ≡ map Sum constraints
    → nodes_for_best whole rules sets ≡ nodes_for_best whole constraints sets
sums_for_best whole constraints rules sets is = ap (λ n. 2 * max 1 (points_of whole sets) * (n / 500 + 1) + 1) (sums_count constraints rules is)

-- what is found of points that solve the one is found of those that solve the other
pub finds_same : (solves same : List ℤ → Type 0) (points : List (List ℤ)) (end : End) → ((point : List ℤ) → same point ↔ solves point) → Finds solves points end → Finds same points end
finds_same solves same points end both f = record {
  sound = All-weaker solves same (λ point s. (both point).1 s) points f.sound;
  once = f.once;
  complete = λ e point s. f.complete e point ((both point).0 s);
}

pub none_same : {A : Type 0} (o : Option A) (P Q : Type 0) → (P → Q) → IfNone o P → IfNone o Q
none_same None P Q f h = f h
none_same (Some x) P Q f h = tt
