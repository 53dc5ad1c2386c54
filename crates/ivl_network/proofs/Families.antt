-- What is kept under rules, and where it is the greatest family that they support.
use Rattle.std.proofs.Common.{ℕ, ◌<◌, inl, inr, sym, subst, List}
use Rattle.std.specs.Prelude.{ℤ, All}
use Rattle.ivl_laws.specs.Families.{set_at}
use Rattle.ivl_rules.specs.declared.rules.Rule.{Rule}
use Rattle.ivl_rules.specs.Rules.{NamesOf}
use Rattle.ivl_rules.proofs.Narrowings.{unchanged_supported}
use Rattle.ivl_network.specs.Families.{ArePresent, IsFixedBy, IsGreatestUnder, KeepsUnder}

-- one change after another
pub KeepsUnder-trans : (rules : List Rule) (a b c : List (List (ℤ × ℤ))) → KeepsUnder rules a b → KeepsUnder rules b c → KeepsUnder rules a c
KeepsUnder-trans rules a b c f g = record { within = (λ i v h. f.within i v (g.within i v h)); families = (λ t u w. g.families t u (f.families t u w)) }

-- where narrowing by each rule changes nothing, the domains are the greatest supported family
pub fixed_greatest : (rules : List Rule) (old new : List (List (ℤ × ℤ))) → KeepsUnder rules old new → All (IsFixedBy (set_at new)) rules
    → IsGreatestUnder rules (set_at old) (set_at new)
fixed_greatest rules old new k fixed = record {
  within = k.within;
  supported = (λ i d lt. unchanged_supported _ (set_at new) (fixed i d lt));
  greatest = (λ other w u. k.families other u w);
}

-- a variable that is named is there
pub named_present : (count : ℕ) (rule : Rule) → ArePresent count rule → (i : ℕ) → NamesOf rule i → i < count
named_present count rule present i named = elim named [
  | inl e ↦ subst (λ j. j < count) (sym e) present.0
  | inr (inl e) ↦ subst (λ j. j < count) (sym e) present.1
  | inr (inr e) ↦ subst (λ j. j < count) (sym e) present.2
]
