-- A rule speaks only of the numbers of the variables that it names.
use Rattle.std.proofs.Common.{◌≡◌, ℕ, inl, inr, refl, sym, subst, ◌∙◌}
use Rattle.std.specs.Prelude.{ℤ, List, ◌≤ℤ◌, ◌<ℤ◌}
use Rattle.ivl_linear.specs.declared.linear.Term.{Term}
use Rattle.ivl_linear.specs.declared.linear.Relation.{Relation}
use Rattle.ivl_linear.specs.declared.linear.Relation.TheVariants.{AtMost, AtLeast, Differs, Tells}
use Rattle.ivl_linear.specs.Linear.{LinearNames, SatisfiesLinear}
use Rattle.ivl_linear.proofs.Totals.{sum_at-same}

pub SatisfiesLinear-same : (terms : List Term) (relation : Relation) (p q : ℕ → ℤ) → ((i : ℕ) → LinearNames terms relation i → p i ≡ q i) → SatisfiesLinear terms relation p → SatisfiesLinear terms relation q
SatisfiesLinear-same terms (AtMost bound) p q e h = subst (λ (x : ℤ). x ≤ℤ bound) (sum_at-same terms p q e) h
SatisfiesLinear-same terms (AtLeast bound) p q e h = subst (λ (x : ℤ). bound ≤ℤ x) (sum_at-same terms p q e) h
SatisfiesLinear-same terms (Tells variable bound) p q e (inl h) = inl (sym (e variable (inl refl)) ∙ h.0, subst (λ (x : ℤ). x ≤ℤ bound) (sum_at-same terms p q (λ i n. e i (inr n))) h.1)
SatisfiesLinear-same terms (Tells variable bound) p q e (inr h) = inr (sym (e variable (inl refl)) ∙ h.0, subst (λ (x : ℤ). bound <ℤ x) (sum_at-same terms p q (λ i n. e i (inr n))) h.1)
SatisfiesLinear-same terms (Differs number) p q e h = (λ f. h (sum_at-same terms p q e ∙ f))
