use Rattle.std.proofs.Common.{◌≡◌, ◌≤◌, ◌<◌, ◌-◌, ◌/◌, ℕ, ap, arith, subst, sym, ◌∙◌}
use Rattle.std.specs.Prelude.{MatchOption}
use Rattle.ivl_laws.specs.Counts.{IsCountOf}
use Rattle.ivl_laws.specs.Runs.{Covers}
use Rattle.ivl_laws.specs.Sets.{Below}
use Rattle.ivl_search.specs.Halves.{IsHalf}
use Rattle.ivl_search.proofs.Halves.{half_greatest, half_least, middle_found}
use Rattle.ivl_search.proofs.search.choice.middle.Goals as goal
use Rattle.ivl_search.proofs.search.choice.middle.Goals.{in-Least, in-Greatest}

less_than_all : (n i : ℕ) → i ≡ n / 2 → 1 ≤ n → i < n
less_than_all n i e one = omega (arith, e, one)

less_than_half : (n i : ℕ) → i ≡ (n - 1) / 2 → 1 ≤ n → i < n
less_than_half n i e one = omega (arith, e, one)

pub returns-in-Some : goal.returns-in-Some
returns-in-Some g c =
    let S = Covers c.args.domain.now in
    let n = c.number-size.result in
    let i = c.match-wanted.below in
    let counted : IsCountOf n S = subst (λ n. IsCountOf n S) (sym c.number-size.ensures.number) c.size.ensures in
    let half : 1 ≤ n → IsHalf c.args.wanted i n = elim c.match-wanted.branch [
      | in-Least w ↦ λ one. subst (λ wanted. IsHalf wanted i n) (sym w.in-Least.is) (half_least n i (w.below-is ∙ ap (λ m. m / 2) w.saturating_sub.ensures) one)
      | in-Greatest w ↦ λ one. subst (λ wanted. IsHalf wanted i n) (sym w.in-Greatest.is) (half_greatest n i w.below-is)
    ] in
    let small : 1 ≤ n → i < n = elim c.match-wanted.branch [
      | in-Least w ↦ λ one. less_than_half n i (w.below-is ∙ ap (λ m. m / 2) w.saturating_sub.ensures) one
      | in-Greatest w ↦ λ one. less_than_all n i w.below-is one
    ] in
    middle_found g.B.Width.value c.args.wanted S c.nth.result n i counted half small
    (subst (λ i. MatchOption c.nth.result ((m : ℕ) → IsCountOf m S → m ≤ i) (λ x. S (g.B.Width.value x) × IsCountOf i (Below (g.B.Width.value x) S))) c.in-Some.ensures.same_number c.nth.ensures)
