use Rattle.std.proofs.Common.{◌≡◌, ◌∙◌, ◌*ℤ◌, ap, subst, sym, ℤ, arith}
use Rattle.std.proofs.lemmas.Int.{ints}
use Rattle.ivl_laws.specs.Runs.{Covers}
use Rattle.ivl_laws.specs.Sets.{IsBetween}
use Rattle.ivl_linear.specs.Ends.{IsGreatestTerm}
use Rattle.ivl_linear.proofs.Least.{abs_in_range, greatest_at_upper, greatest_at_lower}
use Rattle.ivl_linear.proofs.linear.sums.greatest_of.Goals as goal
use Rattle.ivl_linear.proofs.linear.sums.greatest_of.Goals.{then-term-lt0, else-term-lt0}
use mir.Syntax.{w64, w128}
use mir.Val.{to_z, of_z}

pub product-requires : goal.product-requires
product-requires g c =
    let v = g.B.Width.value in
    let in_range : IsBetween g.B.Width.whole (v c.if-term-lt0.end) = elim c.if-term-lt0.branch [
      | then-term-lt0 w ↦ subst (λ e. IsBetween g.B.Width.whole (v e)) (sym w.end-is) w.lower-end.ensures.in_range
      | else-term-lt0 w ↦ subst (λ e. IsBetween g.B.Width.whole (v e)) (sym w.end-is) w.upper-end.ensures.in_range
    ] in
    let en : to_z w128 (of_z w128 c.number.result) ≡ v c.if-term-lt0.end = (let a : to_z w128 (of_z w128 c.number.result) ≡ c.number.result = omega (arith, ints) in a ∙ c.number.ensures) in
    rw en (abs_in_range g.B.Width.whole (v c.if-term-lt0.end) g.met.B.Width.range in_range)

pub returns-clause-greatest : goal.returns-clause-greatest
returns-clause-greatest g c =
    let a = c.args.term.now.coefficient in
    let m = c.product.result in
    let v = g.B.Width.value in
    let S = Covers c.args.domain.now in
    let end = c.if-term-lt0.end in
    let em : to_z w128 (of_z w128 m) ≡ m = omega (arith, ints) in
    let ea : to_z w64 (of_z w64 a) ≡ a = omega (arith, ints) in
    let en : to_z w128 (of_z w128 c.number.result) ≡ v end = (let k : to_z w128 (of_z w128 c.number.result) ≡ c.number.result = omega (arith, ints) in k ∙ c.number.ensures) in
    let is : m ≡ a *ℤ v end = c.product.ensures.value ∙ ap (λ (x : ℤ). x *ℤ to_z w128 (of_z w128 c.number.result)) ea ∙ ap (λ (x : ℤ). a *ℤ x) en in
    let whole : IsGreatestTerm a S m = elim c.if-term-lt0.branch [
      | then-term-lt0 w ↦ (let t = w.if-term-lt0.true in greatest_at_lower a S (v end) m (omega (arith, ints)) (subst (λ e. S (v e)) (sym w.end-is) w.lower-end.ensures.member) (rw w.end-is w.lower-end.ensures.least) is)
      | else-term-lt0 w ↦ (let t = w.if-term-lt0.false in greatest_at_upper a S (v end) m (omega (arith, ints)) (subst (λ e. S (v e)) (sym w.end-is) w.upper-end.ensures.member) (rw w.end-is w.upper-end.ensures.greatest) is)
    ] in
    subst (IsGreatestTerm a S) (sym em) whole
