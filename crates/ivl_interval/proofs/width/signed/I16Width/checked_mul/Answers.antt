use Rattle.std.proofs.Common.{rules, ◌*ℤ◌, lit<, lit≤, arith, refl, sym}
use Rattle.std.proofs.Math.Bool.{true≢false}
use Rattle.std.proofs.lemmas.Int.{ints, to_z-of_z}
use mir.Syntax.{w16, w32}
use mir.Val.{SFits}
use Rattle.ivl_interval.proofs.Casts.{SFits-wide_product, to_z-wide_product}
use Rattle.ivl_interval.proofs.width.signed.I16Width.checked_mul.Goals as goal
use Rattle.ivl_interval.proofs.width.signed.I16Width.checked_mul.Goals.{else-product-via-then-product+else-product-2, else-product-via-else-product}

pub overflow_mul-product : goal.overflow_mul-product
overflow_mul-product c = SFits-wide_product w16 w32 c.args.self c.args.other (lit≤ tt) (lit< tt) c.ranges.self c.ranges.other

pub returns-then-product-2-clause-known : goal.returns-then-product-2-clause-known
returns-then-product-2-clause-known c =
    let product = to_z-wide_product w16 w32 c.args.self c.args.other (lit≤ tt) (lit< tt) c.ranges.self c.ranges.other in
    (λ _. (omega (arith, ints, product), omega (arith, ints, product)), λ _. refl)

pub returns-then-product-2-clause-same_number : goal.returns-then-product-2-clause-same_number
returns-then-product-2-clause-same_number c =
    let product = to_z-wide_product w16 w32 c.args.self c.args.other (lit≤ tt) (lit< tt) c.ranges.self c.ranges.other in
    let narrow : SFits w16 (c.args.self *ℤ c.args.other) = search rules in
    rw product (to_z-of_z w16 _ narrow)

pub returns-else-product-clause-known : goal.returns-else-product-clause-known
returns-else-product-clause-known c =
    let product = to_z-wide_product w16 w32 c.args.self c.args.other (lit≤ tt) (lit< tt) c.ranges.self c.ranges.other in (
      λ t. absurd (true≢false (sym t)),
      λ m. absurd (elim c.else-product.branch [
        | else-product-via-then-product+else-product-2 w ↦ omega (arith, ints, product, m.1, w.if-product-2.false)
        | else-product-via-else-product w ↦ omega (arith, ints, product, m.0, w.if-product.false)
      ]),
    )
