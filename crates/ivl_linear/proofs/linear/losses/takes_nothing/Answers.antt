use Rattle.std.proofs.Common.{◌≡◌, ◌-ℤ◌, pos, arith, sym, subst}
use Rattle.std.proofs.lemmas.Int.{ints}
use Rattle.ivl_laws.specs.Families.{set_at}
use Rattle.ivl_linear.specs.declared.linear.Term.{Term}
use Rattle.ivl_linear.specs.Linear.{LinearSupportsAll}
use Rattle.ivl_linear.proofs.Apart.{all_above, all_below}
use Rattle.ivl_linear.proofs.Casts.{small_sum}
use Rattle.ivl_linear.proofs.Support.{different_of}
use Rattle.ivl_linear.proofs.linear.losses.takes_nothing.Goals as goal
use mir.Syntax.{w64, w128}
use mir.Val.{to_z, of_z}

pub returns-in-AtMost : goal.returns-in-AtMost
returns-in-AtMost g c = λ apart.
    let terms = c.args.terms.now in let d : Term = record { coefficient = pos 0; variable = 0 } in let sets = set_at c.args.domains.now in
    let ends = c.in-Some.ends in let s = c.in-Some.ensures in let bound = c.in-AtMost.bound in let spare = c.spare_of.result in
    let el = small_sum ends.least s.small_least in
    let eb : to_z w64 (of_z w64 bound) ≡ bound = omega (arith, ints) in
    let value : spare ≡ bound -ℤ ends.least = rw (el, eb) at c.spare_of.ensures.value in
    let es : to_z w128 (of_z w128 spare) ≡ bound -ℤ ends.least = omega (arith, ints) in
    subst (λ r. LinearSupportsAll terms r sets) (sym c.in-AtMost.is) (all_below terms d bound ends.least sets (different_of terms c.args.relation c.requires.different) s.least (rw es at (c.are_apart_by.ensures apart)))

pub returns-in-AtLeast : goal.returns-in-AtLeast
returns-in-AtLeast g c = λ apart.
    let terms = c.args.terms.now in let d : Term = record { coefficient = pos 0; variable = 0 } in let sets = set_at c.args.domains.now in
    let ends = c.in-Some.ends in let s = c.in-Some.ensures in let bound = c.in-AtLeast.bound in let spare = c.difference.result in
    let eg = small_sum ends.greatest s.small_greatest in
    let eb : to_z w128 (of_z w128 (to_z w64 (of_z w64 bound))) ≡ bound = omega (arith, ints) in
    let value : spare ≡ ends.greatest -ℤ bound = rw (eg, eb) at c.difference.ensures.value in
    let es : to_z w128 (of_z w128 spare) ≡ ends.greatest -ℤ bound = omega (arith, ints) in
    subst (λ r. LinearSupportsAll terms r sets) (sym c.in-AtLeast.is) (all_above terms d bound ends.greatest sets (different_of terms c.args.relation c.requires.different) s.greatest (rw es at (c.are_apart_by-in-AtLeast.ensures apart)))

pub returns-in-Tells : goal.returns-in-Tells
returns-in-Tells g c = λ told.
    let bound = c.in-Tells.bound in
    let eb : to_z w64 (of_z w64 bound) ≡ bound = omega (arith, ints) in
    subst (λ r. LinearSupportsAll c.args.terms.now r (set_at c.args.domains.now)) (sym c.in-Tells.is) (rw eb at (c.are_told.ensures told))
