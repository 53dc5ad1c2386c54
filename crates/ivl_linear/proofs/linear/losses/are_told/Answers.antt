use Rattle.std.proofs.Common.{◌≡◌, ◌∙◌, ◌⊎◌, inl, inr, ◌+ℤ◌, ◌-ℤ◌, ◌≤ℤ◌, ◌<ℤ◌, ℤ, pos, List, arith, refl, sym, subst}
use Rattle.std.proofs.lemmas.Int.{ints}
use Rattle.ivl_laws.specs.Families.{set_at}
use Rattle.ivl_laws.specs.Runs.{Covers}
use Rattle.ivl_linear.specs.declared.linear.Term.{Term}
use Rattle.ivl_linear.proofs.Apart.{all_above, all_below}
use Rattle.ivl_linear.proofs.Casts.{small_sum}
use Rattle.ivl_linear.proofs.Support.{filled_of, read}
use Rattle.ivl_linear.proofs.Telling.{told_any, told_at, told_keeps}
use Rattle.ivl_linear.proofs.linear.losses.are_told.Goals as goal
use mir.Syntax.{w64, w128}
use mir.Val.{to_z, of_z}

pub are_apart_by-requires-clause-filled : goal.are_apart_by-requires-clause-filled
are_apart_by-requires-clause-filled g c = filled_of (λ m x. m ≤ℤ x) c.args.terms.now (set_at c.args.domains.now) c.args.ends.now.least c.requires.ends.least

pub returns-then-fails : goal.returns-then-fails
returns-then-fails g c = λ _.
    let terms = c.args.terms.now in let x = c.args.variable in let bound = c.args.bound in let sets = set_at c.args.domains.now in
    let least = c.args.ends.now.least in let greatest = c.args.ends.now.greatest in
    let e = read c.args.domains.now x c.index-domains-variable.result c.requires.telling c.index-domains-variable.is in
    let eb : to_z w64 (of_z w64 bound) ≡ bound = omega (arith, ints) in
    let ll = small_sum least c.requires.ends.small_least in let gg = small_sum greatest c.requires.ends.small_greatest in
    let own : (v : ℤ) → sets x v → ((v ≡ pos 1) × (least ≤ℤ bound)) ⊎ ((v ≡ pos 0) × (bound <ℤ greatest)) = (λ v m.
    (rw (eb, ll, gg) at (c.answers_of.ensures v)).0 (c.if-not-lies_in.ensures.0 refl v (subst (λ (L : List (ℤ × ℤ)). Covers L v) (sym e) m))) in
    let p = c.requires.ends.least.reached in
    told_keeps terms x bound least greatest sets c.requires.fresh c.requires.ends.least c.requires.ends.greatest own
    (λ i n v m. told_any terms x bound sets c.requires.fresh (c.may_be_zero-fails.ensures.0 c.if-fails.true) (c.may_be_one-holds.ensures.0 c.if-holds.true) p.0 p.1 i n v m)

pub returns-then-holds-2 : goal.returns-then-holds-2
returns-then-holds-2 g c = λ apart.
    let terms = c.args.terms.now in let d : Term = record { coefficient = pos 0; variable = 0 } in
    let x = c.args.variable in let bound = c.args.bound in let sets = set_at c.args.domains.now in
    let least = c.args.ends.now.least in let greatest = c.args.ends.now.greatest in let spare = c.spare_of.result in
    let e = read c.args.domains.now x c.index-domains-variable.result c.requires.telling c.index-domains-variable.is in
    let eb : to_z w64 (of_z w64 bound) ≡ bound = omega (arith, ints) in
    let ll = small_sum least c.requires.ends.small_least in let gg = small_sum greatest c.requires.ends.small_greatest in
    let own : (v : ℤ) → sets x v → ((v ≡ pos 1) × (least ≤ℤ bound)) ⊎ ((v ≡ pos 0) × (bound <ℤ greatest)) = (λ v m.
    (rw (eb, ll, gg) at (c.answers_of.ensures v)).0 (c.if-not-lies_in.ensures.0 refl v (subst (λ (L : List (ℤ × ℤ)). Covers L v) (sym e) m))) in
    let el = small_sum least c.requires.ends.small_least in
    let value : spare ≡ bound -ℤ least = (let v = rw el at c.spare_of.ensures.value in omega (arith, ints)) in
    let es : to_z w128 (of_z w128 spare) ≡ bound -ℤ least = omega (arith, ints) in
    told_keeps terms x bound least greatest sets c.requires.fresh c.requires.ends.least c.requires.ends.greatest own
    (λ i n v m. (told_at terms x bound sets c.requires.fresh i v n).1 (inl (
      c.may_be_one-holds.ensures.0 c.if-holds-2.true,
      all_below terms d bound least sets c.requires.different c.requires.ends.least (rw es at (c.are_apart_by.ensures apart)) i n v m,
    )))

pub returns-then-fails-2 : goal.returns-then-fails-2
returns-then-fails-2 g c = λ apart.
    let terms = c.args.terms.now in let d : Term = record { coefficient = pos 0; variable = 0 } in
    let x = c.args.variable in let bound = c.args.bound in let sets = set_at c.args.domains.now in
    let least = c.args.ends.now.least in let greatest = c.args.ends.now.greatest in let spare = c.difference.result in
    let e = read c.args.domains.now x c.index-domains-variable.result c.requires.telling c.index-domains-variable.is in
    let eb : to_z w64 (of_z w64 bound) ≡ bound = omega (arith, ints) in
    let ll = small_sum least c.requires.ends.small_least in let gg = small_sum greatest c.requires.ends.small_greatest in
    let own : (v : ℤ) → sets x v → ((v ≡ pos 1) × (least ≤ℤ bound)) ⊎ ((v ≡ pos 0) × (bound <ℤ greatest)) = (λ v m.
    (rw (eb, ll, gg) at (c.answers_of.ensures v)).0 (c.if-not-lies_in.ensures.0 refl v (subst (λ (L : List (ℤ × ℤ)). Covers L v) (sym e) m))) in
    let eg = small_sum greatest c.requires.ends.small_greatest in
    let en : to_z w128 (of_z w128 (to_z w128 (of_z w128 (to_z w64 (of_z w64 bound))) +ℤ pos 1)) ≡ bound +ℤ pos 1 = omega (arith, ints) in
    let value : spare ≡ greatest -ℤ (bound +ℤ pos 1) = rw (eg, en) at c.difference.ensures.value in
    let es : to_z w128 (of_z w128 spare) ≡ greatest -ℤ (bound +ℤ pos 1) = omega (arith, ints) in
    told_keeps terms x bound least greatest sets c.requires.fresh c.requires.ends.least c.requires.ends.greatest own
    (λ i n v m. (told_at terms x bound sets c.requires.fresh i v n).1 (inr (
      c.may_be_zero-fails.ensures.0 c.if-fails-2.true,
      all_above terms d (bound +ℤ pos 1) greatest sets c.requires.different c.requires.ends.greatest (rw es at (c.are_apart_by-then-fails-2.ensures apart)) i n v m,
    )))
