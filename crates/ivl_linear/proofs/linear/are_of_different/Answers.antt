use Rattle.std.proofs.Common.{◌≡◌, ◌+◌, ◌-◌, pos, sym, subst, get_or, drop, take, length, arith, length-drop}
use Rattle.std.proofs.lemmas.Bool.{false≢true}
use Rattle.std.proofs.lemmas.List.{take_all}
use Rattle.ivl_linear.specs.declared.linear.Term.{Term}
use Rattle.ivl_linear.specs.Linear.{AreOfDifferent}
use Rattle.ivl_linear.proofs.Support.{drop_next}
use Rattle.ivl_linear.proofs.linear.are_of_different.Goals as goal

pub loop-i-preserved : goal.loop-i-preserved
loop-i-preserved c =
    let terms = c.args.terms.now in let i = c.loop-i.i in let d : Term = record { coefficient = pos 0; variable = 0 } in
    let t = get_or terms i d in
    let e = drop_next terms i d c.loop-i-test.true in
    let all : take (length terms - (i + 1)) (drop (i + 1) terms) ≡ drop (i + 1) terms = take_all (length terms - (i + 1)) (drop (i + 1) terms) (omega (arith, length-drop (i + 1) terms)) in
    let k = rw all at c.if-has_term_of.ensures in (
      λ h. (subst AreOfDifferent e (c.loop-i.invariant.0 h)).1,
      λ h. c.loop-i.invariant.1 (subst AreOfDifferent (sym e) ((λ n. false≢true (k.1 n)), h)),
    )
