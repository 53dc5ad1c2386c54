use Rattle.std.proofs.Common.{◌≡◌, ℤ, pos, List, length, take, take_all, ap, sym, subst, ◌∙◌, arith}
use Rattle.std.proofs.lemmas.List.{ext_get_or}
use Rattle.ivl_laws.specs.Runs.{IsMaximal}
use Rattle.ivl_images.specs.Sweeps.{run_at}
use Rattle.ivl_images.proofs.Images.{open_here}
use Rattle.ivl_images.proofs.EqualRuns.{same_to_next}
use Rattle.intervallum.proofs.interval_set.run_lists.all_are_the_same.Goals as goal

pub is_same-are_same-requires-clause-run : goal.is_same-are_same-requires-clause-run
is_same-are_same-requires-clause-run g c = open_here c.args.a.now c.loop-i.i c.index-a-i.result c.requires.left c.loop-i-test.true c.index-a-i.is

pub is_same-are_same-requires-clause-other : goal.is_same-are_same-requires-clause-other
is_same-are_same-requires-clause-other g c =
    let M = take (length c.args.a.now) c.args.b.now in
    let all : M ≡ c.args.b.now = take_all (length c.args.a.now) c.args.b.now (let same = c.requires.length in omega arith) in
    open_here M c.loop-i.i c.index-others-i.result (subst IsMaximal (sym all) c.requires.right)
    (let less = c.loop-i-test.true in let same = c.requires.length in let long = ap length all in omega (arith, less, same, long)) c.index-others-i.is

pub loop-i-preserved : goal.loop-i-preserved
loop-i-preserved g c =
    let M = take (length c.args.a.now) c.args.b.now in
    let all : M ≡ c.args.b.now = take_all (length c.args.a.now) c.args.b.now (let same = c.requires.length in omega arith) in
    same_to_next c.args.a.now M c.loop-i.i c.loop-i.are_same c.is_same-are_same.result c.index-a-i.result c.index-others-i.result c.loop-i-test.true
    (let less = c.loop-i-test.true in let same = c.requires.length in let long = ap length all in omega (arith, less, same, long)) c.index-a-i.is c.index-others-i.is
    c.loop-i.invariant c.is_same-are_same.ensures

pub returns : goal.returns
returns g c =
    let L = c.args.a.now in
    let M = take (length L) c.args.b.now in
    let same : length L ≡ length c.args.b.now = c.requires.length in
    let all : M ≡ c.args.b.now = take_all (length L) c.args.b.now (omega arith) in
    let long = ap length all in
    let past = c.loop-i-test.false in (
      (λ t. ext_get_or (pos 0, pos 0) L M (omega (arith, same, long)) (λ k h. c.loop-i.invariant.0 t k (omega (arith, past, h))) ∙ all),
      (λ e. c.loop-i.invariant.1 (λ k h. ap (λ (N : List (ℤ × ℤ)). run_at N k) (e ∙ sym all))),
    )
