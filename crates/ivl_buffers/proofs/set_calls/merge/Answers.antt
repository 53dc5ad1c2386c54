use Rattle.std.proofs.Common.{ℤ, List, map, w64, length, refl, ap, subst, arith}
use Rattle.std.proofs.lemmas.Int.{to_z_pos}
use Rattle.std.proofs.lemmas.List.{length-map}
use Rattle.ivl_laws.specs.Runs.{Covers}
use Rattle.ivl_buffers.specs.Operations.{MadeOfTwo}
use Rattle.ivl_buffers.specs.Merging.{IsLaid}
use Rattle.ivl_buffers.proofs.Output.{counts_agree, laid_is_written, same_room}
use Rattle.ivl_buffers.proofs.set_calls.merge.Goals as goal

pub returns-then-a-b : goal.returns-then-a-b
returns-then-a-b g c =
    let same = length-map c.args.out.now g.R.Pair.pair in
    let h = c.if-a-b.true in
    let most = c.walk.ensures.at_most in
    laid_is_written _ _ _ c.walk.result _ (to_z_pos w64 c.walk.result (let few = c.requires.counted in omega (arith, few, most))) (omega (arith, same, h, most)) c.walk.ensures.runs

pub returns : goal.returns
returns g c =
    let pair = g.R.Pair.pair in
    let S = MadeOfTwo c.args.making (Covers (map pair c.args.a.now)) (Covers (map pair c.args.b.now)) in
    let old = same_room pair S _ c.walk-count.new.out c.args.out.now c.walk-count.result refl c.walk-count.ensures.runs in
    let same = length-map c.args.out.now pair in
    let h = c.if-out-count.false in
    let longer = ap length old in
    let most = c.walk-2.ensures.at_most in
    let again = counts_agree S _ _ _ _ c.walk-count.result c.walk-2.result c.walk-count.ensures.runs c.walk-2.ensures.runs in
    laid_is_written S _ _ c.walk-2.result _ (to_z_pos w64 c.walk-2.result (let few = c.requires.counted in omega (arith, few, most))) (omega (arith, same, h, longer, again))
    (subst (λ room. (L : List (ℤ × ℤ)) × IsLaid S (map pair room) (map pair c.walk-2.new.out) c.walk-2.result L) old c.walk-2.ensures.runs)
