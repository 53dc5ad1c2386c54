use Rattle.std.proofs.Common.{ℤ, List, map, w64, length, refl, ap, subst, arith}
use Rattle.std.proofs.lemmas.Int.{to_z_pos}
use Rattle.std.proofs.lemmas.List.{length-map}
use Rattle.ivl_laws.specs.Runs.{Covers}
use Rattle.ivl_laws.specs.Sets.{Complement}
use Rattle.ivl_buffers.specs.Merging.{IsLaid}
use Rattle.ivl_buffers.proofs.Output.{counts_agree, laid_is_written, same_room}
use Rattle.ivl_buffers.proofs.set_calls.walk_rest.Goals as goal

pub returns-then-a-out : goal.returns-then-a-out
returns-then-a-out g c =
    let same = length-map c.args.out.now g.R.Pair.pair in
    let h = c.if-a-out.true in
    let most = c.complement.ensures.at_most in
    laid_is_written _ _ _ c.complement.result _ (to_z_pos w64 c.complement.result (let few = c.requires.counted in omega (arith, few, most))) (omega (arith, same, h, most)) c.complement.ensures.runs

pub returns : goal.returns
returns g c =
    let pair = g.R.Pair.pair in
    let S = Complement g.R.Bound.Width.whole (Covers (map pair c.args.a.now)) in
    let old = same_room pair S _ c.complement-total.new.out c.args.out.now c.complement-total.result refl c.complement-total.ensures.runs in
    let same = length-map c.args.out.now pair in
    let h = c.if-out-total.false in
    let longer = ap length old in
    let most = c.complement-2.ensures.at_most in
    let again = counts_agree S _ _ _ _ c.complement-total.result c.complement-2.result c.complement-total.ensures.runs c.complement-2.ensures.runs in
    laid_is_written S _ _ c.complement-2.result _ (to_z_pos w64 c.complement-2.result (let few = c.requires.counted in omega (arith, few, most))) (omega (arith, same, h, longer, again))
    (subst (λ room. (L : List (ℤ × ℤ)) × IsLaid S (map pair room) (map pair c.complement-2.new.out) c.complement-2.result L) old c.complement-2.ensures.runs)
