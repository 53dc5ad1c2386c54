use Rattle.std.proofs.Common.{◌≡◌, ℕ, suc, ◌+◌, ◌<◌, ℤ, List, ◌∷◌, ◌++◌, length, take, drop, sym, subst, arith}
use Rattle.std.proofs.Math.ListN.{set}
use Rattle.ivl_map.proofs.Laying.{set_kept}
use Rattle.ivl_map.proofs.writes.replace.Goals as goal

pub returns-clause-ok : goal.returns-clause-ok
returns-clause-ok g c =
    let E = c.args.entries.now.items in
    let i = c.args.start in
    let j = c.args.end in
    let x : (ℤ × ℤ) × g.row.V.Denot = (c.args.run, c.args.value) in
    let order = c.requires.in_order in
    let most = c.requires.at_most in
    let other = c.if-start-end.false in
    let less : i < length E = omega (arith, order, most, other) in
    let more : suc i ≡ i + 1 = omega arith in
    let P : List ((ℤ × ℤ) × g.row.V.Denot) → Type 0 = λ L. set L i x ≡ take i E ++ (x ∷ drop j E) in
    let Q : ℕ → Type 0 = λ k. set (take k E ++ drop j E) i x ≡ take i E ++ (x ∷ drop j E) in
    subst P (sym c.take_out.ensures.items) (subst Q more (set_kept E (drop j E) x i less))
