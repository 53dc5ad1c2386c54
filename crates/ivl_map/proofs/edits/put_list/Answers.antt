use Rattle.std.proofs.Common.{◌≡◌, ◌+◌, List, ◌++◌, ℤ, length, take, drop, sym, subst, ◌∙◌, arith, rules}
use Rattle.ivl_map.proofs.Turning.{joined, turned_over}
use Rattle.ivl_map.proofs.edits.put_list.Goals as goal

pub returns-clause-ok : goal.returns-clause-ok
returns-clause-ok g c =
    let E = c.args.entries.now.items in
    let M = c.args.list.items in
    let i = c.args.start in
    let j = c.args.end in
    let X = c.put_all.new.entries.items in
    let is : X ≡ take i E ++ (M ++ drop i E) = c.in_ok-put_all.ensures.ok ∙ joined (take i E) M (drop i E) in
    let n : c.len-added.result ≡ length M = search rules in
    let m = i + c.len-added.result in
    let u = j + c.len-added.result in
    let P : List ((ℤ × ℤ) × g.row.V.Denot) → Type 0 = λ L. take m L ++ drop u L ≡ take i E ++ (M ++ drop j E) in
    let order = c.requires.in_order in
    let most = c.requires.at_most in
    c.take_out.ensures.items ∙ subst P (sym is) (turned_over E M i j m u order most (omega (arith, n)) (omega (arith, n)))
