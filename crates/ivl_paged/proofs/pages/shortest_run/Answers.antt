use Rattle.std.proofs.Common.{◌≤◌, ℤ, List, length, subst, sym, take, arith}
use Rattle.ivl_laws.specs.Runs.{Covers, IsMaximal}
use Rattle.ivl_paged.specs.Pages.{flattened}
use Rattle.ivl_paged.proofs.Shortest.{IsBestSoFar, best_in_all, best_in_none, best_past}
use Rattle.ivl_paged.proofs.pages.shortest_run.Goals as goal

pub parts-init : goal.parts-init
parts-init g c = (omega arith, best_in_none (g.B.Output.SizeNumber.size c.args.count) c.args.pages.now c.requires.above_zero)

pub parts-preserved : goal.parts-preserved
parts-preserved g c = (
  c.in-Some.ensures.at_most,
  subst (λ (Q : List (List (ℤ × ℤ))). IsBestSoFar (g.B.Output.SizeNumber.size c.args.count) (Covers (flattened (take c.in-Some.end Q))) c.shortest_up_to-best.result) c.as_slice.ensures.value c.shortest_up_to-best.ensures,
)

pub parts-smaller : goal.parts-smaller
parts-smaller g c =
    let p = c.in-Some.ensures in
    let on = p.on in
    let most = p.at_most in
    omega (arith, on, most)

pub shortest_up_to-best-requires-clause-runs : goal.shortest_up_to-best-requires-clause-runs
shortest_up_to-best-requires-clause-runs g c = subst (λ (Q : List (List (ℤ × ℤ))). IsMaximal (flattened Q)) (sym c.as_slice.ensures.value) c.requires.runs

pub shortest_up_to-best-requires-clause-in_order : goal.shortest_up_to-best-requires-clause-in_order
shortest_up_to-best-requires-clause-in_order g c = c.in-Some.ensures.in_order

pub shortest_up_to-best-requires-clause-at_most : goal.shortest_up_to-best-requires-clause-at_most
shortest_up_to-best-requires-clause-at_most g c = subst (λ (Q : List (List (ℤ × ℤ))). c.in-Some.end ≤ length Q) (sym c.as_slice.ensures.value) c.in-Some.ensures.at_most

pub shortest_up_to-best-requires-clause-known : goal.shortest_up_to-best-requires-clause-known
shortest_up_to-best-requires-clause-known g c =
    let p = c.in-Some.ensures in
    let order = p.in_order in
    let most = p.at_most in
    subst (λ (Q : List (List (ℤ × ℤ))). IsBestSoFar (g.B.Output.SizeNumber.size c.args.count) (Covers (flattened (take c.in-Some.start Q))) c.parts.best) (sym c.as_slice.ensures.value)
    (best_past (g.B.Output.SizeNumber.size c.args.count) c.args.pages.now c.parts.place c.in-Some.start c.parts.best c.requires.above_zero p.from (omega (arith, order, most)) c.requires.runs p.passed c.parts.invariant.1)

pub returns : goal.returns
returns g c =
    let P = c.args.pages.now in
    let n = g.B.Output.SizeNumber.size c.args.count in
    best_in_all n P (length P) c.parts.best (omega arith)
    (best_past n P c.parts.place (length P) c.parts.best c.requires.above_zero c.parts.invariant.0 (omega arith) c.requires.runs c.in_default.ensures c.parts.invariant.1)
