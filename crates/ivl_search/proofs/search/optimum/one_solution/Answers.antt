use Rattle.std.proofs.Common.{◌<◌, ◌≤◌, ◌+◌, inl, inr, ap, map, refl, subst, sym, ◌++◌, ◌∙◌}
use Rattle.std.specs.Prelude.{Contains}
use Rattle.std.proofs.lemmas.List.Elements.{All-weaker}
use Rattle.ivl_search.specs.Best.{IsAsGood}
use Rattle.ivl_search.specs.Budget.{nodes_enough}
use Rattle.ivl_search.specs.Points.{Finds, SolvesRules, coordinate}
use Rattle.ivl_search.proofs.Better.{good_or_worse}
use Rattle.ivl_search.proofs.Cuts.{cut_solves}
use Rattle.ivl_search.proofs.Popping.{all_of_last, none_popped}
use Rattle.ivl_search.proofs.Progress.{Contains-none}
use Rattle.ivl_search.proofs.search.optimum.one_solution.Goals as goal

pub returns-clause-none : goal.returns-clause-none
returns-clause-none g c = λ all.
    let value = g.B.Width.value in
    let cs = c.args.network.now.rules in
    let half = c.enter.new.network.domains in
    let entered = c.in_ok-cut.ensures in
    let solved = cut_solves cs c.args.network.now.domains half c.args.variable (IsAsGood c.args.wanted (value c.args.value)) entered.kept_count c.requires.known entered.cut in
    let f = c.in_ok-end.ensures.finds in
    let finds : Finds (SolvesRules cs half) f.0 c.in_ok-end.end = subst (λ cs. Finds (SolvesRules cs half) f.0 c.in_ok-end.end) entered.rules f.1 in
    none_popped (λ point. map value point.items) c.pop-point.result c.search.new.found.points.items f.0 _
    (λ lt. c.pop-point.ensures.variant.1 (subst (λ n. 0 < n) (sym c.search.new.found.points.ok.0) lt))
    (f.2 refl ∙ ap (λ xs. map (λ p. map value p.items) xs ++ f.0) c.new.ensures.items)
    (λ empty q s. elim (good_or_worse c.args.wanted (value c.args.value) (coordinate q c.args.variable)) [
      | inl good ↦ absurd (Contains-none q (subst (λ ps. Contains ps q) empty (finds.complete all q ((solved q).1 (s, good)))))
      | inr worse ↦ worse
    ])

pub returns-clause-as_good : goal.returns-clause-as_good
returns-clause-as_good g c =
    let value = g.B.Width.value in
    let cs = c.args.network.now.rules in
    let half = c.enter.new.network.domains in
    let entered = c.in_ok-cut.ensures in
    let good = IsAsGood c.args.wanted (value c.args.value) in
    let solved = cut_solves cs c.args.network.now.domains half c.args.variable good entered.kept_count c.requires.known entered.cut in
    let f = c.in_ok-end.ensures.finds in
    let finds : Finds (SolvesRules cs half) f.0 c.in_ok-end.end = subst (λ cs. Finds (SolvesRules cs half) f.0 c.in_ok-end.end) entered.rules f.1 in
    all_of_last (λ point. map value point.items) c.pop-point.result _ c.search.new.found.points.items f.0 (λ q. good (coordinate q c.args.variable)) c.pop-point.ensures.items
    (f.2 refl ∙ ap (λ xs. map (λ p. map value p.items) xs ++ f.0) c.new.ensures.items)
    (All-weaker (SolvesRules cs half) (λ q. good (coordinate q c.args.variable)) (λ q s. ((solved q).0 s).1) f.0 finds.sound)

pub returns-clause-half : goal.returns-clause-half
returns-clause-half g c =
    let half = c.enter.new.network.domains in
    let entered = c.in_ok-cut.ensures in (
      half,
      entered.kept_count,
      entered.runs,
      entered.cut,
      subst (λ cs. c.args.nodes.now ≤ c.search.new.left.nodes + nodes_enough g.B.Width.whole cs half) entered.rules c.in_ok-end.ensures.spent,
      (λ e. let k = c.in_ok-end.ensures.enough e in (k.0, subst (λ cs. c.args.nodes.now < nodes_enough g.B.Width.whole cs half) entered.rules k.1)),
    )
