use Rattle.std.proofs.Common.{◌≡◌, ◌<◌, suc, List, None, Some, ap, arith, rules, length, map, subst, sym, ◌∙◌}
use Rattle.std.specs.Prelude.{ℤ, ◌↔◌, IfNone, IfSome}
use Rattle.std.proofs.lemmas.List.{length-map}
use Rattle.ivl_laws.specs.Families.{set_at}
use Rattle.ivl_laws.specs.Sets.{IsBetween}
use Rattle.ivl_network.specs.Network.{IsCutAt}
use Rattle.ivl_search.specs.Best.{IsAsGood, IsBetter}
use Rattle.ivl_search.specs.Halves.{IsMiddle}
use Rattle.ivl_search.specs.Nodes.{AreFilled}
use Rattle.ivl_search.specs.Points.{SolvesRules, coordinate}
use Rattle.ivl_search.proofs.Better.{AreAhead, ahead_after, ahead_in_part, ahead_of_next, best_at_end, improves_to_next, number_at, some_improved}
use Rattle.ivl_search.proofs.Cuts.{cut_solves, in_range}
use Rattle.ivl_search.specs.Budget.{nodes_each, points_of}
use Rattle.ivl_search.proofs.Budget.{points_le}
use Rattle.ivl_search.specs.declared.search.End.TheVariants.{All as AllFound}
use Rattle.ivl_search.proofs.Spending.{IsGoodHalf, spent_all, spent_before, spent_better, spent_worse}
use Rattle.ivl_search.proofs.search.optimum.best_of.Goals as goal

pub returns-in_default-clause-best : goal.returns-in_default-clause-best
returns-in_default-clause-best g c = λ _.
    let v = c.loop-left.invariant in
    let cs = c.args.network.now.rules in
    let start = c.args.network.now.domains in
    let sets = c.narrowed_middle.new.network.domains in
    let same = subst (λ cs. (point : List ℤ) → SolvesRules cs c.loop-left.network.domains point ↔ SolvesRules cs sets point) v.rules c.narrowed_middle.ensures.same in
    let none = subst (λ o. IfNone o ((point : List ℤ) → ¬ (SolvesRules c.loop-left.network.rules sets point))) c.in_default.is c.in_ok-half.ensures.none in
    best_at_end (λ point. map g.B.Width.value point.items) c.args.wanted c.args.variable (SolvesRules cs start) c.loop-left.best (SolvesRules cs sets)
    (ahead_after (λ point. map g.B.Width.value point.items) c.args.wanted c.args.variable (SolvesRules cs start) c.loop-left.best (SolvesRules cs c.loop-left.network.domains) (SolvesRules cs sets) v.ahead same)
    (subst (λ cs. (point : List ℤ) → ¬ (SolvesRules cs sets point)) v.rules none)

pub keep_part-requires : goal.keep_part-requires
keep_part-requires g c =
    let value = g.B.Width.value in
    let narrowed = c.narrowed_middle.new.network.domains in
    let point = c.in-Some-point.point in
    let count : length narrowed ≡ length c.args.network.now.domains = c.narrowed_middle.ensures.kept_count ∙ c.loop-left.invariant.kept_count in
    let lt : c.args.variable < length narrowed = subst (λ n. c.args.variable < n) (sym count) c.requires.known in
    let is : c.in_ok-point.field-0.point ≡ Some point = cc in
    let found = subst (λ o. IfSome o (λ point. SolvesRules c.narrowed_middle.new.network.rules narrowed (map value point.items))) is c.in_ok-point.ensures.sound in
    let in_point : c.args.variable < length point.items = subst (λ n. c.args.variable < n) (sym found.one_each ∙ length-map point.items value) lt in
    subst (IsBetween g.B.Width.whole) (number_at value point.items c.args.variable c.index-value.result.now in_point c.index-value.ensures)
    (in_range g.B.Width.whole narrowed c.narrowed_middle.ensures.runs c.args.variable (coordinate (map value point.items) c.args.variable) (found.members c.args.variable lt))

pub loop-left-preserved-in-Some-point : goal.loop-left-preserved-in-Some-point
loop-left-preserved-in-Some-point g c =
    let v = c.loop-left.invariant in
    let value = g.B.Width.value in
    let cs = c.args.network.now.rules in
    let start = c.args.network.now.domains in
    let narrowed = c.narrowed_middle.new.network.domains in
    let sets = c.one_solution.new.network.domains in
    let new = c.keep_part.new.network.domains in
    let point = c.in-Some-point.point in
    let cut = c.in_ok-keep_part-in-Some-point.ensures in
    let count : length sets ≡ length start = ap length c.in_ok-point.ensures.domains ∙ c.narrowed_middle.ensures.kept_count ∙ v.kept_count in
    let lt : c.args.variable < length sets = subst (λ n. c.args.variable < n) (sym count) c.requires.known in
    let is : c.in_ok-point.field-0.point ≡ Some point = cc in
    let found = subst (λ o. IfSome o (λ point. SolvesRules c.narrowed_middle.new.network.rules narrowed (map g.B.Width.value point.items))) is c.in_ok-point.ensures.sound in
    let known : SolvesRules cs narrowed (map value point.items) = subst (λ cs. SolvesRules cs narrowed (map value point.items)) (c.narrowed_middle.ensures.rules ∙ v.rules) found in
    let here : SolvesRules cs sets (map value point.items) = subst (λ D. SolvesRules cs D (map value point.items)) (sym c.in_ok-point.ensures.domains) known in
    let in_point : c.args.variable < length point.items = subst (λ n. c.args.variable < n) (sym here.one_each ∙ length-map point.items value) lt in
    let number = number_at value point.items c.args.variable c.index-value.result.now in_point c.index-value.ensures in
    let same = subst (λ cs. (point : List ℤ) → SolvesRules cs c.loop-left.network.domains point ↔ SolvesRules cs narrowed point) v.rules c.narrowed_middle.ensures.same in
    let ahead = subst (λ D. AreAhead (λ point. map g.B.Width.value point.items) c.args.wanted c.args.variable (SolvesRules cs start) c.loop-left.best (SolvesRules cs D)) (sym c.in_ok-point.ensures.domains)
    (ahead_after (λ point. map g.B.Width.value point.items) c.args.wanted c.args.variable (SolvesRules cs start) c.loop-left.best (SolvesRules cs c.loop-left.network.domains) (SolvesRules cs narrowed) v.ahead same) in
    let halved = c.in_ok-point.ensures.half in
    let lt_narrowed : c.args.variable < length narrowed = subst (λ D. c.args.variable < length D) c.in_ok-point.ensures.domains lt in
    let half_of : IsGoodHalf g.B.Width.whole c.args.wanted narrowed halved.0 c.args.variable (value c.in-Some.half) = record {
      runs = c.narrowed_middle.ensures.runs;
      filled = subst (λ o. IfSome o (λ x. AreFilled narrowed)) c.in-Some.is c.in_ok-half.ensures.filled;
      known = lt_narrowed;
      middle = subst (λ o. IfSome o (λ x. IsMiddle c.args.wanted (set_at narrowed c.args.variable) (g.B.Width.value x))) c.in-Some.is c.in_ok-half.ensures.middle;
      same_count = halved.1;
      runs_good = halved.2;
      cut = halved.3;
    } in
    let some = c.loop-left-test.true in
    let so_far = v.counted in
    let solutions = c.if-left-eq0.false in
    let visited = v.visited in
    let nodes = c.in_ok-point.ensures.nodes in
    let better = subst (λ x. IsCutAt c.args.variable (IsBetter c.args.wanted x) (set_at sets) (set_at new)) (sym number) cut.cut in
    record {
      rules = cut.rules ∙ c.in_ok-point.ensures.rules ∙ c.narrowed_middle.ensures.rules ∙ v.rules;
      kept_count = cut.kept_count ∙ count;
      ahead = ahead_of_next (λ point. map g.B.Width.value point.items) c.args.wanted c.args.variable (SolvesRules cs start) c.loop-left.best (SolvesRules cs sets) (SolvesRules cs new) point ahead here
          (cut_solves cs sets new c.args.variable (IsBetter c.args.wanted (coordinate (map value point.items) c.args.variable)) cut.kept_count lt better);
      found = suc v.found;
      improves = improves_to_next (λ point. map g.B.Width.value point.items) c.args.wanted c.args.variable (SolvesRules cs start) c.loop-left.best (SolvesRules cs sets) point v.found ahead here v.improves;
      counted = omega (arith, so_far, solutions);
      visited = omega (arith, visited, nodes, some);
      spent = spent_better g.B.Width.whole c.args.wanted c.narrowed_middle.new.network.rules cs narrowed halved.0 new c.args.variable (value c.in-Some.half) (coordinate (map value point.items) c.args.variable)
          (points_of g.B.Width.whole start) (points_of g.B.Width.whole c.loop-left.network.domains) c.args.limits.nodes c.loop-left.left.nodes _ _ half_of
          (c.narrowed_middle.ensures.rules ∙ v.rules) halved.4 v.spent (omega (arith, some))
          (points_le g.B.Width.whole narrowed c.loop-left.network.domains c.narrowed_middle.ensures.kept_count c.narrowed_middle.ensures.within)
          (cut.kept_count ∙ ap length c.in_ok-point.ensures.domains)
          (subst (λ D. IsCutAt c.args.variable (IsBetter c.args.wanted (coordinate (map value point.items) c.args.variable)) (set_at D) (set_at new)) c.in_ok-point.ensures.domains better)
          (known.members c.args.variable lt_narrowed)
          (subst (λ o. IfSome o (λ p. IsAsGood c.args.wanted (value c.in-Some.half) (coordinate (map g.B.Width.value p.items) c.args.variable))) is c.in_ok-point.ensures.as_good);
    }

pub returns-clause-enough : goal.returns-clause-enough
returns-clause-enough g c = λ e.
    let none = c.loop-left-test.false in
    let spent = c.loop-left.invariant.spent in
    spent_before (nodes_each c.args.network.now.rules) (points_of g.B.Width.whole c.args.network.now.domains) (points_of g.B.Width.whole c.loop-left.network.domains) c.args.limits.nodes (omega (arith, none, spent))

pub loop-left-preserved : goal.loop-left-preserved
loop-left-preserved g c =
    let v = c.loop-left.invariant in
    let value = g.B.Width.value in
    let cs = c.args.network.now.rules in
    let start = c.args.network.now.domains in
    let narrowed = c.narrowed_middle.new.network.domains in
    let sets = c.one_solution.new.network.domains in
    let new = c.keep_part-in-None.new.network.domains in
    let half = value c.in-Some.half in
    let cut = c.in_ok-keep_part-in-None.ensures in
    let same_cs = c.narrowed_middle.ensures.rules ∙ v.rules in
    let count : length sets ≡ length start = ap length c.in_ok-point.ensures.domains ∙ c.narrowed_middle.ensures.kept_count ∙ v.kept_count in
    let lt : c.args.variable < length sets = subst (λ n. c.args.variable < n) (sym count) c.requires.known in
    let lt_narrowed : c.args.variable < length narrowed = subst (λ D. c.args.variable < length D) c.in_ok-point.ensures.domains lt in
    let is : c.in_ok-point.field-0.point ≡ None = cc in
    let all : c.in_ok-point.field-0.end ≡ AllFound = search rules in
    let none = subst (λ o. IfNone o ((point : List ℤ) → SolvesRules c.narrowed_middle.new.network.rules narrowed point → IsBetter c.args.wanted (coordinate point c.args.variable) half)) is
    (c.in_ok-point.ensures.none all) in
    let worse : (point : List ℤ) → SolvesRules cs sets point → IsBetter c.args.wanted (coordinate point c.args.variable) half =
    λ point s. none point (subst (λ k. SolvesRules k narrowed point) (sym same_cs) (subst (λ D. SolvesRules cs D point) c.in_ok-point.ensures.domains s)) in
    let same = subst (λ cs. (point : List ℤ) → SolvesRules cs c.loop-left.network.domains point ↔ SolvesRules cs narrowed point) v.rules c.narrowed_middle.ensures.same in
    let ahead = subst (λ D. AreAhead (λ point. map g.B.Width.value point.items) c.args.wanted c.args.variable (SolvesRules cs start) c.loop-left.best (SolvesRules cs D)) (sym c.in_ok-point.ensures.domains)
    (ahead_after (λ point. map g.B.Width.value point.items) c.args.wanted c.args.variable (SolvesRules cs start) c.loop-left.best (SolvesRules cs c.loop-left.network.domains) (SolvesRules cs narrowed) v.ahead same) in
    let halved = c.in_ok-point.ensures.half in
    let some = c.loop-left-test.true in
    let visited = v.visited in
    let nodes = c.in_ok-point.ensures.nodes in
    let half_of : IsGoodHalf g.B.Width.whole c.args.wanted narrowed halved.0 c.args.variable half = record {
      runs = c.narrowed_middle.ensures.runs;
      filled = subst (λ o. IfSome o (λ x. AreFilled narrowed)) c.in-Some.is c.in_ok-half.ensures.filled;
      known = lt_narrowed;
      middle = subst (λ o. IfSome o (λ x. IsMiddle c.args.wanted (set_at narrowed c.args.variable) (g.B.Width.value x))) c.in-Some.is c.in_ok-half.ensures.middle;
      same_count = halved.1;
      runs_good = halved.2;
      cut = halved.3;
    } in record {
      rules = cut.rules ∙ c.in_ok-point.ensures.rules ∙ same_cs;
      kept_count = cut.kept_count ∙ count;
      ahead = ahead_in_part (λ point. map g.B.Width.value point.items) c.args.wanted c.args.variable (SolvesRules cs start) c.loop-left.best (SolvesRules cs sets) (SolvesRules cs new)
          (λ point. IsBetter c.args.wanted (coordinate point c.args.variable) half) ahead worse
          (cut_solves cs sets new c.args.variable (λ number. IsBetter c.args.wanted number half) cut.kept_count lt cut.cut);
      found = v.found;
      improves = v.improves;
      counted = v.counted;
      visited = omega (arith, visited, nodes, some);
      spent = spent_worse g.B.Width.whole c.args.wanted c.narrowed_middle.new.network.rules cs narrowed halved.0 new c.args.variable half (points_of g.B.Width.whole start)
          (points_of g.B.Width.whole c.loop-left.network.domains) c.args.limits.nodes c.loop-left.left.nodes _ _ half_of same_cs halved.4 v.spent (omega (arith, some))
          (points_le g.B.Width.whole narrowed c.loop-left.network.domains c.narrowed_middle.ensures.kept_count c.narrowed_middle.ensures.within)
          (cut.kept_count ∙ ap length c.in_ok-point.ensures.domains)
          (subst (λ D. IsCutAt c.args.variable (λ number. IsBetter c.args.wanted number half) (set_at D) (set_at new)) c.in_ok-point.ensures.domains cut.cut);
    }

pub returns-in-None-2-clause-enough : goal.returns-in-None-2-clause-enough
returns-in-None-2-clause-enough g c = λ e.
    let v = c.loop-left.invariant in
    let narrowed = c.narrowed_middle.new.network.domains in
    let halved = c.in_ok-point.ensures.half in
    let some = c.loop-left-test.true in
    let half_of : IsGoodHalf g.B.Width.whole c.args.wanted narrowed halved.0 c.args.variable (g.B.Width.value c.in-Some.half) = record {
      runs = c.narrowed_middle.ensures.runs;
      filled = subst (λ o. IfSome o (λ x. AreFilled narrowed)) c.in-Some.is c.in_ok-half.ensures.filled;
      known = subst (λ n. c.args.variable < n) (sym (c.narrowed_middle.ensures.kept_count ∙ v.kept_count)) c.requires.known;
      middle = subst (λ o. IfSome o (λ x. IsMiddle c.args.wanted (set_at narrowed c.args.variable) (g.B.Width.value x))) c.in-Some.is c.in_ok-half.ensures.middle;
      same_count = halved.1;
      runs_good = halved.2;
      cut = halved.3;
    } in
    spent_all g.B.Width.whole c.args.wanted c.narrowed_middle.new.network.rules c.args.network.now.rules narrowed halved.0 c.args.variable (g.B.Width.value c.in-Some.half)
    (points_of g.B.Width.whole c.args.network.now.domains) (points_of g.B.Width.whole c.loop-left.network.domains) c.args.limits.nodes c.loop-left.left.nodes _ half_of
    (c.narrowed_middle.ensures.rules ∙ v.rules) (halved.5 e).1 v.spent (omega (arith, some))
    (points_le g.B.Width.whole narrowed c.loop-left.network.domains c.narrowed_middle.ensures.kept_count c.narrowed_middle.ensures.within)

-- with a limit of 0 none is found
pub returns-then-left-eq0-clause-bounded : goal.returns-then-left-eq0-clause-bounded
returns-then-left-eq0-clause-bounded g c =
    let v = c.loop-left.invariant in
    some_improved (λ point. map g.B.Width.value point.items) (λ old new. IsBetter c.args.wanted old new) c.args.variable (SolvesRules c.args.network.now.rules c.args.network.now.domains)
    c.loop-left.best v.found c.loop-left.left.solutions c.args.limits.solutions c.loop-left.left.nodes c.args.limits.nodes v.improves v.counted v.visited

pub returns-clause-bounded : goal.returns-clause-bounded
returns-clause-bounded g c =
    let v = c.loop-left.invariant in
    some_improved (λ point. map g.B.Width.value point.items) (λ old new. IsBetter c.args.wanted old new) c.args.variable (SolvesRules c.args.network.now.rules c.args.network.now.domains)
    c.loop-left.best v.found c.loop-left.left.solutions c.args.limits.solutions c.loop-left.left.nodes c.args.limits.nodes v.improves v.counted v.visited
