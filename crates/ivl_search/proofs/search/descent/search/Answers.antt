use Rattle.std.proofs.Common.{◌≡◌, ◌≤◌, ◌+◌, ◌/◌, ◌++◌, [], List, length, map, ◌∷◌, ap, subst, sym, refl, arith, ◌∙◌}
use Rattle.std.specs.Prelude.{ℤ, ◌↔◌, All}
use Rattle.std.proofs.lemmas.List.{append-nil, append_assoc, length_push, length-append}
use Rattle.ivl_laws.specs.Families.{set_at}
use Rattle.ivl_network.specs.Network.{IsCutAt}
use Rattle.ivl_network.specs.Families.{AllSupport, ArePresent}
use Rattle.ivl_network.specs.Queue.{unsettled_count}
use Rattle.ivl_network.specs.Trail.{RulesPast}
use Rattle.ivl_search.specs.Best.{IsAsGood}
use Rattle.ivl_search.specs.Budget.{points_of}
use Rattle.ivl_search.specs.Nodes.{AreSingle, IsCut, IsNodeOf, IsOnlyPoint}
use Rattle.ivl_search.specs.Points.{SolvesRules}
use Rattle.ivl_search.proofs.Budget.{points_le, points_some}
use Rattle.ivl_search.proofs.Cuts.{cut_solves, none_solves, single_solution, single_solves}
use Rattle.ivl_search.proofs.Opening.{opened, spent_open}
use Rattle.ivl_search.proofs.Paths.{IsPath, Rest, marks_before, no_cut_left, no_cut_marks, path_in_range, path_known, path_more, path_within, rest_after, rest_more, went_back}
use Rattle.ivl_search.proofs.Progress.{IsLeft, all_found, finds_none, finds_one, left_after, left_at_first, stopped}
use Rattle.ivl_search.proofs.Rooms.{HasRoom, root_room, same_work, spent_back, unsettled_less, within_budget}
use Rattle.ivl_search.proofs.search.descent.search.Goals as goal

pub loop-left-init : goal.loop-left-init
loop-left-init g c =
    let start = c.args.network.now in
    let whole = g.B.Width.whole in
    let none = c.new-path.ensures.items in
    let unsettled = c.rules.ensures.unsettled in
    let room = root_room (length start.rules) (unsettled_count start.settled) (points_of whole start.domains) unsettled in record {
      rules = refl;
      kept_count = refl;
      nodes = omega arith;
      unsettled = unsettled;
      is_kept = refl;
      pasts = [];
      marked = sym (append-nil start.marked);
      path = subst (λ cuts. IsPath g.B.Width.value c.args.wanted whole start.rules (length start.domains) (length start.marked) (SolvesRules start.rules start.domains) cuts [] start.domains)
          (sym none) (λ point s. s);
      more = [];
      left = subst (λ cuts. IsLeft (SolvesRules start.rules start.domains) [] (Rest g.B.Width.value c.args.wanted start.rules cuts [] start.domains)) (sym none) (left_at_first _);
      kept = λ kept. sym (append-nil _);
      counted = omega arith;
      visited = omega arith;
      need = 0;
      rooms = subst (λ cuts. HasRoom g.B.Width.value c.args.wanted whole (length start.rules / 500 + 1) cuts [] 0) (sym none) refl;
      spent = omega (arith, room);
    }

pub loop-left-preserved-in-Unsettled : goal.loop-left-preserved-in-Unsettled
loop-left-preserved-in-Unsettled g c =
    let v = c.loop-left.invariant in
    let value = g.B.Width.value in
    let whole = g.B.Width.whole in
    let cs = c.args.network.now.rules in
    let start = c.args.network.now.domains in
    let before = c.loop-left.network.domains in
    let sets = c.advance.new.network.domains in
    let same = subst (λ cs. (point : List ℤ) → SolvesRules cs before point ↔ SolvesRules cs sets point) v.rules c.advance.ensures.same in
    let nodes = v.nodes in
    let unsettled = subst (λ cs. (unsettled_count c.advance.new.network.settled) ≤ length cs) v.rules c.advance.ensures.unsettled.1 in
    let filled = subst (IsNodeOf value c.args.wanted whole sets) c.in-Unsettled.is c.in_ok-advance.ensures.node in
    let fewer = same_work whole before sets c.loop-left.network.rules c.advance.new.network.rules cs (unsettled_count c.loop-left.network.settled) (unsettled_count c.advance.new.network.settled)
    c.advance.ensures.rules v.rules (c.in_ok-advance.ensures.fewer c.in-Unsettled.is) in
    let less = unsettled_less whole before sets (length cs) (unsettled_count c.loop-left.network.settled) (unsettled_count c.advance.new.network.settled) c.advance.ensures.kept_count c.advance.ensures.within unsettled v.unsettled
    fewer (points_some whole sets c.advance.ensures.runs filled) in
    let spent = v.spent in
    let visited = v.visited in
    let some = c.loop-left-test.true in record {
      rules = c.advance.ensures.rules ∙ v.rules;
      kept_count = c.advance.ensures.kept_count ∙ v.kept_count;
      nodes = omega (arith, nodes);
      unsettled = unsettled;
      is_kept = v.is_kept;
      pasts = v.pasts;
      marked = c.advance.ensures.marked ∙ v.marked;
      path = path_within value c.args.wanted whole cs (length start) (length c.args.network.now.marked) (SolvesRules cs start) c.loop-left.path.items v.pasts before sets v.path
          (λ point s. (same point).1 s);
      more = v.more;
      left = left_after (SolvesRules cs start) (Rest value c.args.wanted cs c.loop-left.path.items v.pasts before) (Rest value c.args.wanted cs c.loop-left.path.items v.pasts sets) v.more v.left
          (rest_after value c.args.wanted cs c.loop-left.path.items v.pasts before sets same);
      kept = v.kept;
      counted = v.counted;
      visited = omega (arith, visited, some);
      need = v.need;
      rooms = v.rooms;
      spent = omega (arith, spent, less, some);
    }

pub enter-requires : goal.enter-requires
enter-requires g c = (subst (IsNodeOf g.B.Width.value c.args.wanted g.B.Width.whole c.advance.new.network.domains) c.in-Open.is c.in_ok-advance.ensures.node).in_range

pub loop-left-preserved-in_ok-push-in-Open : goal.loop-left-preserved-in_ok-push-in-Open
loop-left-preserved-in_ok-push-in-Open g c =
    let v = c.loop-left.invariant in
    let value = g.B.Width.value in
    let whole = g.B.Width.whole in
    let wanted = c.args.wanted in
    let cs = c.args.network.now.rules in
    let start = c.args.network.now.domains in
    let before = c.loop-left.network.domains in
    let sets = c.advance.new.network.domains in
    let low = c.enter.new.network.domains in
    let cuts = c.loop-left.path.items in
    let cut = c.in_ok-cut-in-Open.cut in
    let place = c.in_ok-cut-in-Open.ensures.place in
    let known_rules = c.advance.ensures.rules ∙ v.rules in
    let past : RulesPast = record { domains = sets; rules = c.advance.new.network.rules } in
    let same = subst (λ cs. (point : List ℤ) → SolvesRules cs before point ↔ SolvesRules cs sets point) v.rules c.in_ok-advance.ensures.same in
    let at_node : IsCut value wanted whole sets c.in-Open.variable c.in-Open.value = subst (IsNodeOf value wanted whole sets) c.in-Open.is c.in_ok-advance.ensures.node in
    let node : IsCut value wanted whole sets cut.variable cut.value = subst (λ k. IsCut value wanted whole sets k.variable k.value) (sym place) at_node in
    let count = c.in_ok-advance.ensures.kept_count ∙ v.kept_count in
    let here = path_within value wanted whole cs (length start) (length c.args.network.now.marked) (SolvesRules cs start) cuts v.pasts before sets v.path (λ point s. (same point).1 s) in
    let first : IsCutAt cut.variable (IsAsGood wanted (value cut.value)) (set_at sets) (set_at low) =
    subst (λ k. IsCutAt k.variable (IsAsGood wanted (value k.value)) (set_at sets) (set_at low)) (sym place) c.in_ok-cut-in-Open.ensures.cut in
    let part = cut_solves cs sets low cut.variable (IsAsGood wanted (value cut.value)) c.in_ok-cut-in-Open.ensures.kept_count node.known first in
    let marks = c.in_ok-advance.ensures.marked ∙ v.marked in
    let marked : c.enter.new.network.marked ≡ c.args.network.now.marked ++ (v.pasts ++ past ∷ []) =
    c.in_ok-cut-in-Open.ensures.marked ∙ ap (λ ms. ms ++ past ∷ []) marks ∙ append_assoc c.args.network.now.marked v.pasts (past ∷ []) in
    let mark : cut.mark ≡ length c.args.network.now.marked + length v.pasts = ap (λ k. k.mark) place ∙ ap length marks ∙ length-append c.args.network.now.marked v.pasts in
    let longer = c.in_ok-push-in-Open.ensures.items in
    let nodes = v.nodes in
    let unsettled = subst (λ cs. (unsettled_count c.enter.new.network.settled) ≤ length cs) (c.in_ok-cut-in-Open.ensures.rules ∙ known_rules) c.in_ok-cut-in-Open.ensures.unsettled in
    let both = opened value wanted whole cut past low c.in_ok-advance.ensures.runs c.in_ok-cut-in-Open.ensures.runs node.filled node.known node.member node.worse c.in_ok-cut-in-Open.ensures.kept_count first in
    let open_cut = spent_open value wanted whole (length cs) cuts v.pasts cut past v.need (points_of whole before) (unsettled_count c.loop-left.network.settled) (unsettled_count c.enter.new.network.settled) low v.rooms unsettled
    (points_le whole sets before c.in_ok-advance.ensures.kept_count c.in_ok-advance.ensures.within) both in
    let less = open_cut.less in
    let spent = v.spent in
    let visited = v.visited in
    let some = c.loop-left-test.true in record {
      rules = c.in_ok-cut-in-Open.ensures.rules ∙ known_rules;
      kept_count = c.in_ok-cut-in-Open.ensures.kept_count ∙ count;
      nodes = omega (arith, nodes);
      unsettled = unsettled;
      is_kept = v.is_kept;
      pasts = v.pasts ++ past ∷ [];
      marked = marked;
      path = subst (λ cuts. IsPath value wanted whole cs (length start) (length c.args.network.now.marked) (SolvesRules cs start) cuts (v.pasts ++ past ∷ []) low) (sym longer)
          (path_more value wanted whole cs (length start) (length c.args.network.now.marked) (SolvesRules cs start) cuts v.pasts cut past low here mark known_rules count node.known
          node.in_range (λ point s. (part point).0 s));
      more = v.more;
      left = subst (λ cuts. IsLeft (SolvesRules cs start) v.more (Rest value wanted cs cuts (v.pasts ++ past ∷ []) low)) (sym longer)
          (left_after (SolvesRules cs start) (Rest value wanted cs cuts v.pasts sets) (Rest value wanted cs (cuts ++ cut ∷ []) (v.pasts ++ past ∷ []) low) v.more
          (left_after (SolvesRules cs start) (Rest value wanted cs cuts v.pasts before) (Rest value wanted cs cuts v.pasts sets) v.more v.left (rest_after value wanted cs cuts v.pasts before sets same))
          (rest_more value wanted whole cs (length start) (length c.args.network.now.marked) (SolvesRules cs start) cuts v.pasts cut past low here part));
      kept = v.kept;
      counted = v.counted;
      visited = omega (arith, visited, some);
      need = open_cut.more;
      rooms = subst (λ cuts. HasRoom value wanted whole (length cs / 500 + 1) cuts (v.pasts ++ past ∷ []) open_cut.more) (sym longer) open_cut.rooms;
      spent = omega (arith, spent, less, some);
    }

pub go_back-requires-clause-in_range : goal.go_back-requires-clause-in_range
go_back-requires-clause-in_range g c = let v = c.loop-left.invariant in
    path_in_range g.B.Width.value c.args.wanted g.B.Width.whole c.args.network.now.rules (length c.args.network.now.domains) (length c.args.network.now.marked)
    (SolvesRules c.args.network.now.rules c.args.network.now.domains) c.loop-left.path.items v.pasts c.loop-left.network.domains v.path

pub go_back-requires-clause-known : goal.go_back-requires-clause-known
go_back-requires-clause-known g c =
    let v = c.loop-left.invariant in
    let e = ap length (c.in_ok-advance.ensures.marked ∙ v.marked) ∙ length-append c.args.network.now.marked v.pasts in
    path_known g.B.Width.value c.args.wanted g.B.Width.whole c.args.network.now.rules (length c.args.network.now.domains) (length c.args.network.now.marked)
    (SolvesRules c.args.network.now.rules c.args.network.now.domains) c.loop-left.path.items v.pasts c.loop-left.network.domains (length c.advance.new.network.marked) v.path (omega (arith, e))

pub go_back-requires-in-Leaf-clause-in_range : goal.go_back-requires-in-Leaf-clause-in_range
go_back-requires-in-Leaf-clause-in_range g c = let v = c.loop-left.invariant in
    path_in_range g.B.Width.value c.args.wanted g.B.Width.whole c.args.network.now.rules (length c.args.network.now.domains) (length c.args.network.now.marked)
    (SolvesRules c.args.network.now.rules c.args.network.now.domains) c.loop-left.path.items v.pasts c.loop-left.network.domains v.path

pub go_back-requires-in-Leaf-clause-known : goal.go_back-requires-in-Leaf-clause-known
go_back-requires-in-Leaf-clause-known g c =
    let v = c.loop-left.invariant in
    let e = ap length (c.in_ok-advance.ensures.marked ∙ v.marked) ∙ length-append c.args.network.now.marked v.pasts in
    path_known g.B.Width.value c.args.wanted g.B.Width.whole c.args.network.now.rules (length c.args.network.now.domains) (length c.args.network.now.marked)
    (SolvesRules c.args.network.now.rules c.args.network.now.domains) c.loop-left.path.items v.pasts c.loop-left.network.domains (length c.advance.new.network.marked) v.path (omega (arith, e))

pub keep-requires : goal.keep-requires
keep-requires g c =
    subst AreSingle (sym c.domains.ensures.same) (subst (IsNodeOf g.B.Width.value c.args.wanted g.B.Width.whole c.advance.new.network.domains) c.in-Leaf.is c.in_ok-advance.ensures.node)

-- what is left after a node whose domains are searched to their end
pub loop-left-preserved-else-not-branch : goal.loop-left-preserved-else-not-branch
loop-left-preserved-else-not-branch g c =
    let v = c.loop-left.invariant in
    let value = g.B.Width.value in
    let whole = g.B.Width.whole in
    let wanted = c.args.wanted in
    let cs = c.args.network.now.rules in
    let start = c.args.network.now.domains in
    let first = c.args.network.now.marked in
    let before = c.loop-left.network.domains in
    let sets = c.advance.new.network.domains in
    let high = c.go_back.new.network.domains in
    let cuts = c.loop-left.path.items in
    let same = subst (λ cs. (point : List ℤ) → SolvesRules cs before point ↔ SolvesRules cs sets point) v.rules c.in_ok-advance.ensures.same in
    let dead = subst (IsNodeOf value wanted whole sets) c.in-Dead.is c.in_ok-advance.ensures.node in
    let back = c.in_ok-go_back-in-Dead.ensures.back c.if-not-branch.false in
    let here = path_within value wanted whole cs (length start) (length first) (SolvesRules cs start) cuts v.pasts before sets v.path (λ point s. (same point).1 s) in
    let left = left_after (SolvesRules cs start) (Rest value wanted cs cuts v.pasts before) (Rest value wanted cs cuts v.pasts sets) v.more v.left (rest_after value wanted cs cuts v.pasts before sets same) in
    let b = went_back value wanted whole cs (length start) first (SolvesRules cs start) cuts c.go_back.new.path.items back.0 v.pasts sets high v.more [] c.advance.new.network.marked c.go_back.new.network.marked
    c.go_back.new.network.rules back.1 here (c.in_ok-advance.ensures.marked ∙ v.marked) back.2 back.3 left (finds_none (SolvesRules cs sets) (none_solves cs sets dead)) in
    let unsettled = subst (λ cs. (unsettled_count c.go_back.new.network.settled) ≤ length cs) b.rules (c.in_ok-go_back-in-Dead.ensures.unsettled c.if-not-branch.false) in
    let s = spent_back value wanted whole (length cs) cuts c.go_back.new.path.items back.0 v.pasts b.before b.past v.need (points_of whole before) (unsettled_count c.loop-left.network.settled) (unsettled_count c.go_back.new.network.settled) high
    back.1 b.split b.one_each v.rooms unsettled b.same_count b.other in
    let less = s.less in
    let spent = v.spent in
    let nodes = v.nodes in
    let visited = v.visited in
    let some = c.loop-left-test.true in record {
      rules = b.rules;
      kept_count = b.count;
      nodes = omega (arith, nodes);
      unsettled = unsettled;
      is_kept = v.is_kept;
      pasts = b.before;
      marked = b.marked;
      path = b.path;
      more = v.more ++ [];
      left = b.left;
      kept = λ kept. v.kept kept ∙ ap (λ more. map (λ point. map value point.items) c.args.found.now.points.items ++ more) (sym (append-nil v.more));
      counted = ap (λ more. length more + c.loop-left.left.solutions) (append-nil v.more) ∙ v.counted;
      visited = omega (arith, visited, some);
      need = s.rest;
      rooms = s.rooms;
      spent = omega (arith, spent, less, some);
    }

pub loop-left-preserved : goal.loop-left-preserved
loop-left-preserved g c =
    let v = c.loop-left.invariant in
    let value = g.B.Width.value in
    let whole = g.B.Width.whole in
    let wanted = c.args.wanted in
    let cs = c.args.network.now.rules in
    let start = c.args.network.now.domains in
    let first = c.args.network.now.marked in
    let before = c.loop-left.network.domains in
    let sets = c.advance.new.network.domains in
    let high = c.go_back-in-Leaf.new.network.domains in
    let cuts = c.loop-left.path.items in
    let same = subst (λ cs. (point : List ℤ) → SolvesRules cs before point ↔ SolvesRules cs sets point) v.rules c.in_ok-advance.ensures.same in
    let back = c.in_ok-go_back-in-Leaf.ensures.back c.if-not-branch-2.false in
    let here = path_within value wanted whole cs (length start) (length first) (SolvesRules cs start) cuts v.pasts before sets v.path (λ point s. (same point).1 s) in
    let left = left_after (SolvesRules cs start) (Rest value wanted cs cuts v.pasts before) (Rest value wanted cs cuts v.pasts sets) v.more v.left (rest_after value wanted cs cuts v.pasts before sets same) in
    let present = subst (λ n. All (ArePresent n) cs) (sym (c.in_ok-advance.ensures.kept_count ∙ v.kept_count)) c.requires in
    let supported = subst (λ cs. AllSupport cs (set_at sets)) v.rules (c.in_ok-advance.ensures.supported c.in-Leaf.is) in
    let point = c.in_ok-keep-in-Leaf.ensures.point in
    let one = point.0 in
    let only : IsOnlyPoint sets one = subst (λ sets. IsOnlyPoint sets one) c.domains.ensures.same point.1 in
    let finds = finds_one (SolvesRules cs sets) one (single_solves cs sets one present supported only) (λ point s. single_solution cs sets one point only s) in
    let b = went_back value wanted whole cs (length start) first (SolvesRules cs start) cuts c.go_back-in-Leaf.new.path.items back.0 v.pasts sets high v.more (one ∷ []) c.advance.new.network.marked
    c.go_back-in-Leaf.new.network.marked c.go_back-in-Leaf.new.network.rules back.1 here (c.in_ok-advance.ensures.marked ∙ v.marked) back.2 back.3 left finds in
    let unsettled = subst (λ cs. (unsettled_count c.go_back-in-Leaf.new.network.settled) ≤ length cs) b.rules (c.in_ok-go_back-in-Leaf.ensures.unsettled c.if-not-branch-2.false) in
    let s = spent_back value wanted whole (length cs) cuts c.go_back-in-Leaf.new.path.items back.0 v.pasts b.before b.past v.need (points_of whole before) (unsettled_count c.loop-left.network.settled)
    (unsettled_count c.go_back-in-Leaf.new.network.settled) high back.1 b.split b.one_each v.rooms unsettled b.same_count b.other in
    let less = s.less in
    let spent = v.spent in
    let nodes = v.nodes in
    let visited = v.visited in
    let some = c.loop-left-test.true in
    let solutions = c.if-left-eq0.false in
    let so_far = v.counted in
    let count = length_push v.more one in record {
      rules = b.rules;
      kept_count = b.count;
      nodes = omega (arith, nodes);
      unsettled = unsettled;
      is_kept = c.in_ok-keep-in-Leaf.ensures.is_kept ∙ v.is_kept;
      pasts = b.before;
      marked = b.marked;
      path = b.path;
      more = v.more ++ one ∷ [];
      left = b.left;
      kept = λ kept. point.2 (v.is_kept ∙ kept) ∙ ap (λ points. points ++ one ∷ []) (v.kept kept) ∙ append_assoc _ v.more (one ∷ []);
      counted = omega (arith, so_far, count, solutions);
      visited = omega (arith, visited, some, solutions);
      need = s.rest;
      rooms = s.rooms;
      spent = omega (arith, spent, less, some);
    }

-- the root itself is searched to its end
pub returns-then-not-branch : goal.returns-then-not-branch
returns-then-not-branch g c =
    let v = c.loop-left.invariant in
    let visited = v.visited in
    let some = c.loop-left-test.true in
    let value = g.B.Width.value in
    let whole = g.B.Width.whole in
    let wanted = c.args.wanted in
    let cs = c.args.network.now.rules in
    let start = c.args.network.now.domains in
    let first = c.args.network.now.marked in
    let before = c.loop-left.network.domains in
    let sets = c.advance.new.network.domains in
    let cuts = c.loop-left.path.items in
    let same = subst (λ cs. (point : List ℤ) → SolvesRules cs before point ↔ SolvesRules cs sets point) v.rules c.in_ok-advance.ensures.same in
    let dead = subst (IsNodeOf value wanted whole sets) c.in-Dead.is c.in_ok-advance.ensures.node in
    let none = c.in_ok-go_back-in-Dead.ensures.none c.if-not-branch.true in
    let here = path_within value wanted whole cs (length start) (length first) (SolvesRules cs start) cuts v.pasts before sets v.path (λ point s. (same point).1 s) in
    let left = left_after (SolvesRules cs start) (Rest value wanted cs cuts v.pasts before) (Rest value wanted cs cuts v.pasts sets) v.more v.left (rest_after value wanted cs cuts v.pasts before sets same) in
    let spent = within_budget (length cs) (points_of whole before) (unsettled_count c.loop-left.network.settled) (points_of whole start) c.args.left.now.nodes c.loop-left.left.nodes v.need v.spent in
    let nodes = v.nodes in record {
      rules = ap (λ n. n.rules) none.1 ∙ c.in_ok-advance.ensures.rules ∙ v.rules;
      marked = ap (λ n. n.marked) none.1 ∙ no_cut_marks value wanted whole cs (length start) (length first) (SolvesRules cs start) cuts v.pasts sets first c.advance.new.network.marked here none.0 (c.in_ok-advance.ensures.marked ∙ v.marked);
      is_kept = v.is_kept;
      spent = omega (arith, spent);
      enough = λ e. absurd (cc);
      nodes = omega (arith, nodes);
      visited = omega (arith, visited, some);
      full = λ e. absurd (cc);
      finds = (
        v.more ++ [],
        all_found (SolvesRules cs start) (SolvesRules cs sets) v.more [] (no_cut_left value wanted cs (SolvesRules cs start) v.more cuts v.pasts sets none.0 left) (finds_none (SolvesRules cs sets) (none_solves cs sets dead)),
        (λ kept. v.kept kept ∙ ap (λ more. map (λ point. map value point.items) c.args.found.now.points.items ++ more) (sym (append-nil v.more))),
        ap (λ more. length more + c.loop-left.left.solutions) (append-nil v.more) ∙ v.counted,
      );
    }

pub returns-then-not-branch-2 : goal.returns-then-not-branch-2
returns-then-not-branch-2 g c =
    let v = c.loop-left.invariant in
    let visited = v.visited in
    let some = c.loop-left-test.true in
    let value = g.B.Width.value in
    let whole = g.B.Width.whole in
    let wanted = c.args.wanted in
    let cs = c.args.network.now.rules in
    let start = c.args.network.now.domains in
    let first = c.args.network.now.marked in
    let before = c.loop-left.network.domains in
    let sets = c.advance.new.network.domains in
    let cuts = c.loop-left.path.items in
    let same = subst (λ cs. (point : List ℤ) → SolvesRules cs before point ↔ SolvesRules cs sets point) v.rules c.in_ok-advance.ensures.same in
    let none = c.in_ok-go_back-in-Leaf.ensures.none c.if-not-branch-2.true in
    let here = path_within value wanted whole cs (length start) (length first) (SolvesRules cs start) cuts v.pasts before sets v.path (λ point s. (same point).1 s) in
    let left = left_after (SolvesRules cs start) (Rest value wanted cs cuts v.pasts before) (Rest value wanted cs cuts v.pasts sets) v.more v.left (rest_after value wanted cs cuts v.pasts before sets same) in
    let present = subst (λ n. All (ArePresent n) cs) (sym (c.in_ok-advance.ensures.kept_count ∙ v.kept_count)) c.requires in
    let supported = subst (λ cs. AllSupport cs (set_at sets)) v.rules (c.in_ok-advance.ensures.supported c.in-Leaf.is) in
    let point = c.in_ok-keep-in-Leaf.ensures.point in
    let one = point.0 in
    let only : IsOnlyPoint sets one = subst (λ sets. IsOnlyPoint sets one) c.domains.ensures.same point.1 in
    let finds = finds_one (SolvesRules cs sets) one (single_solves cs sets one present supported only) (λ point s. single_solution cs sets one point only s) in
    let spent = within_budget (length cs) (points_of whole before) (unsettled_count c.loop-left.network.settled) (points_of whole start) c.args.left.now.nodes c.loop-left.left.nodes v.need v.spent in
    let nodes = v.nodes in
    let solutions = c.if-left-eq0.false in
    let so_far = v.counted in
    let count = length_push v.more one in record {
      rules = ap (λ n. n.rules) none.1 ∙ c.in_ok-advance.ensures.rules ∙ v.rules;
      marked = ap (λ n. n.marked) none.1 ∙ no_cut_marks value wanted whole cs (length start) (length first) (SolvesRules cs start) cuts v.pasts sets first c.advance.new.network.marked here none.0 (c.in_ok-advance.ensures.marked ∙ v.marked);
      is_kept = c.in_ok-keep-in-Leaf.ensures.is_kept ∙ v.is_kept;
      spent = omega (arith, spent);
      enough = λ e. absurd (cc);
      nodes = omega (arith, nodes);
      visited = omega (arith, visited, solutions, some);
      full = λ e. absurd (cc);
      finds = (
        v.more ++ one ∷ [],
        all_found (SolvesRules cs start) (SolvesRules cs sets) v.more (one ∷ []) (no_cut_left value wanted cs (SolvesRules cs start) v.more cuts v.pasts sets none.0 left) finds,
        (λ kept. point.2 (v.is_kept ∙ kept) ∙ ap (λ points. points ++ one ∷ []) (v.kept kept) ∙ append_assoc _ v.more (one ∷ [])),
        omega (arith, so_far, count, solutions),
      );
    }

-- or it stops on the way
pub returns-then-left-eq0 : goal.returns-then-left-eq0
returns-then-left-eq0 g c =
    let v = c.loop-left.invariant in
    let value = g.B.Width.value in
    let whole = g.B.Width.whole in
    let cs = c.args.network.now.rules in
    let start = c.args.network.now.domains in
    let spent = within_budget (length cs) (points_of whole c.loop-left.network.domains) (unsettled_count c.loop-left.network.settled) (points_of whole start) c.args.left.now.nodes c.loop-left.left.nodes v.need v.spent in
    record {
      rules = c.drop_path.ensures.rules ∙ v.rules;
      marked = marks_before value c.args.wanted whole cs (SolvesRules cs start) (length start) c.loop-left.path.items v.pasts c.loop-left.network.domains c.args.network.now.marked c.loop-left.network.marked
          c.drop_path.new.network.marked v.path v.marked (λ e. ap (λ n. n.marked) (c.drop_path.ensures.none (c.deref.ensures.value ∙ e))) (λ cut rest e. c.drop_path.ensures.marked cut rest (c.deref.ensures.value ∙ e));
      is_kept = v.is_kept;
      spent = omega (arith, spent);
      enough = λ e. absurd (cc);
      nodes = v.nodes;
      visited = v.visited;
      full = λ e. c.if-left-eq0.true;
      finds = (v.more, stopped (SolvesRules cs start) _ v.more _ v.left (λ e. cc), v.kept, v.counted);
    }

pub returns : goal.returns
returns g c =
    let v = c.loop-left.invariant in
    let value = g.B.Width.value in
    let whole = g.B.Width.whole in
    let cs = c.args.network.now.rules in
    let start = c.args.network.now.domains in
    let spent = within_budget (length cs) (points_of whole c.loop-left.network.domains) (unsettled_count c.loop-left.network.settled) (points_of whole start) c.args.left.now.nodes c.loop-left.left.nodes v.need v.spent in
    let none = c.loop-left-test.false in
    record {
      rules = c.drop_path-2.ensures.rules ∙ v.rules;
      marked = marks_before value c.args.wanted whole cs (SolvesRules cs start) (length start) c.loop-left.path.items v.pasts c.loop-left.network.domains c.args.network.now.marked c.loop-left.network.marked
          c.drop_path-2.new.network.marked v.path v.marked (λ e. ap (λ n. n.marked) (c.drop_path-2.ensures.none (c.deref-2.ensures.value ∙ e))) (λ cut rest e. c.drop_path-2.ensures.marked cut rest (c.deref-2.ensures.value ∙ e));
      is_kept = v.is_kept;
      spent = omega (arith, spent);
      enough = λ e. (omega (arith, none), omega (arith, spent, none));
      nodes = v.nodes;
      visited = v.visited;
      full = λ e. absurd (cc);
      finds = (v.more, stopped (SolvesRules cs start) _ v.more _ v.left (λ e. cc), v.kept, v.counted);
    }
