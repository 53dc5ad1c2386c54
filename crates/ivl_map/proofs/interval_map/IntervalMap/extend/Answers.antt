use Rattle.std.proofs.Common.{◌≡◌, ◌∙◌, ℤ, List, length, take, rules, subst, sym}
use Rattle.std.proofs.lemmas.Iterator.Adapters.{YieldsList-from_vec}
use Rattle.std.proofs.lemmas.Iterator.Consumers.{YieldsList-end, YieldsList-so_far, YieldsList-turn}
use Rattle.std.proofs.lemmas.List.{map-id}
use Rattle.ivl_laws.proofs.Slices.{same_item}
use Rattle.ivl_map.specs.Changes.{NeedsRoom}
use Rattle.ivl_map.specs.Entries.{HasAt, IsEntriesOf, WrittenAll}
use Rattle.ivl_map.proofs.Outcomes.{needs_room, on_err_any}
use Rattle.ivl_map.proofs.Windows.{appended, writes_next}
use Rattle.ivl_map.proofs.interval_map.IntervalMap.extend.Goals as goal

pub loop-interval-preserved : goal.loop-interval-preserved
loop-interval-preserved g c =
    let eq = g.V.PartialEq.eq in
    let F = HasAt eq c.args.self.now in
    appended eq c.insert.new.self c.loop-interval.yielded (c.in-Some.interval, c.in-Some.value) F
    (writes_next eq c.loop-interval.self c.insert.new.self c.in-Some.interval c.in-Some.value (WrittenAll eq c.loop-interval.yielded F) c.loop-interval.invariant c.in_ok-insert.ensures.ok)

pub returns-clause-ok : goal.returns-clause-ok
returns-clause-ok g c =
    let eq = g.V.PartialEq.eq in
    let F = HasAt eq c.args.self.now in
    let gives = c.into_iter-interval-iterator.ensures.into_iter_gives in
    let ok = c.args.list.ok in
    let len : c.into_iter-interval-iterator.result.rest.len ≡ length c.args.list.items = gives.1 ∙ search rules in
    let all = (YieldsList-end (YieldsList-from_vec {s = c.into_iter-interval-iterator.result} c.args.list.items gives.0 len) c.loop-interval.yielded c.loop-interval.interval-iterator c.loop-interval.yielded_by c.next.result c.next.new.self c.in-None.is c.next.ensures.steps).0 in
    subst (λ (L : List ((ℤ × ℤ) × g.row.V.Denot)). IsEntriesOf eq c.loop-interval.self (WrittenAll eq L F)) (sym (map-id c.loop-interval.yielded) ∙ all) c.loop-interval.invariant

pub returns-in_err-insert-clause-err : goal.returns-in_err-insert-clause-err
returns-in_err-insert-clause-err g c =
    let eq = g.V.PartialEq.eq in
    let F = HasAt eq c.args.self.now in
    let gives = c.into_iter-interval-iterator.ensures.into_iter_gives in
    let ok = c.args.list.ok in
    let len : c.into_iter-interval-iterator.result.rest.len ≡ length c.args.list.items = gives.1 ∙ search rules in
    let some = YieldsList-so_far (YieldsList-from_vec {s = c.into_iter-interval-iterator.result} c.args.list.items gives.0 len) c.loop-interval.yielded c.loop-interval.interval-iterator c.loop-interval.yielded_by in
    let x : (ℤ × ℤ) × g.row.V.Denot = (c.in-Some.interval, c.in-Some.value) in
    let turn = YieldsList-turn (YieldsList-from_vec {s = c.into_iter-interval-iterator.result} c.args.list.items gives.0 len) c.loop-interval.yielded c.loop-interval.interval-iterator c.loop-interval.yielded_by c.next.result c.next.new.self x c.in-Some.is c.next.ensures.steps in
    let needs = needs_room eq c.loop-interval.self x.0 x.1 c.insert.result _ c.in_err-insert.was c.insert.ensures.empty c.insert.ensures.replaces c.insert.ensures.grows in
    let same = sym c.in_err-insert.ensures.err in
    let k = length c.loop-interval.yielded in
    let P : (ℤ × ℤ) × g.row.V.Denot → Type 0 = λ e. NeedsRoom eq c.insert.new.self e in
    on_err_any c.from_residual.result (
      k,
      turn.0,
      subst (λ (D : List ((ℤ × ℤ) × g.row.V.Denot)). IsEntriesOf eq D (WrittenAll eq (take k c.args.list.items) F)) same
          (subst (λ (L : List ((ℤ × ℤ) × g.row.V.Denot)). IsEntriesOf eq c.loop-interval.self (WrittenAll eq L F)) (sym (map-id c.loop-interval.yielded) ∙ some) c.loop-interval.invariant),
      λ d. subst P (turn.1 ∙ same_item c.args.list.items k x d turn.0) (subst (λ (D : List ((ℤ × ℤ) × g.row.V.Denot)). NeedsRoom eq D x) same needs),
    )
