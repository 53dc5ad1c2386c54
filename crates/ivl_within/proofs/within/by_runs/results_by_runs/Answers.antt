use Rattle.std.proofs.Common.{◌≡◌, ◌∙◌, ◌+◌, ℤ, List, subst, sym, take, take_all}
use Rattle.ivl_images.proofs.Images.{open_here_seen}
use Rattle.ivl_laws.specs.Sets.{Intersection, SameMembers}
use Rattle.ivl_laws.specs.Runs.{Covers}
use Rattle.ivl_laws.proofs.Adding.{untrue}
use Rattle.ivl_laws.proofs.Intervals.{not_crossed}
use Rattle.ivl_laws.proofs.SetLaws.{IsRunsOf-same}
use Rattle.ivl_within.specs.Within.{SumsBy}
use Rattle.ivl_within.proofs.Reaching.{reaching_sums, runs_grow_by}
use Rattle.ivl_within.proofs.within.by_runs.results_by_runs.Goals as goal

pub reach_back-requires : goal.reach_back-requires
reach_back-requires g c = record {
  filled = not_crossed _ (untrue _ c.if-is_empty.false c.is_empty.ensures.crossed);
  window = open_here_seen c.as_slice-run-items.result.now c.args.x.now c.loop-run.run-index c.run-item.result (c.as_slice-run-items.ensures.value ∙ c.iter.ensures.rest) c.iter.ensures.runs.maximal c.loop-run-test.true c.run-item.is;
}

pub push_rows-requires : goal.push_rows-requires
push_rows-requires g c = record {
  left = c.runs_within-left.ensures.within.maximal;
  right = c.in_whole-2.ensures;
  window = open_here_seen c.as_slice-run-items.result.now c.args.x.now c.loop-run.run-index c.run-item.result (c.as_slice-run-items.ensures.value ∙ c.iter.ensures.rest) c.iter.ensures.runs.maximal c.loop-run-test.true c.run-item.is;
}

pub loop-run-preserved : goal.loop-run-preserved
loop-run-preserved g c =
    let seen = c.as_slice-run-items.ensures.value ∙ c.iter.ensures.rest in
    let runs = c.as_slice-run-items.result.now in
    let S = SumsBy c.args.op (Covers c.args.a.now) (Covers c.args.b.now) in
    let T = SumsBy c.args.op (Covers c.runs_within-left.result.now) (Covers c.args.b.now) in
    let i = c.loop-run.run-index in
    let old = c.loop-run.entries.items in
    let new = c.push_rows.new.entries.items in
    let P : List (ℤ × ℤ) → Type 0 = λ L. SameMembers (Covers old) (Intersection (Covers (take i L)) S) in
    let Q : List (ℤ × ℤ) → Type 0 = λ L. SameMembers (Covers new) (Intersection (Covers (take (i + 1) L)) S) in
    subst Q seen
    (runs_grow_by S T old new runs i c.run-item.result c.loop-run-test.true c.run-item.is
    (reaching_sums c.args.op g.B.Width.whole c.run-item.result c.hull-hull.result c.reach_back.result c.args.a.now c.runs_within-left.result.now c.args.b.now
    c.in_whole.ensures c.reach_back.ensures c.runs_within-left.ensures.members c.hull-hull.ensures.holds)
    c.in_ok-push_rows.ensures
    (subst P (sym seen) c.loop-run.invariant))

pub returns : goal.returns
returns g c =
    let seen = c.as_slice-run-items.ensures.value ∙ c.iter.ensures.rest in
    let x = c.args.x.now in
    let i = c.loop-run.run-index in
    let S = SumsBy c.args.op (Covers c.args.a.now) (Covers c.args.b.now) in
    let P : List (ℤ × ℤ) → Type 0 = λ L. SameMembers (Covers c.loop-run.entries.items) (Intersection (Covers L) S) in
    let all : take i x ≡ x = subst (λ (L : List (ℤ × ℤ)). take i L ≡ L) seen (take_all i c.as_slice-run-items.result.now c.loop-run-test.false) in
    IsRunsOf-same (Covers c.loop-run.entries.items) (Intersection (Covers x) S) c.in_ok-coalesce.field-0 (subst P all c.loop-run.invariant) c.in_ok-coalesce.ensures
