use Rattle.std.proofs.Common.{ℤ, ◌+◌, List, length, length-append, ap, ◌∙◌, arith}
use Rattle.ivl_places.proofs.CutRuns.{behind, pushed_cut, rest_in}
use Rattle.intervallum.proofs.interval_set.IntervalSet.push_cut.Goals as goal

pub grown-self-inside-requires : goal.grown-self-inside-requires
grown-self-inside-requires g c =
    let v = c.self.inside.intervals in
    let len = v.ok.0 in
    let added = pushed_cut g.B.Width.whole v.items c.args.self.now c.extend_from_slice.new.self.items c.cut_ends.new.runs.items c.deref.result.now c.args.runs.now c.args.window.now c.len-count.result _ _ _
    c.self.invariant.0 c.self.invariant.1 c.self.view_is (omega (arith, len)) c.in_ok-extend_from_slice.ensures.items c.requires.apart
    c.cut_ends.ensures.before c.cut_ends.ensures.members c.cut_ends.ensures.within c.deref.ensures.value c.size_of_runs-more.ensures g.met.B.Width.countable in
    added.fits

pub invariant_of-self-2 : goal.invariant_of-self-2
invariant_of-self-2 g c =
    let v = c.self.inside.intervals in
    let len = v.ok.0 in
    let added = pushed_cut g.B.Width.whole v.items c.args.self.now c.extend_from_slice.new.self.items c.cut_ends.new.runs.items c.deref.result.now c.args.runs.now c.args.window.now c.len-count.result _ _ _
    c.self.invariant.0 c.self.invariant.1 c.self.view_is (omega (arith, len)) c.in_ok-extend_from_slice.ensures.items c.requires.apart
    c.cut_ends.ensures.before c.cut_ends.ensures.members c.cut_ends.ensures.within c.deref.ensures.value c.size_of_runs-more.ensures g.met.B.Width.countable in
    rw c.grown-self-inside.ensures (added.list, added.counts)

pub returns-clause-members : goal.returns-clause-members
returns-clause-members g c =
    let v = c.self.inside.intervals in
    let len = v.ok.0 in
    let added = pushed_cut g.B.Width.whole v.items c.args.self.now c.extend_from_slice.new.self.items c.cut_ends.new.runs.items c.deref.result.now c.args.runs.now c.args.window.now c.len-count.result _ _ _
    c.self.invariant.0 c.self.invariant.1 c.self.view_is (omega (arith, len)) c.in_ok-extend_from_slice.ensures.items c.requires.apart
    c.cut_ends.ensures.before c.cut_ends.ensures.members c.cut_ends.ensures.within c.deref.ensures.value c.size_of_runs-more.ensures g.met.B.Width.countable in
    added.runs

pub cut_ends-requires-clause-runs : goal.cut_ends-requires-clause-runs
cut_ends-requires-clause-runs g c =
    let v = c.self.inside.intervals in
    let len = v.ok.0 in
    rw (behind v.items c.extend_from_slice.new.self.items c.args.runs.now c.len-count.result (omega (arith, len)) c.in_ok-extend_from_slice.ensures.items) c.requires.runs

pub cut_ends-requires-clause-first : goal.cut_ends-requires-clause-first
cut_ends-requires-clause-first g c =
    let v = c.self.inside.intervals in
    let len = v.ok.0 in
    rw (behind v.items c.extend_from_slice.new.self.items c.args.runs.now c.len-count.result (omega (arith, len)) c.in_ok-extend_from_slice.ensures.items) c.requires.first

pub cut_ends-requires-clause-last : goal.cut_ends-requires-clause-last
cut_ends-requires-clause-last g c =
    let v = c.self.inside.intervals in
    let len = v.ok.0 in
    rw (behind v.items c.extend_from_slice.new.self.items c.args.runs.now c.len-count.result (omega (arith, len)) c.in_ok-extend_from_slice.ensures.items) c.requires.last

pub size_of_runs-more-requires : goal.size_of_runs-more-requires
size_of_runs-more-requires g c = rest_in g.B.Width.whole c.cut_ends.new.runs.items c.deref.result.now c.len-count.result c.deref.ensures.value c.cut_ends.ensures.within

pub returns-clause-count : goal.returns-clause-count
returns-clause-count g c = c.cut_ends.ensures.count ∙ ap length c.in_ok-extend_from_slice.ensures.items ∙ length-append c.self.inside.intervals.items c.args.runs.now ∙ ap (λ (L : List (ℤ × ℤ)). length L + length c.args.runs.now) c.self.view_is

pub cut_ends-requires-clause-window : goal.cut_ends-requires-clause-window
cut_ends-requires-clause-window g c = c.requires.window

pub cut_ends-requires-clause-at_most : goal.cut_ends-requires-clause-at_most
cut_ends-requires-clause-at_most g c =
    let len = c.self.inside.intervals.ok.0 in
    let longer = ap length c.in_ok-extend_from_slice.ensures.items ∙ length-append c.self.inside.intervals.items c.args.runs.now in
    omega (arith, len)
