use Rattle.std.proofs.Common.{ℤ, ◌-◌, ◌∙◌, List, ap, drop, sum_by, take, arith}
use Rattle.ivl_laws.specs.Bounds.{width_of}
use Rattle.ivl_places.specs.Edits.{replaced}
use Rattle.ivl_places.proofs.Splicing.{is_resized}
use Rattle.intervallum.proofs.interval_set.IntervalSet.replace.Goals as goal

pub total_size-gone-requires : goal.total_size-gone-requires
total_size-gone-requires g c =
    let v = c.self.inside.intervals in
    let r = is_resized g.B.Width.whole v.items c.args.self.now c.args.start c.args.end c.args.first c.args.second _ _ c.self.view_is c.self.invariant.0 c.self.invariant.1
    c.requires.in_order c.requires.runs g.met.B.Width.countable in
    let same = ap (λ (L : List (ℤ × ℤ)). sum_by width_of (take (c.args.end - c.args.start) (drop c.args.start L))) c.deref.ensures.value in
    omega (arith, same, r.gone_fits, r.old_fits)

pub shrunk-kept-requires : goal.shrunk-kept-requires
shrunk-kept-requires g c =
    let v = c.self.inside.intervals in
    let r = is_resized g.B.Width.whole v.items c.args.self.now c.args.start c.args.end c.args.first c.args.second _ _ c.self.view_is c.self.invariant.0 c.self.invariant.1
    c.requires.in_order c.requires.runs g.met.B.Width.countable in
    let same = ap (λ (L : List (ℤ × ℤ)). sum_by width_of (take (c.args.end - c.args.start) (drop c.args.start L))) c.deref.ensures.value in
    omega (arith, same, c.total_size-gone.ensures, r.gone_fits)

pub grown-requires : goal.grown-requires
grown-requires g c =
    let v = c.self.inside.intervals in
    let r = is_resized g.B.Width.whole v.items c.args.self.now c.args.start c.args.end c.args.first c.args.second _ _ c.self.view_is c.self.invariant.0 c.self.invariant.1
    c.requires.in_order c.requires.runs g.met.B.Width.countable in
    let same = ap (λ (L : List (ℤ × ℤ)). sum_by width_of (take (c.args.end - c.args.start) (drop c.args.start L))) c.deref.ensures.value in
    let fits = r.fits (g.B.Output.SizeNumber.size c.shrunk-kept.result) (omega (arith, same, c.total_size-gone.ensures, c.shrunk-kept.ensures)) in
    omega (arith, c.size_of.ensures, fits)

pub grown-size-requires : goal.grown-size-requires
grown-size-requires g c =
    let v = c.self.inside.intervals in
    let r = is_resized g.B.Width.whole v.items c.args.self.now c.args.start c.args.end c.args.first c.args.second _ _ c.self.view_is c.self.invariant.0 c.self.invariant.1
    c.requires.in_order c.requires.runs g.met.B.Width.countable in
    let same = ap (λ (L : List (ℤ × ℤ)). sum_by width_of (take (c.args.end - c.args.start) (drop c.args.start L))) c.deref.ensures.value in
    let fits = r.fits (g.B.Output.SizeNumber.size c.shrunk-kept.result) (omega (arith, same, c.total_size-gone.ensures, c.shrunk-kept.ensures)) in
    omega (arith, c.size_of.ensures, c.size_of-2.ensures, c.grown.ensures, fits)

pub invariant_of-self-2 : goal.invariant_of-self-2
invariant_of-self-2 g c =
    let v = c.self.inside.intervals in
    let r = is_resized g.B.Width.whole v.items c.args.self.now c.args.start c.args.end c.args.first c.args.second _ _ c.self.view_is c.self.invariant.0 c.self.invariant.1
    c.requires.in_order c.requires.runs g.met.B.Width.countable in
    let same = ap (λ (L : List (ℤ × ℤ)). sum_by width_of (take (c.args.end - c.args.start) (drop c.args.start L))) c.deref.ensures.value in
    let counts = r.counts (g.B.Output.SizeNumber.size c.shrunk-kept.result) (omega (arith, same, c.total_size-gone.ensures, c.shrunk-kept.ensures)) in
    rw (c.in_ok-replace_runs.ensures.ok, c.grown-size.ensures, c.grown.ensures, c.size_of.ensures, c.size_of-2.ensures) (r.list, counts)

pub replace_runs-requires-clause-in_order : goal.replace_runs-requires-clause-in_order
replace_runs-requires-clause-in_order g c = c.requires.in_order

pub replace_runs-requires-clause-at_most : goal.replace_runs-requires-clause-at_most
replace_runs-requires-clause-at_most g c = rw c.self.view_is c.requires.at_most

pub replace_runs-requires-clause-two : goal.replace_runs-requires-clause-two
replace_runs-requires-clause-two g c = c.requires.two

pub invariant_of-self : goal.invariant_of-self
invariant_of-self g c = rw c.in_err-replace_runs.ensures.err (c.self.invariant.0, c.self.invariant.1)

pub returns-clause-ok : goal.returns-clause-ok
returns-clause-ok g c = c.in_ok-replace_runs.ensures.ok ∙ ap (λ (L : List (ℤ × ℤ)). replaced L c.args.start c.args.end c.args.first c.args.second) c.self.view_is
