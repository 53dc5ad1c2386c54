use Rattle.std.proofs.Common.{arith}
use Rattle.ivl_places.proofs.Windows.{split_by_run, split_by_gap}
use Rattle.intervallum.proofs.steps.places.first_from.Goals as goal

pub returns-in-In-clause-below : goal.returns-in-In-clause-below
returns-in-In-clause-below g c = (split_by_run c.args.probes.now.runs c.in-In.i (g.B.Width.value c.args.value) c.in_whole.ensures.runs.maximal c.in-In.ensures.place).below

pub returns-in-In-clause-ends : goal.returns-in-In-clause-ends
returns-in-In-clause-ends g c = (split_by_run c.args.probes.now.runs c.in-In.i (g.B.Width.value c.args.value) c.in_whole.ensures.runs.maximal c.in-In.ensures.place).rest

pub returns-in-In-clause-at_most : goal.returns-in-In-clause-at_most
returns-in-In-clause-at_most g c =
    let le = (split_by_run c.args.probes.now.runs c.in-In.i (g.B.Width.value c.args.value) c.in_whole.ensures.runs.maximal c.in-In.ensures.place).at_most in
    omega (arith, le)

pub returns-in-Gap-clause-below : goal.returns-in-Gap-clause-below
returns-in-Gap-clause-below g c =
    (split_by_gap c.args.probes.now.runs c.in-Gap.i (g.B.Width.value c.args.value) c.in_whole.ensures.runs.maximal c.in-Gap.ensures.place.0 c.in-Gap.ensures.place.1).below

pub returns-in-Gap-clause-ends : goal.returns-in-Gap-clause-ends
returns-in-Gap-clause-ends g c =
    (split_by_gap c.args.probes.now.runs c.in-Gap.i (g.B.Width.value c.args.value) c.in_whole.ensures.runs.maximal c.in-Gap.ensures.place.0 c.in-Gap.ensures.place.1).rest

pub returns-in-Gap-clause-at_most : goal.returns-in-Gap-clause-at_most
returns-in-Gap-clause-at_most g c =
    (split_by_gap c.args.probes.now.runs c.in-Gap.i (g.B.Width.value c.args.value) c.in_whole.ensures.runs.maximal c.in-Gap.ensures.place.0 c.in-Gap.ensures.place.1).at_most
