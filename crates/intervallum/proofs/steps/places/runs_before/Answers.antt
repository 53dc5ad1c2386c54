use Rattle.std.proofs.Common.{arith}
use Rattle.ivl_places.proofs.Edges.{seen_in_gap, seen_in_run}
use Rattle.intervallum.proofs.steps.places.runs_before.Goals as goal

pub returns-in-In-clause-below : goal.returns-in-In-clause-below
returns-in-In-clause-below g c = (seen_in_run c.args.probes.now.runs c.ends_from.new.probes.runs c.in-In.first (g.B.Width.value c.args.value) c.ends_from.ensures.same c.in_whole.ensures.runs.maximal c.in-In.ensures.place).below

pub returns-in-In-clause-ends : goal.returns-in-In-clause-ends
returns-in-In-clause-ends g c = (seen_in_run c.args.probes.now.runs c.ends_from.new.probes.runs c.in-In.first (g.B.Width.value c.args.value) c.ends_from.ensures.same c.in_whole.ensures.runs.maximal c.in-In.ensures.place).rest

pub returns-in-In-clause-at_most : goal.returns-in-In-clause-at_most
returns-in-In-clause-at_most g c =
    let le = (seen_in_run c.args.probes.now.runs c.ends_from.new.probes.runs c.in-In.first (g.B.Width.value c.args.value) c.ends_from.ensures.same c.in_whole.ensures.runs.maximal c.in-In.ensures.place).at_most in
    omega (arith, le)

pub returns-in-Gap-clause-below : goal.returns-in-Gap-clause-below
returns-in-Gap-clause-below g c =
    (seen_in_gap c.args.probes.now.runs c.ends_from.new.probes.runs c.in-Gap.first (g.B.Width.value c.args.value) c.ends_from.ensures.same c.in_whole.ensures.runs.maximal c.in-Gap.ensures.place.0 c.in-Gap.ensures.place.1).below

pub returns-in-Gap-clause-ends : goal.returns-in-Gap-clause-ends
returns-in-Gap-clause-ends g c =
    (seen_in_gap c.args.probes.now.runs c.ends_from.new.probes.runs c.in-Gap.first (g.B.Width.value c.args.value) c.ends_from.ensures.same c.in_whole.ensures.runs.maximal c.in-Gap.ensures.place.0 c.in-Gap.ensures.place.1).rest

pub returns-in-Gap-clause-at_most : goal.returns-in-Gap-clause-at_most
returns-in-Gap-clause-at_most g c =
    (seen_in_gap c.args.probes.now.runs c.ends_from.new.probes.runs c.in-Gap.first (g.B.Width.value c.args.value) c.ends_from.ensures.same c.in_whole.ensures.runs.maximal c.in-Gap.ensures.place.0 c.in-Gap.ensures.place.1).at_most
