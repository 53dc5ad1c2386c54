use Rattle.std.proofs.Common.{arith}
use Rattle.ivl_places.proofs.Windows.{split_by_run, split_by_gap}
use Rattle.intervallum.proofs.steps.places.last_up_to.Goals as goal

pub overflow_add-result : goal.overflow_add-result
overflow_add-result g c =
    let le = (split_by_run c.args.probes.now.runs c.in-In.i (g.B.Width.value c.args.value) c.in_whole.ensures.runs.maximal c.in-In.ensures.place).at_most in
    omega (arith, le)

pub returns-in-In-clause-above : goal.returns-in-In-clause-above
returns-in-In-clause-above g c = (split_by_run c.args.probes.now.runs c.in-In.i (g.B.Width.value c.args.value) c.in_whole.ensures.runs.maximal c.in-In.ensures.place).above

pub returns-in-In-clause-starts : goal.returns-in-In-clause-starts
returns-in-In-clause-starts g c = (split_by_run c.args.probes.now.runs c.in-In.i (g.B.Width.value c.args.value) c.in_whole.ensures.runs.maximal c.in-In.ensures.place).starts

pub returns-in-In-clause-at_most : goal.returns-in-In-clause-at_most
returns-in-In-clause-at_most g c = (split_by_run c.args.probes.now.runs c.in-In.i (g.B.Width.value c.args.value) c.in_whole.ensures.runs.maximal c.in-In.ensures.place).at_most

pub returns-in-Gap-clause-above : goal.returns-in-Gap-clause-above
returns-in-Gap-clause-above g c =
    (split_by_gap c.args.probes.now.runs c.in-Gap.i (g.B.Width.value c.args.value) c.in_whole.ensures.runs.maximal c.in-Gap.ensures.place.0 c.in-Gap.ensures.place.1).above

pub returns-in-Gap-clause-starts : goal.returns-in-Gap-clause-starts
returns-in-Gap-clause-starts g c =
    (split_by_gap c.args.probes.now.runs c.in-Gap.i (g.B.Width.value c.args.value) c.in_whole.ensures.runs.maximal c.in-Gap.ensures.place.0 c.in-Gap.ensures.place.1).starts

pub returns-in-Gap-clause-at_most : goal.returns-in-Gap-clause-at_most
returns-in-Gap-clause-at_most g c =
    (split_by_gap c.args.probes.now.runs c.in-Gap.i (g.B.Width.value c.args.value) c.in_whole.ensures.runs.maximal c.in-Gap.ensures.place.0 c.in-Gap.ensures.place.1).at_most
