use Rattle.intervallum.proofs.interval_set.IntervalSet.first_fit.Goals as goal

pub fit_in-requires-clause-runs : goal.fit_in-requires-clause-runs
fit_in-requires-clause-runs g c = rw c.as_runs.ensures.same c.as_runs.ensures.runs

pub returns : goal.returns
returns g c = rw (← c.as_runs.ensures.same) c.fit_in.ensures
