use Rattle.std.proofs.Common.{refl}
use Rattle.intervallum.proofs.Equality.{same_runs_seen, tells_same_runs}
use Rattle.ivl_paged.proofs.paged_set.equality.PagedSetPartialEq.eq.Goals as goal

pub returns-clause-value : goal.returns-clause-value
returns-clause-value g c = tells_same_runs c.args.self.now c.args.other.now c.iter.result c.iter-2.result c.are_the_same.result c.iter.ensures.runs.maximal c.iter.ensures.rest c.iter-2.ensures.rest c.are_the_same.ensures

pub returns-clause-members : goal.returns-clause-members
returns-clause-members g c = same_runs_seen c.args.self.now c.args.other.now c.args.self.now c.args.other.now c.are_the_same.result refl refl c.iter.ensures.runs.maximal c.iter-2.ensures.runs.maximal (returns-clause-value g c)
