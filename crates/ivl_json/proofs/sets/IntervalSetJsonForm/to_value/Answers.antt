use Rattle.ivl_json.proofs.RoundTrips.{set_reads_back}
use Rattle.ivl_json.proofs.sets.IntervalSetJsonForm.to_value.Goals as goal

pub returns-clause-reads_back : goal.returns-clause-reads_back
returns-clause-reads_back g c = (c.iter.ensures.runs, set_reads_back g.B.Width.whole c.args.self.now c.iter.ensures.runs)
