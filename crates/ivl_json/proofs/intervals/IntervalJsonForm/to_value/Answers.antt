use Rattle.ivl_json.proofs.RoundTrips.{reads_back}
use Rattle.ivl_json.proofs.intervals.IntervalJsonForm.to_value.Goals as goal

pub returns-clause-reads_back : goal.returns-clause-reads_back
returns-clause-reads_back g c = reads_back g.B.Width.whole c.args.self.now c.in_whole.ensures
