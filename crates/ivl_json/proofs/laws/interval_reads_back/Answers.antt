use Rattle.ivl_json.proofs.RoundTrips.{reads_back}
use Rattle.ivl_json.proofs.laws.interval_reads_back.Goals as goal

pub returns : goal.returns
returns c = reads_back
