use Rattle.ivl_json.proofs.RoundTrips.{set_reads_back}
use Rattle.ivl_json.proofs.laws.runs_read_back.Goals as goal

pub returns : goal.returns
returns c = set_reads_back
