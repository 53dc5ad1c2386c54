use Rattle.ivl_json.proofs.RoundTrips.{set_of_runs_reads_back}
use Rattle.ivl_json.proofs.laws.set_reads_back.Goals as goal

pub returns : goal.returns
returns g c = set_of_runs_reads_back g.S.NumberSet.members
