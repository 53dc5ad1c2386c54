use Rattle.std.proofs.Common.{rules}
use Rattle.ivl_c.proofs.signed.ivl_insert_i64.Goals as goal

pub returns : goal.returns
returns c = search rules
