use Rattle.std.proofs.Common.{sym}
use Rattle.std.proofs.lemmas.List.{take-map}
use Rattle.ivl_buffers.proofs.edits.first_of.Goals as goal

pub returns-then-n-buffer : goal.returns-then-n-buffer
returns-then-n-buffer g c = sym (take-map g.R.Pair.pair c.args.n c.args.buffer.now)
