use Rattle.std.proofs.Common.{arith}
use Rattle.ivl_upper_pins.proofs.Depths.{depth-set_json}
use Rattle.ivl_upper_pins.proofs.json.texts.set_text_reads_back.Goals as goal

pub carried_as_text-requires : goal.carried_as_text-requires
carried_as_text-requires g c = omega (arith, depth-set_json c.args.set.now)
