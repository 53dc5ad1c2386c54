use Rattle.ivl_calculator_lines.proofs.Shown.{shown_in_order}
use Rattle.ivl_calculator_lines.proofs.engine.carry_out.Goals as goal

pub write_reply-requires : goal.write_reply-requires
write_reply-requires g c = shown_in_order _ _ _ _ _ c.apply-reply.ensures
