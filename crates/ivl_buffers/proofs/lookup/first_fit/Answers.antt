use Rattle.ivl_buffers.proofs.lookup.first_fit.Goals as goal

pub of-requires : goal.of-requires
of-requires g c = ((c.in_whole.ensures _ c.lower.ensures.member).0, (c.in_whole.ensures _ c.upper.ensures.member).1)
