use Rattle.ivl_calculator_lines.proofs.Unkept.{read_no_pairs, read_pairs}
use Rattle.ivl_calculator_lines.proofs.lines.read_unkept.Goals as goal

pub returns-in-Some-pairs_in_range-clause-unkept : goal.returns-in-Some-pairs_in_range-clause-unkept
returns-in-Some-pairs_in_range-clause-unkept c =
    read_pairs _ _ _ _ _ _ _ c.in-Some.ensures.some c.register_from.ensures c.in-Some-register_from.is c.pairs_in_range.ensures c.in-Some-pairs_in_range.is

pub returns-in-None-clause-ok : goal.returns-in-None-clause-ok
returns-in-None-clause-ok c =
    read_no_pairs _ _ _ _ _ _ c.in-Some.ensures.some c.register_from.ensures c.in-Some-register_from.is c.pairs_in_range.ensures c.in-None.is
