use Rattle.std.proofs.Common.{FitsSigned, w64}
use Rattle.std.proofs.lemmas.Int.{to_z-of_z}
use Rattle.ivl_store_lines.proofs.RuleForms.{opposite_is}
use Rattle.ivl_store_lines.proofs.request.rules.opposite_of.Goals as goal

pub returns : goal.returns
returns c =
    let fits : FitsSigned w64 c.args.number = c.ranges.number in
    opposite_is c.args.number c.checked_neg.result fits (simp to_z-of_z at c.checked_neg.ensures)
