use Rattle.std.proofs.Common.{List, ℤ, subst, sym}
use Rattle.ivl_laws.specs.Sets.{Only, Without}
use Rattle.ivl_laws.specs.Runs.{Covers, IsRunsOf}
use Rattle.ivl_paged.specs.Pages.{flattened}
use Rattle.ivl_paged.proofs.Heads.{least_in_first}
use Rattle.ivl_paged.proofs.Removing.{removed_least}
use Rattle.ivl_paged.proofs.pages.pop_first.Goals as goal

pub balance-requires : goal.balance-requires
balance-requires g c =
    let v = g.B.Width.value c.pop_from_first-least.result in
    (removed_least c.args.pages.now c.pop_from_first-least.new.pages v c.requires.runs.maximal c.requires.some c.pop_from_first-least.ensures.least c.pop_from_first-least.ensures.rest).maximal

pub returns-clause-least : goal.returns-clause-least
returns-clause-least g c = least_in_first c.args.pages.now (g.B.Width.value c.pop_from_first-least.result) c.requires.runs.maximal c.pop_from_first-least.ensures.least

pub returns-clause-rest : goal.returns-clause-rest
returns-clause-rest g c =
    let P = c.args.pages.now in
    let v = g.B.Width.value c.pop_from_first-least.result in
    subst (λ (L : List (ℤ × ℤ)). IsRunsOf L (Without (Covers (flattened P)) (Only v))) (sym c.balance.ensures)
    (removed_least P c.pop_from_first-least.new.pages v c.requires.runs.maximal c.requires.some c.pop_from_first-least.ensures.least c.pop_from_first-least.ensures.rest)
