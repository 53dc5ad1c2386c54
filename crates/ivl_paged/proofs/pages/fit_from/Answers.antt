use Rattle.std.proofs.Common.{◌∙◌, []}
use Rattle.std.proofs.lemmas.List.{get_or_default}
use Rattle.ivl_paged.proofs.Fitting.{fit_of_next, fit_of_none}
use Rattle.ivl_paged.proofs.pages.fit_from.Goals as goal

pub returns-in_err-i : goal.returns-in_err-i
returns-in_err-i g c = rw c.from_residual.ensures (fit_of_none (g.B.Output.SizeNumber.size c.args.count) c.args.pages.now c.args.place c.requires.above_zero c.requires.runs c.in_err-i.ensures)

pub page-requires : goal.page-requires
page-requires g c = c.in_ok-i.ensures.less

pub returns : goal.returns
returns g c =
    let p = c.in_ok-i.ensures in
    fit_of_next (g.B.Output.SizeNumber.size c.args.count) c.args.pages.now c.set.result.now c.args.place c.in_ok-i.i c.first_fit.result c.requires.above_zero c.requires.runs p
    (c.set.ensures.same ∙ c.page.ensures ∙ get_or_default c.args.pages.now c.in_ok-i.i _ [] p.less) c.first_fit.ensures
