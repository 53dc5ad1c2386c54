use Rattle.std.proofs.Common.{◌≡◌, ◌∙◌, ◌-◌, [], get_or, arith}
use Rattle.std.proofs.lemmas.List.{get_or_default}
use Rattle.ivl_paged.proofs.Fitting.{fit_in_last, fit_in_no_page}
use Rattle.ivl_paged.proofs.pages.fit_within.Goals as goal

pub returns-then-place-eq0 : goal.returns-then-place-eq0
returns-then-place-eq0 g c = fit_in_no_page (g.B.Output.SizeNumber.size c.args.count) c.args.pages.now (g.B.Width.value c.args.v) c.args.place c.requires.above_zero c.if-place-eq0.true

pub returns : goal.returns
returns g c =
    let P = c.args.pages.now in
    let n = c.args.place in
    let some = c.if-place-eq0.false in
    let most = c.requires.starts.at_most in
    let page : c.index-pages-place.result ≡ get_or P (n - 1) [] = c.index-pages-place.is ∙ get_or_default P (n - 1) _ [] (omega arith) in
    fit_in_last (g.B.Output.SizeNumber.size c.args.count) P c.set.result.now (g.B.Width.value c.args.v) n c.first_fit_from.result c.requires.runs c.requires.starts (omega arith) (c.set.ensures.same ∙ page) c.first_fit_from.ensures
