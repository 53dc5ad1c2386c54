use Rattle.std.proofs.Common.{◌≡◌, ◌∙◌, ◌-◌, [], get_or, arith}
use Rattle.std.proofs.lemmas.List.{get_or_default}
use Rattle.ivl_paged.proofs.Reading.{next_in_last, none_in_none}
use Rattle.ivl_paged.proofs.pages.next_within.Goals as goal

pub returns-then-count-eq0 : goal.returns-then-count-eq0
returns-then-count-eq0 g c = none_in_none c.args.pages.now (g.B.Width.value c.args.v) c.args.count c.if-count-eq0.true

pub returns : goal.returns
returns g c =
    let P = c.args.pages.now in
    let n = c.args.count in
    let some = c.if-count-eq0.false in
    let most = c.requires.starts.at_most in
    let page : c.index-pages-count.result ≡ get_or P (n - 1) [] = c.index-pages-count.is ∙ get_or_default P (n - 1) _ [] (omega arith) in
    next_in_last g.B.Width.value P c.set.result.now (g.B.Width.value c.args.v) n c.next_from.result c.requires.runs c.requires.starts (omega arith) (c.set.ensures.same ∙ page) c.next_from.ensures
