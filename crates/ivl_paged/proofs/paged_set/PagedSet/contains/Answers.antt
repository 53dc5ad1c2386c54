use Rattle.std.proofs.Common.{◌≡◌, ◌∙◌, ◌-◌, [], get_or, arith}
use Rattle.std.proofs.lemmas.List.{get_or_default}
use Rattle.ivl_paged.specs.Pages.{StartsUpTo}
use Rattle.ivl_paged.proofs.Paging.{found_in_page, in_no_page}
use Rattle.ivl_paged.proofs.paged_set.PagedSet.contains.Goals as goal

pub returns-then-count-eq0 : goal.returns-then-count-eq0
returns-then-count-eq0 g c =
    let P = c.self.inside.pages in
    let v = g.B.Width.value c.args.value.now in
    let n = c.starts_up_to-count.result in
    let s : StartsUpTo P v n = c.starts_up_to-count.ensures in
    in_no_page P c.args.self.now v n c.self.invariant.maximal s c.self.view_is c.if-count-eq0.true

pub returns : goal.returns
returns g c =
    let P = c.self.inside.pages in
    let v = g.B.Width.value c.args.value.now in
    let n = c.starts_up_to-count.result in
    let s : StartsUpTo P v n = c.starts_up_to-count.ensures in
    let most = s.at_most in
    let some = c.if-count-eq0.false in
    let page : c.page.result.now ≡ get_or P (n - 1) [] = c.page.ensures ∙ get_or_default P (n - 1) _ [] (omega arith) in
    found_in_page P c.args.self.now c.page.result.now v n c.contains.result c.self.invariant.maximal s c.self.view_is page c.contains.ensures
