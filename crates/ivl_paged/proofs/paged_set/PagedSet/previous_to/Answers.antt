use Rattle.std.proofs.Common.{◌≡◌, ◌∙◌, ◌-◌, ◌<◌, [], get_or, arith}
use Rattle.std.proofs.lemmas.List.{get_or_default}
use Rattle.ivl_paged.specs.Pages.{StartsUpTo}
use Rattle.ivl_paged.proofs.Reading.{no_previous_seen, previous_seen}
use Rattle.ivl_paged.proofs.paged_set.PagedSet.previous_to.Goals as goal

pub returns-then-count-eq0 : goal.returns-then-count-eq0
returns-then-count-eq0 g c =
    let P = c.self.inside.pages in
    let v = g.B.Width.value c.args.v in
    let n = c.starts_up_to-count.result in
    let s : StartsUpTo P v n = c.starts_up_to-count.ensures in
    no_previous_seen P c.args.self.now c.self.invariant.maximal c.self.view_is v n s c.if-count-eq0.true

pub returns : goal.returns
returns g c =
    let P = c.self.inside.pages in
    let v = g.B.Width.value c.args.v in
    let n = c.starts_up_to-count.result in
    let s : StartsUpTo P v n = c.starts_up_to-count.ensures in
    let most = s.at_most in
    let none = c.if-count-eq0.false in
    let some : 0 < n = omega arith in
    let page : c.page.result.now ≡ get_or P (n - 1) [] = c.page.ensures ∙ get_or_default P (n - 1) _ [] (omega arith) in
    previous_seen P c.args.self.now c.self.invariant.maximal c.self.view_is g.B.Width.value c.set.result.now v n c.previous_to.result s some (c.set.ensures.same ∙ page) c.previous_to.ensures
