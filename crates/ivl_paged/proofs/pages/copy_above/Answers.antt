use Rattle.std.proofs.Common.{◌≡◌, ◌∙◌, ◌-◌, ◌<◌, ◌++◌, [], ℤ, List, ap, arith, drop, get_or, length, subst, sym, take}
use Rattle.std.proofs.lemmas.List.{get_or_default}
use Rattle.std.proofs.lemmas.Result.{IfOk-weaker}
use Rattle.ivl_laws.specs.Sets.{AtLeast}
use Rattle.ivl_laws.specs.Runs.{Covers, IsRunsOf}
use Rattle.ivl_paged.specs.Pages.{StartsUpTo, flattened}
use Rattle.ivl_paged.proofs.Dividing.{all_above, members_above}
use Rattle.ivl_paged.proofs.Fitting.{rest_of_pages}
use Rattle.ivl_paged.proofs.pages.copy_above.Goals as goal

pub returns-then-count-eq0 : goal.returns-then-count-eq0
returns-then-count-eq0 g c =
    let P = c.args.pages.now in
    let v = g.B.Width.value c.args.v in
    let n = c.starts_up_to-count.result in
    let s : StartsUpTo P v n = c.starts_up_to-count.ensures in
    let all = ap (λ (A : List (List (ℤ × ℤ))). flattened A ++ flattened c.as_slice.result.now) c.new.ensures ∙ ap flattened c.as_slice.ensures.value in
    IfOk-weaker c.copies_behind.result _ _ (λ K e. all_above P (flattened K) v n c.requires s c.if-count-eq0.true (e ∙ all)) c.copies_behind.ensures

pub returns : goal.returns
returns g c =
    let P = c.args.pages.now in
    let Q = c.as_slice-2.result.now in
    let v = g.B.Width.value c.args.v in
    let n = c.starts_up_to-count.result in
    let s : StartsUpTo P v n = c.starts_up_to-count.ensures in
    let most = s.at_most in
    let none = c.if-count-eq0.false in
    let some : 0 < n = omega arith in
    let page : c.page.result.now ≡ get_or P (n - 1) [] = c.page.ensures ∙ get_or_default P (n - 1) _ [] (omega arith) in
    let D = flattened (take (length Q - n) (drop n Q)) in
    IfOk-weaker c.copies_behind-2.result _ _
    (λ K e. subst (λ (M : List (ℤ × ℤ)). IsRunsOf M (AtLeast v (Covers (flattened P)))) (sym (e ∙ ap (λ (A : List (ℤ × ℤ)). A ++ D) c.in_ok-copies.ensures))
    (members_above P c.set.result.now c.in_ok-high.high D v n c.requires s (rest_of_pages P Q n c.as_slice-2.ensures.value) some (c.set.ensures.same ∙ page) c.in_ok-high.ensures.members))
    c.copies_behind-2.ensures
