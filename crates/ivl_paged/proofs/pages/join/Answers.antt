use Rattle.std.proofs.Common.{◌≡◌, ◌∙◌, ◌+◌, ◌++◌, [], ap, arith, drop, get_or, inl, length, length-append, take}
use Rattle.std.proofs.lemmas.List.{get_or_default}
use Rattle.ivl_paged.specs.Pages.{flattened}
use Rattle.ivl_paged.proofs.Removing.{joined_pages}
use Rattle.ivl_paged.proofs.pages.join.Goals as goal

pub of-requires : goal.of-requires
of-requires g c = let (z, held) = c.set.ensures.some in (z, (c.in_ok-both.ensures.members.members z).1 (inl (rw c.set.ensures.same held)))

pub replace-requires-clause-fits : goal.replace-requires-clause-fits
replace-requires-clause-fits g c =
    let P = c.args.pages.now in
    let i = c.args.i in
    let less = c.requires.less in
    let first : c.page.result.now ≡ get_or P i [] = c.page.ensures ∙ get_or_default P i _ [] (omega arith) in
    let last : c.page-2.result.now ≡ get_or P (i + 1) [] = c.page-2.ensures ∙ get_or_default P (i + 1) _ [] less in
    let J = c.in_ok-both.both in
    let same = ap length (joined_pages P c.set.result.now c.set-2.result.now J i c.requires.runs less (c.set.ensures.same ∙ first) (c.set-2.ensures.same ∙ last) c.in_ok-both.ensures.members) in
    let a = length-append (flattened (take i P)) (J ++ flattened (drop (i + 2) P)) in
    let b = length-append J (flattened (drop (i + 2) P)) in
    let all = ap length c.of.ensures in
    omega (arith, same, a, b, all, c.interval_count.ensures)

pub returns : goal.returns
returns g c =
    let P = c.args.pages.now in
    let i = c.args.i in
    let less = c.requires.less in
    let first : c.page.result.now ≡ get_or P i [] = c.page.ensures ∙ get_or_default P i _ [] (omega arith) in
    let last : c.page-2.result.now ≡ get_or P (i + 1) [] = c.page-2.ensures ∙ get_or_default P (i + 1) _ [] less in
    rw (c.replace.ensures, c.of.ensures) (joined_pages P c.set.result.now c.set-2.result.now c.in_ok-both.both i c.requires.runs less (c.set.ensures.same ∙ first) (c.set-2.ensures.same ∙ last) c.in_ok-both.ensures.members)
