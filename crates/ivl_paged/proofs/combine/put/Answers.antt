use Rattle.std.proofs.Common.{◌-◌, List, ℤ, drop, length, refl, subst, sym, take}
use Rattle.std.proofs.lemmas.Result.{on_ok_weaker}
use Rattle.ivl_laws.specs.Sets.{Union}
use Rattle.ivl_laws.specs.Runs.{Covers, IsRunsOf}
use Rattle.ivl_walks.proofs.MergeState.{IsMaximal-append}
use Rattle.ivl_paged.specs.Pages.{flattened}
use Rattle.ivl_paged.proofs.Combining.{appended, first_and_rest, rest_is_apart, rest_left}
use Rattle.ivl_paged.proofs.combine.put.Goals as goal

pub put_apart-requires : goal.put_apart-requires
put_apart-requires g c = IsMaximal-append (flattened c.args.pages.now) c.args.piece.now c.requires.runs.maximal c.requires.piece c.in_default.ensures

pub returns-in_default : goal.returns-in_default
returns-in_default g c =
    let P = flattened c.args.pages.now in
    on_ok_weaker c.put_apart.result
    (λ made. subst (λ (L : List (ℤ × ℤ)). IsRunsOf L (Union (Covers P) (Covers c.args.piece.now))) (sym made)
    (appended P c.args.piece.now c.requires.runs.maximal c.requires.piece c.in_default.ensures))
    c.put_apart.ensures

pub put_apart-requires-2 : goal.put_apart-requires-2
put_apart-requires-2 g c =
    let P = flattened c.args.pages.now in
    let K = c.args.piece.now in
    let (rest, first) = c.in-Some.ensures.1 in
    let left = rest_left K (take (length K - 1) (drop 1 K)) rest c.in-Some.run' c.requires.piece first refl in
    IsMaximal-append (flattened c.insert_interval.new.pages) (take (length K - 1) (drop 1 K)) c.in_ok-insert_interval.ensures.ok.maximal left.maximal
    (rest_is_apart P K (flattened c.insert_interval.new.pages) (take (length K - 1) (drop 1 K)) rest c.in-Some.run' c.requires.piece first c.requires.above
    c.in_ok-insert_interval.ensures.ok left)

pub returns : goal.returns
returns g c =
    let P = flattened c.args.pages.now in
    let K = c.args.piece.now in
    let (rest, first) = c.in-Some.ensures.1 in
    let left = rest_left K (take (length K - 1) (drop 1 K)) rest c.in-Some.run' c.requires.piece first refl in
    let all = first_and_rest P K (flattened c.insert_interval.new.pages) (take (length K - 1) (drop 1 K)) rest c.in-Some.run' c.requires.piece first c.requires.above
    c.in_ok-insert_interval.ensures.ok left in
    on_ok_weaker c.put_apart-2.result
    (λ made. subst (λ (L : List (ℤ × ℤ)). IsRunsOf L (Union (Covers P) (Covers K))) (sym made) all)
    c.put_apart-2.ensures
