use Rattle.std.proofs.Common.{◌≡◌, ◌∙◌, ◌^◌, ◌-◌, ℤ, pos, negsuc, List, None, Some, sym, subst, rules}
use mir.Val.{SFits}
use Rattle.std.specs.Int.{w64}
use Rattle.std.proofs.lemmas.Int.{to_z-of_z}
use Rattle.std.specs.List.{list_all}
use borrow.Author.Tests.{tests}
use Rattle.std.proofs.lemmas.Iterator.{YieldsList-from_slice}
use Rattle.std.proofs.lemmas.Iterator.Search.{all_from_yields_List}
use Rattle.ivl_laws.specs.Runs.{Covers, IsRunsOf}
use Rattle.ivl_store_lines.specs.Solving.{pairs_fault}
use Rattle.ivl_lines.specs.Numbers.{is_in_range}
use Rattle.ivl_store_lines.proofs.Ranges.{in_range_is, some_range_fault, within_range_fault}
use Rattle.ivl_store_lines.proofs.Requiring.{same_pairs}
use Rattle.ivl_store_lines.proofs.solver.set_of.Goals as goal

pub returns-clause-union : goal.returns-clause-union
returns-clause-union c =
    let P : List (ℤ × ℤ) → Type 0 = λ pairs. IsRunsOf c.in_ok-to_interval_set.field-0 (Covers pairs) in
    subst P (same_pairs c.args.pairs.now) c.in_ok-to_interval_set.ensures

pub returns-clause-no_fault : goal.returns-clause-no_fault
returns-clause-no_fault c =
    let all : c.all.result ≡ list_all is_in_range c.args.pairs.now = all_from_yields_List is_in_range _ _ c.all.result c.all.ensures.ran (YieldsList-from_slice c.args.pairs.now c.iter.ensures.rest) (λ x b q k. (search (rules, tests), in_range_is (negsuc (2 ^ 63 - 2), pos (2 ^ 63 - 1)) x.now b (search (rules, tests)))) in
    within_range_fault c.args.pairs.now c.all.result None all c.if-not-all.false (sym c.in_default.is ∙ c.first_crossed.ensures)

pub returns-then-not-all-clause-fault : goal.returns-then-not-all-clause-fault
returns-then-not-all-clause-fault c =
    let all : c.all.result ≡ list_all is_in_range c.args.pairs.now = all_from_yields_List is_in_range _ _ c.all.result c.all.ensures.ran (YieldsList-from_slice c.args.pairs.now c.iter.ensures.rest) (λ x b q k. (search (rules, tests), in_range_is (negsuc (2 ^ 63 - 2), pos (2 ^ 63 - 1)) x.now b (search (rules, tests)))) in
    sym (some_range_fault c.args.pairs.now c.all.result all c.if-not-all.true)

pub returns-in_err-to_interval_set-clause-fault : goal.returns-in_err-to_interval_set-clause-fault
returns-in_err-to_interval_set-clause-fault c =
    let all : c.all.result ≡ list_all is_in_range c.args.pairs.now = all_from_yields_List is_in_range _ _ c.all.result c.all.ensures.ran (YieldsList-from_slice c.args.pairs.now c.iter.ensures.rest) (λ x b q k. (search (rules, tests), in_range_is (negsuc (2 ^ 63 - 2), pos (2 ^ 63 - 1)) x.now b (search (rules, tests)))) in
    let none : pairs_fault c.args.pairs.now ≡ None = within_range_fault c.args.pairs.now c.all.result None all c.if-not-all.false (sym c.in_default.is ∙ c.first_crossed.ensures) in
    rw none (search rules)

pub returns-in-Some-clause-fault : goal.returns-in-Some-clause-fault
returns-in-Some-clause-fault c =
    let all : c.all.result ≡ list_all is_in_range c.args.pairs.now = all_from_yields_List is_in_range _ _ c.all.result c.all.ensures.ran (YieldsList-from_slice c.args.pairs.now c.iter.ensures.rest) (λ x b q k. (search (rules, tests), in_range_is (negsuc (2 ^ 63 - 2), pos (2 ^ 63 - 1)) x.now b (search (rules, tests)))) in
    let same = sym (within_range_fault c.args.pairs.now c.all.result (Some c.in-Some.pair) all c.if-not-all.false (sym c.in-Some.is ∙ c.first_crossed.ensures)) in
    let a : SFits w64 c.in-Some.pair.0 = search rules in
    let b : SFits w64 c.in-Some.pair.1 = search rules in
    rw (to_z-of_z w64 c.in-Some.pair.0 a, to_z-of_z w64 c.in-Some.pair.1 b) same
