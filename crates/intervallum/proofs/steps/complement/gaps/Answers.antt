use Rattle.std.proofs.Common.{◌+◌, ◌≡◌, refl, ℕ, arith, subst}
use Rattle.std.specs.Option.{IfSome}
use Rattle.std.specs.Prelude.{Option}
use Rattle.ivl_laws.specs.Sets.{Complement}
use Rattle.ivl_laws.specs.Runs.{Covers}
use Rattle.ivl_laws.specs.Counts.{IsCountOf}
use Rattle.ivl_laws.proofs.Lengths.{length_of_complement}
use Rattle.ivl_laws.proofs.Widths.{IsCountOf-total_width}
use Rattle.ivl_walks.proofs.Complements.{all_but}
use Rattle.ivl_places.proofs.Merged.{list_of_pairs, merged_list, merged_rest, no_pairs}
use Rattle.intervallum.proofs.steps.complement.gaps.Goals as goal

pub complement-requires-clause-runs : goal.complement-requires-clause-runs
complement-requires-clause-runs g c = list_of_pairs g.B.Width.whole c.args.set.now c.as_runs-list.result.now c.as_runs-list.ensures.same c.as_runs-list.ensures.runs

pub complement-requires-clause-empty : goal.complement-requires-clause-empty
complement-requires-clause-empty g c = no_pairs c.in_ok-runs.runs.items c.in_ok-runs.ensures.items

pub unwrap-size-requires : goal.unwrap-size-requires
unwrap-size-requires g c =
    let whole = g.B.Width.whole in
    let r = merged_rest (Complement whole) c.args.set.now c.as_runs-list.result.now c.complement.new.out.items _ c.as_runs-list.ensures.same c.complement.ensures in
    let sum = all_but whole c.whole.result c.args.set.now c.args.set.now c.complement.new.out.items _ _ refl c.in_whole.ensures.within c.whole.ensures.members r c.size.ensures c.size-all.ensures.members in
    c.checked_sub.ensures.known.1 (omega (arith, sum))

pub of_runs-requires-clause-runs : goal.of_runs-requires-clause-runs
of_runs-requires-clause-runs g c =
    let whole = g.B.Width.whole in
    let r = merged_rest (Complement whole) c.args.set.now c.as_runs-list.result.now c.complement.new.out.items _ c.as_runs-list.ensures.same c.complement.ensures in
    merged_list whole _ c.complement.new.out.items r (λ z s. s.0)

pub of_runs-requires-clause-size : goal.of_runs-requires-clause-size
of_runs-requires-clause-size g c =
    let whole = g.B.Width.whole in
    let size = g.B.Output.SizeNumber.size in
    let items = c.complement.new.out.items in
    let r = merged_rest (Complement whole) c.args.set.now c.as_runs-list.result.now items _ c.as_runs-list.ensures.same c.complement.ensures in
    let sum = all_but whole c.whole.result c.args.set.now c.args.set.now items _ _ refl c.in_whole.ensures.within c.whole.ensures.members r c.size.ensures c.size-all.ensures.members in
    let P : Option g.row.B-Output.Denot → Type 0 = λ o. IfSome o (λ x. size x + size c.size.result ≡ size c.size-all.result) in
    let rest = subst P c.unwrap-size.ensures c.checked_sub.ensures.same_number in
    let Q : ℕ → Type 0 = λ n. IsCountOf n (Covers items) in
    subst Q (omega (arith, sum, rest)) (IsCountOf-total_width items r.maximal)

pub returns-clause-members : goal.returns-clause-members
returns-clause-members g c =
    rw (c.fitted.ensures, c.of_runs.ensures)
    (merged_rest (Complement g.B.Width.whole) c.args.set.now c.as_runs-list.result.now c.complement.new.out.items _ c.as_runs-list.ensures.same c.complement.ensures)

pub returns-clause-runs_at_most : goal.returns-clause-runs_at_most
returns-clause-runs_at_most g c = length_of_complement g.B.Width.whole c.args.set.now c.fitted.result (returns-clause-members g c)
