use Rattle.ivl_laws.specs.Sets.{IsBetween}
use Rattle.ivl_laws.proofs.Adding.{untrue}
use Rattle.ivl_laws.proofs.Intervals.{not_crossed}
use Rattle.ivl_laws.proofs.Ranges.{IsRunsOf-none, IsRunsOf-one}
use Rattle.ivl_store.proofs.store.narrowed_sets.set_of_run.Goals as goal

pub returns-then-is_empty : goal.returns-then-is_empty
returns-then-is_empty g c = rw c.requires (IsRunsOf-none (IsBetween c.args.run) (c.is_empty.ensures.members.0 c.if-is_empty.true))

pub push_run-requires-clause-filled : goal.push_run-requires-clause-filled
push_run-requires-clause-filled g c = not_crossed c.args.run (untrue _ c.if-is_empty.false c.is_empty.ensures.crossed)

pub push_run-requires-clause-apart : goal.push_run-requires-clause-apart
push_run-requires-clause-apart g c = rw c.requires (λ v m. absurd m)

pub returns : goal.returns
returns g c =
    rw (c.in_ok-push_run.ensures.ok, c.requires) (IsRunsOf-one c.args.run (not_crossed c.args.run (untrue _ c.if-is_empty.false c.is_empty.ensures.crossed)))
