use Rattle.std.proofs.Common.{ℤ, sym, subst}
use Rattle.ivl_laws.specs.Sets.{IsBetween, SameMembers}
use Rattle.ivl_buffers.proofs.EditedSets.{without_pair}
use Rattle.ivl_buffers.proofs.Pairs.{normal_members}
use Rattle.ivl_buffers.proofs.edits.removed.Goals as goal

pub returns : goal.returns
returns g c =
    let p = g.R.Pair.pair c.args.run in
    let same = subst (λ (q : ℤ × ℤ). SameMembers (IsBetween q) (IsBetween p)) (sym c.interval_of.ensures) (normal_members p) in
    without_pair _ _ p _ same c.in_ok-remove_interval.ensures.ok
