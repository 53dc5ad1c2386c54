use Rattle.std.proofs.Common.{ℤ, List, subst}
use Rattle.ivl_map.specs.Entries.{IsGap}
use Rattle.ivl_map.proofs.Lookups.{gap_is_free}
use Rattle.ivl_map.proofs.writes.put_if_free.Goals as goal

pub returns-in_ok-put-in-None-clause-free : goal.returns-in_ok-put-in-None-clause-free
returns-in_ok-put-in-None-clause-free g c =
    let gap = subst (λ (L : List ((ℤ × ℤ) × g.row.V.Denot)). IsGap L c.args.interval c.ends_below-at.result) c.deref-2.ensures.value c.in-None.ensures in
    gap_is_free g.V.PartialEq.eq c.args.interval c.args.entries.now.items c.ends_below-at.result c.requires.entries gap

pub returns-in_err-put-in-None-clause-taken : goal.returns-in_err-put-in-None-clause-taken
returns-in_err-put-in-None-clause-taken g c = λ (z, h).
    let gap = subst (λ (L : List ((ℤ × ℤ) × g.row.V.Denot)). IsGap L c.args.interval c.ends_below-at.result) c.deref-2.ensures.value c.in-None.ensures in
    absurd (gap_is_free g.V.PartialEq.eq c.args.interval c.args.entries.now.items c.ends_below-at.result c.requires.entries gap z h)
