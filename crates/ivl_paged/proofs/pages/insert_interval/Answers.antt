use Rattle.ivl_paged.proofs.Heads.{test_of_all}
use Rattle.ivl_paged.proofs.Touching.{insert_span}
use Rattle.ivl_paged.proofs.pages.insert_interval.Goals as goal

pub returns-clause-was_member : goal.returns-clause-was_member
returns-clause-was_member g c =
    test_of_all c.args.pages.now (g.B.Width.value c.lower.result) (g.B.Width.value c.one_above-upper.result) c.args.interval.0 _ _ c.in_ok-was_member.was_member c.span-start.ensures c.lower.ensures.value c.in_ok-was_member.ensures.was_member

pub insert_between-requires-clause-span : goal.insert_between-requires-clause-span
insert_between-requires-clause-span g c =
    insert_span g.B.Width.whole c.args.pages.now c.args.interval _ _ _ _ _ c.lower.ensures.value c.upper.ensures.value c.one_above-upper.ensures c.span-start.ensures
