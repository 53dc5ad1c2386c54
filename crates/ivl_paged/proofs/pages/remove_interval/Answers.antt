use Rattle.ivl_paged.proofs.Heads.{test_of_all}
use Rattle.ivl_paged.proofs.pages.remove_interval.Goals as goal

pub returns-clause-was_member : goal.returns-clause-was_member
returns-clause-was_member g c =
    test_of_all c.args.pages.now (g.B.Width.value c.lower.result) (g.B.Width.value c.upper.result) c.args.interval.0 _ _ c.in_ok-was_member.was_member c.span-start.ensures c.lower.ensures.value c.in_ok-was_member.ensures.was_member
