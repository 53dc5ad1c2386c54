use Rattle.std.proofs.Common.{◌≤◌, arith, length}
use Rattle.ivl_laws.proofs.Orders.{lt_number}
use Rattle.ivl_paged.proofs.Heads.{starts_up_to_all, starts_up_to_next}
use Rattle.ivl_paged.proofs.pages.starts_from.Goals as goal

pub returns-then-len-start : goal.returns-then-len-start
returns-then-len-start g c =
    let (u, le, s) = c.requires.starts in
    let all : length c.args.pages.now ≤ c.args.start = omega (arith, c.len.ensures.value, c.if-len-start.true) in
    starts_up_to_all c.args.pages.now u (g.B.Width.value c.args.value) c.args.start le s all

pub returns-then-lt : goal.returns-then-lt
returns-then-lt g c =
    let (u, le, s) = c.requires.starts in
    starts_up_to_next c.args.pages.now u (g.B.Width.value c.args.value) (g.B.Width.value c.head.result) c.args.start c.requires.runs le s c.head.ensures
    ((lt_number g.met.B.Width.ordered _ _ _ c.lt.ensures).0 c.if-lt.true)
