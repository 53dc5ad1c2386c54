use Rattle.std.proofs.Common.{rules, ◌∙◌, ◌+◌, ℤ, Some, Ok, refl, sym}
use Rattle.std.specs.Prelude.{codes}
use Rattle.ivl_interval.specs.Text.{interval_text}
use Rattle.intervallum.proofs.Text.{next_run, closed}
use Rattle.ivl_paged.proofs.Iterating.{nothing_left, read_all, read_next, two_at_least}
use Rattle.ivl_paged.proofs.paged_set.text.PagedSetDisplay.fmt.Goals as goal

pub runs-init : goal.runs-init
runs-init g c = (0, sym c.iter-left.ensures.rest, search (rules, c.in_ok-write_str.ensures.writes))

pub runs-preserved : goal.runs-preserved
runs-preserved g c =
    let (i, e, w) = c.runs.invariant in
    let k = read_next c.args.self.now c.next-in-runs.new.self i c.in-Some-next.run' (e ∙ c.in-Some-next.ensures.steps) in (
      i + 1,
      sym k.2,
      λ plain.
          next_run (λ (p : ℤ × ℤ). interval_text p (g.B.Display.output (g.B.Width.at p.0)) (g.B.Display.output (g.B.Width.at p.1)))
          g.W.Write.write_str_gives c.args.f.now c.runs.f c.write-in-Some-next.new.self (Ok c.in_ok-write.field-0) (Some (codes "{")) c.args.self.now i c.in-Some-next.run'
          refl k.0 k.1 (w plain) c.in_ok-write.ensures.writes,
    )

pub returns-clause-writes : goal.returns-clause-writes
returns-clause-writes g c =
    let (i, e, w) = c.runs.invariant in
    closed (λ (p : ℤ × ℤ). interval_text p (g.B.Display.output (g.B.Width.at p.0)) (g.B.Display.output (g.B.Width.at p.1)))
    g.W.Write.write_str_gives c.args.f.now c.runs.f c.write_str-3.new.self c.write_str-3.result c.args.self.now c.args.self.now i
    refl (two_at_least c.args.self.now c.iter-ahead.result c.next.new.self c.next-2.new.self c.in-Some.first c.next-2.result c.is_none.result c.iter-ahead.ensures.rest c.in-Some.ensures.steps c.next-2.ensures.steps c.is_none.ensures c.if-is_none.false)
    (read_all c.args.self.now i (e ∙ nothing_left c.runs.left c.next-in-runs.new.self c.next-in-runs.result c.next-in-runs.ensures.steps c.in_default-next.not-Some)) w c.write_str-3.ensures.writes
