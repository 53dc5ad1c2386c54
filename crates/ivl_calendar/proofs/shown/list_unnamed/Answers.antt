use Rattle.std.proofs.Common.{ℤ, List, ap, map}
use Rattle.ivl_calendar.specs.Shown.{without_name}
use Rattle.ivl_calendar.proofs.Bookings.{first_all, shown_all, shown_begun, shown_more}
use Rattle.ivl_calendar.proofs.Spans.{first_days, no_items}
use Rattle.ivl_calendar.proofs.shown.list_unnamed.Goals as goal

pub loop-days-init : goal.loop-days-init
loop-days-init g c = (shown_begun (map without_name c.args.unnamed.now) c.args.is_first (g.W.Write.contents c.args.writer.now), record { maximal = c.requires.maximal; dates = c.requires.dates })

pub write_unnamed-requires : goal.write_unnamed-requires
write_unnamed-requires g c =
    let days = first_days c.loop-days.left.now c.in-Some.days.now c.in-Some.later.now c.in-Some.ensures.cases.0 c.loop-days.invariant.1 in
    record { order = days.0; first = days.1; last = days.2 }

pub loop-days-preserved : goal.loop-days-preserved
loop-days-preserved g c =
    let h = c.loop-days.invariant in
    let is = c.in-Some.ensures.cases.0 in (
      shown_more (map without_name c.args.unnamed.now) c.args.is_first _ (map without_name c.loop-days.left.now) c.loop-days.is_first _ (without_name c.in-Some.days.now) (map without_name c.in-Some.later.now) _
          h.0 (ap (λ (L : List (ℤ × ℤ)). map without_name L) is) c.in_ok-write_unnamed.ensures,
      (first_days c.loop-days.left.now c.in-Some.days.now c.in-Some.later.now is h.1).3,
    )

pub returns-clause-text : goal.returns-clause-text
returns-clause-text g c =
    shown_all (map without_name c.args.unnamed.now) c.args.is_first _ (map without_name c.loop-days.left.now) c.loop-days.is_first _ c.loop-days.invariant.0
    (ap (λ (L : List (ℤ × ℤ)). map without_name L) (no_items c.loop-days.left.now c.in_default.ensures.cases))

pub returns-clause-first : goal.returns-clause-first
returns-clause-first g c =
    first_all (map without_name c.args.unnamed.now) c.args.is_first _ (map without_name c.loop-days.left.now) c.loop-days.is_first _ c.loop-days.invariant.0
    (ap (λ (L : List (ℤ × ℤ)). map without_name L) (no_items c.loop-days.left.now c.in_default.ensures.cases))
