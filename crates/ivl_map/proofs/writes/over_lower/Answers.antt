use Rattle.std.proofs.Common.{◌≡◌, ◌<◌, ℤ, pos, ◌-ℤ◌, ◌≤ℤ◌, ◌<ℤ◌, get_or, length, sym, subst, arith}
use Rattle.std.proofs.lemmas.Int.{ints}
use Rattle.ivl_laws.proofs.Slices.{same_item}
use Rattle.ivl_map.proofs.Lists.{open_at}
use Rattle.ivl_map.proofs.Parts.{either_part}
use Rattle.ivl_map.proofs.Searching.{above_at, end_at, starts_later}
use Rattle.ivl_map.proofs.Writing.{from_gap}
use Rattle.ivl_map.proofs.writes.over_lower.Goals as goal

pub returns-then-end-start : goal.returns-then-end-start
returns-then-end-start g c =
    let eq = g.V.PartialEq.eq in
    let E = c.args.entries.now in
    from_gap eq c.args.interval _ c.requires.filled (starts_later eq c.args.interval.1 E c.args.end c.args.start c.if-end-start.true c.requires.entries c.requires.span.above)

pub part_below-requires-clause-filled : goal.part_below-requires-clause-filled
part_below-requires-clause-filled g c =
    let E = c.args.entries.now in
    let most = c.requires.span.at_most in
    let some = c.if-end-start.false in
    open_at g.V.PartialEq.eq E c.args.start c.index-entries-start.result c.requires.entries (omega (arith, most, some))

pub part_below-requires-clause-reaches : goal.part_below-requires-clause-reaches
part_below-requires-clause-reaches g c =
    let E = c.args.entries.now in
    let i = c.args.start in
    let r = c.index-entries-start.result in
    let most = c.requires.span.at_most in
    let some = c.if-end-start.false in
    let P : ℤ → Type 0 = λ v. v ≤ℤ (get_or E i r).0.1 in
    subst P (sym c.lower.ensures.value) (end_at c.args.interval.0 E i r (omega (arith, most, some)) c.requires.span.ends)

pub returns : goal.returns
returns g c =
    let E = c.args.entries.now in
    let i = c.args.start in
    let p = c.args.interval in
    let r = c.index-entries-start.result in
    let most = c.requires.span.at_most in
    let some = c.if-end-start.false in
    let less : i < length E = omega (arith, most, some) in
    let low : g.B.Width.value c.lower.result ≡ p.0 = c.lower.ensures.value in
    either_part c.part_below.result c.part_below.ensures.none c.part_below.ensures.some
    (λ le. above_at (p.0 -ℤ pos 1) E i r less (omega (arith, ints, le, low)))
    (λ q h. (
      omega (arith, some),
      λ d.
          let P : (ℤ × ℤ) × g.row.V.Denot → Type 0 = λ e. (e.0.0 <ℤ p.0) × (q ≡ (e.0.0, p.0 -ℤ pos 1)) in
          let Q : ℤ → Type 0 = λ v. ((get_or E i r).0.0 <ℤ v) × (q ≡ ((get_or E i r).0.0, v -ℤ pos 1)) in
          subst P (same_item E i r d less) (subst Q low h),
    ))
