use Rattle.std.proofs.Common.{◌≡◌, ℕ, suc, ◌-◌, ◌<◌, ℤ, pos, ◌+ℤ◌, ◌≤ℤ◌, ◌<ℤ◌, take, get_or, length, sym, subst, arith}
use Rattle.std.proofs.lemmas.Int.{ints}
use Rattle.ivl_laws.proofs.Slices.{same_item}
use Rattle.ivl_map.specs.Entries.{AllEndBelow}
use Rattle.ivl_map.proofs.Lists.{open_at}
use Rattle.ivl_map.proofs.Parts.{either_part}
use Rattle.ivl_map.proofs.Searching.{below_to, start_by_at}
use Rattle.ivl_map.proofs.Writing.{to_gap}
use Rattle.ivl_map.proofs.writes.over_upper.Goals as goal

pub returns-then-end-start : goal.returns-then-end-start
returns-then-end-start g c =
    let E = c.args.entries.now in
    let S = c.requires.span in
    let order = S.in_order in
    let none = c.if-end-start.true in
    let same : c.args.start ≡ c.args.end = omega (arith, order, none) in
    let P : ℕ → Type 0 = λ n. AllEndBelow c.args.interval.0 (take n E) in
    to_gap g.V.PartialEq.eq c.args.interval _ c.requires.filled (subst P same S.below)

pub part_above-requires-clause-filled : goal.part_above-requires-clause-filled
part_above-requires-clause-filled g c =
    let E = c.args.entries.now in
    let most = c.requires.span.at_most in
    let some = c.if-end-start.false in
    open_at g.V.PartialEq.eq E (c.args.end - 1) c.index-entries-last.result c.requires.entries (omega (arith, most, some))

pub part_above-requires-clause-reaches : goal.part_above-requires-clause-reaches
part_above-requires-clause-reaches g c =
    let E = c.args.entries.now in
    let k = c.args.end - 1 in
    let r = c.index-entries-last.result in
    let most = c.requires.span.at_most in
    let some = c.if-end-start.false in
    let P : ℤ → Type 0 = λ v. (get_or E k r).0.0 ≤ℤ v in
    subst P (sym c.upper.ensures.value) (start_by_at c.args.interval.1 E k c.args.end r (omega (arith, some)) (omega (arith, most, some)) c.requires.span.starts)

pub returns : goal.returns
returns g c =
    let E = c.args.entries.now in
    let k = c.args.end - 1 in
    let p = c.args.interval in
    let r = c.index-entries-last.result in
    let most = c.requires.span.at_most in
    let some = c.if-end-start.false in
    let less : k < length E = omega (arith, most, some) in
    let up : g.B.Width.value c.upper.result ≡ p.1 = c.upper.ensures.value in
    let R : ℕ → Type 0 = λ n. AllEndBelow (p.1 +ℤ pos 1) (take n E) in
    let more : suc k ≡ c.args.end = omega (arith, some) in
    either_part c.part_above.result c.part_above.ensures.none c.part_above.ensures.some
    (λ le. subst R more (below_to g.V.PartialEq.eq (p.1 +ℤ pos 1) E k r less (omega (arith, ints, le, up)) c.requires.entries))
    (λ q h. (
      omega (arith, some),
      λ d.
          let P : (ℤ × ℤ) × g.row.V.Denot → Type 0 = λ e. (p.1 <ℤ e.0.1) × (q ≡ (p.1 +ℤ pos 1, e.0.1)) in
          let Q : ℤ → Type 0 = λ v. (v <ℤ (get_or E k r).0.1) × (q ≡ (v +ℤ pos 1, (get_or E k r).0.1)) in
          subst P (same_item E k r d less) (subst Q up h),
    ))
