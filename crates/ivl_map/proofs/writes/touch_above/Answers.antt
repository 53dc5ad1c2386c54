use Rattle.std.proofs.Common.{◌≡◌, true, false, ℕ, suc, ◌+◌, ◌<◌, ℤ, pos, ◌+ℤ◌, drop, get_or, length, sym, subst, ◌∙◌, arith}
use Rattle.std.proofs.lemmas.Int.{ints}
use Rattle.ivl_laws.proofs.Adding.{untrue}
use Rattle.ivl_laws.proofs.Intervals.{some_is_not_crossed}
use Rattle.ivl_laws.proofs.Slices.{same_item}
use Rattle.ivl_map.specs.Entries.{JoinsAbove}
use Rattle.ivl_map.proofs.Lists.{open_at}
use Rattle.ivl_map.proofs.Searching.{start_above_at}
use Rattle.ivl_map.proofs.Writing.{free_above, free_at_end, joined_above, unjoined_above}
use Rattle.ivl_map.proofs.writes.touch_above.Goals as goal

pub lower-requires : goal.lower-requires
lower-requires g c =
    let E = c.args.entries.now in
    let r = c.index-entries-at.result in
    let most = c.requires.at_most in
    let some = c.if-at-entries.false in
    (some_is_not_crossed (get_or E c.args.at r).0).1 (open_at g.V.PartialEq.eq E c.args.at r c.requires.entries (omega (arith, most, some)))

pub are_next-requires-clause-in_order : goal.are_next-requires-clause-in_order
are_next-requires-clause-in_order g c =
    let E = c.args.entries.now in
    let r = c.index-entries-at.result in
    let u = g.B.Width.value c.args.upper in
    let most = c.requires.at_most in
    let some = c.if-at-entries.false in
    let low : g.B.Width.value c.lower.result ≡ (get_or E c.args.at r).0.0 = c.lower.ensures.value in
    let lt = start_above_at u E c.args.at r (omega (arith, most, some)) c.requires.above in
    omega (arith, ints, low, lt)

pub returns-then-at-entries-clause-joins : goal.returns-then-at-entries-clause-joins
returns-then-at-entries-clause-joins g c =
    let eq = g.V.PartialEq.eq in
    let o = g.met.V.Eq.laws in
    let E = c.args.entries.now in
    let u = g.B.Width.value c.args.upper in
    let x = c.args.value.now in
    unjoined_above eq o E c.args.at u x c.requires.entries c.requires.below c.requires.above (free_at_end eq o E c.args.at u x c.if-at-entries.true)

pub returns-else-are_next-clause-joins : goal.returns-else-are_next-clause-joins
returns-else-are_next-clause-joins g c =
    let eq = g.V.PartialEq.eq in
    let o = g.met.V.Eq.laws in
    let E = c.args.entries.now in
    let k = c.args.at in
    let r = c.index-entries-at.result in
    let u = g.B.Width.value c.args.upper in
    let x = c.args.value.now in
    let most = c.requires.at_most in
    let some = c.if-at-entries.false in
    let less : k < length E = omega (arith, most, some) in
    let low : g.B.Width.value c.lower.result ≡ (get_or E k r).0.0 = c.lower.ensures.value in
    unjoined_above eq o E k u x c.requires.entries c.requires.below c.requires.above
    (free_above eq o E k r u x c.requires.entries less (start_above_at u E k r less c.requires.above)
    (λ t. absurd (untrue _ c.if-are_next.false c.are_next.ensures (omega (arith, ints, t, low)))))

pub returns-then-eq-clause-joins : goal.returns-then-eq-clause-joins
returns-then-eq-clause-joins g c =
    let eq = g.V.PartialEq.eq in
    let o = g.met.V.Eq.laws in
    let E = c.args.entries.now in
    let k = c.args.at in
    let r = c.index-entries-at.result in
    let u = g.B.Width.value c.args.upper in
    let x = c.args.value.now in
    let most = c.requires.at_most in
    let some = c.if-at-entries.false in
    let less : k < length E = omega (arith, most, some) in
    let low : g.B.Width.value c.lower.result ≡ (get_or E k r).0.0 = c.lower.ensures.value in
    let next : g.B.Width.value c.lower.result ≡ u +ℤ pos 1 = c.are_next.ensures.0 c.if-are_next.true in
    let P : (ℤ × ℤ) × g.row.V.Denot → Type 0 = λ e. eq e.1 x ≡ true in
    let same : eq (get_or E k r).1 x ≡ true = subst P (same_item E k c.index-entries-at-then-are_next.result r less) (sym c.eq.ensures ∙ c.if-eq.true) in
    let filled = open_at eq E k r c.requires.entries less in
    let Q : ℕ → Type 0 = λ n. JoinsAbove eq E (drop n E) u x (g.B.Width.value c.upper.result) in
    let more : suc k ≡ k + 1 = omega arith in
    subst Q more (joined_above eq o E k r u (g.B.Width.value c.upper.result) x c.requires.entries less c.upper.ensures.value (omega (arith, ints, low, next, filled)) (omega (arith, ints, low, next)) same)

pub returns-else-eq-clause-joins : goal.returns-else-eq-clause-joins
returns-else-eq-clause-joins g c =
    let eq = g.V.PartialEq.eq in
    let o = g.met.V.Eq.laws in
    let E = c.args.entries.now in
    let k = c.args.at in
    let r = c.index-entries-at.result in
    let u = g.B.Width.value c.args.upper in
    let x = c.args.value.now in
    let most = c.requires.at_most in
    let some = c.if-at-entries.false in
    let less : k < length E = omega (arith, most, some) in
    let P : (ℤ × ℤ) × g.row.V.Denot → Type 0 = λ e. eq e.1 x ≡ false in
    let differ : eq (get_or E k r).1 x ≡ false = subst P (same_item E k c.index-entries-at-then-are_next.result r less) (sym c.eq.ensures ∙ c.if-eq.false) in
    unjoined_above eq o E k u x c.requires.entries c.requires.below c.requires.above
    (free_above eq o E k r u x c.requires.entries less (start_above_at u E k r less c.requires.above) (λ t. differ))
