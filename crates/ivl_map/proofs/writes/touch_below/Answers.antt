use Rattle.std.proofs.Common.{◌≡◌, true, false, ◌-◌, ◌<◌, ℤ, pos, ◌+ℤ◌, get_or, length, sym, subst, ◌∙◌, arith}
use Rattle.std.proofs.lemmas.Int.{ints}
use Rattle.ivl_laws.proofs.Adding.{untrue}
use Rattle.ivl_laws.proofs.Intervals.{some_is_not_crossed}
use Rattle.ivl_laws.proofs.Slices.{same_item}
use Rattle.ivl_map.proofs.Lists.{open_at}
use Rattle.ivl_map.proofs.Searching.{end_below_at}
use Rattle.ivl_map.proofs.Writing.{free_at_start, free_below, joined_below, unjoined_below}
use Rattle.ivl_map.proofs.writes.touch_below.Goals as goal

pub upper-requires : goal.upper-requires
upper-requires g c =
    let E = c.args.entries.now in
    let r = c.index-entries-last.result in
    let most = c.requires.at_most in
    let some = c.if-at-eq0.false in
    (some_is_not_crossed (get_or E (c.args.at - 1) r).0).1 (open_at g.V.PartialEq.eq E (c.args.at - 1) r c.requires.entries (omega (arith, most, some)))

pub are_next-requires-clause-in_order : goal.are_next-requires-clause-in_order
are_next-requires-clause-in_order g c =
    let E = c.args.entries.now in
    let r = c.index-entries-last.result in
    let u = g.B.Width.value c.args.lower in
    let most = c.requires.at_most in
    let some = c.if-at-eq0.false in
    let up : g.B.Width.value c.upper.result ≡ (get_or E (c.args.at - 1) r).0.1 = c.upper.ensures.value in
    let lt = end_below_at u E (c.args.at - 1) c.args.at r (omega (arith, some)) (omega (arith, most, some)) c.requires.below in
    omega (arith, ints, up, lt)

pub returns-then-at-eq0-clause-joins : goal.returns-then-at-eq0-clause-joins
returns-then-at-eq0-clause-joins g c =
    let eq = g.V.PartialEq.eq in
    let o = g.met.V.Eq.laws in
    let E = c.args.entries.now in
    let u = g.B.Width.value c.args.lower in
    let x = c.args.value.now in
    unjoined_below eq o E c.args.at u x c.requires.entries c.requires.below c.requires.above (free_at_start eq o E c.args.at u x c.if-at-eq0.true)

pub returns-else-are_next-clause-joins : goal.returns-else-are_next-clause-joins
returns-else-are_next-clause-joins g c =
    let eq = g.V.PartialEq.eq in
    let o = g.met.V.Eq.laws in
    let E = c.args.entries.now in
    let k = c.args.at - 1 in
    let r = c.index-entries-last.result in
    let u = g.B.Width.value c.args.lower in
    let x = c.args.value.now in
    let most = c.requires.at_most in
    let some = c.if-at-eq0.false in
    let less : k < length E = omega (arith, most, some) in
    let up : g.B.Width.value c.upper.result ≡ (get_or E k r).0.1 = c.upper.ensures.value in
    unjoined_below eq o E c.args.at u x c.requires.entries c.requires.below c.requires.above
    (free_below eq o E c.args.at k r u x c.requires.entries less (omega (arith, some)) (end_below_at u E k c.args.at r (omega (arith, some)) less c.requires.below)
    (λ t. absurd (untrue _ c.if-are_next.false c.are_next.ensures (omega (arith, ints, t, up)))))

pub returns-then-eq-clause-joins : goal.returns-then-eq-clause-joins
returns-then-eq-clause-joins g c =
    let eq = g.V.PartialEq.eq in
    let o = g.met.V.Eq.laws in
    let E = c.args.entries.now in
    let k = c.args.at - 1 in
    let r = c.index-entries-last.result in
    let u = g.B.Width.value c.args.lower in
    let x = c.args.value.now in
    let most = c.requires.at_most in
    let some = c.if-at-eq0.false in
    let less : k < length E = omega (arith, most, some) in
    let up : g.B.Width.value c.upper.result ≡ (get_or E k r).0.1 = c.upper.ensures.value in
    let next : u ≡ g.B.Width.value c.upper.result +ℤ pos 1 = c.are_next.ensures.0 c.if-are_next.true in
    let P : (ℤ × ℤ) × g.row.V.Denot → Type 0 = λ e. eq e.1 x ≡ true in
    let same : eq (get_or E k r).1 x ≡ true = subst P (same_item E k c.index-entries-last-then-are_next.result r less) (sym c.eq.ensures ∙ c.if-eq.true) in
    let filled = open_at eq E k r c.requires.entries less in
    joined_below eq o E k r u (g.B.Width.value c.lower.result) x c.requires.entries less c.lower.ensures.value (omega (arith, ints, up, next, filled)) (omega (arith, ints, up, next)) same

pub returns-else-eq-clause-joins : goal.returns-else-eq-clause-joins
returns-else-eq-clause-joins g c =
    let eq = g.V.PartialEq.eq in
    let o = g.met.V.Eq.laws in
    let E = c.args.entries.now in
    let k = c.args.at - 1 in
    let r = c.index-entries-last.result in
    let u = g.B.Width.value c.args.lower in
    let x = c.args.value.now in
    let most = c.requires.at_most in
    let some = c.if-at-eq0.false in
    let less : k < length E = omega (arith, most, some) in
    let P : (ℤ × ℤ) × g.row.V.Denot → Type 0 = λ e. eq e.1 x ≡ false in
    let differ : eq (get_or E k r).1 x ≡ false = subst P (same_item E k c.index-entries-last-then-are_next.result r less) (sym c.eq.ensures ∙ c.if-eq.false) in
    unjoined_below eq o E c.args.at u x c.requires.entries c.requires.below c.requires.above
    (free_below eq o E c.args.at k r u x c.requires.entries less (omega (arith, some)) (end_below_at u E k c.args.at r (omega (arith, some)) less c.requires.below) (λ t. differ))
