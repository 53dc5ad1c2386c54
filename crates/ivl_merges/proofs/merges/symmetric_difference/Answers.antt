use Rattle.std.proofs.Common.{◌≡◌, ◌∙◌, ◌+◌, ◌-◌, ◌∷◌, ℤ, ◌-ℤ◌, [], ◌++◌, ap, arith, drop, length, take, subst, length-append, map, refl}
use Rattle.std.proofs.lemmas.Int.{ints}
use Rattle.std.proofs.lemmas.List.{length-drop}
use Rattle.std.specs.Int.{from_bool, int_max, int_min}
use Rattle.std.specs.Prelude.{cond}
use Rattle.ivl_laws.specs.Sets.{SymmetricDifference}
use Rattle.ivl_laws.specs.Runs.{Covers}
use Rattle.ivl_walks.specs.Sinks.{PutsAt}
use Rattle.ivl_laws.proofs.Orders.{eq_number, le_number, max_number, min_number, number_of_cond}
use Rattle.ivl_walks.proofs.AloneSteps.{are_heads, differ, from_fits, next_fits, one_at_most, rest_fits, rest_in_range, run_fits, some_moves, sum_same}
use Rattle.ivl_walks.proofs.Laying.{merged}
use Rattle.ivl_walks.proofs.Unions.{both_ends, same_conds}
use Rattle.ivl_walks.proofs.OneAlone.{one_alone_at_most, one_alone_begins, one_alone_ends, one_alone_next, one_alone_rest, opens, some_are_laid}
use Rattle.ivl_walks.proofs.Suffixes.{map_ended, map_rest, none_split, opened_map}
use Rattle.ivl_merges.proofs.merges.symmetric_difference.Goals as goal

pub walk-init : goal.walk-init
walk-init g c =
    let pair = g.R.Pair.pair in
    record {
      first = omega arith;
      second = omega arith;
      count = omega arith;
      low = (let e = c.min_value-from.ensures in omega (arith, ints, e));
      room = refl;
      state = one_alone_begins g.R.Bound.Width.whole (map pair c.args.a.now) (map pair c.args.b.now) (g.S.Sink.begins c.args.out.now c.args.out.now) _ _ c.min_value-from.ensures c.requires.first c.requires.second c.requires.empty;
    }

pub sub_in_range-requires : goal.sub_in_range-requires
sub_in_range-requires g c =
    let V = g.R.Bound.Width.value in
    let o = g.met.R.Bound.Width.ordered in
    let pair = g.R.Pair.pair in
    let whole = g.R.Bound.Width.whole in
    let p = pair c.index-a-i.result in
    let q = pair c.index-b-j.result in
    let a = map pair c.args.a.now in
    let b = map pair c.args.b.now in
    let A = drop (c.walk.i + 1) a in
    let B = drop (c.walk.j + 1) b in
    let f = V c.walk.from in
    let s = V c.walk.start in
    let S = SymmetricDifference (Covers a) (Covers b) in
    let dl = opened_map pair c.args.a.now c.walk.i c.index-a-i.result c.walk-test.true c.index-a-i.is in
    let dm = opened_map pair c.args.b.now c.walk.j c.index-b-j.result c.if-j-b.true c.index-b-j.is in
    let (W, u) = opens _ _ (p ∷ A) (q ∷ B) f s c.walk.is_joined S _ c.walk.count dl dm c.walk.invariant.state in
    let h = are_heads whole p q f s c.walk.is_joined a b W A B c.walk.i c.walk.j S c.requires.first c.requires.second dl dm u.state in
    let ex = max_number o _ _ _ c.max-x.ensures ∙ both_ends c.lower.ensures refl in
    let ey = max_number o _ _ _ c.max-y.ensures ∙ both_ends c.lower-in-walk.ensures refl in
    let en = max_number o _ _ _ c.max-next.ensures in
    next_fits whole p q f _ _ _ h ex ey en c.ne-is_filled.result _ (differ _ _ _ _ c.ne-is_filled.ensures (eq_number o _ _ _ refl)) c.one_if.ensures

pub add_in_range-from-requires : goal.add_in_range-from-requires
add_in_range-from-requires g c =
    let V = g.R.Bound.Width.value in
    let o = g.met.R.Bound.Width.ordered in
    let pair = g.R.Pair.pair in
    let whole = g.R.Bound.Width.whole in
    let p = pair c.index-a-i.result in
    let q = pair c.index-b-j.result in
    let a = map pair c.args.a.now in
    let b = map pair c.args.b.now in
    let A = drop (c.walk.i + 1) a in
    let B = drop (c.walk.j + 1) b in
    let f = V c.walk.from in
    let s = V c.walk.start in
    let S = SymmetricDifference (Covers a) (Covers b) in
    let dl = opened_map pair c.args.a.now c.walk.i c.index-a-i.result c.walk-test.true c.index-a-i.is in
    let dm = opened_map pair c.args.b.now c.walk.j c.index-b-j.result c.if-j-b.true c.index-b-j.is in
    let (W, u) = opens _ _ (p ∷ A) (q ∷ B) f s c.walk.is_joined S _ c.walk.count dl dm c.walk.invariant.state in
    let h = are_heads whole p q f s c.walk.is_joined a b W A B c.walk.i c.walk.j S c.requires.first c.requires.second dl dm u.state in
    from_fits whole p q f _ _ _ _ c.ne-is_left.result h c.upper-u.ensures c.upper-v.ensures (min_number o _ _ _ c.min-in-walk.ensures) (differ _ _ _ _ c.ne-is_left.ensures (eq_number o _ _ _ refl)) c.one_if-in-walk.ensures

pub walk-smaller : goal.walk-smaller
walk-smaller g c =
    let o = g.met.R.Bound.Width.ordered in
    let some = some_moves c.le-in-walk.result c.le-in-walk-2.result _ _ (le_number o _ _ _ c.le-in-walk.ensures) (le_number o _ _ _ c.le-in-walk-2.ensures) in
    omega (arith, some, c.walk-test.true, c.if-j-b.true, c.from-i.ensures, c.from-j.ensures)

pub walk-preserved : goal.walk-preserved
walk-preserved g c =
    let V = g.R.Bound.Width.value in
    let o = g.met.R.Bound.Width.ordered in
    let pair = g.R.Pair.pair in
    let whole = g.R.Bound.Width.whole in
    let p = pair c.index-a-i.result in
    let q = pair c.index-b-j.result in
    let a = map pair c.args.a.now in
    let b = map pair c.args.b.now in
    let A = drop (c.walk.i + 1) a in
    let B = drop (c.walk.j + 1) b in
    let f = V c.walk.from in
    let s = V c.walk.start in
    let S = SymmetricDifference (Covers a) (Covers b) in
    let dl = opened_map pair c.args.a.now c.walk.i c.index-a-i.result c.walk-test.true c.index-a-i.is in
    let dm = opened_map pair c.args.b.now c.walk.j c.index-b-j.result c.if-j-b.true c.index-b-j.is in
    let (W, u) = opens _ _ (p ∷ A) (q ∷ B) f s c.walk.is_joined S _ c.walk.count dl dm c.walk.invariant.state in
    let h = are_heads whole p q f s c.walk.is_joined a b W A B c.walk.i c.walk.j S c.requires.first c.requires.second dl dm u.state in
    let ex = max_number o _ _ _ c.max-x.ensures ∙ both_ends c.lower.ensures refl in
    let ey = max_number o _ _ _ c.max-y.ensures ∙ both_ends c.lower-in-walk.ensures refl in
    let en = max_number o _ _ _ c.max-next.ensures in
    let k = c.walk.count - c.from-count.result in
    let place : k ≡ c.walk.count - from_bool c.walk.is_joined = omega (arith, c.from-count.ensures) in
    let eu = ap V c.select_unpredictable-upper.ensures ∙ number_of_cond V c.le.result _ _ ∙ same_conds c.le.result c.upper-u.ensures c.upper-v.ensures in
    let es = ap V c.select_unpredictable-start.ensures ∙ number_of_cond V c.walk.is_joined _ _ ∙ same_conds c.walk.is_joined refl (min_number o _ _ _ c.min.ensures) in
    let ee = min_number o _ _ _ c.min-end.ensures ∙ ap (λ (d : ℤ). int_min (V c.select_unpredictable-upper.result) d) (c.sub_in_range.ensures ∙ ap (λ (d : ℤ). V c.max-next.result -ℤ d) c.one_if.ensures) in
    let eg = c.add_in_range-from.ensures ∙ sum_same (min_number o _ _ _ c.min-in-walk.ensures) c.one_if-in-walk.ensures in
    let ends = le_number o _ _ _ c.le-in-walk.ensures in
    let other = le_number o _ _ _ c.le-in-walk-2.ensures in
    let some = some_moves c.le-in-walk.result c.le-in-walk-2.result _ _ ends other in
    let one = one_at_most c.ne-is_filled.result in
    let first = one_at_most c.le-in-walk.result in
    let second = one_at_most c.le-in-walk-2.result in
    let H = g.S.Sink.begins c.args.out.now c.walk.out in
    let H' = g.S.Sink.begins c.args.out.now c.put_if.new.self in
    let puts = subst (λ (r : ℤ × ℤ). PutsAt k c.ne-is_filled.result r H H') c.of.ensures (c.put_if.ensures.list c.args.out.now) in
    let room = c.walk.invariant.room in
    let room' = c.put_if.ensures.room in
    record {
      first = omega (arith, first, c.walk-test.true, c.from-i.ensures);
      second = omega (arith, second, c.if-j-b.true, c.from-j.ensures);
      count = omega (arith, some, one, c.walk.invariant.count, c.from-i.ensures, c.from-j.ensures, c.from-count-in-walk.ensures);
      low = (run_fits whole p q f _ _ _ h ex ey en c.walk.is_joined c.le.result s (V c.min.result) _ _ (V c.sub_in_range.result) _ c.walk.invariant.low (min_number o _ _ _ c.min.ensures)
          (ap V c.select_unpredictable-start.ensures ∙ number_of_cond V c.walk.is_joined _ _) eu (min_number o _ _ _ c.min-end.ensures)).0;
      room = omega (arith, room, room');
      state = rw (c.from-count-in-walk.ensures, c.from-i.ensures, c.from-j.ensures)
          (one_alone_next A B a b c.walk.i c.walk.j k c.walk.count p q f s c.walk.is_joined S H W u place dl dm refl refl _ _ _ _ _ _ ex ey en
          c.le.result (le_number o _ _ _ c.le.ensures) eu es H' c.ne-is_filled.result (differ _ _ _ _ c.ne-is_filled.ensures (eq_number o _ _ _ refl)) ee puts
          (V c.add_in_range-from.result) c.eq.result (eq_number o _ _ _ c.eq.ensures) c.le-in-walk.result c.le-in-walk-2.result c.ne-is_left.result _ _
          c.upper-u.ensures c.upper-v.ensures ends other (differ _ _ _ _ c.ne-is_left.ensures (eq_number o _ _ _ refl)) eg);
    }

pub of-requires : goal.of-requires
of-requires g c =
    let V = g.R.Bound.Width.value in
    let o = g.met.R.Bound.Width.ordered in
    let pair = g.R.Pair.pair in
    let whole = g.R.Bound.Width.whole in
    let p = pair c.index-a-i.result in
    let q = pair c.index-b-j.result in
    let a = map pair c.args.a.now in
    let b = map pair c.args.b.now in
    let A = drop (c.walk.i + 1) a in
    let B = drop (c.walk.j + 1) b in
    let f = V c.walk.from in
    let s = V c.walk.start in
    let S = SymmetricDifference (Covers a) (Covers b) in
    let dl = opened_map pair c.args.a.now c.walk.i c.index-a-i.result c.walk-test.true c.index-a-i.is in
    let dm = opened_map pair c.args.b.now c.walk.j c.index-b-j.result c.if-j-b.true c.index-b-j.is in
    let (W, u) = opens _ _ (p ∷ A) (q ∷ B) f s c.walk.is_joined S _ c.walk.count dl dm c.walk.invariant.state in
    let h = are_heads whole p q f s c.walk.is_joined a b W A B c.walk.i c.walk.j S c.requires.first c.requires.second dl dm u.state in
    let ex = max_number o _ _ _ c.max-x.ensures ∙ both_ends c.lower.ensures refl in
    let ey = max_number o _ _ _ c.max-y.ensures ∙ both_ends c.lower-in-walk.ensures refl in
    let en = max_number o _ _ _ c.max-next.ensures in
    let eu = ap V c.select_unpredictable-upper.ensures ∙ number_of_cond V c.le.result _ _ ∙ same_conds c.le.result c.upper-u.ensures c.upper-v.ensures in
    let es = ap V c.select_unpredictable-start.ensures ∙ number_of_cond V c.walk.is_joined _ _ in
    run_fits whole p q f _ _ _ h ex ey en c.walk.is_joined c.le.result s (V c.min.result) _ _ (V c.sub_in_range.result) _ c.walk.invariant.low (min_number o _ _ _ c.min.ensures) es eu (min_number o _ _ _ c.min-end.ensures)

pub put_if-requires : goal.put_if-requires
put_if-requires g c =
    let n = c.walk.invariant.count in
    let r = c.walk.invariant.room in
    let few = c.requires.room in
    let h = c.walk-test.true in
    let k = c.if-j-b.true in
    omega (arith, n, r, few, h, k)

pub returns-in_default : goal.returns-in_default
returns-in_default g c =
    let V = g.R.Bound.Width.value in
    let pair = g.R.Pair.pair in
    let a = map pair c.args.a.now in
    let b = map pair c.args.b.now in
    let A = drop c.walk.i a in
    let B = drop c.walk.j b in
    let R = map pair c.left_of.result.now in
    let S = SymmetricDifference (Covers a) (Covers b) in
    let start = c.args.out.now in
    let parts = map_rest pair c.args.a.now c.args.b.now c.left_of.result.now c.walk.i c.walk.j c.left_of.ensures.left in
    let ended = map_ended pair c.args.a.now c.args.b.now c.walk.i c.walk.j c.left_of.ensures.ended in
    merged S _ (length c.args.a.now + length c.args.b.now) (one_alone_at_most pair c.args.a.now c.args.b.now)
    (one_alone_ends A B R _ _ c.walk.is_joined S (g.S.Sink.begins start c.walk.out) (g.S.Sink.holds start c.cut.new.self) c.walk.count parts ended
    (none_split pair c.left_of.result.now c.in_default.ensures.cases) (λ L x e. (c.cut.ensures.list start L x e).0) c.walk.invariant.state)

pub push_over-requires-clause-last : goal.push_over-requires-clause-last
push_over-requires-clause-last g c =
    let (W, u) = c.walk.invariant.state in
    let n = (c.cut.ensures.list c.args.out.now W u.held u.count).1 in
    let some = some_are_laid _ _ _ _ c.walk.is_joined _ _ c.walk.count c.walk.invariant.state in
    omega (arith, n, some)

pub push_over-requires-clause-room : goal.push_over-requires-clause-room
push_over-requires-clause-room g c =
    let (W, u) = c.walk.invariant.state in
    let n = (c.cut.ensures.list c.args.out.now W u.held u.count).1 in
    let inv = c.walk.invariant.count in
    let r = c.walk.invariant.room in
    let r' = c.cut.ensures.room in
    let few = c.requires.room in
    let rest = c.in-Some.ensures.cases.1 in
    let more = length-append (drop c.walk.i c.args.a.now) (drop c.walk.j c.args.b.now) in
    let all = ap (λ L. length L) c.left_of.ensures.left in
    let first = length-drop c.walk.i c.args.a.now in
    let second = length-drop c.walk.j c.args.b.now in
    omega (arith, n, inv, r, r', few, rest, more, all, first, second, c.walk.invariant.first, c.walk.invariant.second)

pub append-requires : goal.append-requires
append-requires g c =
    let (W, u) = c.walk.invariant.state in
    let n = (c.cut.ensures.list c.args.out.now W u.held u.count).1 in
    let inv = c.walk.invariant.count in
    let r = c.walk.invariant.room in
    let r' = c.cut.ensures.room in
    let r'' = c.push_over.ensures.room in
    let m = c.push_over.ensures.count in
    let few = c.requires.room in
    let rest = c.in-Some.ensures.cases.1 in
    let more = length-append (drop c.walk.i c.args.a.now) (drop c.walk.j c.args.b.now) in
    let all = ap (λ L. length L) c.left_of.ensures.left in
    let first = length-drop c.walk.i c.args.a.now in
    let second = length-drop c.walk.j c.args.b.now in
    omega (arith, n, inv, r, r', r'', m, few, rest, more, all, first, second, c.walk.invariant.first, c.walk.invariant.second)

pub of-requires-2 : goal.of-requires-2
of-requires-2 g c =
    let V = g.R.Bound.Width.value in
    let o = g.met.R.Bound.Width.ordered in
    let pair = g.R.Pair.pair in
    let whole = g.R.Bound.Width.whole in
    let parts = map_rest pair c.args.a.now c.args.b.now c.left_of.result.now c.walk.i c.walk.j c.left_of.ensures.left in
    let ended = map_ended pair c.args.a.now c.args.b.now c.walk.i c.walk.j c.left_of.ensures.ended in
    let opened = ap (λ L. map pair L) c.in-Some.ensures.cases.0 in
    let es = ap V c.select_unpredictable-lower.ensures ∙ number_of_cond V c.walk.is_joined _ _ in
    rest_fits whole (pair c.in-Some.head.now) c.walk.is_joined (V c.walk.start) _ (V c.walk.from) _ _
    (rest_in_range whole (pair c.in-Some.head.now) (map pair c.args.a.now) (map pair c.args.b.now) (map pair c.left_of.result.now) (map pair c.in-Some.more.now) c.walk.i c.walk.j c.requires.first c.requires.second parts ended opened)
    c.walk.invariant.low (max_number o _ _ _ c.max.ensures ∙ both_ends c.lower-2.ensures refl) es c.upper.ensures

pub returns : goal.returns
returns g c =
    let V = g.R.Bound.Width.value in
    let pair = g.R.Pair.pair in
    let a = map pair c.args.a.now in
    let b = map pair c.args.b.now in
    let A = drop c.walk.i a in
    let B = drop c.walk.j b in
    let R = map pair c.left_of.result.now in
    let S = SymmetricDifference (Covers a) (Covers b) in
    let parts = map_rest pair c.args.a.now c.args.b.now c.left_of.result.now c.walk.i c.walk.j c.left_of.ensures.left in
    let ended = map_ended pair c.args.a.now c.args.b.now c.walk.i c.walk.j c.left_of.ensures.ended in
    let o = g.met.R.Bound.Width.ordered in
    let joined = c.walk.is_joined in
    let entry = c.args.out.now in
    let k = c.walk.count - from_bool joined in
    let p = pair c.in-Some.head.now in
    let more = map pair c.in-Some.more.now in
    let start = V c.select_unpredictable-lower.result in
    let es : start ≡ cond joined (V c.walk.start) (int_max p.0 (V c.walk.from)) = ap V c.select_unpredictable-lower.ensures ∙ number_of_cond V joined _ _ ∙
    same_conds joined refl (max_number o _ _ _ c.max.ensures ∙ both_ends c.lower-2.ensures refl) in
    let is = c.of-2.ensures ∙ ap (λ (v : ℤ). (start, v)) c.upper.ensures in
    let opened = ap (λ L. map pair L) c.in-Some.ensures.cases.0 in
    let (W, u) = c.walk.invariant.state in
    let held = (c.cut.ensures.list entry W u.held u.count).0 in
    let over = subst (λ (r : ℤ × ℤ). g.S.Sink.holds entry c.push_over.new.self (take (length W - from_bool joined) W ++ r ∷ [])) is (c.push_over.ensures.list entry W held) in
    merged S _ (length c.args.a.now + length c.args.b.now) (one_alone_at_most pair c.args.a.now c.args.b.now)
    (one_alone_rest A B _ _ joined S (g.S.Sink.begins entry c.walk.out) W c.walk.count k u refl p R more start (g.S.Sink.holds entry c.append.new.out) parts ended opened es (c.append.ensures entry _ over))
