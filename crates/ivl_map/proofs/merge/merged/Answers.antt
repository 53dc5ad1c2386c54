use Rattle.std.proofs.Common.{◌≡◌, ◌⊎◌, ⊎_elim, inl, inr, ℕ, ◌+◌, ◌-◌, suc, ◌≤◌, Ok, ℤ, ◌≤ℤ◌, ◌<ℤ◌, List, drop, length, refl, subst, arith}
use Rattle.std.proofs.lemmas.Int.{ints}
use Rattle.std.specs.Fn.{FnReturnsAtPair}
use Rattle.ivl_laws.specs.Sets.{Above, IsBetween, SameMembers}
use Rattle.ivl_laws.proofs.Intervals.{some_is_not_crossed}
use Rattle.ivl_laws.proofs.Orders.{lt_number}
use Rattle.ivl_map.specs.Entries.{HasAt, IsEntriesOf, OnlyAt}
use Rattle.ivl_map.proofs.Lists.{IsEntryList-drop, IsEntryList-take}
use Rattle.ivl_interval.proofs.Pairs.{not_below}
use Rattle.ivl_laws.proofs.Slices.{from_place}
use Rattle.ivl_map.proofs.Merging.{IsMerging, first_ends_merge, head_above, head_above_too, head_ends, head_filled, head_filled_too, merge_step, merging_begins, rest_above, second_ends_merge}
use Rattle.ivl_map.proofs.merge.merged.Goals as goal
use Rattle.ivl_map.proofs.merge.merged.Goals.{then-i-entries+in_ok-push_rest, else-i-entries+in_ok-push_rest-2}

pub walk-init : goal.walk-init
walk-init g c =
    let G : g.row.V.Denot → g.row.V.Denot → g.row.V.Denot → Type 0 = λ v w x. FnReturnsAtPair g.F.Fn c.args.both v w (Ok x) in
    merging_begins g.V.PartialEq.eq g.met.V.Eq.laws G g.B.Width.whole c.whole-rest.result c.args.entries.now c.args.others.now c.in_ok-made.made.items c.requires.entries c.requires.others c.whole-rest.ensures.value c.in_ok-made.ensures.items

pub push_pair-requires-clause-run : goal.push_pair-requires-clause-run
push_pair-requires-clause-run g c =
    let eq = g.V.PartialEq.eq in
    let o = g.met.V.Eq.laws in
    let G : g.row.V.Denot → g.row.V.Denot → g.row.V.Denot → Type 0 = λ v w x. FnReturnsAtPair g.F.Fn c.args.both v w (Ok x) in
    let whole = g.B.Width.whole in
    let E = c.args.entries.now in
    let D = c.args.others.now in
    let i = c.walk.i in
    let j = c.walk.j in
    let p = c.in-Some.pair.0 in
    let q = c.in-Some.pair.1 in
    let found = c.in-Some.ensures in
    let d = c.index-entries-i.result in
    let f = c.index-others-j.result in
    let M = c.walk.made.items in
    let r = c.walk.rest in
    let l = c.walk.invariant in
    head_filled eq o G whole E D M M i j d f p q r r p.1 c.requires.entries c.requires.others found.0 found.1 (found.2 d) (found.3 f) l

pub push_pair-requires-clause-other : goal.push_pair-requires-clause-other
push_pair-requires-clause-other g c =
    let eq = g.V.PartialEq.eq in
    let o = g.met.V.Eq.laws in
    let G : g.row.V.Denot → g.row.V.Denot → g.row.V.Denot → Type 0 = λ v w x. FnReturnsAtPair g.F.Fn c.args.both v w (Ok x) in
    let whole = g.B.Width.whole in
    let E = c.args.entries.now in
    let D = c.args.others.now in
    let i = c.walk.i in
    let j = c.walk.j in
    let p = c.in-Some.pair.0 in
    let q = c.in-Some.pair.1 in
    let found = c.in-Some.ensures in
    let d = c.index-entries-i.result in
    let f = c.index-others-j.result in
    let M = c.walk.made.items in
    let r = c.walk.rest in
    let l = c.walk.invariant in
    head_filled_too eq o G whole E D M M i j d f p q r r p.1 c.requires.entries c.requires.others found.0 found.1 (found.2 d) (found.3 f) l

pub push_pair-requires-clause-entries : goal.push_pair-requires-clause-entries
push_pair-requires-clause-entries g c =
    c.walk.invariant.maximal

pub push_pair-requires-clause-above : goal.push_pair-requires-clause-above
push_pair-requires-clause-above g c =
    let eq = g.V.PartialEq.eq in
    let o = g.met.V.Eq.laws in
    let G : g.row.V.Denot → g.row.V.Denot → g.row.V.Denot → Type 0 = λ v w x. FnReturnsAtPair g.F.Fn c.args.both v w (Ok x) in
    let whole = g.B.Width.whole in
    let E = c.args.entries.now in
    let D = c.args.others.now in
    let i = c.walk.i in
    let j = c.walk.j in
    let p = c.in-Some.pair.0 in
    let q = c.in-Some.pair.1 in
    let found = c.in-Some.ensures in
    let d = c.index-entries-i.result in
    let f = c.index-others-j.result in
    let M = c.walk.made.items in
    let r = c.walk.rest in
    let l = c.walk.invariant in
    head_above eq o G whole E D M M i j d f p q r r p.1 c.requires.entries c.requires.others found.0 found.1 (found.2 d) (found.3 f) l (head_filled eq o G whole E D M M i j d f p q r r p.1 c.requires.entries c.requires.others found.0 found.1 (found.2 d) (found.3 f) l)

pub push_pair-requires-clause-above_too : goal.push_pair-requires-clause-above_too
push_pair-requires-clause-above_too g c =
    let eq = g.V.PartialEq.eq in
    let o = g.met.V.Eq.laws in
    let G : g.row.V.Denot → g.row.V.Denot → g.row.V.Denot → Type 0 = λ v w x. FnReturnsAtPair g.F.Fn c.args.both v w (Ok x) in
    let whole = g.B.Width.whole in
    let E = c.args.entries.now in
    let D = c.args.others.now in
    let i = c.walk.i in
    let j = c.walk.j in
    let p = c.in-Some.pair.0 in
    let q = c.in-Some.pair.1 in
    let found = c.in-Some.ensures in
    let d = c.index-entries-i.result in
    let f = c.index-others-j.result in
    let M = c.walk.made.items in
    let r = c.walk.rest in
    let l = c.walk.invariant in
    head_above_too eq o G whole E D M M i j d f p q r r p.1 c.requires.entries c.requires.others found.0 found.1 (found.2 d) (found.3 f) l (head_filled_too eq o G whole E D M M i j d f p q r r p.1 c.requires.entries c.requires.others found.0 found.1 (found.2 d) (found.3 f) l)

pub upper-end-requires : goal.upper-end-requires
upper-end-requires g c =
    let eq = g.V.PartialEq.eq in
    let o = g.met.V.Eq.laws in
    let G : g.row.V.Denot → g.row.V.Denot → g.row.V.Denot → Type 0 = λ v w x. FnReturnsAtPair g.F.Fn c.args.both v w (Ok x) in
    let whole = g.B.Width.whole in
    let E = c.args.entries.now in
    let D = c.args.others.now in
    let i = c.walk.i in
    let j = c.walk.j in
    let p = c.in-Some.pair.0 in
    let q = c.in-Some.pair.1 in
    let found = c.in-Some.ensures in
    let d = c.index-entries-i.result in
    let f = c.index-others-j.result in
    let M = c.walk.made.items in
    let r = c.walk.rest in
    let l = c.walk.invariant in
    (some_is_not_crossed p).1 (head_filled eq o G whole E D M M i j d f p q r r p.1 c.requires.entries c.requires.others found.0 found.1 (found.2 d) (found.3 f) l)

pub upper-other_end-requires : goal.upper-other_end-requires
upper-other_end-requires g c =
    let eq = g.V.PartialEq.eq in
    let o = g.met.V.Eq.laws in
    let G : g.row.V.Denot → g.row.V.Denot → g.row.V.Denot → Type 0 = λ v w x. FnReturnsAtPair g.F.Fn c.args.both v w (Ok x) in
    let whole = g.B.Width.whole in
    let E = c.args.entries.now in
    let D = c.args.others.now in
    let i = c.walk.i in
    let j = c.walk.j in
    let p = c.in-Some.pair.0 in
    let q = c.in-Some.pair.1 in
    let found = c.in-Some.ensures in
    let d = c.index-entries-i.result in
    let f = c.index-others-j.result in
    let M = c.walk.made.items in
    let r = c.walk.rest in
    let l = c.walk.invariant in
    (some_is_not_crossed q).1 (head_filled_too eq o G whole E D M M i j d f p q r r p.1 c.requires.entries c.requires.others found.0 found.1 (found.2 d) (found.3 f) l)

pub walk-preserved-then-lt : goal.walk-preserved-then-lt
walk-preserved-then-lt g c =
    let eq = g.V.PartialEq.eq in
    let o = g.met.V.Eq.laws in
    let G : g.row.V.Denot → g.row.V.Denot → g.row.V.Denot → Type 0 = λ v w x. FnReturnsAtPair g.F.Fn c.args.both v w (Ok x) in
    let whole = g.B.Width.whole in
    let E = c.args.entries.now in
    let D = c.args.others.now in
    let i = c.walk.i in
    let j = c.walk.j in
    let p = c.in-Some.pair.0 in
    let q = c.in-Some.pair.1 in
    let found = c.in-Some.ensures in
    let d = c.index-entries-i.result in
    let f = c.index-others-j.result in
    let M = c.walk.made.items in
    let r = c.walk.rest in
    let l = c.walk.invariant in
    let N = c.push_pair.new.entries.items in
    let made = c.in_ok-push_pair.ensures in
    let at : g.B.Width.value c.upper-end.result ≡ p.1 = c.upper-end.ensures.value in
    let at_too : g.B.Width.value c.upper-other_end.result ≡ q.1 = c.upper-other_end.ensures.value in
    let ends = head_ends eq o G whole E D M M i j d f p q r r p.1 c.requires.entries c.requires.others found.0 found.1 (found.2 d) (found.3 f) l in
    let own = ends.0 in
    let others = ends.1 in
    let less : g.B.Width.value c.upper-end.result <ℤ g.B.Width.value c.upper-other_end.result = (lt_number g.met.B.Width.ordered _ _ _ c.lt.ensures).0 c.if-lt.true in
    let low : p.1 <ℤ q.1 = omega (arith, ints, less, at, at_too) in
    let next = c.strict_shrink_left-rest.result in
    let cut = subst (λ (u : ℤ). SameMembers (IsBetween next) (Above u (IsBetween r))) at c.strict_shrink_left-rest.ensures in
    let more : suc i ≡ i + 1 = omega arith in
    let more_too : j ≡ j + 0 = omega arith in
    subst (λ (k : ℕ). IsMerging eq G whole E D k (j) next N) more (merge_step eq o G whole E D M N i j d f p q r next p.1 c.requires.entries c.requires.others found.0 found.1 (found.2 d) (found.3 f) l made.0 made.1 made.2 cut (omega (arith, ints, low)) (omega (arith, ints, low)) (λ z s t. s) (suc i) (j) (inr (refl, omega (arith, ints, own))) (inl (refl, omega (arith, ints, low, others))))

pub walk-preserved-then-lt-2 : goal.walk-preserved-then-lt-2
walk-preserved-then-lt-2 g c =
    let eq = g.V.PartialEq.eq in
    let o = g.met.V.Eq.laws in
    let G : g.row.V.Denot → g.row.V.Denot → g.row.V.Denot → Type 0 = λ v w x. FnReturnsAtPair g.F.Fn c.args.both v w (Ok x) in
    let whole = g.B.Width.whole in
    let E = c.args.entries.now in
    let D = c.args.others.now in
    let i = c.walk.i in
    let j = c.walk.j in
    let p = c.in-Some.pair.0 in
    let q = c.in-Some.pair.1 in
    let found = c.in-Some.ensures in
    let d = c.index-entries-i.result in
    let f = c.index-others-j.result in
    let M = c.walk.made.items in
    let r = c.walk.rest in
    let l = c.walk.invariant in
    let N = c.push_pair.new.entries.items in
    let made = c.in_ok-push_pair.ensures in
    let at : g.B.Width.value c.upper-end.result ≡ p.1 = c.upper-end.ensures.value in
    let at_too : g.B.Width.value c.upper-other_end.result ≡ q.1 = c.upper-other_end.ensures.value in
    let ends = head_ends eq o G whole E D M M i j d f p q r r p.1 c.requires.entries c.requires.others found.0 found.1 (found.2 d) (found.3 f) l in
    let own = ends.0 in
    let others = ends.1 in
    let less : g.B.Width.value c.upper-other_end.result <ℤ g.B.Width.value c.upper-end.result = (lt_number g.met.B.Width.ordered _ _ _ c.lt-else-lt.ensures).0 c.if-lt-2.true in
    let low : q.1 <ℤ p.1 = omega (arith, ints, less, at, at_too) in
    let next = c.strict_shrink_left-rest-then-lt-2.result in
    let cut = subst (λ (u : ℤ). SameMembers (IsBetween next) (Above u (IsBetween r))) at_too c.strict_shrink_left-rest-then-lt-2.ensures in
    let more : i ≡ i + 0 = omega arith in
    let more_too : suc j ≡ j + 1 = omega arith in
    subst (λ (k : ℕ). IsMerging eq G whole E D i k next N) more_too (merge_step eq o G whole E D M N i j d f p q r next q.1 c.requires.entries c.requires.others found.0 found.1 (found.2 d) (found.3 f) l made.0 made.1 made.2 cut (omega (arith, ints, low)) (omega (arith, ints, low)) (λ z s t. t) (i) (suc j) (inl (refl, omega (arith, ints, low, own))) (inr (refl, omega (arith, ints, others))))

pub walk-preserved : goal.walk-preserved
walk-preserved g c =
    let eq = g.V.PartialEq.eq in
    let o = g.met.V.Eq.laws in
    let G : g.row.V.Denot → g.row.V.Denot → g.row.V.Denot → Type 0 = λ v w x. FnReturnsAtPair g.F.Fn c.args.both v w (Ok x) in
    let whole = g.B.Width.whole in
    let E = c.args.entries.now in
    let D = c.args.others.now in
    let i = c.walk.i in
    let j = c.walk.j in
    let p = c.in-Some.pair.0 in
    let q = c.in-Some.pair.1 in
    let found = c.in-Some.ensures in
    let d = c.index-entries-i.result in
    let f = c.index-others-j.result in
    let M = c.walk.made.items in
    let r = c.walk.rest in
    let l = c.walk.invariant in
    let N = c.push_pair.new.entries.items in
    let made = c.in_ok-push_pair.ensures in
    let at : g.B.Width.value c.upper-end.result ≡ p.1 = c.upper-end.ensures.value in
    let at_too : g.B.Width.value c.upper-other_end.result ≡ q.1 = c.upper-other_end.ensures.value in
    let ends = head_ends eq o G whole E D M M i j d f p q r r p.1 c.requires.entries c.requires.others found.0 found.1 (found.2 d) (found.3 f) l in
    let own = ends.0 in
    let others = ends.1 in
    let ge : g.B.Width.value c.upper-other_end.result ≤ℤ g.B.Width.value c.upper-end.result = not_below _ _ c.lt.result (lt_number g.met.B.Width.ordered _ _ _ c.lt.ensures) c.if-lt.false in
    let le : g.B.Width.value c.upper-end.result ≤ℤ g.B.Width.value c.upper-other_end.result = not_below _ _ c.lt-else-lt.result (lt_number g.met.B.Width.ordered _ _ _ c.lt-else-lt.ensures) c.if-lt-2.false in
    let low : p.1 ≡ q.1 = omega (arith, ints, le, ge, at, at_too) in
    let next = c.strict_shrink_left-rest-else-lt-2.result in
    let cut = subst (λ (u : ℤ). SameMembers (IsBetween next) (Above u (IsBetween r))) at c.strict_shrink_left-rest-else-lt-2.ensures in
    let more : suc i ≡ i + 1 = omega arith in
    let more_too : suc j ≡ j + 1 = omega arith in
    subst (λ (k : ℕ). IsMerging eq G whole E D k (j + 1) next N) more (subst (λ (k : ℕ). IsMerging eq G whole E D (suc i) k next N) more_too (merge_step eq o G whole E D M N i j d f p q r next p.1 c.requires.entries c.requires.others found.0 found.1 (found.2 d) (found.3 f) l made.0 made.1 made.2 cut (omega (arith, ints, low)) (omega (arith, ints, low)) (λ z s t. s) (suc i) (suc j) (inr (refl, omega (arith, ints, own))) (inr (refl, omega (arith, ints, low, others)))))

pub push_rest-requires-clause-entries : goal.push_rest-requires-clause-entries
push_rest-requires-clause-entries g c =
    IsEntryList-take g.V.PartialEq.eq (drop c.walk.i c.args.entries.now) (length c.args.entries.now - c.walk.i) (IsEntryList-drop g.V.PartialEq.eq c.args.entries.now c.walk.i c.requires.entries.maximal)

pub push_rest-requires-else-i-entries-clause-entries : goal.push_rest-requires-else-i-entries-clause-entries
push_rest-requires-else-i-entries-clause-entries g c =
    IsEntryList-take g.V.PartialEq.eq (drop c.walk.j c.args.others.now) (length c.args.others.now - c.walk.j) (IsEntryList-drop g.V.PartialEq.eq c.args.others.now c.walk.j c.requires.others.maximal)

pub push_rest-requires-clause-above : goal.push_rest-requires-clause-above
push_rest-requires-clause-above g c =
    let G : g.row.V.Denot → g.row.V.Denot → g.row.V.Denot → Type 0 = λ v w x. FnReturnsAtPair g.F.Fn c.args.both v w (Ok x) in
    rest_above g.V.PartialEq.eq g.met.V.Eq.laws G g.B.Width.whole c.args.entries.now c.args.others.now c.walk.i c.walk.j c.walk.rest c.walk.made.items c.walk.invariant

pub push_rest-requires-else-i-entries-clause-above : goal.push_rest-requires-else-i-entries-clause-above
push_rest-requires-else-i-entries-clause-above g c =
    let G : g.row.V.Denot → g.row.V.Denot → g.row.V.Denot → Type 0 = λ v w x. FnReturnsAtPair g.F.Fn c.args.both v w (Ok x) in
    rest_above g.V.PartialEq.eq g.met.V.Eq.laws G g.B.Width.whole c.args.entries.now c.args.others.now c.walk.i c.walk.j c.walk.rest c.walk.made.items c.walk.invariant

pub returns : goal.returns
returns g c =
    let eq = g.V.PartialEq.eq in
    let o = g.met.V.Eq.laws in
    let G : g.row.V.Denot → g.row.V.Denot → g.row.V.Denot → Type 0 = λ v w x. FnReturnsAtPair g.F.Fn c.args.both v w (Ok x) in
    let whole = g.B.Width.whole in
    let E = c.args.entries.now in
    let D = c.args.others.now in
    let i = c.walk.i in
    let j = c.walk.j in
    let M = c.walk.made.items in
    let r = c.walk.rest in
    let l = c.walk.invariant in
    let Pushed : List ((ℤ × ℤ) × g.row.V.Denot) → List ((ℤ × ℤ) × g.row.V.Denot) → Type 0 = λ N L. IsEntriesOf eq N (λ z v. OnlyAt (IsBetween r) (HasAt eq L) z v ⊎ HasAt eq M z v) in
    elim c.if-i-entries.branch [
      | then-i-entries+in_ok-push_rest w ↦
          let N = w.push_rest.new.made.items in
          let done : length D ≤ j = ⊎_elim (λ h. let less = w.if-i-entries.true in absurd (omega (arith, h, less))) (λ h. h) c.in_default.ensures in
          rw (w.made-is) (first_ends_merge eq o G whole E D i j r M N done l (subst (Pushed N) (from_place E i) w.in_ok-push_rest.ensures))
      | else-i-entries+in_ok-push_rest-2 w ↦
          let N = w.push_rest-else-i-entries.new.made.items in
          let done : length E ≤ i = let more = w.if-i-entries.false in omega (arith, more) in
          rw (w.made-is) (second_ends_merge eq o G whole E D i j r M N done l (subst (Pushed N) (from_place D j) w.in_ok-push_rest-2.ensures))
    ]
