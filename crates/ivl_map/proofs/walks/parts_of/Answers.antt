use Rattle.std.proofs.Common.{◌≡◌, ℕ, ◌+◌, suc, ℤ, ◌≤ℤ◌, ◌<ℤ◌, get_or, subst, sym, arith}
use Rattle.std.proofs.lemmas.Int.{ints}
use Rattle.ivl_laws.specs.Sets.{HasSome, Intersection, IsBetween, SameMembers}
use Rattle.ivl_laws.proofs.Intervals.{some_is_not_crossed}
use Rattle.ivl_laws.proofs.Places as places
use Rattle.ivl_laws.proofs.Orders.{le_number, not_le_number}
use Rattle.ivl_map.proofs.Lists.{open_at}
use Rattle.ivl_map.proofs.Overlaps.{IsWalked, entry_done, part_above, run_done, walk_begins, walk_ends}
use Rattle.ivl_map.proofs.walks.parts_of.Goals as goal

pub walk-init : goal.walk-init
walk-init g c = walk_begins g.V.PartialEq.eq g.met.V.Eq.laws c.args.entries.now c.args.runs.now c.requires.entries c.requires.runs c.new-made.result.items c.new-made.ensures.items

pub push_part-requires-clause-entries : goal.push_part-requires-clause-entries
push_part-requires-clause-entries g c = c.walk.invariant.maximal

pub push_part-requires-clause-above : goal.push_part-requires-clause-above
push_part-requires-clause-above g c = λ filled.
    let eq = g.V.PartialEq.eq in
    let o = g.met.V.Eq.laws in
    let E = c.args.entries.now in
    let R = c.args.runs.now in
    let i = c.walk.i in
    let j = c.walk.j in
    let p = c.in-Some.both.0 in
    let q = c.in-Some.both.1 in
    let found = c.in-Some.ensures in
    let d = c.index-entries-i.result in
    let D = c.walk.made.items in
    let e : p ≡ (get_or E i d).0 = found.2 d in
    let f : q ≡ get_or R j q = found.3 in
    let P : ℤ × ℤ → Type 0 = λ r. SameMembers (IsBetween c.intersection-part.result) (Intersection (IsBetween r) (IsBetween (get_or R j q))) in
    let Q : ℤ × ℤ → Type 0 = λ r. SameMembers (IsBetween c.intersection-part.result) (Intersection (IsBetween p) (IsBetween r)) in
    let same = subst P e (subst Q f c.intersection-part.ensures) in
    part_above eq o E R c.requires.entries c.requires.runs i j d q c.intersection-part.result D D found.0 found.1 same c.walk.invariant filled

pub upper-end-requires : goal.upper-end-requires
upper-end-requires g c =
    let eq = g.V.PartialEq.eq in
    let o = g.met.V.Eq.laws in
    let E = c.args.entries.now in
    let R = c.args.runs.now in
    let i = c.walk.i in
    let j = c.walk.j in
    let p = c.in-Some.both.0 in
    let q = c.in-Some.both.1 in
    let found = c.in-Some.ensures in
    let d = c.index-entries-i.result in
    let D = c.walk.made.items in
    let e : p ≡ (get_or E i d).0 = found.2 d in
    let f : q ≡ get_or R j q = found.3 in
    let H : ℤ × ℤ → Type 0 = λ r. HasSome (IsBetween r) in
    subst H (sym e) ((some_is_not_crossed (get_or E i d).0).1 (open_at eq E i d c.requires.entries found.0))

pub upper-other_end-requires : goal.upper-other_end-requires
upper-other_end-requires g c =
    let eq = g.V.PartialEq.eq in
    let o = g.met.V.Eq.laws in
    let E = c.args.entries.now in
    let R = c.args.runs.now in
    let i = c.walk.i in
    let j = c.walk.j in
    let p = c.in-Some.both.0 in
    let q = c.in-Some.both.1 in
    let found = c.in-Some.ensures in
    let d = c.index-entries-i.result in
    let D = c.walk.made.items in
    let e : p ≡ (get_or E i d).0 = found.2 d in
    let f : q ≡ get_or R j q = found.3 in
    let H : ℤ × ℤ → Type 0 = λ r. HasSome (IsBetween r) in
    subst H (sym f) ((some_is_not_crossed (get_or R j q)).1 (places.open_at R j q c.requires.runs found.1))

pub walk-preserved-then-le : goal.walk-preserved-then-le
walk-preserved-then-le g c =
    let eq = g.V.PartialEq.eq in
    let o = g.met.V.Eq.laws in
    let E = c.args.entries.now in
    let R = c.args.runs.now in
    let i = c.walk.i in
    let j = c.walk.j in
    let p = c.in-Some.both.0 in
    let q = c.in-Some.both.1 in
    let found = c.in-Some.ensures in
    let d = c.index-entries-i.result in
    let D = c.walk.made.items in
    let e : p ≡ (get_or E i d).0 = found.2 d in
    let f : q ≡ get_or R j q = found.3 in
    let P : ℤ × ℤ → Type 0 = λ r. SameMembers (IsBetween c.intersection-part.result) (Intersection (IsBetween r) (IsBetween (get_or R j q))) in
    let Q : ℤ × ℤ → Type 0 = λ r. SameMembers (IsBetween c.intersection-part.result) (Intersection (IsBetween p) (IsBetween r)) in
    let same = subst P e (subst Q f c.intersection-part.ensures) in
    let N = c.push_part.new.entries.items in
    let le : g.B.Width.value c.upper-end.result ≤ℤ g.B.Width.value c.upper-other_end.result = (le_number g.met.B.Width.ordered _ _ _ c.le.ensures).0 c.if-le.true in
    let a : g.B.Width.value c.upper-end.result ≡ p.1 = c.upper-end.ensures.value in
    let b : g.B.Width.value c.upper-other_end.result ≡ q.1 = c.upper-other_end.ensures.value in
    let ends : p.1 ≤ℤ q.1 = omega (arith, ints, le, a, b) in
    let K : ℤ × ℤ → Type 0 = λ r. r.1 ≤ℤ (get_or R j q).1 in
    let K' : ℤ × ℤ → Type 0 = λ r. p.1 ≤ℤ r.1 in
    let more : suc i ≡ i + 1 = omega arith in
    subst (λ (k : ℕ). IsWalked eq E R k j N) more
    (entry_done eq o E R c.requires.entries c.requires.runs i j d q c.intersection-part.result D N found.0 found.1 same c.walk.invariant c.in_ok-push_part.ensures (subst K e (subst K' f ends)))

pub walk-preserved : goal.walk-preserved
walk-preserved g c =
    let eq = g.V.PartialEq.eq in
    let o = g.met.V.Eq.laws in
    let E = c.args.entries.now in
    let R = c.args.runs.now in
    let i = c.walk.i in
    let j = c.walk.j in
    let p = c.in-Some.both.0 in
    let q = c.in-Some.both.1 in
    let found = c.in-Some.ensures in
    let d = c.index-entries-i.result in
    let D = c.walk.made.items in
    let e : p ≡ (get_or E i d).0 = found.2 d in
    let f : q ≡ get_or R j q = found.3 in
    let P : ℤ × ℤ → Type 0 = λ r. SameMembers (IsBetween c.intersection-part.result) (Intersection (IsBetween r) (IsBetween (get_or R j q))) in
    let Q : ℤ × ℤ → Type 0 = λ r. SameMembers (IsBetween c.intersection-part.result) (Intersection (IsBetween p) (IsBetween r)) in
    let same = subst P e (subst Q f c.intersection-part.ensures) in
    let N = c.push_part.new.entries.items in
    let lt : g.B.Width.value c.upper-other_end.result <ℤ g.B.Width.value c.upper-end.result = not_le_number g.met.B.Width.ordered _ _ _ c.le.ensures c.if-le.false in
    let a : g.B.Width.value c.upper-end.result ≡ p.1 = c.upper-end.ensures.value in
    let b : g.B.Width.value c.upper-other_end.result ≡ q.1 = c.upper-other_end.ensures.value in
    let ends : q.1 <ℤ p.1 = omega (arith, ints, lt, a, b) in
    let K : ℤ × ℤ → Type 0 = λ r. (get_or R j q).1 <ℤ r.1 in
    let K' : ℤ × ℤ → Type 0 = λ r. r.1 <ℤ p.1 in
    let more : suc j ≡ j + 1 = omega arith in
    subst (λ (k : ℕ). IsWalked eq E R i k N) more
    (run_done eq o E R c.requires.entries c.requires.runs i j d q c.intersection-part.result D N found.0 found.1 same c.walk.invariant c.in_ok-push_part.ensures (subst K e (subst K' f ends)))

pub returns : goal.returns
returns g c = walk_ends g.V.PartialEq.eq g.met.V.Eq.laws c.args.entries.now c.args.runs.now c.requires.entries c.requires.runs c.walk.i c.walk.j c.walk.made.items c.in_default.ensures c.walk.invariant
