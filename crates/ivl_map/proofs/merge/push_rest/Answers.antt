use Rattle.std.proofs.Common.{◌≡◌, ◌⊎◌, ℕ, ◌+◌, suc, ℤ, List, take_all, subst, arith}
use Rattle.ivl_laws.specs.Sets.{Intersection, IsBetween, SameMembers}
use Rattle.ivl_map.specs.Entries.{HasAt, IsEntriesOf, OnlyAt, Written}
use Rattle.ivl_map.proofs.Merging.{IsPushed, one_pushed, pushed_above}
use Rattle.ivl_map.proofs.merge.push_rest.Goals as goal

pub push_part-requires-clause-above : goal.push_part-requires-clause-above
push_part-requires-clause-above g c =
    let eq = g.V.PartialEq.eq in
    let E = c.args.entries.now in
    let P : (ℤ × ℤ) × g.row.V.Denot → Type 0 = λ e. SameMembers (IsBetween c.intersection.result) (Intersection (IsBetween e.0) (IsBetween c.args.rest)) in
    pushed_above eq g.met.V.Eq.laws E c.args.made.now.items c.loop-entry.made.items c.loop-entry.made.items c.loop-entry.entry-index c.entry-item.result c.args.rest c.intersection.result c.requires.entries c.loop-entry-test.true c.requires.above (subst P c.entry-item.is c.intersection.ensures) c.loop-entry.invariant

pub loop-entry-preserved : goal.loop-entry-preserved
loop-entry-preserved g c =
    let eq = g.V.PartialEq.eq in
    let E = c.args.entries.now in
    let D = c.push_part.new.entries.items in
    let i = c.loop-entry.entry-index in
    let P : (ℤ × ℤ) × g.row.V.Denot → Type 0 = λ e. SameMembers (IsBetween c.intersection.result) (Intersection (IsBetween e.0) (IsBetween c.args.rest)) in
    let Q : (ℤ × ℤ) × g.row.V.Denot → Type 0 = λ e. IsEntriesOf eq D (Written eq c.intersection.result e.1 (HasAt eq c.loop-entry.made.items)) in
    let more : suc i ≡ i + 1 = omega arith in
    subst (λ (k : ℕ). IsPushed eq E k c.args.rest c.args.made.now.items D) more
    (one_pushed eq g.met.V.Eq.laws E c.args.made.now.items c.loop-entry.made.items D i c.entry-item.result c.args.rest c.intersection.result c.requires.entries c.loop-entry-test.true c.requires.above (subst P c.entry-item.is c.intersection.ensures) c.loop-entry.invariant (subst Q c.entry-item.is c.in_ok-push_part.ensures))

pub returns : goal.returns
returns g c =
    let eq = g.V.PartialEq.eq in
    let E = c.args.entries.now in
    let P : List ((ℤ × ℤ) × g.row.V.Denot) → Type 0 = λ L. IsEntriesOf eq c.loop-entry.made.items (λ z v. OnlyAt (IsBetween c.args.rest) (HasAt eq L) z v ⊎ HasAt eq c.args.made.now.items z v) in
    subst P (take_all c.loop-entry.entry-index E c.loop-entry-test.false) c.loop-entry.invariant
