use Rattle.std.proofs.Common.{◌≡◌, ℕ, ◌+◌, suc, Ok, ℤ, List, take, take_all, subst, sym, arith}
use Rattle.std.specs.Fn.{FnReturnsAt}
use Rattle.ivl_laws.specs.Sets.{HasSome, Intersection, IsBetween}
use Rattle.ivl_map.specs.Entries.{HasAt, IsEntriesOf, AllEndBelow}
use Rattle.ivl_map.specs.Changes.{IsUpdated, WrittenPast}
use Rattle.ivl_map.proofs.Updating.{entry_updated, updated_below}
use Rattle.ivl_map.proofs.updates.updated.Goals as goal

pub push_updated-requires-clause-entries : goal.push_updated-requires-clause-entries
push_updated-requires-clause-entries g c = c.loop-entry.invariant.maximal

pub push_updated-requires-clause-above : goal.push_updated-requires-clause-above
push_updated-requires-clause-above g c =
    let eq = g.V.PartialEq.eq in
    let E = c.args.entries.now in
    let D = c.loop-entry.made.items in
    let G : g.row.V.Denot → g.row.V.Denot → Type 0 = λ v w. FnReturnsAt g.F.Fn c.args.change v (Ok w) in
    let P : (ℤ × ℤ) × g.row.V.Denot → Type 0 = λ e. AllEndBelow e.0.0 D in
    subst P (sym c.entry-item.is) (updated_below eq g.met.V.Eq.laws G c.args.interval E D c.loop-entry.entry-index c.entry-item.result c.requires.entries c.loop-entry-test.true c.loop-entry.invariant)

pub loop-entry-preserved : goal.loop-entry-preserved
loop-entry-preserved g c =
    let eq = g.V.PartialEq.eq in
    let E = c.args.entries.now in
    let D = c.loop-entry.made.items in
    let M = c.push_updated.new.entries.items in
    let i = c.loop-entry.entry-index in
    let d = c.entry-item.result in
    let q = c.args.interval in
    let G : g.row.V.Denot → g.row.V.Denot → Type 0 = λ v w. FnReturnsAt g.F.Fn c.args.change v (Ok w) in
    let y = c.in_ok-push_updated.ensures.0 in
    let P : (ℤ × ℤ) × g.row.V.Denot → Type 0 = λ e. (HasSome (Intersection (IsBetween e.0) (IsBetween q)) → G e.1 y) × IsEntriesOf eq M (WrittenPast eq e.0 e.1 q y (HasAt eq D)) in
    let k = subst P c.entry-item.is (c.in_ok-push_updated.ensures.1, c.in_ok-push_updated.ensures.2) in
    let next = entry_updated eq g.met.V.Eq.laws G q E D M i d y c.requires.entries c.loop-entry-test.true c.loop-entry.invariant k.0 k.1 in
    let more : suc i ≡ i + 1 = omega arith in
    subst (λ (j : ℕ). IsUpdated eq G (IsBetween q) (take j E) M) more next

pub returns : goal.returns
returns g c =
    let eq = g.V.PartialEq.eq in
    let E = c.args.entries.now in
    let G : g.row.V.Denot → g.row.V.Denot → Type 0 = λ v w. FnReturnsAt g.F.Fn c.args.change v (Ok w) in
    subst (λ (L : List ((ℤ × ℤ) × g.row.V.Denot)). IsUpdated eq G (IsBetween c.args.interval) L c.loop-entry.made.items) (take_all c.loop-entry.entry-index E c.loop-entry-test.false) c.loop-entry.invariant
