use Rattle.std.proofs.Common.{◌≡◌, ℕ, ◌+◌, suc, ℤ, List, take, take_all, ap, subst, arith}
use Rattle.ivl_laws.specs.Runs.{Covers, IsRunsOf}
use Rattle.ivl_laws.proofs.SetLaws.{IsRunsOf-same}
use Rattle.ivl_map.specs.Entries.{HasAt, HasValue, intervals_of}
use Rattle.ivl_map.proofs.Numbers.{numbers_next}
use Rattle.ivl_map.proofs.Windows.{keys_are}
use Rattle.ivl_map.proofs.interval_map.numbers.numbers_of.Goals as goal

pub loop-entry-preserved : goal.loop-entry-preserved
loop-entry-preserved g c =
    let E = c.args.entries.now in
    let i = c.loop-entry.entry-index in
    let d = c.entry-item.result in
    let next = numbers_next E i d c.loop-entry.numbers c.add_run.new.numbers d.0 c.loop-entry-test.true (ap (λ (e : (ℤ × ℤ) × g.row.V.Denot). e.0) c.entry-item.is) c.loop-entry.invariant c.in_ok-add_run.ensures.ok in
    let more : suc i ≡ i + 1 = omega arith in
    subst (λ (j : ℕ). IsRunsOf c.add_run.new.numbers (Covers (intervals_of (take j E)))) more next

pub returns-clause-values : goal.returns-clause-values
returns-clause-values g c =
    let eq = g.V.PartialEq.eq in
    let E = c.args.entries.now in
    IsRunsOf-same (Covers (intervals_of E)) (HasValue (HasAt eq E)) c.loop-entry.numbers (keys_are eq g.met.V.Eq.laws E)
    (subst (λ (L : List ((ℤ × ℤ) × g.row.V.Denot)). IsRunsOf c.loop-entry.numbers (Covers (intervals_of L))) (take_all c.loop-entry.entry-index E c.loop-entry-test.false) c.loop-entry.invariant)
