use Rattle.std.proofs.Common.{◌≡◌, ◌∙◌, true, false, ℕ, ◌+◌, suc, [], List, ℤ, take, take_all, ap, refl, subst, sym, arith, rules, of_calls}
use Rattle.std.specs.Fn.{CalledAt}
use Rattle.std.specs.List.{items_where_true}
use Rattle.std.proofs.lemmas.Fn.{called_at}
use Rattle.ivl_laws.specs.Runs.{Covers, IsRunsOf}
use Rattle.ivl_map.proofs.Asking.{IsAsked, asked_in, asked_out, none_asked}
use Rattle.ivl_map.proofs.interval_map.IntervalMap.numbers_with.Goals as goal

pub loop-entry-init : goal.loop-entry-init
loop-entry-init g c = (
  search of_calls,
  none_asked _ c.args.test c.empty-numbers.result (subst (λ (L : List (ℤ × ℤ)). IsRunsOf L (Covers [])) (sym c.empty-numbers.ensures) (record { maximal = tt; members = λ z. ((λ n. n), (λ n. n)) })),
)

pub loop-entry-preserved-then-not-test : goal.loop-entry-preserved-then-not-test
loop-entry-preserved-then-not-test g c =
    let E = c.as_slice-entry-items.result.now in
    let i = c.loop-entry.entry-index in
    let d = c.entry-item.result in
    let e : c.test.result ≡ false = search rules in
    let P : (ℤ × ℤ) × g.row.V.Denot → Type 0 = λ f. CalledAt g.F.FnMut c.loop-entry.test f.1 false c.test.new.self in
    let next = asked_out (λ f k is u. CalledAt g.F.FnMut f k.1 is u) c.args.test c.loop-entry.test c.test.new.self E i d c.loop-entry.numbers c.loop-entry-test.true c.loop-entry.invariant.1
    (subst P c.entry-item.is (called_at g.F.FnMut c.test.ensures e)) in
    let more : suc i ≡ i + 1 = omega arith in
    (search of_calls, subst (λ (j : ℕ). IsAsked (λ f k is u. CalledAt g.F.FnMut f k.1 is u) c.args.test c.test.new.self (take j E) c.loop-entry.numbers) more next)

pub loop-entry-preserved : goal.loop-entry-preserved
loop-entry-preserved g c =
    let E = c.as_slice-entry-items.result.now in
    let i = c.loop-entry.entry-index in
    let d = c.entry-item.result in
    let e : c.test.result ≡ true = search rules in
    let P : (ℤ × ℤ) × g.row.V.Denot → Type 0 = λ f. CalledAt g.F.FnMut c.loop-entry.test f.1 true c.test.new.self in
    let next = asked_in (λ f k is u. CalledAt g.F.FnMut f k.1 is u) c.args.test c.loop-entry.test c.test.new.self E i d c.loop-entry.numbers c.loop-entry-test.true c.loop-entry.invariant.1 c.add_run.new.numbers d.0
    (ap (λ (f : (ℤ × ℤ) × g.row.V.Denot). f.0) c.entry-item.is) (subst P c.entry-item.is (called_at g.F.FnMut c.test.ensures e)) c.in_ok-add_run.ensures.ok in
    let more : suc i ≡ i + 1 = omega arith in
    (search of_calls, subst (λ (j : ℕ). IsAsked (λ f k is u. CalledAt g.F.FnMut f k.1 is u) c.args.test c.test.new.self (take j E) c.add_run.new.numbers) more next)

pub returns : goal.returns
returns g c =
    let E = c.as_slice-entry-items.result.now in
    let i = c.loop-entry.entry-index in
    let R = λ (f : _) (k : (ℤ × ℤ) × g.row.V.Denot) (is : _) (u : _). CalledAt g.F.FnMut f k.1 is u in
    let same = c.as_slice-entry-items.ensures.value ∙ c.self.view_is in
    let a = subst (λ (D : List ((ℤ × ℤ) × g.row.V.Denot)). IsAsked R c.args.test c.loop-entry.test D c.loop-entry.numbers) (take_all i E c.loop-entry-test.false ∙ same) c.loop-entry.invariant.1 in
    (items_where_true a.answers c.args.self.now, (a.answers, c.loop-entry.test, a.counted, a.calls, refl), a.runs)
