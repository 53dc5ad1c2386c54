use Rattle.std.proofs.Common.{◌≡◌, ◌↔◌, ℕ, arith, subst, sym, ◌∙◌, true, false}
use Rattle.std.proofs.lemmas.Bool.{false≢true}
use Rattle.std.specs.Prelude.{ℤ}
use Rattle.std.proofs.lemmas.List.{get_or_default}
use Rattle.ivl_laws.specs.Families.{set_at}
use Rattle.ivl_store.specs.Solutions.{LostMember}
use Rattle.ivl_store.specs.Narrowing.{Narrowed}
use Rattle.ivl_store.specs.Settled.{AreLost}
use Rattle.ivl_store.proofs.Settled.{fixed_narrowed}
use Rattle.ivl_store.proofs.Totals.{total_falls}
use Rattle.ivl_store.proofs.store.Store.narrow_next.Goals as goal

pub returns-then-index-clause-narrowed : goal.returns-then-index-clause-narrowed
returns-then-index-clause-narrowed g c = λ d.
    let flags = c.args.settled.now.items in let s = c.requires.settled in
    fixed_narrowed _ (set_at c.args.self.now) (s.fixed c.args.i d c.requires.in_list
    (sym (get_or_default flags c.args.i c.index.result.now false (let a = c.requires.in_list in let b = s.one_each in omega arith)) ∙ sym c.index.ensures ∙ c.if-index.true))

pub returns-then-index-clause-lost : goal.returns-then-index-clause-lost
returns-then-index-clause-lost g c = ((λ f. absurd (false≢true f)), (λ l. absurd (l.gone l.was)))

pub returns-clause-narrowed : goal.returns-clause-narrowed
returns-clause-narrowed g c = λ d.
    subst (λ k. (j : ℕ) (v : ℤ) → set_at c.narrow_known.new.self j v ↔ Narrowed k (set_at c.args.self.now) j v)
    (get_or_default c.args.constraints.now c.args.i _ d c.requires.in_list) c.in_ok-lost.ensures.narrowed

pub returns-clause-lost : goal.returns-clause-lost
returns-clause-lost g c = subst (λ b. b ≡ true ↔ LostMember (set_at c.args.self.now) (set_at c.narrow_known.new.self)) (sym c.any.ensures) c.in_ok-lost.ensures.lost.some

pub returns-clause-fewer : goal.returns-clause-fewer
returns-clause-fewer g c = λ t.
    total_falls g.B.Width.whole c.args.self.now c.narrow_known.new.self c.in_ok-lost.ensures.range c.narrow_known.ensures.kept_count (λ i v h. ((c.in_ok-lost.ensures.narrowed i v).0 h).kept)
    (c.in_ok-lost.ensures.lost.some.0 (sym c.any.ensures ∙ t))

pub returns-clause-settled : goal.returns-clause-settled
returns-clause-settled g c =
    c.settle_after.ensures.settled c.args.self.now c.narrow_known.new.self
    (λ d. subst (λ k. (j : ℕ) (v : ℤ) → set_at c.narrow_known.new.self j v ↔ Narrowed k (set_at c.args.self.now) j v)
    (get_or_default c.args.constraints.now c.args.i _ d c.requires.in_list) c.in_ok-lost.ensures.narrowed)
    (λ d. subst (λ k. AreLost k c.in_ok-lost.lost (set_at c.args.self.now) (set_at c.narrow_known.new.self))
    (get_or_default c.args.constraints.now c.args.i _ d c.requires.in_list) c.in_ok-lost.ensures.lost)
    c.requires.settled
