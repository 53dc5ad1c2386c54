use Rattle.std.proofs.Common.{subst, arith}
use Rattle.std.specs.Prelude.{All}
use Rattle.ivl_laws.specs.Families.{set_at}
use Rattle.ivl_store.specs.Narrowing.{IsFixed}
use Rattle.std.proofs.lemmas.List.{take_all}
use Rattle.std.proofs.Common.{◌≡◌, true, false, sym, ◌∙◌}
use Rattle.std.proofs.lemmas.Bool.{true≢false}
use Rattle.std.proofs.Common.{inl, inr}
use Rattle.ivl_store.proofs.Totals.{taken_step}
use Rattle.ivl_store.proofs.Rounds.{round_step}
use Rattle.ivl_store.specs.Rounds.{IsPartlyNarrowedBy}
use Rattle.ivl_store.proofs.Steps.{on_err, steps_step, lost_is, narrowed_all}
use Rattle.ivl_store.proofs.store.Store.round.Goals as goal
use Rattle.ivl_store.proofs.store.Store.round.Goals.{then-lost, else-lost}
use Rattle.std.proofs.Common.{◌⊎◌}
use Rattle.ivl_store.specs.declared.store.constraint.Constraint.{Constraint}

pub loop-i-preserved : goal.loop-i-preserved
loop-i-preserved g c =
    let first : Constraint = record { x = 0; y = 0; z = 0 } in
    let both_false : c.if-lost.lost ≡ false → (c.loop-i.lost ≡ false) × (c.in_ok-less.less ≡ false) = (λ f. elim c.if-lost.branch [
      | then-lost w ↦ (let u = w.lost-is in let v = w.if-lost.true in absurd (true≢false (cc)))
      | else-lost w ↦ (w.if-lost.false, sym w.lost-is ∙ f)
    ]) in
    let one_true : c.if-lost.lost ≡ true → (c.loop-i.lost ≡ true) ⊎ (c.in_ok-less.less ≡ true) = (λ t. elim c.if-lost.branch [
      | then-lost w ↦ inl w.if-lost.true
      | else-lost w ↦ inr (sym w.lost-is ∙ t)
    ]) in (
      round_step c.args.constraints.now c.args.self.now c.loop-i.self c.narrow_next.new.self c.loop-i.lost c.in_ok-less.less c.if-lost.lost c.loop-i.i first
          c.loop-i-test.true c.loop-i.invariant.0 c.narrow_next.ensures.kept_count (c.in_ok-less.ensures.narrowed first) c.in_ok-less.ensures.lost both_false,
      taken_step g.B.Width.whole _ c.args.self.now c.loop-i.self c.narrow_next.new.self c.loop-i.lost c.in_ok-less.less c.if-lost.lost
          c.loop-i.invariant.1 c.narrow_next.ensures.kept_count (c.in_ok-less.ensures.narrowed first) c.in_ok-less.ensures.fewer one_true,
      steps_step c.args.constraints.now (set_at c.args.self.now) c.loop-i.self c.narrow_next.new.self c.loop-i.lost c.in_ok-less.less c.if-lost.lost c.loop-i.i first
          c.loop-i-test.true c.loop-i.invariant.0.keeps.within c.loop-i.invariant.2 (c.in_ok-less.ensures.narrowed first) c.in_ok-less.ensures.lost one_true both_false,
      c.in_ok-less.ensures.settled,
    )

pub returns-clause-fixed : goal.returns-clause-fixed
returns-clause-fixed g c = λ f.
    subst (λ cs. All (IsFixed (set_at c.loop-i.self)) cs) (take_all c.loop-i.i c.args.constraints.now (let b = c.loop-i-test.false in omega arith)) (c.loop-i.invariant.0.fixed f)

pub returns-clause-lost : goal.returns-clause-lost
returns-clause-lost g c = lost_is (set_at c.args.self.now) (set_at c.loop-i.self) c.loop-i.lost c.loop-i.invariant.2.taken c.loop-i.invariant.2.kept

pub returns-clause-steps : goal.returns-clause-steps
returns-clause-steps g c =
    narrowed_all c.args.constraints.now c.loop-i.i (set_at c.args.self.now) (set_at c.loop-i.self) (let b = c.loop-i-test.false in omega arith) c.loop-i.invariant.2.steps

pub returns-in_err-less-clause-memory : goal.returns-in_err-less-clause-memory
returns-in_err-less-clause-memory g c =
    let e = c.in_err-less.ensures.refused in
    let m : IsPartlyNarrowedBy c.args.constraints.now (set_at c.args.self.now) (set_at c.narrow_next.new.self) =
    subst (λ s. IsPartlyNarrowedBy c.args.constraints.now (set_at c.args.self.now) (set_at s)) (sym e)
    (c.loop-i.i, (let b = c.loop-i-test.true in omega arith), c.loop-i.invariant.2.steps) in
    on_err c.from_residual.result _ m
