use Rattle.std.proofs.Common.{rules, ◌≡◌, length, All, sym, subst, ◌∙◌, None, refl, arith}
use Rattle.ivl_store.specs.Narrowing.{AllPresent, first_unknown_of}
use Rattle.std.proofs.lemmas.Bool.{true≢false, false≢true, iff_false}
use Rattle.ivl_store.proofs.Places.{all_known}
use Rattle.ivl_store.proofs.Points.{solutions_kept}
use Rattle.std.proofs.Common.{ap, replicate, false}
use Rattle.std.proofs.lemmas.List.{length-replicate}
use Rattle.ivl_store.proofs.Settled.{none_settled}
use Rattle.ivl_store.proofs.Steps.{no_rounds, rounds_step, rounds_end, after_some}
use Rattle.ivl_laws.specs.Families.{set_at}
use Rattle.ivl_store.proofs.Rounds.{none_lost, Keeps-refl, Keeps-trans, fixed_greatest}
use Rattle.ivl_store.proofs.store.Store.propagate.Goals as goal

pub loop-init : goal.loop-init
loop-init g c =
    let h : first_unknown_of c.len.result c.args.constraints.now ≡ None = sym c.first_unknown_of.ensures ∙ c.in_default.is in
    let l : c.len.result ≡ length c.args.self.now = search rules in (
      subst (λ n. All (AllPresent n) c.args.constraints.now) l (all_known c.len.result c.args.constraints.now h),
      Keeps-refl c.args.constraints.now c.args.self.now,
      refl,
      omega arith,
      no_rounds c.args.constraints.now (set_at c.args.self.now),
      none_settled c.args.constraints.now c.in_ok-settled.settled.items (set_at c.args.self.now) _ c.in_ok-settled.ensures
          (let e : length c.in_ok-settled.settled.items ≡ length (replicate (length c.args.constraints.now) false) = ap length c.in_ok-settled.ensures in omega (arith, length-replicate (length c.args.constraints.now) false, e)),
    )

pub returns-in_err-round-clause-keeps : goal.returns-in_err-round-clause-keeps
returns-in_err-round-clause-keeps g c = Keeps-trans c.args.constraints.now c.args.self.now c.loop.self c.round.new.self c.loop.invariant.1 c.round.ensures.keeps

pub returns-then-not-branch-clause-keeps : goal.returns-then-not-branch-clause-keeps
returns-then-not-branch-clause-keeps g c = Keeps-trans c.args.constraints.now c.args.self.now c.loop.self c.round.new.self c.loop.invariant.1 c.round.ensures.keeps

pub returns-then-not-branch-clause-greatest : goal.returns-then-not-branch-clause-greatest
returns-then-not-branch-clause-greatest g c = λ _ distinct.
    let k = Keeps-trans c.args.constraints.now c.args.self.now c.loop.self c.round.new.self c.loop.invariant.1 c.round.ensures.keeps in
    fixed_greatest c.args.constraints.now c.args.self.now c.round.new.self k distinct (c.in_ok-round.ensures.fixed c.if-not-branch.true)

pub loop-preserved : goal.loop-preserved
loop-preserved g c = (
  subst (λ n. All (AllPresent n) c.args.constraints.now) (sym c.round.ensures.kept_count) c.loop.invariant.0,
  Keeps-trans c.args.constraints.now c.args.self.now c.loop.self c.round.new.self c.loop.invariant.1 c.round.ensures.keeps,
  c.round.ensures.kept_count ∙ c.loop.invariant.2,
  (let a = c.loop.invariant.3 in let b = c.in_ok-round.ensures.fewer c.if-not-branch.false in omega arith),
  rounds_step c.args.constraints.now c.loop.counter (set_at c.args.self.now) (set_at c.loop.self) (set_at c.round.new.self) c.loop.invariant.4
      c.in_ok-round.ensures.steps (c.in_ok-round.ensures.lost.0 c.if-not-branch.false),
  c.in_ok-round.ensures.settled,
)

pub returns-in_err-round-clause-kept_count : goal.returns-in_err-round-clause-kept_count
returns-in_err-round-clause-kept_count g c = c.round.ensures.kept_count ∙ c.loop.invariant.2

pub returns-then-not-branch-clause-kept_count : goal.returns-then-not-branch-clause-kept_count
returns-then-not-branch-clause-kept_count g c = c.round.ensures.kept_count ∙ c.loop.invariant.2

pub returns-clause-kept_count : goal.returns-clause-kept_count
returns-clause-kept_count g c = c.loop.invariant.2

pub returns-clause-fewer : goal.returns-clause-fewer
returns-clause-fewer g c = λ _. let a = c.loop.invariant.3 in let b = c.loop-test.false in omega arith

pub returns-clause-steps : goal.returns-clause-steps
returns-clause-steps g c =
    (c.loop.counter, c.loop.invariant.4.steps, c.loop.invariant.4.each_lost, (λ _. let b = c.loop-test.false in omega arith), (λ f. absurd (false≢true f)))

pub returns-then-not-branch-clause-steps : goal.returns-then-not-branch-clause-steps
returns-then-not-branch-clause-steps g c =
    let none = iff_false c.in_ok-round.ensures.lost c.if-not-branch.true in (
      c.loop.counter,
      rounds_end c.args.constraints.now c.loop.counter (set_at c.args.self.now) (set_at c.loop.self) (set_at c.round.new.self) c.loop.invariant.4.steps
          (none_lost c.loop.self c.round.new.self none) c.round.ensures.keeps.within,
      c.loop.invariant.4.each_lost,
      (λ f. absurd (true≢false f)),
      (λ _. (c.loop-test.true, c.in_ok-round.ensures.fixed c.if-not-branch.true)),
    )

pub returns-in_err-round-clause-memory : goal.returns-in_err-round-clause-memory
returns-in_err-round-clause-memory g c = λ _.
    let m = c.in_err-round.ensures.memory in (
      c.loop.counter,
      m.0,
      (let b = c.loop-test.true in omega arith),
      m.1,
      c.loop.invariant.4.each_lost,
      after_some c.args.constraints.now c.loop.counter m.0 (set_at c.args.self.now) (set_at c.loop.self) (set_at c.round.new.self) c.loop.invariant.4.steps m.2,
    )

pub returns-in_err-settled-clause-memory : goal.returns-in_err-settled-clause-memory
returns-in_err-settled-clause-memory g c = λ _.
    let none = no_rounds c.args.constraints.now (set_at c.args.self.now) in
    (0, 0, omega arith, omega arith, none.each_lost, (λ i v. ((λ h. h), (λ h. h))))

pub returns-in_err-round-clause-solutions : goal.returns-in_err-round-clause-solutions
returns-in_err-round-clause-solutions g c =
    let k = Keeps-trans c.args.constraints.now c.args.self.now c.loop.self c.round.new.self c.loop.invariant.1 c.round.ensures.keeps in
    solutions_kept c.args.constraints.now (set_at c.args.self.now) (set_at c.round.new.self) k.families

pub returns-then-not-branch-clause-solutions : goal.returns-then-not-branch-clause-solutions
returns-then-not-branch-clause-solutions g c =
    let k = Keeps-trans c.args.constraints.now c.args.self.now c.loop.self c.round.new.self c.loop.invariant.1 c.round.ensures.keeps in
    solutions_kept c.args.constraints.now (set_at c.args.self.now) (set_at c.round.new.self) k.families

pub returns-clause-solutions : goal.returns-clause-solutions
returns-clause-solutions g c = solutions_kept c.args.constraints.now (set_at c.args.self.now) (set_at c.loop.self) c.loop.invariant.1.families
