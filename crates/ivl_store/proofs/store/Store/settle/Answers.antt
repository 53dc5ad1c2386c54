use Rattle.std.proofs.Common.{All, ◌+◌, refl, sym, subst, ◌∙◌}
use Rattle.ivl_laws.specs.Families.{set_at}
use Rattle.ivl_store.specs.Narrowing.{AllPresent}
use Rattle.ivl_store.proofs.Partly.{partly_settled}
use Rattle.ivl_store.proofs.Rounds.{Keeps-refl, Keeps-trans}
use Rattle.ivl_store.proofs.Steps.{no_rounds, rounds_step, on_err}
use Rattle.ivl_store.proofs.store.Store.settle.Goals as goal

pub returns-in_err-round-clause-keeps : goal.returns-in_err-round-clause-keeps
returns-in_err-round-clause-keeps g c = Keeps-trans c.args.constraints.now c.args.self.now c.loop.self c.round.new.self c.loop.invariant.1 c.round.ensures.keeps

pub loop-preserved : goal.loop-preserved
loop-preserved g c = (
  subst (λ n. All (AllPresent n) c.args.constraints.now) (sym c.round.ensures.kept_count) c.loop.invariant.0,
  Keeps-trans c.args.constraints.now c.args.self.now c.loop.self c.round.new.self c.loop.invariant.1 c.round.ensures.keeps,
  c.round.ensures.kept_count ∙ c.loop.invariant.2,
  c.in_ok-round.ensures.settled,
  (
    c.loop.invariant.4.0 + 1,
    rounds_step c.args.constraints.now c.loop.invariant.4.0 (set_at c.args.self.now) (set_at c.loop.self) (set_at c.round.new.self) c.loop.invariant.4.1
        c.in_ok-round.ensures.steps (c.in_ok-round.ensures.lost.0 c.if-branch.true),
  ),
)

pub loop-init : goal.loop-init
loop-init g c = (
  c.requires.present,
  Keeps-refl c.args.constraints.now c.args.self.now,
  refl,
  c.requires.settled,
  (0, no_rounds c.args.constraints.now (set_at c.args.self.now)),
)

pub returns-in_err-round-clause-memory : goal.returns-in_err-round-clause-memory
returns-in_err-round-clause-memory g c =
    on_err c.from_residual.result _
    (partly_settled c.args.constraints.now c.loop.invariant.4.0 (set_at c.args.self.now) (set_at c.loop.self) (set_at c.round.new.self) c.loop.invariant.4.1
    c.in_err-round.ensures.memory)

pub returns-clause-keeps : goal.returns-clause-keeps
returns-clause-keeps g c = Keeps-trans c.args.constraints.now c.args.self.now c.loop.self c.round.new.self c.loop.invariant.1 c.round.ensures.keeps
