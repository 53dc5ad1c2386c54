use Rattle.std.proofs.Common.{arith, subst, sym, refl, ◌+◌, ◌∙◌, Vec, Bool, Global}
use Rattle.std.proofs.lemmas.Bool.{false≢true}
use Rattle.ivl_store.proofs.Settled.{ClearedSoFar, none_cleared, clear_one, keep_one}
use Rattle.ivl_store.proofs.store.settled.unsettle.Goals as goal
use Rattle.ivl_store.proofs.store.settled.unsettle.Goals.{then-names, else-names}

pub loop-k-init : goal.loop-k-init
loop-k-init c = none_cleared c.args.constraints.now c.args.variable c.args.settled.now.items

pub loop-k-preserved : goal.loop-k-preserved
loop-k-preserved c =
    let so_far = λ (v : Vec Bool Global). ClearedSoFar c.args.constraints.now c.args.variable c.args.settled.now.items v.items (c.loop-k.k + 1) in
    elim c.if-names.branch [
      | then-names w ↦ subst so_far (sym w.settled-is)
          (clear_one c.args.constraints.now c.args.variable c.args.settled.now.items c.loop-k.settled.items c.loop-k.k c.loop-k.invariant
          (let a = c.loop-k-test.true in let b = c.loop-k.invariant.same_count in let d = c.requires in omega arith))
      | else-names w ↦ subst so_far (sym w.settled-is)
          (keep_one c.args.constraints.now c.args.variable c.args.settled.now.items c.loop-k.settled.items c.loop-k.k _ c.loop-k.invariant c.loop-k-test.true
          (λ n. false≢true (sym w.if-names.false ∙ c.names.ensures.1 n)))
    ]

pub returns-then-not-changed : goal.returns-then-not-changed
returns-then-not-changed c = record {
  same_count = refl;
  kept = (λ _. refl);
  only_cleared = (λ k m. m);
  apart = (λ t. absurd (false≢true (sym c.if-not-changed.true ∙ t)));
}

pub returns : goal.returns
returns c = record {
  same_count = c.loop-k.invariant.same_count;
  kept = (λ f. absurd (false≢true (sym f ∙ c.if-not-changed.false)));
  only_cleared = c.loop-k.invariant.only_cleared;
  apart = (λ _ k d lt. c.loop-k.invariant.apart k d (let b = c.loop-k-test.false in omega arith));
}
