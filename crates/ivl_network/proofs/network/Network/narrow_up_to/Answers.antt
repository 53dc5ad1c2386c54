use Rattle.std.proofs.Common.{◌≡◌, ◌∙◌, ◌⊎◌, ◌<◌, ℕ, [], arith, inr, subst, sym}
use Rattle.std.specs.Prelude.{Any}
use Rattle.std.proofs.lemmas.Bool.{false≢true}
use Rattle.ivl_laws.specs.Families.{set_at}
use Rattle.ivl_network.specs.Network.{AreRuleNarrowings, IsEmptiedLast, RulesState}
use Rattle.ivl_network.specs.Settled.{KeepsSettled}
use Rattle.ivl_network.proofs.Narrowings.{narrowed_more, narrowings_keep}
use Rattle.ivl_network.proofs.Standing.{kept_more}
use Rattle.ivl_network.proofs.network.Network.narrow_up_to.Goals.{else-stops_at_empty-via-then-stops_at_empty+else-has_empty, else-stops_at_empty-via-else-stops_at_empty}
use Rattle.ivl_network.proofs.network.Network.narrow_up_to.Goals as goal

pub loop-preserved : goal.loop-preserved
loop-preserved g c = (
  c.narrow_next.ensures.rules ∙ c.loop.invariant.0,
  c.narrow_next.ensures.kept_count ∙ c.loop.invariant.1,
  c.narrow_next.ensures.marked ∙ c.loop.invariant.2,
  (let b = c.loop-test.true in omega arith),
  narrowed_more g.B.Width.whole c.loop.counter c.args.self.now c.loop.self c.narrow_next.new.self c.loop.invariant.4 c.loop.invariant.0
      (c.in_ok-narrow_next.ensures.narrowed c.if-not-branch.false) (c.in_ok-narrow_next.ensures.fewer c.if-not-branch.false),
  (λ stops empty. absurd (elim c.else-stops_at_empty.branch [
    | else-stops_at_empty-via-then-stops_at_empty+else-has_empty w ↦
        false≢true (sym w.if-has_empty.false ∙ w.has_empty.ensures.empty.1 (subst (λ (s : RulesState). Any (λ L. L ≡ []) s.domains) (sym (c.loop.invariant.5 stops empty)) empty))
    | else-stops_at_empty-via-else-stops_at_empty w ↦ false≢true (sym w.if-stops_at_empty.false ∙ stops)
  ])),
  (λ stops. inr (
    c.loop.counter,
    (let b = c.loop-test.true in omega arith),
    record {
      filled = c.loop.self.domains;
      none_empty = (λ empty. elim c.else-stops_at_empty.branch [
        | else-stops_at_empty-via-then-stops_at_empty+else-has_empty w ↦ false≢true (sym w.if-has_empty.false ∙ w.has_empty.ensures.empty.1 empty)
        | else-stops_at_empty-via-else-stops_at_empty w ↦ false≢true (sym w.if-stops_at_empty.false ∙ stops)
      ]);
      first = c.loop.invariant.4.narrowings;
      last = subst (λ cs. AreRuleNarrowings cs 1 (set_at c.loop.self.domains) (set_at c.narrow_next.new.self.domains)) c.loop.invariant.0 (c.in_ok-narrow_next.ensures.narrowed c.if-not-branch.false);
    },
  )),
  c.narrow_next.ensures.were_settled ∙ c.loop.invariant.7,
  (let n = c.in_ok-narrow_next.ensures.narrowed c.if-not-branch.false in
      kept_more c.args.self.now.rules (set_at c.args.self.now.domains) (set_at c.loop.self.domains) (set_at c.narrow_next.new.self.domains)
      c.args.self.now.settled c.loop.self.settled c.narrow_next.new.self.settled
      (narrowings_keep c.args.self.now.rules c.loop.counter c.args.self.now.domains c.loop.self.domains c.loop.invariant.4.narrowings).within
      (narrowings_keep c.loop.self.rules 1 c.loop.self.domains c.narrow_next.new.self.domains n).within c.loop.invariant.8
      (subst (λ cs. KeepsSettled cs (set_at c.loop.self.domains) (set_at c.narrow_next.new.self.domains) c.loop.self.settled c.narrow_next.new.self.settled) c.loop.invariant.0
      c.in_ok-narrow_next.ensures.stays)),
)

pub returns-in_err-narrow_next-clause-emptied : goal.returns-in_err-narrow_next-clause-emptied
returns-in_err-narrow_next-clause-emptied g c = λ stops.
    let old = c.args.self.now in
    subst (λ (s : RulesState). (s.domains ≡ old.domains) ⊎ ((count : ℕ) × (count < c.args.budget) × IsEmptiedLast old.rules count old.domains s.domains))
    (sym c.in_err-narrow_next.ensures.refused) (c.loop.invariant.6 stops)

pub returns-then-not-branch-clause-emptied : goal.returns-then-not-branch-clause-emptied
returns-then-not-branch-clause-emptied g c = λ stops.
    let old = c.args.self.now in
    subst (λ (s : RulesState). (s.domains ≡ old.domains) ⊎ ((count : ℕ) × (count < c.args.budget) × IsEmptiedLast old.rules count old.domains s.domains))
    (sym (c.in_ok-narrow_next.ensures.none c.if-not-branch.true).0) (c.loop.invariant.6 stops)

pub returns-in_err-narrow_next-clause-stays : goal.returns-in_err-narrow_next-clause-stays
returns-in_err-narrow_next-clause-stays g c =
    let old = c.args.self.now in
    subst (λ (s : RulesState). KeepsSettled old.rules (set_at old.domains) (set_at s.domains) old.settled s.settled) (sym c.in_err-narrow_next.ensures.refused) c.loop.invariant.8

pub returns-then-not-branch-clause-stays : goal.returns-then-not-branch-clause-stays
returns-then-not-branch-clause-stays g c =
    let old = c.args.self.now in
    subst (λ (s : RulesState). KeepsSettled old.rules (set_at old.domains) (set_at s.domains) old.settled s.settled) (sym (c.in_ok-narrow_next.ensures.none c.if-not-branch.true).0) c.loop.invariant.8
