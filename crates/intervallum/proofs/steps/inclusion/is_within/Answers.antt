use Rattle.std.proofs.Common.{refl, sym, true≢false}
use Rattle.ivl_laws.specs.Sets.{IsSubset}
use Rattle.ivl_laws.specs.Runs.{Covers}
use Rattle.ivl_laws.proofs.Adding.{untrue}
use Rattle.ivl_places.proofs.Inclusions.{none_within, within_next, within_not}
use Rattle.ivl_walks.proofs.Walking.{first_is_open}
use Rattle.intervallum.proofs.steps.inclusion.is_within.Goals as goal

pub is_held-requires : goal.is_held-requires
is_held-requires g c = first_is_open c.walk.first.left _ c.in-Some.ensures.first c.in-Some.ensures.runs.maximal

pub walk-preserved : goal.walk-preserved
walk-preserved g c =
    within_next c.walk.first.left c.advance.new.self.left c.walk.second.left c.is_held.new.walk.left c.in-Some.run'
    (IsSubset (Covers c.args.first.left) (Covers c.args.second.left)) c.in-Some.ensures.runs.maximal c.in-Some.ensures.first c.advance.ensures.left
    (c.is_held.ensures.held.0 c.if-not-is_held.false) c.is_held.ensures.left c.walk.invariant

pub returns-then-not-is_held : goal.returns-then-not-is_held
returns-then-not-is_held g c = (
  λ t. absurd (true≢false (sym t)),
  λ s. absurd (within_not c.walk.first.left c.walk.second.left c.in-Some.run' (IsSubset (Covers c.args.first.left) (Covers c.args.second.left)) c.in-Some.ensures.first
      (untrue _ c.if-not-is_held.true c.is_held.ensures.held) c.walk.invariant s),
)

pub returns : goal.returns
returns g c = ((λ _. c.walk.invariant.0 (none_within c.walk.first.left c.walk.second.left c.in_default.ensures.first)), (λ _. refl))
