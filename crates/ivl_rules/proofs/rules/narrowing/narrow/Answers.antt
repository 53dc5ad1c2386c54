use Rattle.std.proofs.Common.{◌≡◌, ◌↔◌, ◌∙◌, ℕ, ap, length}
use Rattle.std.specs.Prelude.{ℤ}
use Rattle.ivl_laws.specs.Families.{set_at}
use Rattle.ivl_store.specs.NarrowedSets.{narrowed_at}
use Rattle.ivl_store.proofs.Places.{after, length-after}
use Rattle.ivl_rules.specs.NarrowedSets.{AreLeftAtPlaces}
use Rattle.ivl_rules.specs.Rules.{HasPointAt, NarrowedBy, places}
use Rattle.ivl_rules.proofs.Narrowings.{points_left}
use Rattle.ivl_rules.proofs.Places.{lost_is, narrowed_after}
use Rattle.ivl_rules.proofs.rules.narrowing.narrow.Given as given
use Rattle.ivl_rules.proofs.rules.narrowing.narrow.Goals as goal
use Rattle.ivl_rules.proofs.rules.narrowing.narrow.Goals.{After-domains-3-1}

-- the domains at the end, and what they are
is_after : (g : given.Over) (c : After-domains-3-1 g) → c.put-3.new.domains ≡ after (places c.args.rule.now) c.args.domains.now c.in_ok-x.x c.in_ok-x.y c.in_ok-x.z
is_after g c =
    c.put-3.ensures ∙ ap (λ s. narrowed_at s c.places-c.result.z c.in_ok-x.z) (c.put-2.ensures ∙ ap (λ s. narrowed_at s c.places-c.result.y c.in_ok-x.y) c.put.ensures)
    ∙ ap (λ k. after k c.args.domains.now c.in_ok-x.x c.in_ok-x.y c.in_ok-x.z) c.places-c.ensures

are_left : (g : given.Over) (c : After-domains-3-1 g)
    → AreLeftAtPlaces g.B.Width.whole (places c.args.rule.now) (HasPointAt c.args.rule.now (set_at c.args.domains.now)) c.args.domains.now c.in_ok-x.x c.in_ok-x.y c.in_ok-x.z
are_left g c = c.in_ok-x.ensures

is_narrowed : (g : given.Over) (c : After-domains-3-1 g) (i : ℕ) (v : ℤ) → set_at c.put-3.new.domains i v ↔ NarrowedBy c.args.rule.now (set_at c.args.domains.now) i v
is_narrowed g c =
    let old = c.args.domains.now in
    rw (is_after g c) (narrowed_after g.B.Width.whole c.args.rule.now old _ _ _ c.requires.different c.requires.present (are_left g c))

pub returns-clause-kept_count : goal.returns-clause-kept_count
returns-clause-kept_count g c = ap length (is_after g c) ∙ length-after (places c.args.rule.now) c.args.domains.now c.in_ok-x.x c.in_ok-x.y c.in_ok-x.z

pub returns-clause-narrowed : goal.returns-clause-narrowed
returns-clause-narrowed g c = is_narrowed g c

pub returns-clause-exact : goal.returns-clause-exact
returns-clause-exact g c = points_left c.args.rule.now (set_at c.args.domains.now) (set_at c.put-3.new.domains) (is_narrowed g c)

pub returns-clause-lost : goal.returns-clause-lost
returns-clause-lost g c = rw (is_after g c) (lost_is g.B.Width.whole c.args.rule.now _ c.args.domains.now _ _ _ c.requires.different c.requires.present (are_left g c) _ c.is_any-lost.ensures)
