use Rattle.std.proofs.Common.{◌≡◌, ◌∙◌, [], List, ap, eqb, false, subst, sym}
use Rattle.std.specs.Prelude.{ℤ}
use Rattle.ivl_laws.specs.Families.{set_at}
use Rattle.ivl_store.specs.declared.store.constraint.Constraint.{Constraint}
use Rattle.ivl_store.specs.NarrowedSets.{narrowed_at}
use Rattle.ivl_store.proofs.Places.{after, none_after}
use Rattle.ivl_store.specs.Settled.{AreLost}
use Rattle.ivl_rules.specs.Rules.{HasPointAt, TakesOne, places}
use Rattle.ivl_rules.specs.NarrowedSets.{AreLeftAtPlaces}
use Rattle.ivl_rules.proofs.Places.{narrowed_after}
use Rattle.ivl_network.proofs.Logging.{keeps_both}
use Rattle.ivl_network.specs.Settled.{AreTold}
use Rattle.ivl_network.proofs.Losses.{lost_after, one_lost, one_told, told_after}
use Rattle.ivl_network.proofs.network.narrowing.narrow_logged.Goals as goal

pub returns-clause-narrowed : goal.returns-clause-narrowed
returns-clause-narrowed g c =
    let rule = c.args.rule.now in let old = c.args.store.now in let k = c.args.c.now in
    let e : c.replace_logged-3.new.store ≡ after (places rule) old c.in_ok-x.x c.in_ok-x.y c.in_ok-x.z =
    c.replace_logged-3.ensures.put ∙ ap (λ s. narrowed_at s k.z c.in_ok-x.z) (c.replace_logged-2.ensures.put ∙ ap (λ s. narrowed_at s k.y c.in_ok-x.y) c.replace_logged.ensures.put)
    ∙ ap (λ (p : Constraint). after p old c.in_ok-x.x c.in_ok-x.y c.in_ok-x.z) c.requires.places in
    let left = subst (λ s. AreLeftAtPlaces g.B.Width.whole (places rule) (HasPointAt rule (set_at s)) s c.in_ok-x.x c.in_ok-x.y c.in_ok-x.z) c.domains-2.ensures.same c.in_ok-x.ensures in
    rw e (narrowed_after g.B.Width.whole rule old _ _ _ c.requires.different c.requires.present left)

pub returns-clause-lost : goal.returns-clause-lost
returns-clause-lost g c =
    let rule = c.args.rule.now in let old = c.args.store.now in let k = c.args.c.now in
    let e : c.replace_logged-3.new.store ≡ after (places rule) old c.in_ok-x.x c.in_ok-x.y c.in_ok-x.z =
    c.replace_logged-3.ensures.put ∙ ap (λ s. narrowed_at s k.z c.in_ok-x.z) (c.replace_logged-2.ensures.put ∙ ap (λ s. narrowed_at s k.y c.in_ok-x.y) c.replace_logged.ensures.put)
    ∙ ap (λ (p : Constraint). after p old c.in_ok-x.x c.in_ok-x.y c.in_ok-x.z) c.requires.places in
    let left = subst (λ s. AreLeftAtPlaces g.B.Width.whole (places rule) (HasPointAt rule (set_at s)) s c.in_ok-x.x c.in_ok-x.y c.in_ok-x.z) c.domains-2.ensures.same c.in_ok-x.ensures in
    rw e (lost_after g.B.Width.whole rule (HasPointAt rule (set_at old)) old _ _ _ _ c.requires.different c.requires.present left c.is_some.ensures c.is_some-2.ensures c.is_some-3.ensures)

pub returns-clause-same : goal.returns-clause-same
returns-clause-same g c = λ none.
    let k = c.args.c.now in let old = c.args.store.now in
    c.replace_logged-3.ensures.put ∙ ap (λ s. narrowed_at s k.z c.in_ok-x.z) (c.replace_logged-2.ensures.put ∙ ap (λ s. narrowed_at s k.y c.in_ok-x.y) c.replace_logged.ensures.put)
    ∙ none_after k old c.in_ok-x.x c.in_ok-x.y c.in_ok-x.z _ c.is_some.ensures c.is_some-2.ensures c.is_some-3.ensures none

pub returns-clause-past : goal.returns-clause-past
returns-clause-past g c = λ rules.
    keeps_both _ _ _ _ _ _ _ rules (keeps_both _ _ _ _ _ _ _ rules (c.replace_logged.ensures.past rules) (c.replace_logged-2.ensures.past rules)) (c.replace_logged-3.ensures.past rules)

pub returns-in-Some-clause-kept_count : goal.returns-in-Some-clause-kept_count
returns-in-Some-clause-kept_count g c = (c.in_ok-take_out_logged.ensures.past []).same_count

pub returns-in-Some-clause-narrowed : goal.returns-in-Some-clause-narrowed
returns-in-Some-clause-narrowed g c = λ i v.
    let old = c.args.store.now in
    let new = c.take_out_logged.new.store in
    let one = subst (λ (sets : List (List (ℤ × ℤ))). TakesOne c.args.rule.now (set_at sets) c.in-Some.taken.0 (g.B.Width.value c.in-Some.taken.1)) c.domains.ensures.same c.in-Some.ensures.one in
    let left = one.left i v in
    let taken = c.in_ok-take_out_logged.ensures.taken i v in
    ((λ h. left.1 (taken.0 h)), (λ h. taken.1 (left.0 h)))

pub returns-in-Some-clause-lost : goal.returns-in-Some-clause-lost
returns-in-Some-clause-lost g c =
    let rule = c.args.rule.now in
    let old = c.args.store.now in
    let new = c.take_out_logged.new.store in
    let one = subst (λ (sets : List (List (ℤ × ℤ))). TakesOne rule (set_at sets) c.in-Some.taken.0 (g.B.Width.value c.in-Some.taken.1)) c.domains.ensures.same c.in-Some.ensures.one in
    subst (λ (p : Constraint). AreLost (places rule) (record { x = eqb c.in-Some.taken.0 p.x; y = eqb c.in-Some.taken.0 p.y; z = false }) (set_at old) (set_at new))
    (sym c.requires.places)
    (one_lost rule c.in-Some.taken.0 (g.B.Width.value c.in-Some.taken.1) (set_at old) (set_at new) c.in-Some.ensures.differs one c.in_ok-take_out_logged.ensures.taken)

pub returns-clause-told : goal.returns-clause-told
returns-clause-told g c =
    let rule = c.args.rule.now in let old = c.args.store.now in let k = c.args.c.now in
    let e : c.replace_logged-3.new.store ≡ after (places rule) old c.in_ok-x.x c.in_ok-x.y c.in_ok-x.z =
    c.replace_logged-3.ensures.put ∙ ap (λ s. narrowed_at s k.z c.in_ok-x.z) (c.replace_logged-2.ensures.put ∙ ap (λ s. narrowed_at s k.y c.in_ok-x.y) c.replace_logged.ensures.put)
    ∙ ap (λ (p : Constraint). after p old c.in_ok-x.x c.in_ok-x.y c.in_ok-x.z) c.requires.places in
    let left = subst (λ s. AreLeftAtPlaces g.B.Width.whole (places rule) (HasPointAt rule (set_at s)) s c.in_ok-x.x c.in_ok-x.y c.in_ok-x.z) c.domains-2.ensures.same c.in_ok-x.ensures in
    rw e (told_after g.B.Width.whole rule old (after (places rule) old c.in_ok-x.x c.in_ok-x.y c.in_ok-x.z) _ _ _ _ left c.is_some.ensures c.is_some-2.ensures c.is_some-3.ensures
    (narrowed_after g.B.Width.whole rule old _ _ _ c.requires.different c.requires.present left))

pub returns-in-Some-clause-told : goal.returns-in-Some-clause-told
returns-in-Some-clause-told g c =
    let rule = c.args.rule.now in
    let old = c.args.store.now in
    let new = c.take_out_logged.new.store in
    let one = subst (λ (sets : List (List (ℤ × ℤ))). TakesOne rule (set_at sets) c.in-Some.taken.0 (g.B.Width.value c.in-Some.taken.1)) c.domains.ensures.same c.in-Some.ensures.one in
    subst (λ (p : Constraint). AreTold (places rule) (record { x = eqb c.in-Some.taken.0 p.x; y = eqb c.in-Some.taken.0 p.y; z = false }) (set_at old) (set_at new))
    (sym c.requires.places)
    (one_told rule c.in-Some.taken.0 (g.B.Width.value c.in-Some.taken.1) (set_at old) (set_at new) one c.in_ok-take_out_logged.ensures.taken)
