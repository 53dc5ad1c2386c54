use Rattle.std.proofs.Common.{◌<◌, ◌∙◌, ap, length, subst, sym, List}
use Rattle.std.specs.Prelude.{ℤ}
use Rattle.ivl_laws.specs.Families.{set_at}
use Rattle.ivl_laws.specs.Runs.{Covers}
use Rattle.ivl_laws.specs.Sets.{Only, SameMembers}
use Rattle.ivl_store.specs.declared.store.constraint.Constraint.{Constraint}
use Rattle.ivl_within.proofs.Lists.{entry_seen}
use Rattle.ivl_network.proofs.Staying.{single_beside_x, single_beside_y}
use Rattle.ivl_network.proofs.network.queue.is_single_beside.Goals as goal

pub returns-then-c-variable : goal.returns-then-c-variable
returns-then-c-variable g c = λ t.
    let store = c.args.store.now in let p = c.places-c.result in let e = c.places-c.ensures in
    let single = subst (λ (L : List (ℤ × ℤ)). (x : ℤ) × SameMembers (Covers L) (Only x))
    (entry_seen _ store p.y _ c.domains.ensures.same (subst (λ (q : Constraint). q.y < length store) (sym e) c.requires.present.1) c.index-domains-c.is) (c.is_singleton.ensures.0 t) in
    single_beside_x c.args.rule.now c.args.variable (set_at store) c.requires.kind (sym (ap (λ (q : Constraint). q.x) e) ∙ c.if-c-variable.true)
    (subst (λ (q : Constraint). (x : ℤ) × SameMembers (set_at store q.y) (Only x)) e single)

pub returns-else-c-variable : goal.returns-else-c-variable
returns-else-c-variable g c = λ t.
    let store = c.args.store.now in let p = c.places-c.result in let e = c.places-c.ensures in
    let single = subst (λ (L : List (ℤ × ℤ)). (x : ℤ) × SameMembers (Covers L) (Only x))
    (entry_seen _ store p.x _ c.domains-else-c-variable.ensures.same (subst (λ (q : Constraint). q.x < length store) (sym e) c.requires.present.0) c.index-domains-c-else-c-variable.is)
    (c.is_singleton-else-c-variable.ensures.0 t) in
    single_beside_y c.args.rule.now c.args.variable (set_at store) c.requires.kind (λ f. c.if-c-variable.false (ap (λ (q : Constraint). q.x) e ∙ f)) c.requires.names
    (subst (λ (q : Constraint). (x : ℤ) × SameMembers (set_at store q.x) (Only x)) e single)
