use Rattle.std.proofs.Common.{◌≡◌, ◌∙◌, ◌<◌, List, ap, length, set, subst, sym}
use Rattle.std.specs.Prelude.{ℤ, All}
use Rattle.std.proofs.lemmas.List.{set-get_or, set-set}
use Rattle.std.proofs.lemmas.List.Elements.{All-set}
use Rattle.ivl_laws.specs.Runs.{IsRunListIn}
use Rattle.ivl_store.specs.Posts.{empty_count}
use Rattle.ivl_store.proofs.Empties.{empties_set}
use Rattle.ivl_store.proofs.store.Store.put.Goals as goal

pub invariant_of-self : goal.invariant_of-self
invariant_of-self g c =
    let items = c.self.inside.domains.items in
    let lt : c.args.i < length items = subst (λ (Ls : List (List (ℤ × ℤ))). c.args.i < length Ls) (sym c.self.view_is) c.requires.known in
    let e = empties_set items c.args.i c.index.result.now c.args.set c.is_empty.result c.is_empty-2.result c.self.inside.empties c.one_if-was.result c.one_if-is.result lt
    c.index.ensures c.is_empty.ensures.none c.is_empty-2.ensures.none c.self.invariant.1 c.one_if-was.ensures c.one_if-is.ensures in (
      subst (λ L. All (IsRunListIn g.B.Width.whole) (set items c.args.i L)) (sym c.replace.ensures.after) (All-set (IsRunListIn g.B.Width.whole) items c.args.i c.args.set c.requires.range c.self.invariant.0),
      e.1 ∙ ap (λ L. empty_count (set items c.args.i L)) (sym c.replace.ensures.after),
    )

pub returns-clause-back : goal.returns-clause-back
returns-clause-back g c =
    let items = c.self.inside.domains.items in
    let old = c.replace.result in
    set-set items c.args.i c.replace.new.dest old
    ∙ subst (λ s. set items c.args.i s ≡ items) (sym c.replace.ensures.value)
    (ap (λ s. set items c.args.i s) c.index_mut.ensures.value ∙ set-get_or items c.args.i c.index_mut.result.now)
    ∙ c.self.view_is
