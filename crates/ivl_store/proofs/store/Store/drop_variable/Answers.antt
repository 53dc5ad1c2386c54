use Rattle.std.proofs.Common.{subst, sym}
use Rattle.std.specs.Prelude.{All}
use Rattle.std.proofs.lemmas.List.Elements.{All-take}
use Rattle.ivl_laws.specs.Runs.{IsRunListIn}
use Rattle.ivl_store.proofs.Empties.{empties_popped}
use Rattle.ivl_store.proofs.store.Store.drop_variable.Goals as goal

pub invariant_of-self : goal.invariant_of-self
invariant_of-self g c =
    let items = c.self.inside.domains.items in
    let left = c.pop.new.self.items in (
      subst (All (IsRunListIn g.B.Width.whole)) (sym c.in-Some.ensures.rest) (All-take (IsRunListIn g.B.Width.whole) _ items c.self.invariant.0),
      (empties_popped items left c.in-Some.domain c.is_empty.result c.self.inside.empties c.one_if-was.result c.in-Some.ensures.items c.is_empty.ensures.none c.self.invariant.1 c.one_if-was.ensures).1,
    )
