use Rattle.std.proofs.Common.{◌∷◌, []}
use Rattle.std.proofs.lemmas.List.Elements.{All-append, All-cons, All-nil}
use Rattle.ivl_laws.specs.Runs.{IsRunListIn}
use Rattle.ivl_store.proofs.Empties.{empties_pushed}
use Rattle.ivl_store.proofs.store.Store.add_variable.Goals as goal

pub invariant_of-self-2 : goal.invariant_of-self-2
invariant_of-self-2 g c =
    let items = c.self.inside.domains.items in
    let runs = IsRunListIn g.B.Width.whole in
    rw c.in_ok-push.ensures.items (
      All-append runs items (c.args.domain ∷ []) c.self.invariant.0 (All-cons runs c.args.domain [] c.in_whole.ensures (All-nil runs)),
      empties_pushed items c.args.domain c.is_empty.result c.self.inside.empties c.one_if-is.result c.is_empty.ensures.none c.self.invariant.1 c.one_if-is.ensures,
    )
