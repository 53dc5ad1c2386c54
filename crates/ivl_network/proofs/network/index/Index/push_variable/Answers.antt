use Rattle.std.proofs.Common.{[], ◌∷◌, ◌++◌, ◌≡◌, refl}
use Rattle.ivl_network.specs.Queue.{lasts_of}
use Rattle.ivl_network.proofs.Indexes.{of_both, variable_pushed}
use Rattle.ivl_network.proofs.network.index.Index.push_variable.Goals as goal

pub returns : goal.returns
returns c = λ count cs s.
    variable_pushed count cs c.args.self.now _ (of_both (λ t. lasts_of t _ ≡ lasts_of t c.args.self.now ++ 0 ∷ []) c.push_reserved-2.ensures.items c.push_reserved.ensures.items) refl refl s
