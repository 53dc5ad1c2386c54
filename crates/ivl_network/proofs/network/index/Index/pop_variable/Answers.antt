use Rattle.std.proofs.Common.{◌-◌, ◌≡◌, ◌∙◌, ap, arith, length, refl, take}
use Rattle.ivl_network.specs.Queue.{lasts_of}
use Rattle.ivl_network.proofs.Indexes.{of_both, variable_popped}
use Rattle.ivl_network.proofs.network.index.Index.pop_variable.Goals as goal

pub returns : goal.returns
returns c = λ count cs s present.
    let index = c.args.self.now in
    variable_popped count cs index _ (of_both (λ t. lasts_of t _ ≡ take (length (lasts_of t index) - 1) (lasts_of t index))
    (c.pop-2.ensures.rest ∙ ap (λ m. take m index.single_lasts.items) (let o = index.single_lasts.ok.0 in omega (arith, o)))
    (c.pop.ensures.rest ∙ ap (λ m. take m index.lasts.items) (let o = index.lasts.ok.0 in omega (arith, o)))) refl refl s present
