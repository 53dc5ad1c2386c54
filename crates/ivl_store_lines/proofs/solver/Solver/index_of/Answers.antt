use Rattle.std.proofs.Common.{◌≡◌, ◌<◌, ◌∙◌, length, map, string_bytes, ap, subst, IfSome}
use Rattle.std.proofs.lemmas.List.{length-map}
use Rattle.ivl_store_lines.specs.Solving.{State, variable_named}
use Rattle.ivl_store_lines.proofs.Names.{found}
use Rattle.ivl_store_lines.proofs.Requiring.{index_of-below}
use Rattle.ivl_store_lines.proofs.solver.Solver.index_of.Goals as goal

pub returns-clause-index : goal.returns-clause-index
returns-clause-index c =
    let name = c.args.name.now in
    c.get_index_of.ensures.index ∙ found c.self.inside.names.keys name ∙ ap (λ (s : State). variable_named s.names name) c.self.view_is

pub returns-clause-present : goal.returns-clause-present
returns-clause-present c =
    let name = c.args.name.now in
    let names = map string_bytes c.self.inside.names.keys in
    let named : c.get_index_of.result ≡ variable_named names name = c.get_index_of.ensures.index ∙ found c.self.inside.names.keys name in
    let below = index_of-below names name c.get_index_of.result (length c.self.inside.network.domains) named (length-map c.self.inside.names.keys string_bytes ∙ c.self.invariant) in
    subst (λ (s : State). IfSome c.get_index_of.result (λ i. i < length s.domains)) c.self.view_is below
