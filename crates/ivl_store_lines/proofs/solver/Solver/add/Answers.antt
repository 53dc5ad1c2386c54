use Rattle.std.proofs.Common.{◌≡◌, ◌∙◌, None, ap, map, string_bytes}
use Rattle.ivl_store_lines.specs.Solving.{State, variable_named}
use Rattle.ivl_store_lines.proofs.Adding.{one_each_added, state_added}
use Rattle.ivl_store_lines.proofs.Names.{put, put_text}
use Rattle.ivl_store_lines.proofs.solver.Solver.add.Goals as goal

pub invariant_of-self-in-Ok : goal.invariant_of-self-in-Ok
invariant_of-self-in-Ok c =
    let name = c.args.name.now in
    let none : variable_named (map string_bytes c.self.inside.names.keys) name ≡ None = ap (λ (s : State). variable_named s.names name) c.self.view_is ∙ c.requires in
    one_each_added c.self.inside.names.keys c.insert.new.self.keys c.in_ok-from_str.field-0 c.self.inside.network c.add_variable.new.self c.args.domain
    (put c.self.inside.names.keys c.insert.new.self.keys c.in_ok-from_str.field-0 name c.in_ok-from_str.ensures.ok none c.in_ok-insert.ensures.keys)
    c.in-Ok.ensures.added c.self.invariant

pub returns-in-Ok-clause-ok : goal.returns-in-Ok-clause-ok
returns-in-Ok-clause-ok c =
    let name = c.args.name.now in
    let none : variable_named (map string_bytes c.self.inside.names.keys) name ≡ None = ap (λ (s : State). variable_named s.names name) c.self.view_is ∙ c.requires in
    state_added (map string_bytes c.self.inside.names.keys) (map string_bytes c.insert.new.self.keys) name c.self.inside.network c.add_variable.new.self c.args.domain c.self.inside.limit c.self.inside.progress c.args.self.now c.self.view_is
    (put_text c.self.inside.names.keys c.insert.new.self.keys c.in_ok-from_str.field-0 name c.in_ok-from_str.ensures.ok none c.in_ok-insert.ensures.keys)
    c.in-Ok.ensures.added
