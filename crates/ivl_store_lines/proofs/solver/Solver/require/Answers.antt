use Rattle.std.proofs.Common.{◌∙◌, ap, subst, sym}
use Rattle.ivl_store_lines.specs.Required.{AreRequired}
use Rattle.ivl_store_lines.specs.Solving.{AddsUnset, Settles, State}
use Rattle.ivl_store_lines.proofs.solver.Solver.require.Goals as goal

pub invariant_of-self-2 : goal.invariant_of-self-2
invariant_of-self-2 c = c.self.invariant ∙ sym c.in_ok-progress.ensures.kept_count

pub returns-clause-required : goal.returns-clause-required
returns-clause-required c =
    let new = c.require_atomically.new.network in
    let settled = c.in_ok-progress.ensures.settled in
    record {
      required = subst (λ (s : State). AreRequired c.args.rules.now s.rules new.rules) c.self.view_is c.in_ok-progress.ensures.required;
      flags = settled.0;
      unset = subst (λ (s : State). AddsUnset s.settled settled.0) c.self.view_is settled.1;
      settled = subst (λ (s : State). Settles c.self.inside.limit new.rules s.domains settled.0 new.domains new.settled c.in_ok-progress.progress) c.self.view_is settled.2;
      names = ap (λ (s : State). s.names) c.self.view_is;
      limit = ap (λ (s : State). s.limit) c.self.view_is;
    }
