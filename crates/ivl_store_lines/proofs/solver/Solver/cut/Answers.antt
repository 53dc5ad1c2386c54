use Rattle.ivl_store_lines.proofs.solver.Solver.cut.Goals as goal

pub returns-clause-ok : goal.returns-clause-ok
returns-clause-ok c =
    let r = c.in_ok-restrict.ensures.cut in
    record {
      variable = c.in_ok-variable.variable;
      named = c.in_ok-variable.ensures.ok;
      allowed = c.in_ok-allowed.allowed;
      is_union = c.in_ok-allowed.ensures.union;
      cut = r.0;
      is_cut = r.1;
      flags = r.2;
      stays = r.3;
      settled = r.4;
      names = c.restrict.ensures.others.0;
      rules = c.restrict.ensures.others.1;
      limit = c.restrict.ensures.others.2;
    }
