use Rattle.std.proofs.Common.{sym, ◌∙◌}
use Rattle.std.proofs.lemmas.Bool.{false≢true}
use Rattle.ivl_search.proofs.Cuts.{narrowed_solves}
use Rattle.ivl_search.proofs.Halves.{all_filled}
use Rattle.ivl_search.proofs.search.steps.advance.Goals as goal

pub returns-in-Ok-All-clause-same : goal.returns-in-Ok-All-clause-same
returns-in-Ok-All-clause-same g c =
    narrowed_solves c.args.network.now.rules c.args.network.now.domains c.settle_unless_empty-settled.new.self.domains c.settle_unless_empty-settled.ensures.kept_count c.requires c.settle_unless_empty-settled.ensures.keeps

pub returns-then-has_empty-clause-same : goal.returns-then-has_empty-clause-same
returns-then-has_empty-clause-same g c =
    narrowed_solves c.args.network.now.rules c.args.network.now.domains c.settle_unless_empty-settled.new.self.domains c.settle_unless_empty-settled.ensures.kept_count c.requires c.settle_unless_empty-settled.ensures.keeps

pub returns-else-has_empty-clause-same : goal.returns-else-has_empty-clause-same
returns-else-has_empty-clause-same g c =
    narrowed_solves c.args.network.now.rules c.args.network.now.domains c.settle_unless_empty-settled.new.self.domains c.settle_unless_empty-settled.ensures.kept_count c.requires c.settle_unless_empty-settled.ensures.keeps

pub returns-else-has_empty-clause-node : goal.returns-else-has_empty-clause-node
returns-else-has_empty-clause-node g c =
    all_filled g.B.Width.whole c.settle_unless_empty-settled.new.self.domains c.domains-domains.ensures.runs
    (λ i lt none. false≢true (sym c.if-has_empty.false ∙ c.has_empty.ensures.variable.1 (record { variable = i; known = lt; empty = none })))

pub returns-in-Err-clause-same : goal.returns-in-Err-clause-same
returns-in-Err-clause-same g c =
    narrowed_solves c.args.network.now.rules c.args.network.now.domains c.settle_unless_empty-settled.new.self.domains c.settle_unless_empty-settled.ensures.kept_count c.requires c.settle_unless_empty-settled.ensures.keeps
