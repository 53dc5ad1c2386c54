use Rattle.ivl_store.proofs.Places.{families_kept, solution_kept, solutions_left}
use Rattle.ivl_store.proofs.store.Store.narrow.Goals as goal

pub returns-clause-families : goal.returns-clause-families
returns-clause-families g c = families_kept c.args.constraint.now c.args.self.now c.narrow_known.new.self c.in_ok-lost.ensures.narrowed

pub returns-clause-exact : goal.returns-clause-exact
returns-clause-exact g c = solutions_left c.args.constraint.now c.args.self.now c.narrow_known.new.self c.in_ok-lost.ensures.narrowed

pub returns-clause-solutions : goal.returns-clause-solutions
returns-clause-solutions g c = solution_kept c.args.constraint.now c.args.self.now c.narrow_known.new.self c.in_ok-lost.ensures.narrowed
