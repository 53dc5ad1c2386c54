use Rattle.std.proofs.Common.{rules, ◌<◌, length}
use borrow.Author.Tests.{tests}
use Rattle.std.proofs.lemmas.Iterator.{cases_from_all, YieldsList-from_slice}
use Rattle.ivl_calculator.proofs.Elements.{tells_here}
use Rattle.ivl_calculator.proofs.calc.Calc.has_registers.Goals as goal

pub returns : goal.returns
returns g c =
    let cases = cases_from_all _ _ _ (λ r. r < length c.args.self.now) (λ r. ¬ (r < length c.args.self.now))
    c.all.ensures.ran (YieldsList-from_slice c.args.indexes c.iter.ensures.rest) (λ x q k. search (rules, tests)) (λ x q k. search (rules, tests)) in
    tells_here (λ r. r < length c.args.self.now) c.args.indexes c.all.result cases
