use Rattle.std.proofs.Common.{◌≡◌, eqb, true, false, rules}
use borrow.Author.Tests.{tests}
use Rattle.std.proofs.lemmas.Iterator.{IsFirst-from_position, YieldsList-from_slice}
use Rattle.ivl_lines.proofs.Splits.{split_at}
use Rattle.ivl_lines.proofs.session.split_line.Goals as goal

pub returns-clause-some : goal.returns-clause-some
returns-clause-some c =
    split_at c.args.bytes.now c.position.result c.in_ok-at.at c.in_ok-at.was
    (IsFirst-from_position _ _ c.position.result (λ b. eqb b 10 ≡ true) (λ b. eqb b 10 ≡ false) c.position.ensures.ran (YieldsList-from_slice c.args.bytes.now cc) (λ x q k. search (rules, tests)) (λ x q k. search (rules, tests)))
