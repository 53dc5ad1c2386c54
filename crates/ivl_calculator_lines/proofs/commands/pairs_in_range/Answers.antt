use Rattle.std.proofs.Common.{◌≡◌, rules}
use Rattle.ivl_lines.specs.Numbers.{is_in_range}
use Rattle.ivl_calculator_lines.proofs.Unkept.{fit_of-step, none_before}
use Rattle.ivl_calculator_lines.proofs.commands.pairs_in_range.Goals as goal

pub loop-l-init : goal.loop-l-init
loop-l-init c = (search rules, none_before _)

pub loop-l-preserved : goal.loop-l-preserved
loop-l-preserved c =
    let told : c.pair_in_range.result ≡ is_in_range (c.in_ok-lower.lower, c.in_ok-upper.upper) = search rules in (
      search rules,
      fit_of-step _ _ _ _ _ _ _ _ _ _ _ _ c.in-Some.ensures.some c.in_ok-u.ensures.some c.number_from.ensures c.in_ok-lower.was c.number_from-in-Some.ensures c.in_ok-upper.was told c.loop-l.invariant.1,
    )
