use Rattle.std.proofs.Common.{◌∙◌, arith, sym}
use Rattle.std.proofs.lemmas.Bool.{false≢true}
use Rattle.std.proofs.lemmas.Int.{ints}
use Rattle.ivl_rules.proofs.Differing.{has_another}
use Rattle.ivl_rules.proofs.rules.narrowing.forbidden.Goals as goal

pub returns-then-contains : goal.returns-then-contains
returns-then-contains g c =
    let m = c.contains.ensures.0 c.if-contains.true in
    let r = g.met.B.Width.range in let least = r.low_at_least in let most = r.high_at_most in
    let above = c.lower.ensures.in_range.0 in let below = c.lower.ensures.in_range.1 in
    let small = c.requires.0 in let small' = c.requires.1 in
    let (k, same) = c.is_singleton.ensures.0 c.if-not-is_singleton.false in
    let at = (same _).0 c.lower.ensures.member in
    let ln = c.number.ensures in
    let value = c.in_ok-value.ensures.same_number in (
      m,
      has_another g.B.Width.whole c.args.x.now _ c.in_whole.ensures m (λ h. false≢true (sym c.if-is_singleton.false ∙ c.is_singleton-else-not-is_singleton.ensures.1 h)),
      (λ z. (
        (λ n. let is = (same z).0 n in omega (arith, ints)),
        (λ e. (same z).1 (omega (arith, ints, e))),
      )),
    )
