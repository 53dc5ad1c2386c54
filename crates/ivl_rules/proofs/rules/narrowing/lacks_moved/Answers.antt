use Rattle.std.proofs.Common.{◌∙◌, ap, arith, refl, subst, sym}
use Rattle.std.proofs.lemmas.Bool.{false≢true}
use Rattle.std.proofs.lemmas.Int.{ints}
use Rattle.std.specs.Prelude.{not}
use Rattle.ivl_laws.specs.Runs.{Covers}
use Rattle.ivl_rules.proofs.rules.narrowing.lacks_moved.Goals as goal

pub lower-requires : goal.lower-requires
lower-requires g c = let s = c.requires.single in (s.0, (s.1 s.0).1 refl)

pub returns : goal.returns
returns g c = λ t v w hv hw e.
    let r = g.met.B.Width.range in let least = r.low_at_least in let most = r.high_at_most in
    let above = c.lower.ensures.in_range.0 in let below = c.lower.ensures.in_range.1 in
    let small = c.requires.small.0 in let small' = c.requires.small.1 in
    let low = (c.requires.single.1 _).0 c.lower.ensures.member in let only = (c.requires.single.1 w).0 hw in let ln = c.number.ensures in
    false≢true (sym (ap not (c.has_number.ensures.1 (subst (Covers c.args.x.now) (omega (arith, ints, e)) hv))) ∙ t)
