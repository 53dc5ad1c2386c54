use Rattle.std.proofs.Common.{◌≡◌, ◌∙◌, [], sym, subst, get_or, length}
use Rattle.std.proofs.lemmas.List.{get_or_default}
use Rattle.std.specs.Prelude.{None}
use Rattle.ivl_laws.specs.Families.{set_at}
use Rattle.ivl_store.specs.Narrowing.{AllPresent}
use Rattle.ivl_rules.specs.Rules.{AreDifferent, SupportsAll, places}
use Rattle.ivl_rules.specs.NarrowedSets.{AreLeftBy, IsAtMost, IsNot}
use Rattle.ivl_rules.proofs.Points.{supports_at_most, supports_differing}
use Rattle.ivl_rules.proofs.rules.narrowing.takes_nothing.Goals as goal

pub returns-in-AtMost : goal.returns-in-AtMost
returns-in-AtMost g c = λ t.
    let w = g.B.Width.whole in
    let sets = c.args.domains.now in
    let x = c.in-AtMost.x in let y = c.in-AtMost.y in let by = c.in-AtMost.by in
    let d = subst AreDifferent c.in-AtMost.is c.requires.different in
    let p = subst (λ r. AllPresent (length sets) (places r)) c.in-AtMost.is c.requires.present in
    let ex : c.index-domains-x.result ≡ get_or sets x [] = c.index-domains-x.is ∙ get_or_default sets x _ [] p.0 in
    let ey : c.index-domains-y.result ≡ get_or sets y [] = c.index-domains-y.is ∙ get_or_default sets y _ [] p.1 in
    let h : AreLeftBy w (IsAtMost by) (get_or sets x []) (get_or sets y []) None None = rw (sym ex, sym ey) (c.are_at_most.ensures t) in
    subst (λ r. SupportsAll r (set_at sets)) (sym c.in-AtMost.is) (supports_at_most w x y by sets d h)

pub returns-in-Differs : goal.returns-in-Differs
returns-in-Differs g c = λ t.
    let w = g.B.Width.whole in
    let sets = c.args.domains.now in
    let x = c.in-Differs.x in let y = c.in-Differs.y in let by = c.in-Differs.by in
    let d = subst AreDifferent c.in-Differs.is c.requires.different in
    let p = subst (λ r. AllPresent (length sets) (places r)) c.in-Differs.is c.requires.present in
    let ex : c.index-domains-x-in-Differs.result ≡ get_or sets x [] = c.index-domains-x-in-Differs.is ∙ get_or_default sets x _ [] p.0 in
    let ey : c.index-domains-y-in-Differs.result ≡ get_or sets y [] = c.index-domains-y-in-Differs.is ∙ get_or_default sets y _ [] p.1 in
    let h : AreLeftBy w (IsNot by) (get_or sets x []) (get_or sets y []) None None = rw (sym ex, sym ey) (c.are_differing.ensures t) in
    subst (λ r. SupportsAll r (set_at sets)) (sym c.in-Differs.is) (supports_differing w x y by sets d h)
