use Rattle.std.proofs.Common.{◌≡◌, ◌∙◌, [], sym, subst, get_or, length}
use Rattle.std.proofs.lemmas.List.{get_or_default}
use Rattle.std.specs.Prelude.{None}
use Rattle.ivl_laws.specs.Families.{set_at}
use Rattle.ivl_store.specs.Narrowing.{AllPresent}
use Rattle.ivl_rules.specs.Rules.{AreDifferent, HasPointAt, places}
use Rattle.ivl_rules.specs.NarrowedSets.{AreLeftAtPlaces, AreLeftBy, IsAtMost, IsMoved, IsNot}
use Rattle.ivl_rules.proofs.Points.{left_at_most, left_differing, left_moved}
use Rattle.ivl_rules.proofs.rules.narrowing.narrowed_at_places_in.Goals as goal

pub returns-in_ok-x-in-Shifted : goal.returns-in_ok-x-in-Shifted
returns-in_ok-x-in-Shifted g c =
    let w = g.B.Width.whole in
    let sets = c.args.domains.now in
    let x = c.in-Shifted.x in let y = c.in-Shifted.y in let by = c.in-Shifted.by in
    let d = subst AreDifferent c.in-Shifted.is c.requires.different in
    let p = subst (λ r. AllPresent (length sets) (places r)) c.in-Shifted.is c.requires.present in
    let ex : c.index-domains-x.result ≡ get_or sets x [] = c.index-domains-x.is ∙ get_or_default sets x _ [] p.0 in
    let ey : c.index-domains-y.result ≡ get_or sets y [] = c.index-domains-y.is ∙ get_or_default sets y _ [] p.1 in
    let a = c.in_ok-x-in-Shifted.x in let b = c.in_ok-x-in-Shifted.y in
    let h : AreLeftBy w (IsMoved by) (get_or sets x []) (get_or sets y []) a b = rw (sym ex, sym ey) c.in_ok-x-in-Shifted.ensures in
    subst (λ r. AreLeftAtPlaces w (places r) (HasPointAt r (set_at sets)) sets a b None) (sym c.in-Shifted.is) (left_moved w x y by sets a b d h)

pub returns-in_ok-x-in-AtMost : goal.returns-in_ok-x-in-AtMost
returns-in_ok-x-in-AtMost g c =
    let w = g.B.Width.whole in
    let sets = c.args.domains.now in
    let x = c.in-AtMost.x in let y = c.in-AtMost.y in let by = c.in-AtMost.by in
    let d = subst AreDifferent c.in-AtMost.is c.requires.different in
    let p = subst (λ r. AllPresent (length sets) (places r)) c.in-AtMost.is c.requires.present in
    let ex : c.index-domains-x-in-AtMost.result ≡ get_or sets x [] = c.index-domains-x-in-AtMost.is ∙ get_or_default sets x _ [] p.0 in
    let ey : c.index-domains-y-in-AtMost.result ≡ get_or sets y [] = c.index-domains-y-in-AtMost.is ∙ get_or_default sets y _ [] p.1 in
    let a = c.in_ok-x-in-AtMost.x in let b = c.in_ok-x-in-AtMost.y in
    let h : AreLeftBy w (IsAtMost by) (get_or sets x []) (get_or sets y []) a b =
    rw (sym ex, sym ey) c.in_ok-x-in-AtMost.ensures in
    subst (λ r. AreLeftAtPlaces w (places r) (HasPointAt r (set_at sets)) sets a b None) (sym c.in-AtMost.is) (left_at_most w x y by sets a b d h)

pub returns-in_ok-x-in-Differs : goal.returns-in_ok-x-in-Differs
returns-in_ok-x-in-Differs g c =
    let w = g.B.Width.whole in
    let sets = c.args.domains.now in
    let x = c.in-Differs.x in let y = c.in-Differs.y in let by = c.in-Differs.by in
    let d = subst AreDifferent c.in-Differs.is c.requires.different in
    let p = subst (λ r. AllPresent (length sets) (places r)) c.in-Differs.is c.requires.present in
    let ex : c.index-domains-x-in-Differs.result ≡ get_or sets x [] = c.index-domains-x-in-Differs.is ∙ get_or_default sets x _ [] p.0 in
    let ey : c.index-domains-y-in-Differs.result ≡ get_or sets y [] = c.index-domains-y-in-Differs.is ∙ get_or_default sets y _ [] p.1 in
    let a = c.in_ok-x-in-Differs.x in let b = c.in_ok-x-in-Differs.y in
    let h : AreLeftBy w (IsNot by) (get_or sets x []) (get_or sets y []) a b = rw (sym ex, sym ey) c.in_ok-x-in-Differs.ensures in
    subst (λ r. AreLeftAtPlaces w (places r) (HasPointAt r (set_at sets)) sets a b None) (sym c.in-Differs.is) (left_differing w x y by sets a b d h)
