use Rattle.std.proofs.Common.{◌≡◌, refl, sym, ◌∙◌}
use Rattle.std.proofs.lemmas.Int.{to_z-of_z}
use Rattle.std.specs.Prelude.{◌≢◌, Some}
use Rattle.ivl_laws.specs.Sets.{IsBetween}
use Rattle.ivl_laws.specs.Runs.{Covers}
use Rattle.ivl_store.proofs.NarrowedSets.{keeps_some_within, left_same}
use Rattle.ivl_rules.proofs.rules.windows.narrowed_without.Goals as goal

pub returns : goal.returns
returns g c =
    let w = g.B.Width.whole in
    let x = c.args.x.now in
    let left = c.in_ok-difference.field-0 in
    let e : g.B.Width.value c.in-Some.value ≡ c.args.number = c.in-Some.ensures.same_number ∙ to_z-of_z _ c.args.number c.ranges.number in
    let member : Covers x (g.B.Width.value c.in-Some.value) = c.if-not-contains.ensures.0 refl in
    let single = c.singleton-single.ensures.members in
    let d = c.in_ok-difference.ensures.members in
    left_same w x (λ z. ¬ (IsBetween c.singleton-single.result z)) (λ z. z ≢ c.args.number) (Some left)
    (λ z m. ((λ n f. n ((single z).1 (f ∙ sym e))), (λ n b. n ((single z).0 b ∙ e))))
    (keeps_some_within w x left (λ z. ¬ (IsBetween c.singleton-single.result z)) c.in_whole.ensures d
    (λ same. ((d.members _).0 ((same _).1 member)).1 ((single _).1 refl)))
