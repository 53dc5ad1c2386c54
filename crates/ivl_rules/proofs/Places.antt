-- The list of sets after a narrowing.
use Rattle.std.proofs.Common.{◌≡◌, ◌≢◌, ◌↔◌, ℕ, ◌<◌, inl, inr, refl, sym, ap, subst, arith, ◌∙◌, List, [], get_or, length, Bool, true, IsTrue}
use Rattle.std.specs.Prelude.{ℤ, ◌||◌, Option, Some, None, is_some}
use Rattle.std.proofs.lemmas.List.{get_or-set_other}
use Rattle.std.proofs.lemmas.Bool.{cases_eq, false≢true}
use Rattle.ivl_laws.specs.Sets.{HasSome, Without}
use Rattle.ivl_laws.specs.Runs.{Covers}
use Rattle.ivl_laws.specs.Families.{set_at}
use Rattle.ivl_store.specs.declared.store.constraint.Constraint.{Constraint}
use Rattle.ivl_store.specs.NarrowedSets.{IsLeftOf, narrowed_at}
use Rattle.ivl_store.specs.Narrowing.{AllPresent}
use Rattle.ivl_store.specs.Solutions.{LostMember}
use Rattle.ivl_store.proofs.Places.{after, at_x, cut_after, kept_or, length-replaced, lost_at, none_of, one_of, replaced-other, replaced-same, unchanged}
use Rattle.ivl_rules.specs.declared.rules.Rule.{Rule}
use Rattle.ivl_rules.specs.declared.rules.Rule.TheVariants.{Sum, Shifted, AtMost, Differs}
use Rattle.ivl_rules.specs.Rules.{AreDifferent, HasPointAt, NarrowedBy, places}
use Rattle.ivl_rules.specs.NarrowedSets.{AreLeftAtPlaces}

-- another place stays
untouched : (sets : List (List (ℤ × ℤ))) (i j : ℕ) (left : Option (List (ℤ × ℤ))) → j ≢ i → get_or (narrowed_at sets i left) j [] ≡ get_or sets j []
untouched sets i j None ne = refl
untouched sets i j (Some left) ne = get_or-set_other sets i j left [] ne

-- a cut at two places, and at three
cut_two : (whole : ℤ × ℤ) (c : Constraint) (P : ℕ → ℤ → Type 0) (old : List (List (ℤ × ℤ))) (x y : Option (List (ℤ × ℤ))) → c.x < length old → c.y < length old → c.x ≢ c.y
    → IsLeftOf whole (get_or old c.x []) (P c.x) x → IsLeftOf whole (get_or old c.y []) (P c.y) y → (i : ℕ) (v : ℤ)
    → set_at (narrowed_at (narrowed_at old c.x x) c.y y) i v ↔ (set_at old i v × (i ≡ c.x → P c.x v) × (i ≡ c.y → P c.y v))
cut_two whole c P old x y px py ne lx ly i v =
    let a = cut_after whole old c.x (P c.x) x px lx i v in
    let n = length-replaced old c.x x in
    let b = cut_after whole (narrowed_at old c.x x) c.y (P c.y) y (omega arith)
    (subst (λ s. IsLeftOf whole s (P c.y) y) (sym (untouched old c.x c.y x (λ e. ne (sym e)))) ly) i v in (
      λ h. let u = b.0 h in let w = a.0 u.0 in (w.0, w.1, u.1),
      λ h. b.1 (a.1 (h.0, h.1), h.2),
    )

left_after : (whole : ℤ × ℤ) (c : Constraint) (P : ℕ → ℤ → Type 0) (old : List (List (ℤ × ℤ))) (x y z : Option (List (ℤ × ℤ))) → AllPresent (length old) c
    → c.x ≢ c.y → c.x ≢ c.z → AreLeftAtPlaces whole c P old x y z → (i : ℕ) (v : ℤ)
    → set_at (after c old x y z) i v ↔ (set_at old i v × (i ≡ c.x → P c.x v) × (i ≡ c.y → P c.y v) × (i ≡ c.z → P c.z v))
left_after whole c P old x y z p nxy nxz left i v =
    let mid = narrowed_at (narrowed_at old c.x x) c.y y in
    let a = cut_two whole c P old x y p.0 p.1 nxy left.at_x left.at_y i v in
    elim (cases_eq c.y c.z) [
      | inl e ↦ rw (left.z_is_y e) (
        (λ h. let u = a.0 h in (u.0, u.1, u.2, λ f. subst (λ j. P j v) e (u.2 (f ∙ sym e)))),
        (λ h. a.1 (h.0, h.1, h.2)),
      )
      | inr ne ↦ (
          let n = length-replaced old c.x x in
          let m = length-replaced (narrowed_at old c.x x) c.y y in
          let lt = p.2 in
          let b = cut_after whole mid c.z (P c.z) z (omega arith)
          (subst (λ s. IsLeftOf whole s (P c.z) z)
          (sym (untouched (narrowed_at old c.x x) c.y c.z y (λ e. ne (sym e)) ∙ untouched old c.x c.z x (λ e. nxz (sym e)))) (left.at_z ne)) i v in (
            (λ h. let u = b.0 h in let w = a.0 u.0 in (w.0, w.1, w.2, u.1)),
            (λ h. b.1 (a.1 (h.0, h.1, h.2), h.3)),
          ))
    ]

-- the first variable is no other
apart : (rule : Rule) → AreDifferent rule → ((places rule).x ≢ (places rule).y) × ((places rule).x ≢ (places rule).z)
apart (Sum c) d = (d.0, d.1)
apart (Shifted x y by) d = (d, d)
apart (AtMost x y by) d = (d, d)
apart (Differs x y by) d = (d, d)

-- the sets afterwards are the old ones narrowed
pub narrowed_after : (whole : ℤ × ℤ) (rule : Rule) (old : List (List (ℤ × ℤ))) (x y z : Option (List (ℤ × ℤ))) → AreDifferent rule → AllPresent (length old) (places rule)
    → AreLeftAtPlaces whole (places rule) (HasPointAt rule (set_at old)) old x y z
    → (i : ℕ) (v : ℤ) → set_at (after (places rule) old x y z) i v ↔ NarrowedBy rule (set_at old) i v
narrowed_after whole rule old x y z d p left i v =
    let n = apart rule d in
    let a = left_after whole (places rule) (HasPointAt rule (set_at old)) old x y z p n.0 n.1 left i v in (
      λ h. let u = a.0 h in record {
        kept = u.0;
        supported = (λ named. elim named [
          | inl e ↦ subst (λ j. HasPointAt rule (set_at old) j v) (sym e) (u.1 e)
          | inr (inl e) ↦ subst (λ j. HasPointAt rule (set_at old) j v) (sym e) (u.2 e)
          | inr (inr e) ↦ subst (λ j. HasPointAt rule (set_at old) j v) (sym e) (u.3 e)
        ]);
      },
      λ m. a.1 (
        m.kept,
        (λ e. subst (λ j. HasPointAt rule (set_at old) j v) e (m.supported (inl e))),
        (λ e. subst (λ j. HasPointAt rule (set_at old) j v) e (m.supported (inr (inl e)))),
        (λ e. subst (λ j. HasPointAt rule (set_at old) j v) e (m.supported (inr (inr e)))),
      ),
    )

-- ---- what was lost

-- what is at y afterwards, if z is another place
at_y : (c : Constraint) (old : List (List (ℤ × ℤ))) (x y z : Option (List (ℤ × ℤ))) → AllPresent (length old) c → c.x ≢ c.y → (c.z ≡ c.y → z ≡ None)
    → get_or (after c old x y z) c.y [] ≡ kept_or y (get_or old c.y [])
at_y c old x y z p nxy last =
    let lx = length-replaced old c.x x in
    let py = p.1 in
    replaced-other _ c.z c.y z (λ e. last (sym e))
    ∙ replaced-same _ c.y y (omega arith)
    ∙ ap (kept_or y) (replaced-other old c.x c.y x (λ e. absurd (nxy (sym e))))

at_z : (c : Constraint) (old : List (List (ℤ × ℤ))) (x y z : Option (List (ℤ × ℤ))) → AllPresent (length old) c → c.x ≢ c.z → c.y ≢ c.z
    → get_or (after c old x y z) c.z [] ≡ kept_or z (get_or old c.z [])
at_z c old x y z p nxz nyz =
    let lx = length-replaced old c.x x in
    let ly = length-replaced (narrowed_at old c.x x) c.y y in
    let pz = p.2 in
    replaced-same _ c.z z (omega arith)
    ∙ ap (kept_or z) (replaced-other _ c.y c.z y (λ e. absurd (nyz (sym e))) ∙ replaced-other old c.x c.z x (λ e. absurd (nxz (sym e))))

-- a set was made exactly where a member was lost
pub lost_is : (whole : ℤ × ℤ) (rule : Rule) (P : ℕ → ℤ → Type 0) (old : List (List (ℤ × ℤ))) (x y z : Option (List (ℤ × ℤ))) → AreDifferent rule
    → AllPresent (length old) (places rule) → AreLeftAtPlaces whole (places rule) P old x y z → (b : Bool) → b ≡ (is_some x || (is_some y || is_some z))
    → IsTrue b ↔ LostMember (set_at old) (set_at (after (places rule) old x y z))
lost_is whole rule P old x y z d p left b e =
    let c = places rule in
    let n = apart rule d in (
      λ t. elim (one_of (is_some x) (is_some y) (is_some z) (sym e ∙ t)) [
        | inl m ↦ lost_from c.x _ (at_x c old x y z p n.0 n.1) (lost_at whole _ _ x left.at_x m)
        | inr (inl m) ↦ lost_from c.y _ (at_y c old x y z p n.0 (λ f. left.z_is_y (sym f))) (lost_at whole _ _ y left.at_y m)
        | inr (inr m) ↦ elim (cases_eq c.y c.z) [
          | inl f ↦ absurd (not_made z m (left.z_is_y f))
          | inr f ↦ lost_from c.z _ (at_z c old x y z p n.1 f) (lost_at whole _ _ z (left.at_z f) m)
        ]
      ],
      λ l. elim (none_of (is_some x) (is_some y) (is_some z)) [
        | inl none ↦ absurd (l.gone (subst (λ s. set_at s l.variable l.member)
            (sym (unchanged _ c.z z none.2 ∙ unchanged _ c.y y none.1 ∙ unchanged old c.x x none.0)) l.was))
        | inr some ↦ e ∙ some
      ],
    )
  where
    not_made : (made : Option (List (ℤ × ℤ))) → is_some made ≡ true → made ≡ None → ⊥
    not_made made m none = false≢true (sym (ap is_some none) ∙ m)

    lost_from : (i : ℕ) (s : List (ℤ × ℤ)) → get_or (after (places rule) old x y z) i [] ≡ s → HasSome (Without (set_at old i) (Covers s))
        → LostMember (set_at old) (set_at (after (places rule) old x y z))
    lost_from i s f (v, (was, gone)) = record { variable = i; member = v; was = was; gone = (λ h. gone (subst (λ t. Covers t v) f h)) }
