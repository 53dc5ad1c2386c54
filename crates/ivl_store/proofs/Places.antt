-- The lists of sets after a narrowing.
use Rattle.std.proofs.Common.{◌≡◌, ◌≢◌, ◌↔◌, ℕ, ◌<◌, ◌⊎◌, inl, inr, refl, sym, ap, subst, arith, cond, leb, ◌∙◌, List, [], ◌∷◌, length, get_or, Bool, true, false}
use Rattle.std.specs.Prelude.{ℤ, ◌||◌, Option, Some, None, All, is_some}
use Rattle.std.proofs.lemmas.List.{get_or-set_same, get_or-set_other, length-set}
use Rattle.std.proofs.lemmas.List.Elements.{All-nil, All-cons}
use Rattle.std.proofs.lemmas.Bool.{cases_eq, false≢true}
use Rattle.std.proofs.lemmas.Bool.Decides.{nat_tests}
use Rattle.ivl_laws.specs.Sets.{IsSubset, SameMembers, HasSome, Without}
use Rattle.ivl_laws.specs.Runs.{Covers, IsMaximal}
use Rattle.ivl_laws.specs.Counts.{IsIn, IsCountOf}
use Rattle.ivl_laws.specs.Families.{set_at}
use Rattle.ivl_laws.proofs.Lengths.{decide_covers}
use Rattle.ivl_laws.proofs.Widths.{total_width, IsCountOf-total_width}
use Rattle.intervallum.proofs.Options.{or_none}
use Rattle.ivl_store.specs.declared.store.constraint.Constraint.{Constraint}
use Rattle.ivl_store.specs.declared.store.settled.Lost.{Lost}
use Rattle.ivl_store.specs.Solutions.{AreDistinct, Names, HasSolutionAt, IsSolution, Supports, LiesWithin, LostMember}
use Rattle.ivl_store.specs.Narrowing.{Narrowed, AllPresent, first_unknown, first_unknown_of}
use Rattle.ivl_store.specs.NarrowedSets.{IsLeftOf, AreLeftAt, narrowed_at}
use Rattle.ivl_store.specs.Settled.{AreLost, any_lost}
use Rattle.ivl_store.proofs.Families.{narrowing_keeps, narrowed_has_solution, has_solution_narrowed}

-- ---- what is left of one set

-- the set that stands in the place of another
abbrev pub kept_or : Option (List (ℤ × ℤ)) → List (ℤ × ℤ) → List (ℤ × ℤ)
kept_or None L = L
kept_or (Some left) L = left

member_left : (whole : ℤ × ℤ) (L : List (ℤ × ℤ)) (S : ℤ → Type 0) (left : Option (List (ℤ × ℤ))) → IsLeftOf whole L S left
    → (v : ℤ) → Covers (kept_or left L) v ↔ (Covers L v × S v)
member_left whole L S None h v = ((λ m. (m, h.1 v m)), (λ m. m.0))
member_left whole L S (Some left) h v = h.2 v

-- a number of the list that is not covered, or none
missing : (L : List (ℤ × ℤ)) (xs : List ℤ) → ((z : ℤ) → IsIn xs z → Covers L z) ⊎ ((z : ℤ) × IsIn xs z × (¬ (Covers L z)))
missing L [] = inl (λ z h. absurd h)
missing L (x ∷ xs) = elim (decide_covers L x) [
  | inr n ↦ inr (x, inl refl, n)
  | inl c ↦ elim (missing L xs) [
    | inl all ↦ inl (λ z h. elim h [ inl e ↦ subst (Covers L) (sym e) c | inr k ↦ all z k ])
    | inr m ↦ inr (m.0, inr m.1, m.2)
  ]
]

-- a set within another that is not the same lacks a member
lacks : (inner outer : List (ℤ × ℤ)) → IsMaximal outer → IsSubset (Covers inner) (Covers outer) → ¬ (SameMembers (Covers inner) (Covers outer))
    → HasSome (Without (Covers outer) (Covers inner))
lacks inner outer m within differ =
    let count : IsCountOf (total_width outer) (Covers outer) = IsCountOf-total_width outer m in
    elim (missing inner count.0) [
      | inl all ↦ absurd (differ (λ z. (within z, λ h. all z ((count.2 z).0 h))))
      | inr found ↦ (found.0, ((count.2 found.0).1 found.1, found.2))
    ]

-- ---- one set narrowed_at

pub length-replaced : (sets : List (List (ℤ × ℤ))) (i : ℕ) (left : Option (List (ℤ × ℤ))) → length (narrowed_at sets i left) ≡ length sets
length-replaced sets i None = refl
length-replaced sets i (Some left) = length-set sets i left

pub replaced-same : (sets : List (List (ℤ × ℤ))) (i : ℕ) (left : Option (List (ℤ × ℤ))) → i < length sets
    → get_or (narrowed_at sets i left) i [] ≡ kept_or left (get_or sets i [])
replaced-same sets i None h = refl
replaced-same sets i (Some left) h = get_or-set_same sets i left [] h

-- a place that is another, or one where all members stay
pub replaced-other : (sets : List (List (ℤ × ℤ))) (i j : ℕ) (left : Option (List (ℤ × ℤ))) → (j ≡ i → left ≡ None)
    → get_or (narrowed_at sets i left) j [] ≡ get_or sets j []
replaced-other sets i j None h = refl
replaced-other sets i j (Some left) h = elim (cases_eq j i) [
  | inl e ↦ absurd (not_none (h e))
  | inr ne ↦ get_or-set_other sets i j left [] ne
]
  where
    not_none : Some left ≡ None → ⊥
    not_none e = cc

-- one domain cut by a set
pub cut_after : (whole : ℤ × ℤ) (old : List (List (ℤ × ℤ))) (i : ℕ) (S : ℤ → Type 0) (left : Option (List (ℤ × ℤ))) → i < length old
    → IsLeftOf whole (get_or old i []) S left → (j : ℕ) (v : ℤ) → set_at (narrowed_at old i left) j v ↔ (set_at old j v × (j ≡ i → S v))
cut_after whole old i S left lt h j v =
    elim (cases_eq j i) [
      | inl e ↦ (let here : get_or (narrowed_at old i left) j [] ≡ kept_or left (get_or old i []) = ap (λ k. get_or (narrowed_at old i left) k []) e ∙ replaced-same old i left lt in
          let m = member_left whole _ S left h v in (
            (λ k. let u = m.0 (subst (λ s. Covers s v) here k) in (subst (λ n. set_at old n v) (sym e) u.0, λ _. u.1)),
            (λ u. subst (λ s. Covers s v) (sym here) (m.1 (subst (λ n. set_at old n v) e u.0, u.1 e))),
          ))
      | inr ne ↦ (let there = replaced-other old i j left (λ e. absurd (ne e)) in (
        (λ k. (subst (λ s. Covers s v) there k, λ e. absurd (ne e))),
        (λ u. subst (λ s. Covers s v) (sym there) u.0),
      ))
    ]

-- nothing was lost
pub unchanged : (old : List (List (ℤ × ℤ))) (i : ℕ) (left : Option (List (ℤ × ℤ))) → is_some left ≡ false → narrowed_at old i left ≡ old
unchanged old i None e = refl
unchanged old i (Some left) e = absurd (cc)

-- ---- three sets narrowed_at

abbrev pub after : Constraint → List (List (ℤ × ℤ)) → Option (List (ℤ × ℤ)) → Option (List (ℤ × ℤ)) → Option (List (ℤ × ℤ)) → List (List (ℤ × ℤ))
after c old x y z = narrowed_at (narrowed_at (narrowed_at old c.x x) c.y y) c.z z

-- what is left is put there one after the other
pub after_is : (c : Constraint) (old first second third : List (List (ℤ × ℤ))) (x y z : Option (List (ℤ × ℤ))) → first ≡ narrowed_at old c.x x
    → second ≡ narrowed_at first c.y y → third ≡ narrowed_at second c.z z → third ≡ after c old x y z
after_is c old first second third x y z at_x at_y at_z = at_z ∙ ap (λ s. narrowed_at s c.z z) (at_y ∙ ap (λ s. narrowed_at s c.y y) at_x)

pub length-after : (c : Constraint) (old : List (List (ℤ × ℤ))) (x y z : Option (List (ℤ × ℤ))) → length (after c old x y z) ≡ length old
length-after c old x y z = length-replaced _ c.z z ∙ length-replaced _ c.y y ∙ length-replaced old c.x x

-- what stands at each place afterwards
at_z : (whole : ℤ × ℤ) (c : Constraint) (old : List (List (ℤ × ℤ))) (x y z : Option (List (ℤ × ℤ))) → AllPresent (length old) c → AreLeftAt whole c old x y z
    → get_or (after c old x y z) c.z [] ≡ kept_or z (get_or old c.z [])
at_z whole c old x y z p left =
    let lx = length-replaced old c.x x in
    let ly = length-replaced (narrowed_at old c.x x) c.y y in
    let pz = p.2 in
    replaced-same _ c.z z (omega arith)
    ∙ ap (kept_or z) (replaced-other _ c.y c.z y (λ e. left.y_is_later (sym e)) ∙ replaced-other old c.x c.z x (λ e. left.x_is_later (inr (sym e))))

at_y : (whole : ℤ × ℤ) (c : Constraint) (old : List (List (ℤ × ℤ))) (x y z : Option (List (ℤ × ℤ))) → AllPresent (length old) c → AreLeftAt whole c old x y z → c.y ≢ c.z
    → get_or (after c old x y z) c.y [] ≡ kept_or y (get_or old c.y [])
at_y whole c old x y z p left nz =
    let lx = length-replaced old c.x x in
    let py = p.1 in
    replaced-other _ c.z c.y z (λ e. absurd (nz e))
    ∙ replaced-same _ c.y y (omega arith)
    ∙ ap (kept_or y) (replaced-other old c.x c.y x (λ e. left.x_is_later (inl (sym e))))

pub at_x : (c : Constraint) (old : List (List (ℤ × ℤ))) (x y z : Option (List (ℤ × ℤ))) → AllPresent (length old) c → c.x ≢ c.y → c.x ≢ c.z
    → get_or (after c old x y z) c.x [] ≡ kept_or x (get_or old c.x [])
at_x c old x y z p ny nz =
    replaced-other _ c.z c.x z (λ e. absurd (nz e)) ∙ replaced-other _ c.y c.x y (λ e. absurd (ny e)) ∙ replaced-same old c.x x p.0

-- a place where all members stay
unmoved : (c : Constraint) (old : List (List (ℤ × ℤ))) (x y z : Option (List (ℤ × ℤ))) (i : ℕ) → (i ≡ c.x → x ≡ None) → (i ≡ c.y → y ≡ None) → (i ≡ c.z → z ≡ None)
    → get_or (after c old x y z) i [] ≡ get_or old i []
unmoved c old x y z i nx ny nz = replaced-other _ c.z i z nz ∙ replaced-other _ c.y i y ny ∙ replaced-other old c.x i x nx

abbrev Afterwards : Constraint → List (List (ℤ × ℤ)) → Option (List (ℤ × ℤ)) → Option (List (ℤ × ℤ)) → Option (List (ℤ × ℤ)) → ℕ → Type 0
Afterwards c old x y z i = (v : ℤ) → set_at (after c old x y z) i v ↔ Narrowed c (set_at old) i v

afterwards_z : (whole : ℤ × ℤ) (c : Constraint) (old : List (List (ℤ × ℤ))) (x y z : Option (List (ℤ × ℤ))) → AllPresent (length old) c → AreLeftAt whole c old x y z
    → Afterwards c old x y z c.z
afterwards_z whole c old x y z p left v =
    let e = at_z whole c old x y z p left in
    let m = member_left whole _ _ z left.at_z v in (
      λ h. let k = m.0 (subst (λ s. Covers s v) e h) in
          record { kept = k.0; at_x = (λ _ _ n. absurd (n refl)); at_y = (λ _ n. absurd (n refl)); at_z = (λ _. k.1) },
      λ n. subst (λ s. Covers s v) (sym e) (m.1 (n.kept, n.at_z refl)),
    )

afterwards_y : (whole : ℤ × ℤ) (c : Constraint) (old : List (List (ℤ × ℤ))) (x y z : Option (List (ℤ × ℤ))) → AllPresent (length old) c → AreLeftAt whole c old x y z
    → c.y ≢ c.z → Afterwards c old x y z c.y
afterwards_y whole c old x y z p left nz v =
    let e = at_y whole c old x y z p left nz in
    let m = member_left whole _ _ y (left.at_y nz) v in (
      λ h. let k = m.0 (subst (λ s. Covers s v) e h) in
          record { kept = k.0; at_x = (λ _ n _. absurd (n refl)); at_y = (λ _ _. k.1); at_z = (λ f. absurd (nz f)) },
      λ n. subst (λ s. Covers s v) (sym e) (m.1 (n.kept, n.at_y refl nz)),
    )

afterwards_x : (whole : ℤ × ℤ) (c : Constraint) (old : List (List (ℤ × ℤ))) (x y z : Option (List (ℤ × ℤ))) → AllPresent (length old) c → AreLeftAt whole c old x y z
    → c.x ≢ c.y → c.x ≢ c.z → Afterwards c old x y z c.x
afterwards_x whole c old x y z p left ny nz v =
    let e = at_x c old x y z p ny nz in
    let m = member_left whole _ _ x (left.at_x ny nz) v in (
      λ h. let k = m.0 (subst (λ s. Covers s v) e h) in
          record { kept = k.0; at_x = (λ _ _ _. k.1); at_y = (λ f _. absurd (ny f)); at_z = (λ f. absurd (nz f)) },
      λ n. subst (λ s. Covers s v) (sym e) (m.1 (n.kept, n.at_x refl ny nz)),
    )

afterwards_other : (c : Constraint) (old : List (List (ℤ × ℤ))) (x y z : Option (List (ℤ × ℤ))) (i : ℕ) → i ≢ c.x → i ≢ c.y → i ≢ c.z → Afterwards c old x y z i
afterwards_other c old x y z i nx ny nz v =
    let e = unmoved c old x y z i (λ f. absurd (nx f)) (λ f. absurd (ny f)) (λ f. absurd (nz f)) in (
      λ h. record { kept = subst (λ s. Covers s v) e h; at_x = (λ f _ _. absurd (nx f)); at_y = (λ f _. absurd (ny f)); at_z = (λ f. absurd (nz f)) },
      λ n. subst (λ s. Covers s v) (sym e) n.kept,
    )

-- the sets afterwards are the old ones narrowed
pub narrowed_after : (whole : ℤ × ℤ) (c : Constraint) (old : List (List (ℤ × ℤ))) (x y z : Option (List (ℤ × ℤ))) → AllPresent (length old) c → AreLeftAt whole c old x y z
    → (i : ℕ) (v : ℤ) → set_at (after c old x y z) i v ↔ Narrowed c (set_at old) i v
narrowed_after whole c old x y z p left i =
    elim (cases_eq i c.z) [
      | inl e ↦ subst (Afterwards c old x y z) (sym e) (afterwards_z whole c old x y z p left)
      | inr nz ↦ elim (cases_eq i c.y) [
        | inl e ↦ subst (Afterwards c old x y z) (sym e) (afterwards_y whole c old x y z p left (λ f. nz (e ∙ f)))
        | inr ny ↦ elim (cases_eq i c.x) [
          | inl e ↦ subst (Afterwards c old x y z) (sym e) (afterwards_x whole c old x y z p left (λ f. ny (e ∙ f)) (λ f. nz (e ∙ f)))
          | inr nx ↦ afterwards_other c old x y z i nx ny nz
        ]
      ]
    ]

-- ---- what was lost

-- one of three tests
pub one_of : (a b d : Bool) → (a || (b || d)) ≡ true → (a ≡ true) ⊎ ((b ≡ true) ⊎ (d ≡ true))
one_of true b d h = inl refl
one_of false true d h = inr (inl refl)
one_of false false d h = inr (inr h)

-- three tests of which none holds, or one does
pub none_of : (a b d : Bool) → ((a ≡ false) × (b ≡ false) × (d ≡ false)) ⊎ ((a || (b || d)) ≡ true)
none_of true b d = inr refl
none_of false true d = inr refl
none_of false false true = inr refl
none_of false false false = inl (refl, refl, refl)

pub is_none_of : (left : Option (List (ℤ × ℤ))) → is_some left ≡ false → left ≡ None
is_none_of None e = refl
is_none_of (Some s) e = absurd (cc)

-- where no member is lost, none is at x, at y and at z
pub none_lost_at : (lost : Lost) → any_lost lost ≡ false → (lost.x ≡ false) × (lost.y ≡ false) × (lost.z ≡ false)
none_lost_at lost none = elim (none_of lost.x lost.y lost.z) [
  | inl n ↦ n
  | inr some ↦ absurd (false≢true (sym none ∙ some))
]

-- and the sets stand as they were
pub none_after : (c : Constraint) (old : List (List (ℤ × ℤ))) (x y z : Option (List (ℤ × ℤ))) (lost : Lost)
    → lost.x ≡ is_some x → lost.y ≡ is_some y → lost.z ≡ is_some z → any_lost lost ≡ false → after c old x y z ≡ old
none_after c old x y z lost mx my mz none =
    let n = none_lost_at lost none in
    rw (is_none_of x (sym mx ∙ n.0), is_none_of y (sym my ∙ n.1), is_none_of z (sym mz ∙ n.2)) refl

-- where a set is made, a member is lost
pub lost_at : (whole : ℤ × ℤ) (L : List (ℤ × ℤ)) (S : ℤ → Type 0) (left : Option (List (ℤ × ℤ))) → IsLeftOf whole L S left → is_some left ≡ true
    → HasSome (Without (Covers L) (Covers (kept_or left L)))
lost_at whole L S None h e = absurd (false≢true e)
lost_at whole L S (Some left) h e = lacks left L h.0.maximal (λ v m. ((h.2 v).0 m).0) h.3

-- the flags say what was lost
pub lost_after : (whole : ℤ × ℤ) (c : Constraint) (old : List (List (ℤ × ℤ))) (x y z : Option (List (ℤ × ℤ))) (lost : Lost) → AllPresent (length old) c
    → AreLeftAt whole c old x y z → lost.x ≡ is_some x → lost.y ≡ is_some y → lost.z ≡ is_some z → AreLost c lost (set_at old) (set_at (after c old x y z))
lost_after whole c old x y z lost p left mx my mz = record {
  some = (
    (λ h. elim (one_of lost.x lost.y lost.z h) [
      | inl m ↦ (let made = sym mx ∙ m in
          let ny = λ (e : c.x ≡ c.y). not_made x made (left.x_is_later (inl e)) in
          let nz = λ (e : c.x ≡ c.z). not_made x made (left.x_is_later (inr e)) in
          lost_from c.x _ (at_x c old x y z p ny nz) (lost_at whole _ _ x (left.at_x ny nz) made))
      | inr (inl m) ↦ (let made = sym my ∙ m in
          let nz = λ (e : c.y ≡ c.z). not_made y made (left.y_is_later e) in
          lost_from c.y _ (at_y whole c old x y z p left nz) (lost_at whole _ _ y (left.at_y nz) made))
      | inr (inr m) ↦ lost_from c.z _ (at_z whole c old x y z p left) (lost_at whole _ _ z left.at_z (sym mz ∙ m))
    ]),
    (λ l. elim (none_of lost.x lost.y lost.z) [
      | inl none ↦ absurd (l.gone (others l.variable (λ _. none.0) (λ _. none.1) (λ _. none.2) l.member l.was))
      | inr some ↦ some
    ]),
  );
  others = others;
}
  where
    not_made : (left : Option (List (ℤ × ℤ))) → is_some left ≡ true → left ≡ None → ⊥
    not_made left e n = false≢true (sym (ap is_some n) ∙ e)

    lost_from : (i : ℕ) (s : List (ℤ × ℤ)) → get_or (after c old x y z) i [] ≡ s → HasSome (Without (set_at old i) (Covers s)) → LostMember (set_at old) (set_at (after c old x y z))
    lost_from i s e (v, (was, gone)) = record { variable = i; member = v; was = was; gone = (λ h. gone (subst (λ t. Covers t v) e h)) }

    others : (i : ℕ) → (i ≡ c.x → lost.x ≡ false) → (i ≡ c.y → lost.y ≡ false) → (i ≡ c.z → lost.z ≡ false) → (v : ℤ) → set_at old i v → set_at (after c old x y z) i v
    others i nx ny nz v was = subst (λ s. Covers s v)
        (sym (unmoved c old x y z i (λ e. is_none_of x (sym mx ∙ nx e)) (λ e. is_none_of y (sym my ∙ ny e)) (λ e. is_none_of z (sym mz ∙ nz e)))) was

-- ---- which variables there are

-- where none of x, y and z is unknown, all are present
pub all_present : (count : ℕ) (c : Constraint) → first_unknown count c ≡ None → AllPresent count c
all_present count c h = (below_x count c.x _ h, below_x count c.y _ (rest count c.x _ h), below_x count c.z _ (rest count c.y _ (rest count c.x _ h)))
  where
    below_x : (count i : ℕ) (o : Option ℕ) → cond (leb count i) (Some i) o ≡ None → i < count
    below_x count i o h = grind (arith, nat_tests)

    rest : (count i : ℕ) (o : Option ℕ) → cond (leb count i) (Some i) o ≡ None → o ≡ None
    rest count i o h = grind (arith, nat_tests)

-- where no index is unknown, every constraint names variables of the store
pub all_known : (count : ℕ) (constraints : List Constraint) → first_unknown_of count constraints ≡ None → All (AllPresent count) constraints
all_known count [] h = All-nil (AllPresent count)
all_known count (c ∷ cs) h =
    let n = or_none (first_unknown count c) (first_unknown_of count cs) h in
    All-cons (AllPresent count) c cs (all_present count c n.0) (all_known count cs n.1)

-- ---- the other clauses of a narrowing

-- no supported family loses a member
pub families_kept : (c : Constraint) (old new : List (List (ℤ × ℤ))) → ((i : ℕ) (v : ℤ) → set_at new i v ↔ Narrowed c (set_at old) i v)
    → (family : List (List (ℤ × ℤ))) → Supports c (set_at family) → LiesWithin (set_at family) (set_at old) → LiesWithin (set_at family) (set_at new)
families_kept c old new n family s w i v h = (n i v).1 (narrowing_keeps c (set_at family) (set_at old) s w i v h)

-- with three variables, just the members of solutions are left
pub solutions_left : (c : Constraint) (old new : List (List (ℤ × ℤ))) → ((i : ℕ) (v : ℤ) → set_at new i v ↔ Narrowed c (set_at old) i v)
    → AreDistinct c → (i : ℕ) → Names c i → (v : ℤ) → set_at new i v ↔ HasSolutionAt c (set_at old) i v
solutions_left c old new n d i names v =
    ((λ h. narrowed_has_solution c (set_at old) d i names v ((n i v).0 h)), (λ h. (n i v).1 (has_solution_narrowed c (set_at old) i names v h)))

-- a solution over the old sets is one over what is left
pub solution_kept : (c : Constraint) (old new : List (List (ℤ × ℤ))) → ((i : ℕ) (v : ℤ) → set_at new i v ↔ Narrowed c (set_at old) i v)
    → (point : ℕ → ℤ) → IsSolution c (set_at old) point → IsSolution c (set_at new) point
solution_kept c old new n point s =
    let left = λ (j : ℕ) (w : Names c j). (n j (point j)).1 (has_solution_narrowed c (set_at old) j w (point j) (record { point = point; solution = s; at = refl })) in
    record { in_x = left c.x (inl refl); in_y = left c.y (inr (inl refl)); in_z = left c.z (inr (inr refl)); sum = s.sum }
