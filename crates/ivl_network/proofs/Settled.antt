-- Rules that stay settled.
use Rattle.std.proofs.Common.{◌≡◌, ◌≢◌, ◌↔◌, ◌⊎◌, ℕ, ◌<◌, inl, inr, refl, sym, subst, ◌∙◌, arith, List, [], ◌∷◌, ◌++◌, length, get_or, set, take, Bool, true, false}
use Rattle.std.specs.Prelude.{ℤ}
use Rattle.std.proofs.Math.ListN.{get_or-append, get_or-map}
use Rattle.std.proofs.lemmas.List.{take-map, length-map, get_or-set_other, get_or_push, length-set, length_push}
use Rattle.std.proofs.lemmas.Bool.{cases_eq, false_from_ne_true, false≢true}
use Rattle.ivl_laws.specs.Families.{set_at}
use Rattle.ivl_laws.specs.Sets.{HasSome}
use Rattle.ivl_store.specs.declared.store.constraint.Constraint.{Constraint}
use Rattle.ivl_store.specs.declared.store.settled.Lost.{Lost}
use Rattle.ivl_store.specs.Settled.{any_lost, AreLost}
use Rattle.ivl_store.specs.Solutions.{LiesWithin}
use Rattle.ivl_store.proofs.Places.{none_lost_at}
use Rattle.ivl_rules.specs.declared.rules.Rule.{Rule}
use Rattle.ivl_rules.specs.Rules.{NamesOf, NarrowedBy, needs_singles, places}
use Rattle.ivl_rules.proofs.Narrowings.{narrowed_fixed}
use Rattle.ivl_network.specs.Families.{IsFixedBy}
use Rattle.ivl_network.specs.Settled.{AreClearedRules, AreSettledRules, AreSingleBeside, HasTwo, IsOneAtMost, claimed_flags}
use Rattle.ivl_network.proofs.Staying.{StandBeside, StaysFixed, fixed_where_it_stays}

-- flags that are left, where narrowing by a rule changes nothing, or no set that it names has lost a member, or that has two and the rule says that numbers differ
settled_kept : (rules : List Rule) (flags flags' : List Bool) (before after : ℕ → ℤ → Type 0) → AreSettledRules rules flags before
    → length flags' ≡ length flags → ((k : ℕ) → get_or flags' k false ≡ true → get_or flags k false ≡ true) → LiesWithin after before
    → ((k : ℕ) (d : Rule) → k < length rules → get_or flags' k false ≡ true → StaysFixed (get_or rules k d) before after)
    → AreSettledRules rules flags' after
settled_kept rules flags flags' before after s count cleared w same = record {
  one_each = count ∙ s.one_each;
  fixed = (λ k d lt m. elim (same k d lt m) [
    | inl f ↦ f
    | inr stays ↦ fixed_where_it_stays (get_or rules k d) before after w stays (s.fixed k d lt (cleared k m))
  ]);
}

-- a flag that is set where it may be
settled_set : (rules : List Rule) (flags : List Bool) (sets : ℕ → ℤ → Type 0) (i : ℕ) → AreSettledRules rules flags sets
    → i < length rules → ((d : Rule) → IsFixedBy sets (get_or rules i d)) → AreSettledRules rules (set flags i true) sets
settled_set rules flags sets i s lt f = record {
  one_each = length-set flags i true ∙ s.one_each;
  fixed = (λ k d h m. elim (cases_eq k i) [
    | inl e ↦ subst (λ j. IsFixedBy sets (get_or rules j d)) (sym e) (f d)
    | inr ne ↦ s.fixed k d h (sym (get_or-set_other flags i k true false ne) ∙ m)
  ]);
}

pub names_or_not : (rule : Rule) (i : ℕ) → NamesOf rule i ⊎ (NamesOf rule i → ⊥)
names_or_not rule i = elim (cases_eq i (places rule).x) [
  | inl e ↦ inl (inl e)
  | inr nx ↦ elim (cases_eq i (places rule).y) [
    | inl e ↦ inl (inr (inl e))
    | inr ny ↦ elim (cases_eq i (places rule).z) [
      | inl e ↦ inl (inr (inr e))
      | inr nz ↦ inr (λ named. elim named [ inl e ↦ nx e | inr (inl e) ↦ ny e | inr (inr e) ↦ nz e ])
    ]
  ]
]

-- what is known of a settled rule at a variable that it names and that may have changed
abbrev AtMoved : Rule → Bool → Bool → ℕ → (ℕ → ℤ → Type 0) → ℕ → Type 0
AtMoved rule changed alone variable sets j = (j ≡ variable → changed ≡ false)
    ⊎ ((needs_singles rule ≡ true) × (HasTwo (sets j) ⊎ ((changed ≡ true) × (j ≡ variable) × (alone ≡ true) × HasSome (sets j) × AreSingleBeside rule j sets)))

apart_at : (rules : List Rule) (changed alone : Bool) (variable : ℕ) (before after : List Bool) (sets : ℕ → ℤ → Type 0)
    → AreClearedRules changed true alone rules variable sets before after → (k : ℕ) (d : Rule) → k < length rules → get_or after k false ≡ true
    → IsFixedBy sets (get_or rules k d) ⊎ ((j : ℕ) → NamesOf (get_or rules k d) j → AtMoved (get_or rules k d) changed alone variable sets j)
apart_at rules false alone variable before after sets a k d lt m = inr (λ _ _. inl (λ _. refl))
apart_at rules true alone variable before after sets a k d lt m = elim (names_or_not (get_or rules k d) variable) [
  | inl named ↦ elim (a.apart refl k d lt m named) [
    | inl f ↦ inl f
    | inr still ↦ inr (λ j _. elim (cases_eq j variable) [
      | inl e ↦ inr (
        still.1,
        subst (λ i. HasTwo (sets i) ⊎ ((true ≡ true) × (i ≡ variable) × (alone ≡ true) × HasSome (sets i) × AreSingleBeside (get_or rules k d) i sets)) (sym e)
            (elim still.2 [ inl two ↦ inl two | inr one ↦ inr (refl, refl, one.0, one.1, one.2) ]),
      )
      | inr ne ↦ inl (λ e. absurd (ne e))
    ])
  ]
  | inr other ↦ inr (λ j named. inl (λ e. absurd (other (subst (NamesOf (get_or rules k d)) e named))))
]

-- where it alone lost members, the others stand
stands_at : (rule : Rule) (changed alone : Bool) (variable : ℕ) (before after : ℕ → ℤ → Type 0) (j : ℕ)
    → (changed ≡ true → alone ≡ true → (i : ℕ) → i ≢ variable → (v : ℤ) → before i v → after i v) → AtMoved rule changed alone variable after j
    → (j ≡ variable → changed ≡ false) ⊎ ((needs_singles rule ≡ true) × (HasTwo (after j) ⊎ (HasSome (after j) × StandBeside rule before after j)))
stands_at rule changed alone variable before after j others (inl kept) = inl kept
stands_at rule changed alone variable before after j others (inr (is, inl two)) = inr (is, inl two)
stands_at rule changed alone variable before after j others (inr (is, inr (t, at, a, some, single))) =
    inr (is, inr (some, (single, λ i named ne. others t a i (λ e. ne (e ∙ sym at)))))

-- the flags once rule i was narrowed by: those of others at variables that have changed are cleared, and its own is set
pub flags_moved : (rules : List Rule) (i : ℕ) (e : Rule) (lost : Lost) (alone : Bool) (m0 m1 m2 m3 : List Bool) (old new : List (List (ℤ × ℤ))) → i < length rules
    → (alone ≡ true → IsOneAtMost lost)
    → AreClearedRules lost.x true alone rules (places (get_or rules i e)).x (set_at new) m0 m1 → AreClearedRules lost.y true alone rules (places (get_or rules i e)).y (set_at new) m1 m2
    → AreClearedRules lost.z true alone rules (places (get_or rules i e)).z (set_at new) m2 m3
    → ((d : Rule) (j : ℕ) (v : ℤ) → set_at new j v ↔ NarrowedBy (get_or rules i d) (set_at old) j v)
    → ((d : Rule) → AreLost (places (get_or rules i d)) lost (set_at old) (set_at new))
    → AreSettledRules rules m0 (set_at old) → AreSettledRules rules (set m3 i true) (set_at new)
flags_moved rules i e lost alone m0 m1 m2 m3 old new lt one ax ay az n l s =
    settled_set rules m3 (set_at new) i
    (settled_kept rules m0 m3 (set_at old) (set_at new) s (az.same_count ∙ ay.same_count ∙ ax.same_count) (λ k m. ax.only_cleared k (m1_of k m))
    (λ j v h. ((n e j v).0 h).kept)
    (λ k d h m. elim (apart_at rules lost.x alone _ m0 m1 (set_at new) ax k d h (m1_of k m)) [
      | inl f ↦ inl f
      | inr ux ↦ elim (apart_at rules lost.y alone _ m1 m2 (set_at new) ay k d h (az.only_cleared k m)) [
        | inl f ↦ inl f
        | inr uy ↦ elim (apart_at rules lost.z alone _ m2 m3 (set_at new) az k d h m) [
          | inl f ↦ inl f
          | inr uz ↦ inr (λ j named. elim (stands_at (get_or rules k d) lost.x alone p.x (set_at old) (set_at new) j alone_x (ux j named)) [
            | inr still ↦ inr still
            | inl x ↦ elim (stands_at (get_or rules k d) lost.y alone p.y (set_at old) (set_at new) j alone_y (uy j named)) [
              | inr still ↦ inr still
              | inl y ↦ elim (stands_at (get_or rules k d) lost.z alone p.z (set_at old) (set_at new) j alone_z (uz j named)) [
                | inr still ↦ inr still
                | inl z ↦ inl ((l e).others j x y z)
              ]
            ]
          ])
        ]
      ]
    ]))
    lt
    (λ d. narrowed_fixed (get_or rules i d) (set_at old) (set_at new) (n d))
  where
    p : Constraint
    p = places (get_or rules i e)

    m1_of : (k : ℕ) → get_or m3 k false ≡ true → get_or m1 k false ≡ true
    m1_of k m = ay.only_cleared k (az.only_cleared k m)

    alone_x : lost.x ≡ true → alone ≡ true → (j : ℕ) → j ≢ p.x → (v : ℤ) → set_at old j v → set_at new j v
    alone_x t a j ne = (l e).others j (λ at. absurd (ne at)) (λ _. false_from_ne_true lost.y (λ u. (one a).0 (t, u))) (λ _. false_from_ne_true lost.z (λ u. (one a).1 (t, u)))

    alone_y : lost.y ≡ true → alone ≡ true → (j : ℕ) → j ≢ p.y → (v : ℤ) → set_at old j v → set_at new j v
    alone_y t a j ne = (l e).others j (λ _. false_from_ne_true lost.x (λ u. (one a).0 (u, t))) (λ at. absurd (ne at)) (λ _. false_from_ne_true lost.z (λ u. (one a).2 (t, u)))

    alone_z : lost.z ≡ true → alone ≡ true → (j : ℕ) → j ≢ p.z → (v : ℤ) → set_at old j v → set_at new j v
    alone_z t a j ne = (l e).others j (λ _. false_from_ne_true lost.x (λ u. (one a).1 (u, t))) (λ _. false_from_ne_true lost.y (λ u. (one a).2 (u, t))) (λ at. absurd (ne at))

-- where nothing was lost, no flag was cleared
pub only_one_moved : (rules : List Rule) (c : Constraint) (lost : Lost) (alone : Bool) (sets : ℕ → ℤ → Type 0) (m0 m1 m2 m3 : List Bool)
    → AreClearedRules lost.x true alone rules c.x sets m0 m1 → AreClearedRules lost.y true alone rules c.y sets m1 m2 → AreClearedRules lost.z true alone rules c.z sets m2 m3
    → any_lost lost ≡ false → m3 ≡ m0
only_one_moved rules c lost alone sets m0 m1 m2 m3 ax ay az none =
    let n = none_lost_at lost none in
    az.kept n.2 ∙ ay.kept n.1 ∙ ax.kept n.0

-- ---- from call to call

-- the flags once a domain was cut
pub settled_cut : (rules : List Rule) (flags flags' : List Bool) (i : ℕ) (lost : Bool) (old new : List (List (ℤ × ℤ)))
    → AreSettledRules rules flags (set_at old) → AreClearedRules lost true true rules i (set_at new) flags flags' → (lost ≡ false → new ≡ old)
    → LiesWithin (set_at new) (set_at old) → ((j : ℕ) (v : ℤ) → (j ≡ i → ⊥) → set_at old j v → set_at new j v) → AreSettledRules rules flags' (set_at new)
settled_cut rules flags flags' i lost old new s cleared same within apart =
    settled_kept rules flags flags' (set_at old) (set_at new) s cleared.same_count cleared.only_cleared within
    (λ k d lt m. elim (apart_at rules lost true i flags flags' (set_at new) cleared k d lt m) [
      | inl f ↦ inl f
      | inr u ↦ inr (λ j named. elim (stands_at (get_or rules k d) lost true i (set_at old) (set_at new) j (λ _ _ o ne v. apart o v ne) (u j named)) [
        | inr still ↦ inr still
        | inl kept ↦ inl (λ v was. elim (cases_eq j i) [
          | inl e ↦ subst (λ sets. set_at sets j v) (sym (same (kept e))) was
          | inr ne ↦ apart j v ne was
        ])
      ])
    ])

-- the flags with one more rule, which is not settled
pub settled_push : (rules rules' : List Rule) (flags flags' : List Bool) (rule : Rule) (sets : ℕ → ℤ → Type 0)
    → rules' ≡ rules ++ rule ∷ [] → flags' ≡ flags ++ false ∷ [] → AreSettledRules rules flags sets → AreSettledRules rules' flags' sets
settled_push rules rules' flags flags' rule sets e f s =
    subst (λ cs. AreSettledRules cs flags' sets) (sym e) (subst (λ ms. AreSettledRules (rules ++ rule ∷ []) ms sets) (sym f) (record {
      one_each = (let n = s.one_each in let a = length_push flags false in let b = length_push rules rule in omega arith);
      fixed = (λ k d lt m. let n = s.one_each in let b = length_push rules rule in elim (cases_eq k (length flags)) [
        | inl here ↦ absurd (false≢true (sym (get_or_push flags false false k (sym here)) ∙ m))
        | inr ne ↦ (let below : k < length rules = omega arith in
            subst (IsFixedBy sets) (sym (get_or-append rules (rule ∷ []) d k below))
            (s.fixed k d below (sym (get_or-append flags (false ∷ []) false k (omega arith)) ∙ m)))
      ]);
    }))

-- ---- flags that claim nothing

none_set : (flags : List Bool) (k : ℕ) → get_or (claimed_flags false flags) k false ≡ false
none_set flags k = get_or-map (λ _. false) flags k false

pub claimed_length : (claims : Bool) (flags : List Bool) → length (claimed_flags claims flags) ≡ length flags
claimed_length true flags = refl
claimed_length false flags = length-map flags (λ _. false)

pub claimed_take : (claims : Bool) (n : ℕ) (flags : List Bool) → take n (claimed_flags claims flags) ≡ claimed_flags claims (take n flags)
claimed_take true n flags = refl
claimed_take false n flags = take-map (λ _. false) n flags

pub claimed_cleared : (claims : Bool) (rules : List Rule) (i : ℕ) (sets : ℕ → ℤ → Type 0) (before after : List Bool) → AreClearedRules claims false false rules i sets before after
    → AreClearedRules true false false rules i sets (claimed_flags claims before) (claimed_flags claims after)
claimed_cleared true rules i sets before after a = a
claimed_cleared false rules i sets before after a = record {
  same_count = claimed_length false after ∙ a.same_count ∙ sym (claimed_length false before);
  kept = (λ e. absurd (false≢true (sym e)));
  only_cleared = (λ k m. absurd (false≢true (sym (none_set after k) ∙ m)));
  apart = (λ _ k d lt m. absurd (false≢true (sym (none_set after k) ∙ m)));
  others = (λ k d lt m other. absurd (false≢true (sym (none_set before k) ∙ m)));
}

pub claimed_settled : (claims : Bool) (rules : List Rule) (flags : List Bool) (sets : ℕ → ℤ → Type 0) → AreSettledRules rules flags sets
    → AreSettledRules rules (claimed_flags claims flags) sets
claimed_settled true rules flags sets s = s
claimed_settled false rules flags sets s = record {
  one_each = claimed_length false flags ∙ s.one_each;
  fixed = (λ k d lt m. absurd (false≢true (sym (none_set flags k) ∙ m)));
}
