-- What a network was at its marks, where a change is written down or taken back.
use Rattle.std.proofs.Common.{◌≡◌, ◌∙◌, ◌<◌, ◌≤◌, ◌⊎◌, inl, inr, ℕ, ap, arith, drop, get_or, length, List, [], ◌∷◌, ◌++◌, Bool, true, false, refl, subst, sym, take, zero, suc}
use Rattle.std.specs.Prelude.{map}
use Rattle.std.proofs.Math.ListN.{get_or-append}
use Rattle.std.proofs.Math.Seq.{drop-length}
use Rattle.std.proofs.lemmas.Bool.{cases_eq}
use Rattle.std.proofs.lemmas.List.{drop-append-le, get_or_push, length_push, length-take-le, map-append, take-append-drop, take-map}
use Rattle.ivl_network.specs.declared.network.change.Change.{Change}
use Rattle.ivl_network.specs.Trail.{RulesPast, revert_rule, reverted_rules, rules_past_at, with_rule_change, ArePresentIn, IsSoundRuleTrail}

-- ---- entries of a list

-- two functions that agree on each mark
pub map_agree : {X Y : Type 0} (f g : X → Y) (d : X) (xs : List X) → ((k : ℕ) → k < length xs → f (get_or xs k d) ≡ g (get_or xs k d)) → map f xs ≡ map g xs
map_agree f g d [] h = refl
map_agree f g d (x ∷ xs) h = ap (λ y. y ∷ map f xs) (h 0 (omega arith)) ∙ ap (λ ys. g x ∷ ys) (map_agree f g d xs (λ k lt. h (suc k) (omega arith)))

pub take_lt : {X : Type 0} (n k : ℕ) (xs : List X) → k < length (take n xs) → (k < length xs) × (k < n) × ((d : X) → get_or (take n xs) k d ≡ get_or xs k d)
take_lt zero k xs lt = absurd (omega arith)
take_lt (suc n) k [] lt = absurd (omega arith)
take_lt (suc n) zero (x ∷ xs) lt = (omega arith, omega arith, λ d. refl)
take_lt (suc n) (suc k) (x ∷ xs) lt = let t = take_lt n k xs (omega arith) in (let a = t.0 in omega arith, let a = t.1 in omega arith, λ d. t.2 d)

-- ---- changes that are taken back

-- some changes and then others
reverted_rules-append : {B O : Type 0} (cs ds : List (Change B O)) (past : RulesPast) → reverted_rules (cs ++ ds) past ≡ reverted_rules cs (reverted_rules ds past)
reverted_rules-append [] ds past = refl
reverted_rules-append (c ∷ cs) ds past = ap (revert_rule c) (reverted_rules-append cs ds past)

-- one more change
past_more : {B O : Type 0} (trail : List (Change B O)) (change : Change B O) (now now' : RulesPast) (m : ℕ) → revert_rule change now' ≡ now → m ≤ length trail
    → rules_past_at (trail ++ change ∷ []) now' m ≡ rules_past_at trail now m
past_more trail change now now' m back le =
    ap (λ cs. reverted_rules cs now') (drop-append-le m trail (change ∷ []) le) ∙ reverted_rules-append (drop m trail) (change ∷ []) now' ∙ ap (reverted_rules (drop m trail)) back

-- none
pub past_end : {B O : Type 0} (trail : List (Change B O)) (now : RulesPast) (m : ℕ) → m ≡ length trail → rules_past_at trail now m ≡ now
past_end trail now m e = ap (λ k. rules_past_at trail now k) e ∙ ap (λ cs. reverted_rules cs now) (drop-length trail)

-- what was there before a place of the trail was so too when that place was the end
past_before : {B O : Type 0} (trail : List (Change B O)) (now : RulesPast) (start m : ℕ) → m ≤ start → start ≤ length trail
    → rules_past_at (take start trail) (rules_past_at trail now start) m ≡ rules_past_at trail now m
past_before trail now start m le within =
    let n = length-take-le start trail within in
    sym (reverted_rules-append (drop m (take start trail)) (drop start trail) now)
    ∙ ap (λ cs. reverted_rules cs now) (sym (drop-append-le m (take start trail) (drop start trail) (omega (arith, n))) ∙ ap (drop m) (take-append-drop start trail))

-- at its marks the network was the same
pub record SameAtMarks {B O : Type 0} (marks : List ℕ) (trail : List (Change B O)) (now now' : RulesPast) : Type 0 where
  pub past : (k : ℕ) → k < length marks → rules_past_at trail now' (get_or marks k 0) ≡ rules_past_at trail now (get_or marks k 0)
  pub present : (m : ℕ) → ArePresentIn (rules_past_at trail now m) → ArePresentIn (rules_past_at trail now' m)

pub same_where_unchanged : {B O : Type 0} (marks : List ℕ) (trail : List (Change B O)) (now now' : RulesPast) → now' ≡ now → SameAtMarks marks trail now now'
same_where_unchanged marks trail now now' e = record {
  past = (λ k lt. ap (λ p. rules_past_at trail p (get_or marks k 0)) e);
  present = (λ m h. subst (λ p. ArePresentIn (rules_past_at trail p m)) (sym e) h);
}

-- ---- a change is written down, if there is a mark

pub sound_logged : {B O : Type 0} (marks : List ℕ) (trail : List (Change B O)) (change : Change B O) (now now' : RulesPast) (is_kept : Bool)
    → IsSoundRuleTrail marks trail now → ArePresentIn now' → revert_rule change now' ≡ now → (is_kept ≡ false → (marks ≡ []) ⊎ SameAtMarks marks trail now now')
    → IsSoundRuleTrail marks (with_rule_change is_kept trail change) now'
sound_logged marks trail change now now' true s p back none = record {
  in_trail = (λ k lt. let a = s.in_trail k lt in omega (arith, length_push trail change));
  in_order = s.in_order;
  present = (λ k m lt low high. elim (cases_eq m (length (trail ++ change ∷ []))) [
    | inl e ↦ subst ArePresentIn (sym (past_end (trail ++ change ∷ []) now' m e)) p
    | inr ne ↦ (let n = length_push trail change in
        subst ArePresentIn (sym (past_more trail change now now' m back (omega (arith, n)))) (s.present k m lt low (omega (arith, n))))
  ]);
}
sound_logged marks trail change now now' false s p back none = elim (none refl) [
  | inl e ↦ record {
    in_trail = (λ k lt. absurd (no_mark k e lt));
    in_order = s.in_order;
    present = (λ k m lt low high. absurd (no_mark k e lt));
  }
  | inr e ↦ record { in_trail = s.in_trail; in_order = s.in_order; present = (λ k m lt low high. e.present m (s.present k m lt low high)) }
]
  where
    no_mark : (k : ℕ) → marks ≡ [] → k < length marks → ⊥
    no_mark k e lt = let n = ap length e in omega arith

-- the marks stand for what they stood for
pub marked_logged : {B O : Type 0} (marks : List ℕ) (trail : List (Change B O)) (change : Change B O) (now now' : RulesPast) (is_kept : Bool)
    → IsSoundRuleTrail marks trail now → revert_rule change now' ≡ now → (is_kept ≡ false → (marks ≡ []) ⊎ SameAtMarks marks trail now now')
    → map (rules_past_at (with_rule_change is_kept trail change) now') marks ≡ map (rules_past_at trail now) marks
marked_logged marks trail change now now' true s back none =
    map_agree (rules_past_at (trail ++ change ∷ []) now') (rules_past_at trail now) 0 marks (λ k lt. past_more trail change now now' _ back (s.in_trail k lt))
marked_logged marks trail change now now' false s back none = elim (none refl) [
  | inl e ↦ rw e refl
  | inr e ↦ map_agree (rules_past_at trail now') (rules_past_at trail now) 0 marks e.past
]

-- ---- a mark is made

pub sound_marked : {B O : Type 0} (marks : List ℕ) (trail : List (Change B O)) (now : RulesPast) → IsSoundRuleTrail marks trail now → ArePresentIn now
    → IsSoundRuleTrail (marks ++ length trail ∷ []) trail now
sound_marked marks trail now s p = record {
  in_trail = (λ k lt. elim (cases_eq k (length marks)) [
    | inl e ↦ (let n = get_or_push marks (length trail) 0 k (sym e) in omega (arith, n))
    | inr ne ↦ (let b = before k lt ne in let a = s.in_trail k b.0 in omega (arith, a, b.1))
  ]);
  in_order = (λ j k le lt. elim (cases_eq k (length marks)) [
    | inl e ↦ elim (cases_eq j (length marks)) [
      | inl f ↦ subst (λ i. get_or (marks ++ length trail ∷ []) j 0 ≤ get_or (marks ++ length trail ∷ []) i 0) (f ∙ sym e) (omega arith)
      | inr nf ↦ (let n = get_or_push marks (length trail) 0 k (sym e) in let b = before j (omega arith) nf in let a = s.in_trail j b.0 in omega (arith, n, a, b.1))
    ]
    | inr ne ↦ (let b = before k lt ne in let c = before j (omega arith) (λ f. ne (omega arith)) in let a = s.in_order j k le b.0 in omega (arith, a, b.1, c.1))
  ]);
  present = (λ k m lt low high. elim (cases_eq k (length marks)) [
    | inl e ↦ (let n = get_or_push marks (length trail) 0 k (sym e) in subst ArePresentIn (sym (past_end trail now m (omega (arith, n)))) p)
    | inr ne ↦ (let b = before k lt ne in s.present k m b.0 (omega (arith, b.1)) high)
  ]);
}
  where
    before : (k : ℕ) → k < length (marks ++ length trail ∷ []) → (k ≡ length marks → ⊥) → (k < length marks) × (get_or (marks ++ length trail ∷ []) k 0 ≡ get_or marks k 0)
    before k lt ne =
        let below : k < length marks = (let n = length_push marks (length trail) in omega (arith, n)) in
        (below, get_or-append marks (length trail ∷ []) 0 k below)

pub marked_marked : {B O : Type 0} (marks : List ℕ) (trail : List (Change B O)) (now : RulesPast)
    → map (rules_past_at trail now) (marks ++ length trail ∷ []) ≡ map (rules_past_at trail now) marks ++ now ∷ []
marked_marked marks trail now =
    map-append (rules_past_at trail now) marks (length trail ∷ []) ∙ ap (λ past. map (rules_past_at trail now) marks ++ past ∷ []) (past_end trail now _ refl)

-- ---- marks are dropped

pub sound_fewer : {B O : Type 0} (marks : List ℕ) (trail : List (Change B O)) (now : RulesPast) (n : ℕ) → IsSoundRuleTrail marks trail now → IsSoundRuleTrail (take n marks) trail now
sound_fewer marks trail now n s = record {
  in_trail = (λ k lt. let t = take_lt n k marks lt in let a = s.in_trail k t.0 in let b = t.2 0 in omega (arith, a, b));
  in_order = (λ j k le lt.
      let t = take_lt n k marks lt in let u = take_lt n j marks (omega arith) in let a = s.in_order j k le t.0 in
      let b = t.2 0 in let c = u.2 0 in omega (arith, a, b, c));
  present = (λ k m lt low high. let t = take_lt n k marks lt in let b = t.2 0 in s.present k m t.0 (omega (arith, b)) high);
}

-- ---- the changes since a mark are taken back

pub sound_undone : {B O : Type 0} (marks : List ℕ) (trail : List (Change B O)) (now : RulesPast) (n start : ℕ) → IsSoundRuleTrail marks trail now
    → n < length marks → start ≡ get_or marks n 0 → IsSoundRuleTrail (take n marks) (take start trail) (rules_past_at trail now start)
sound_undone marks trail now n start s lt at = record {
  in_trail = (λ k b. let t = take_lt n k marks b in let le = below k t.1 in let e = t.2 0 in let l = length-take-le start trail within in omega (arith, le, e, l));
  in_order = (sound_fewer marks trail now n s).in_order;
  present = (λ k m b low high.
      let l = length-take-le start trail within in
      let le : m ≤ start = omega (arith, l) in
      subst ArePresentIn (sym (past_before trail now start m le within)) ((sound_fewer marks trail now n s).present k m b low (let w = within in omega (arith, w, le))));
}
  where
    within : start ≤ length trail
    within = let a = s.in_trail n lt in omega (arith, a, at)

    below : (k : ℕ) → k < n → get_or marks k 0 ≤ start
    below k h = let a = s.in_order k n (omega arith) lt in omega (arith, a, at)

pub marked_undone : {B O : Type 0} (marks : List ℕ) (trail : List (Change B O)) (now : RulesPast) (n start : ℕ) → IsSoundRuleTrail marks trail now
    → n < length marks → start ≡ get_or marks n 0
    → map (rules_past_at (take start trail) (rules_past_at trail now start)) (take n marks) ≡ take n (map (rules_past_at trail now) marks)
marked_undone marks trail now n start s lt at =
    map_agree (rules_past_at (take start trail) (rules_past_at trail now start)) (rules_past_at trail now) 0 (take n marks) (λ k b.
    let t = take_lt n k marks b in
    past_before trail now start _ (let a = s.in_order k n (let u = t.1 in omega arith) lt in let e = t.2 0 in omega (arith, a, at, e))
    (let a = s.in_trail n lt in omega (arith, a, at)))
    ∙ sym (take-map (rules_past_at trail now) n marks)
