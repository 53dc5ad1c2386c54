-- What the calls of a network leave of its trail and its marks.
use Rattle.std.proofs.Common.{◌≡◌, ◌≢◌, ◌↔◌, ◌∙◌, ◌-◌, ◌<◌, ◌⊎◌, inl, inr, ℕ, ap, arith, get_or, length, List, [], ◌∷◌, ◌++◌, Bool, false, refl, set, subst, sym, take}
use Rattle.std.specs.Prelude.{ℤ, All, Err, Ok, OnOk, Result, map}
use Rattle.std.proofs.lemmas.List.{length-set, take-map}
use Rattle.ivl_laws.specs.Sets.{IsBetween, Only, SameMembers}
use Rattle.ivl_network.specs.declared.network.change.Change.{Change}
use Rattle.ivl_rules.specs.declared.rules.Rule.{Rule}
use Rattle.ivl_network.specs.declared.network.change.Change.TheVariants.{Domain}
use Rattle.ivl_network.specs.Families.{ArePresent}
use Rattle.ivl_network.specs.Network.{RulesState}
use Rattle.ivl_network.specs.Trail.{RulesPast, revert_rule, rules_past_at, with_rule_change, ArePresentIn, AreSettledMarks, IsRuleKeptFrom, IsSoundRuleTrail, KeepsPast}
use Rattle.ivl_network.proofs.Kept.{kept_at_marks}
use Rattle.ivl_network.proofs.Marks.{marks_same}
use Rattle.ivl_network.proofs.Trails.{SameAtMarks, marked_logged, marked_marked, marked_undone, sound_fewer, sound_logged, sound_marked, sound_undone}

-- ---- a change that is written down if there is a mark

pub logged_trail : {B O : Type 0} (marks : List ℕ) (trail trail0 trail' : List (Change B O)) (change : Change B O) (now now' : RulesPast) (is_kept : Bool)
    → IsSoundRuleTrail marks trail now → ArePresentIn now' → trail0 ≡ trail → trail' ≡ with_rule_change is_kept trail0 change
    → revert_rule change now' ≡ now → (is_kept ≡ false → marks ≡ []) → IsSoundRuleTrail marks trail' now'
logged_trail marks trail trail0 trail' change now now' is_kept s p same e back unmarked =
    subst (λ t. IsSoundRuleTrail marks t now') (sym (e ∙ ap (λ t. with_rule_change is_kept t change) same))
    (sound_logged marks trail change now now' is_kept s p back (λ f. inl (unmarked f)))

pub logged_marks : {B O : Type 0} (marks : List ℕ) (trail trail0 trail' : List (Change B O)) (change : Change B O) (now now' : RulesPast) (is_kept : Bool)
    → IsSoundRuleTrail marks trail now → trail0 ≡ trail → trail' ≡ with_rule_change is_kept trail0 change
    → revert_rule change now' ≡ now → (is_kept ≡ false → marks ≡ []) → map (rules_past_at trail' now') marks ≡ map (rules_past_at trail now) marks
logged_marks marks trail trail0 trail' change now now' is_kept s same e back unmarked =
    ap (λ t. map (rules_past_at t now') marks) (e ∙ ap (λ t. with_rule_change is_kept t change) same)
    ∙ marked_logged marks trail change now now' is_kept s back (λ f. inl (unmarked f))

-- and what the flags of the marks say
pub logged : {B O : Type 0} (flags : List Bool) (marks : List ℕ) (trail trail0 trail' : List (Change B O)) (change : Change B O) (now now' : RulesPast) (is_kept : Bool)
    → AreSettledMarks flags (map (rules_past_at trail now) marks) → IsSoundRuleTrail marks trail now → ArePresentIn now' → trail0 ≡ trail → trail' ≡ with_rule_change is_kept trail0 change
    → revert_rule change now' ≡ now → (is_kept ≡ false → marks ≡ [])
    → IsSoundRuleTrail marks trail' now' × AreSettledMarks flags (map (rules_past_at trail' now') marks)
logged flags marks trail trail0 trail' change now now' is_kept f s p same e back unmarked = (
  logged_trail marks trail trail0 trail' change now now' is_kept s p same e back unmarked,
  marks_same flags _ _ f (logged_marks marks trail trail0 trail' change now now' is_kept s same e back unmarked),
)

-- ---- domains that are replaced

-- some, and then others
pub keeps_both : {B O : Type 0} (marks : List ℕ) (t t1 t2 : List (Change B O)) (d d1 d2 : List (List (ℤ × ℤ))) (rules : List Rule)
    → KeepsPast marks t t1 d d1 rules → KeepsPast marks t1 t2 d1 d2 rules → KeepsPast marks t t2 d d2 rules
keeps_both marks t t1 t2 d d1 d2 rules a b = record {
  same_count = b.same_count ∙ a.same_count;
  sound = (λ s p. b.sound (a.sound s p) (subst (λ n. All (ArePresent n) rules) (sym a.same_count) p));
  marked = (λ s p. b.marked (a.sound s p) (subst (λ n. All (ArePresent n) rules) (sym a.same_count) p) ∙ a.marked s p);
}

-- one is, whether or not its set is written down
pub keeps_replaced : {B O : Type 0} (marks : List ℕ) (trail : List (Change B O)) (v : ℕ) (old : List (ℤ × ℤ)) (d d' : List (List (ℤ × ℤ))) (rules : List Rule) (is_written : Bool)
    → set d' v old ≡ d → (is_written ≡ false → (marks ≡ []) ⊎ IsRuleKeptFrom (get_or marks (length marks - 1) 0) trail v)
    → KeepsPast marks trail (with_rule_change is_written trail (Domain v old)) d d' rules
keeps_replaced {B} {O} marks trail v old d d' rules is_written back none = record {
  same_count = same;
  sound = (λ sound p. sound_logged marks trail (Domain v old) now now' is_written sound (subst (λ n. All (ArePresent n) rules) (sym same) p) back_is (at_marks sound));
  marked = (λ sound p. marked_logged marks trail (Domain v old) now now' is_written sound back_is (at_marks sound));
}
  where
    now : RulesPast
    now = record { domains = d; rules = rules }

    now' : RulesPast
    now' = record { domains = d'; rules = rules }

    same : length d' ≡ length d
    same = sym (length-set d' v old) ∙ ap length back

    back_is : revert_rule {B = B} {O = O} (Domain v old) now' ≡ now
    back_is = ap (λ (sets : List (List (ℤ × ℤ))). record { domains = sets; rules = rules }) back

    at_marks : IsSoundRuleTrail marks trail now → is_written ≡ false → (marks ≡ []) ⊎ SameAtMarks marks trail now now'
    at_marks sound f = elim (none f) [
      | inl e ↦ inl e
      | inr kept ↦ inr (kept_at_marks marks trail v old d d' rules back sound kept)
    ]

-- one loses a number, and is written down or not
pub taken_one : (run : ℤ × ℤ) (x : ℤ) (i : ℕ) (old new : ℕ → ℤ → Type 0) → SameMembers (IsBetween run) (Only x)
    → ((j : ℕ) (v : ℤ) → new j v ↔ (old j v × (j ≡ i → ¬ (IsBetween run v)))) → (j : ℕ) (v : ℤ) → new j v ↔ (old j v × (j ≡ i → v ≢ x))
taken_one run x i old new same h j v = (
  (λ n. let u = (h j v).0 n in (u.0, λ e f. u.1 e ((same v).1 f))),
  (λ u. (h j v).1 (u.0, λ e b. u.1 e ((same v).0 b))),
)

pub on_ok_always : {T E P : Type 0} (r : Result T E) → P → OnOk r P
on_ok_always (Ok x) p = p
on_ok_always (Err e) p = tt

-- ---- a mark

pub more_marks : {B O : Type 0} (marks marks' : List ℕ) (trail : List (Change B O)) (now : RulesPast) (n : ℕ) → IsSoundRuleTrail marks trail now → ArePresentIn now
    → n ≡ length trail → marks' ≡ marks ++ n ∷ [] → IsSoundRuleTrail marks' trail now
more_marks marks marks' trail now n s p at e =
    subst (λ ms. IsSoundRuleTrail ms trail now) (sym (e ∙ ap (λ k. marks ++ k ∷ []) at)) (sound_marked marks trail now s p)

pub one_more_past : {B O : Type 0} (marks marks' : List ℕ) (trail : List (Change B O)) (now : RulesPast) (n : ℕ)
    → n ≡ length trail → marks' ≡ marks ++ n ∷ [] → map (rules_past_at trail now) marks' ≡ map (rules_past_at trail now) marks ++ now ∷ []
one_more_past marks marks' trail now n at e = ap (λ ms. map (rules_past_at trail now) ms) (e ∙ ap (λ k. marks ++ k ∷ []) at) ∙ marked_marked marks trail now

-- ---- back to a mark

pub undone_trail : {B O : Type 0} (marks marks' : List ℕ) (trail trail' : List (Change B O)) (now now' : RulesPast) (n start : ℕ) → IsSoundRuleTrail marks trail now
    → n < length marks → start ≡ get_or marks n 0 → marks' ≡ take n marks → trail' ≡ take start trail → now' ≡ rules_past_at trail now start → IsSoundRuleTrail marks' trail' now'
undone_trail marks marks' trail trail' now now' n start s lt at a b c =
    subst (λ ms. IsSoundRuleTrail ms trail' now') (sym a) (subst (λ t. IsSoundRuleTrail (take n marks) t now') (sym b)
    (subst (λ p. IsSoundRuleTrail (take n marks) (take start trail) p) (sym c) (sound_undone marks trail now n start s lt at)))

pub undone_marks : {B O : Type 0} (marks marks' : List ℕ) (trail trail' : List (Change B O)) (now now' : RulesPast) (n start : ℕ) → IsSoundRuleTrail marks trail now
    → n < length marks → start ≡ get_or marks n 0 → marks' ≡ take n marks → trail' ≡ take start trail → now' ≡ rules_past_at trail now start
    → map (rules_past_at trail' now') marks' ≡ take n (map (rules_past_at trail now) marks)
undone_marks marks marks' trail trail' now now' n start s lt at a b c =
    ap (λ ms. map (rules_past_at trail' now') ms) a ∙ ap (λ t. map (rules_past_at t now') (take n marks)) b
    ∙ ap (λ p. map (rules_past_at (take start trail) p) (take n marks)) c ∙ marked_undone marks trail now n start s lt at

-- ---- marks are dropped, and the trail if none is left

pub dropped_trail : {B O : Type 0} (marks marks' : List ℕ) (trail trail' : List (Change B O)) (now : RulesPast) (n : ℕ) → IsSoundRuleTrail marks trail now
    → marks' ≡ take n marks → (marks' ≡ []) ⊎ (trail' ≡ trail) → IsSoundRuleTrail marks' trail' now
dropped_trail marks marks' trail trail' now n s e (inl none) = subst (λ ms. IsSoundRuleTrail ms trail' now) (sym none) (record {
  in_trail = (λ k lt. absurd (omega arith));
  in_order = (λ j k le lt. absurd (omega arith));
  present = (λ k m lt low high. absurd (omega arith));
})
dropped_trail marks marks' trail trail' now n s e (inr same) =
    subst (λ ms. IsSoundRuleTrail ms trail' now) (sym e) (subst (λ t. IsSoundRuleTrail (take n marks) t now) (sym same) (sound_fewer marks trail now n s))

pub dropped_marks : {B O : Type 0} (marks marks' : List ℕ) (trail trail' : List (Change B O)) (now : RulesPast) (n : ℕ)
    → marks' ≡ take n marks → (marks' ≡ []) ⊎ (trail' ≡ trail) → map (rules_past_at trail' now) marks' ≡ take n (map (rules_past_at trail now) marks)
dropped_marks marks marks' trail trail' now n e (inl none) =
    ap (λ ms. map (rules_past_at trail' now) ms) none ∙ ap (λ ms. map (rules_past_at trail now) ms) (sym none ∙ e) ∙ sym (take-map (rules_past_at trail now) n marks)
dropped_marks marks marks' trail trail' now n e (inr same) =
    ap (λ t. map (rules_past_at t now) marks') same ∙ ap (λ ms. map (rules_past_at trail now) ms) e ∙ sym (take-map (rules_past_at trail now) n marks)

-- ---- the states

pub state_is : (d d' : List (List (ℤ × ℤ))) (c c' : List Rule) (f f' : List Bool) (m m' : List RulesPast) (w w' : List Bool) → d ≡ d' → c ≡ c' → f ≡ f' → m ≡ m' → w ≡ w'
    → ◌≡◌ {A = RulesState} (record { domains = d; rules = c; settled = f; marked = m; were_settled = w })
    (record { domains = d'; rules = c'; settled = f'; marked = m'; were_settled = w' })
state_is d d' c c' f f' m m' w w' of_domains of_rules of_flags of_marks of_were = rw (of_domains, of_rules, of_flags, of_marks, of_were) refl
