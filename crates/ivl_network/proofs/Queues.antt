-- The queue of the rules that are not settled.
use Rattle.std.proofs.Common.{◌≡◌, ◌∙◌, ◌+◌, ◌-◌, ◌*◌, ◌/◌, ◌<◌, ◌≤◌, ◌⊎◌, inl, inr, ℕ, ap, arith, cond, get_or, length, List, [], ◌∷◌, ◌++◌, Bool, true, false, refl, set, subst, sym, suc, eqb, take}
use Rattle.std.specs.Prelude.{ℤ, not}
use Rattle.std.specs.Vec.{vec_capacity}
use Rattle.std.proofs.Math.ListN.{get_or-append, get_or-eq_default}
use Rattle.std.proofs.lemmas.Bool.{cases_eq, cases_lt, false≢true}
use Rattle.std.proofs.lemmas.List.{get_or-set_other, get_or-set_same, get_or_push, length-set, length_push, get_or_default, take_all, take_more}
use Rattle.std.proofs.lemmas.List.Sums.{count_by-le-length, sum_by_push, sum_by-append, sum_by-set}
use Rattle.ivl_network.specs.declared.network.queue.Queue.{Queue}
use Rattle.ivl_network.specs.Queue.{IsLastNamingRule, IsListed, IsListedAt, IsRuleQueue, Removes, times_in, unsettled_count, waits}
use Rattle.ivl_network.specs.Families.{IsFixedBy}
use Rattle.ivl_network.proofs.Indexes.{listed_there}
use Rattle.ivl_network.specs.Settled.{AreClearedListed, AreClearedRules, StillDiffers}
use Rattle.ivl_rules.specs.Rules.{NamesOf, needs_singles}
use Rattle.ivl_rules.specs.declared.rules.Rule.{Rule}

-- ---- flags, and numbers in a list

pub unsettled-set : (flags : List Bool) (i : ℕ) (b d : Bool) → i < length flags → unsettled_count (set flags i b) + cond (not (get_or flags i d)) 1 0 ≡ unsettled_count flags + cond (not b) 1 0
unsettled-set flags i b d lt = sum_by-set (λ (m : Bool). cond (not m) 1 0) flags i b d lt

pub waits_at : (flags : List Bool) (i : ℕ) (b d : Bool) → i < length flags → get_or flags i d ≡ b → waits flags i ≡ cond b 0 1
waits_at flags i b d lt e = ap (λ m. cond m 0 1) (get_or_default flags i true d lt ∙ e)

eqb_same : (k : ℕ) → eqb k k ≡ true
eqb_same k = grind arith

eqb_other : (j k : ℕ) → (j ≡ k → ⊥) → eqb j k ≡ false
eqb_other j k ne = grind arith

pub one_same : (k : ℕ) → times_in k (k ∷ []) ≡ 1
one_same k = subst (λ b. 0 + cond b 1 0 ≡ 1) (sym (eqb_same k)) (omega arith)

pub one_other : (j k : ℕ) → (j ≡ k → ⊥) → times_in k (j ∷ []) ≡ 0
one_other j k ne = subst (λ b. 0 + cond b 1 0 ≡ 0) (sym (eqb_other j k ne)) (omega arith)

pub count_push : (list : List ℕ) (j k : ℕ) → times_in k (list ++ j ∷ []) ≡ times_in k list + times_in k (j ∷ [])
count_push list j k = sum_by-append (λ (i : ℕ). cond (eqb i k) 1 0) list (j ∷ [])

-- a number that stands there stands there once at least
pub count_some : (list : List ℕ) (k : ℕ) → times_in k (list ++ k ∷ []) ≡ times_in k list + 1
count_some list k = count_push list k k ∙ ap (λ n. times_in k list + n) (one_same k)

-- one that stands at no place does not
pub count_none : (list : List ℕ) (k : ℕ) → ((j : ℕ) → j < length list → get_or list j 0 ≡ k → ⊥) → times_in k list ≡ 0
count_none [] k none = refl
count_none (j ∷ list) k none =
    sum_by-append (λ (i : ℕ). cond (eqb i k) 1 0) (j ∷ []) list
    ∙ (let a = one_other j k (λ e. none 0 (omega arith) e) in let b = count_none list k (λ i lt e. none (suc i) (omega (arith, lt)) e) in omega (arith, a, b))

-- the last of a list
pub last_of : (list : List ℕ) (k : ℕ) → 0 < length list → k ≡ get_or list (length list - 1) k → (front : List ℕ) × (list ≡ front ++ k ∷ [])
last_of list k pos e = (take (length list - 1) list, split list k pos ∙ ap (λ j. take (length list - 1) list ++ j ∷ []) (sym e))
  where
    split : (xs : List ℕ) (d : ℕ) → 0 < length xs → xs ≡ take (length xs - 1) xs ++ get_or xs (length xs - 1) d ∷ []
    split xs d lt =
        sym (take_all (length xs - 1 + 1) xs (omega (arith, lt))) ∙ take_more xs (length xs - 1) d (omega (arith, lt))

-- ---- flags of the queue

-- there is room for one more where a flag is set
pub room_to_wait : (queue : Queue) (k : ℕ) (d : Bool) → IsRuleQueue queue → k < length queue.settled.items → get_or queue.settled.items k d ≡ true
    → (length queue.later.items < vec_capacity queue.later) × (length queue.late.items < vec_capacity queue.late)
room_to_wait queue k d s lt e =
    let a = subst (λ b. unsettled_count (set queue.settled.items k false) + cond (not b) 1 0 ≡ unsettled_count queue.settled.items + 1) e (unsettled-set queue.settled.items k false d lt) in
    let b = count_by-le-length not (set queue.settled.items k false) in
    let n = length-set queue.settled.items k false in
    let m = s.as_many in let r = s.room_later in let r2 = s.room_late in (omega (arith, a, b, n, m, r), omega (arith, a, b, n, m, r2))

-- where nothing waits, each is settled
pub none_waits : (queue : Queue) → IsRuleQueue queue → queue.round.items ≡ [] → queue.later.items ≡ [] → queue.late.items ≡ []
    → (k : ℕ) → k < length queue.settled.items → get_or queue.settled.items k false ≡ true
none_waits queue s e f g k lt =
    let o = s.once k in let a = ap (times_in k) e in let b = ap (times_in k) f in let c = ap (times_in k) g in
    let z : waits queue.settled.items k ≡ 0 = omega (arith, o, a, b, c) in
    is_set (get_or queue.settled.items k false) (sym (waits_at queue.settled.items k (get_or queue.settled.items k false) false lt refl) ∙ z)
  where
    is_set : (b : Bool) → ◌≡◌ {A = ℕ} (cond b 0 1) 0 → b ≡ true
    is_set true h = refl
    is_set false h = absurd (omega (arith, h))

-- what waits is not settled
pub waiting : (queue : Queue) (front : List ℕ) (k : ℕ) → IsRuleQueue queue → queue.round.items ≡ front ++ k ∷ []
    → (k < length queue.settled.items) × (get_or queue.settled.items k false ≡ false)
waiting queue front k s e =
    let n = s.once k in let m = ap (times_in k) e ∙ count_some front k in
    let some : 0 < waits queue.settled.items k = omega (arith, n, m) in
    let lt : k < length queue.settled.items = elim (cases_lt k (length queue.settled.items)) [
      | inl lt ↦ lt
      | inr le ↦ absurd (let z : waits queue.settled.items k ≡ 0 = ap (λ m. cond m 0 1) (get_or-eq_default queue.settled.items true le) in omega (arith, z, some))
    ] in
    (lt, is_not (get_or queue.settled.items k false) (subst (λ n. 0 < n) (waits_at queue.settled.items k (get_or queue.settled.items k false) false lt refl) some))
  where
    is_not : (b : Bool) → 0 < cond {A = ℕ} b 0 1 → b ≡ false
    is_not true h = absurd (omega (arith, h))
    is_not false h = refl

-- ---- one more rule, and one less

pub pushed : (queue queue' : Queue) (count : ℕ) → IsRuleQueue queue → count ≡ length queue.settled.items → queue'.settled.items ≡ queue.settled.items ++ false ∷ []
    → queue'.round.items ≡ queue.round.items → queue'.later.items ≡ queue.later.items ++ count ∷ [] → queue'.late.items ≡ queue.late.items
    → count + 1 ≤ vec_capacity queue'.round → count + 1 ≤ vec_capacity queue'.later → count + 1 ≤ vec_capacity queue'.late → IsRuleQueue queue'
pushed queue queue' count s at e f g h room room_later room_late =
    let n = length_push queue.settled.items false in
    record {
      once = (λ k. ap (λ l. times_in k l + times_in k queue'.later.items + times_in k queue'.late.items) f
          ∙ ap (λ l. times_in k queue.round.items + times_in k l + times_in k queue'.late.items) g
          ∙ ap (λ l. times_in k queue.round.items + times_in k (queue.later.items ++ count ∷ []) + times_in k l) h
          ∙ (let c = count_push queue.later.items count k in let o = s.once k in elim (cases_eq k count) [
            | inl here ↦ (let one : times_in k (count ∷ []) ≡ 1 = ap (λ j. times_in k (j ∷ [])) (sym here) ∙ one_same k in
                let was : waits queue.settled.items k ≡ 0 = ap (λ m. cond m 0 1) (get_or-eq_default queue.settled.items true (omega (arith, here, at))) in
                let now : waits queue'.settled.items k ≡ 1 = ap (λ l. waits l k) e ∙ ap (λ m. cond m 0 1) (get_or_push queue.settled.items false true k (omega (arith, here, at))) in
                omega (arith, c, o, one, was, now))
            | inr ne ↦ (let none = one_other count k (λ i. ne (sym i)) in
                let same : waits queue'.settled.items k ≡ waits queue.settled.items k = ap (λ l. waits l k) e ∙ waits_before queue.settled.items k (λ i. ne (i ∙ sym at)) in
                omega (arith, c, o, none, same))
          ]));
      as_many = (let a = ap length f in let b = ap length g in let d = ap length h in let l = length_push queue.later.items count in
          let c : unsettled_count queue'.settled.items ≡ unsettled_count queue.settled.items + 1 = ap unsettled_count e ∙ sum_by_push (λ (b : Bool). cond (not b) 1 0) queue.settled.items false in
          let m = s.as_many in omega (arith, a, b, d, l, c, m));
      room = (let l = ap length e in omega (arith, l, n, at, room));
      room_later = (let l = ap length e in omega (arith, l, n, at, room_later));
      room_late = (let l = ap length e in omega (arith, l, n, at, room_late));
    }
  where
    waits_before : (flags : List Bool) (k : ℕ) → (k ≡ length flags → ⊥) → waits (flags ++ false ∷ []) k ≡ waits flags k
    waits_before flags k ne = ap (λ m. cond m 0 1) (elim (cases_lt k (length flags)) [
      | inl lt ↦ get_or-append flags (false ∷ []) true k lt
      | inr le ↦ get_or-eq_default (flags ++ false ∷ []) true (let n = length_push flags false in omega (arith, n, le, ne)) ∙ sym (get_or-eq_default flags true le)
    ])

abbrev pub HasSameRoom : Queue → Queue → Type 0
HasSameRoom queue queue' =
    (vec_capacity queue'.round ≡ vec_capacity queue.round) × (vec_capacity queue'.later ≡ vec_capacity queue.later) × (vec_capacity queue'.late ≡ vec_capacity queue.late)

-- the last rule is dropped, and its number is removed where it waits
pub popped : (queue queue' : Queue) (flag : Bool) (flags : List Bool) → IsRuleQueue queue → queue.settled.items ≡ flags ++ flag ∷ [] → queue'.settled.items ≡ flags
    → ((k : ℕ) → times_in k queue'.round.items + times_in k queue'.later.items + times_in k queue'.late.items + cond flag 0 (times_in k (length flags ∷ []))
    ≡ times_in k queue.round.items + times_in k queue.later.items + times_in k queue.late.items)
    → length queue'.round.items + length queue'.later.items + length queue'.late.items + cond flag 0 1 ≡ length queue.round.items + length queue.later.items + length queue.late.items
    → HasSameRoom queue queue' → IsRuleQueue queue'
popped queue queue' flag flags s e f counts lengths same =
    let n = length_push flags flag in
    record {
      once = (λ k. let c = counts k in let o = s.once k in ap (λ m. m) (elim (cases_eq k (length flags)) [
        | inl here ↦ (let was : waits queue.settled.items k ≡ cond flag 0 1 = ap (λ l. waits l k) e ∙ ap (λ m. cond m 0 1) (get_or_push flags flag true k (sym here)) in
            let now : waits queue'.settled.items k ≡ 0 = ap (λ l. waits l k) f ∙ ap (λ m. cond m 0 1) (get_or-eq_default flags true (omega (arith, here))) in
            let one : times_in k (length flags ∷ []) ≡ 1 = ap (λ j. times_in k (j ∷ [])) (sym here) ∙ one_same k in
            none_left flag _ (times_in k (length flags ∷ [])) one (c ∙ o ∙ was) ∙ sym now)
        | inr ne ↦ (let none : times_in k (length flags ∷ []) ≡ 0 = one_other (length flags) k (λ h. ne (sym h)) in
            let same : waits queue.settled.items k ≡ waits queue'.settled.items k = ap (λ l. waits l k) e ∙ waits_before flags k ne ∙ ap (λ l. waits l k) (sym f) in
            as_before flag _ _ (times_in k (length flags ∷ [])) none (c ∙ o ∙ same))
      ]));
      as_many = (let c : unsettled_count queue.settled.items ≡ unsettled_count flags + cond (not flag) 1 0 = ap unsettled_count e ∙ sum_by_push (λ (b : Bool). cond (not b) 1 0) flags flag in
          fewer flag _ _ (lengths ∙ s.as_many ∙ c) ∙ ap unsettled_count (sym f));
      room = (let a = ap length e in let b = ap length f in let r = s.room in let t = same.0 in omega (arith, a, b, n, r, t));
      room_later = (let a = ap length e in let b = ap length f in let r = s.room_later in let t = same.1 in omega (arith, a, b, n, r, t));
      room_late = (let a = ap length e in let b = ap length f in let r = s.room_late in let t = same.2 in omega (arith, a, b, n, r, t));
    }
  where
    none_left : (b : Bool) (m one : ℕ) → one ≡ 1 → m + cond b 0 one ≡ cond b 0 1 → m ≡ 0
    none_left true m one u h = omega (arith, h)
    none_left false m one u h = omega (arith, h, u)

    as_before : (b : Bool) (m w one : ℕ) → one ≡ 0 → m + cond b 0 one ≡ w → m ≡ w
    as_before true m w one u h = omega (arith, h)
    as_before false m w one u h = omega (arith, h, u)

    fewer : (b : Bool) (m u : ℕ) → m + cond b 0 1 ≡ u + cond (not b) 1 0 → m ≡ u
    fewer true m u h = omega (arith, h)
    fewer false m u h = omega (arith, h)

    waits_before : (ms : List Bool) (k : ℕ) → (k ≡ length ms → ⊥) → waits (ms ++ flag ∷ []) k ≡ waits ms k
    waits_before ms k ne = ap (λ m. cond m 0 1) (elim (cases_lt k (length ms)) [
      | inl lt ↦ get_or-append ms (flag ∷ []) true k lt
      | inr le ↦ get_or-eq_default (ms ++ flag ∷ []) true (let n = length_push ms flag in omega (arith, n, le, ne)) ∙ sym (get_or-eq_default ms true le)
    ])

-- one that is settled waits nowhere
pub popped_settled : (queue queue' : Queue) (flag : Bool) → IsRuleQueue queue → queue.settled.items ≡ queue'.settled.items ++ flag ∷ [] → flag ≡ true
    → queue'.round.items ≡ queue.round.items → queue'.later.items ≡ queue.later.items → queue'.late.items ≡ queue.late.items → HasSameRoom queue queue' → IsRuleQueue queue'
popped_settled queue queue' true s e m f g h same =
    popped queue queue' true queue'.settled.items s e refl
    (λ k. let a = ap (times_in k) f in let b = ap (times_in k) g in let c = ap (times_in k) h in omega (arith, a, b, c))
    (let a = ap length f in let b = ap length g in let c = ap length h in omega (arith, a, b, c)) same
popped_settled queue queue' false s e m f g h same = absurd (false≢true m)

-- one that waits for the next round
pub popped_later : (queue queue' : Queue) (flag : Bool) (k : ℕ) → IsRuleQueue queue → queue.settled.items ≡ queue'.settled.items ++ flag ∷ [] → flag ≡ false → k ≡ length queue'.settled.items
    → queue'.round.items ≡ queue.round.items → Removes k queue.later.items queue'.later.items true → queue'.late.items ≡ queue.late.items → HasSameRoom queue queue' → IsRuleQueue queue'
popped_later queue queue' true k s e m at f g h same = absurd (false≢true (sym m))
popped_later queue queue' false k s e m at f g h same =
    popped queue queue' false queue'.settled.items s e refl
    (λ j. let a = ap (times_in j) f in let b = g.0 j in let c = ap (λ i. times_in j (i ∷ [])) at in let d = ap (times_in j) h in omega (arith, a, b, c, d))
    (let a = ap length f in let b = g.1 in let d = ap length h in omega (arith, a, b, d)) same

-- one that waits until no other does
pub popped_late : (queue queue' : Queue) (flag : Bool) (k : ℕ) → IsRuleQueue queue → queue.settled.items ≡ queue'.settled.items ++ flag ∷ [] → flag ≡ false → k ≡ length queue'.settled.items
    → queue'.round.items ≡ queue.round.items → Removes k queue.later.items queue'.later.items false → Removes k queue.late.items queue'.late.items true → HasSameRoom queue queue' → IsRuleQueue queue'
popped_late queue queue' true k s e m at f g h same = absurd (false≢true (sym m))
popped_late queue queue' false k s e m at f g h same =
    popped queue queue' false queue'.settled.items s e refl
    (λ j. let a = ap (times_in j) f in let b = ap (times_in j) g.0 in let c = ap (λ i. times_in j (i ∷ [])) at in let d = h.0 j in omega (arith, a, b, c, d))
    (let a = ap length f in let b = ap length g.0 in let d = h.1 in omega (arith, a, b, d)) same

-- one that waits in this round
pub popped_round : (queue queue' : Queue) (flag : Bool) (k : ℕ) (removed : Bool) → IsRuleQueue queue → queue.settled.items ≡ queue'.settled.items ++ flag ∷ [] → flag ≡ false
    → k ≡ length queue'.settled.items → Removes k queue.later.items queue'.later.items false → Removes k queue.late.items queue'.late.items false
    → Removes k queue.round.items queue'.round.items removed → HasSameRoom queue queue' → IsRuleQueue queue'
popped_round queue queue' true k removed s e m at f h g same = absurd (false≢true (sym m))
popped_round queue queue' false k true s e m at f h g same =
    popped queue queue' false queue'.settled.items s e refl
    (λ j. let a = ap (times_in j) f.0 in let b = g.0 j in let c = ap (λ i. times_in j (i ∷ [])) at in let d = ap (times_in j) h.0 in omega (arith, a, b, c, d))
    (let a = ap length f.0 in let b = g.1 in let d = ap length h.0 in omega (arith, a, b, d)) same
popped_round queue queue' false k false s e m at f h g same =
    let w : waits queue.settled.items k ≡ 1 = ap (λ l. waits l k) e ∙ ap (λ b. cond {A = ℕ} b 0 1) (get_or_push queue'.settled.items false true k (sym at)) in
    let o = s.once k in let a = f.1 in let b = g.1 in let c = h.1 in absurd (omega (arith, w, o, a, b, c))

-- ---- rules that lose their flags

-- those that are listed at the variable have none from this place on, but where they stay
pub record WokenSoFar (singles : Bool) (rules : List Rule) (variable : ℕ) (Stays : Rule → Type 0) (before after : List Bool) (place : ℕ) : Type 0 where
  pub low : 0 < place → place < 4 * length rules
  pub names : (k : ℕ) (d : Rule) → 0 < place → 4 * k ≤ place → place < 4 * k + 4 → IsListedAt singles k variable place (get_or rules k d)
  pub same_count : length after ≡ length before
  pub only_cleared : (k : ℕ) → get_or after k false ≡ true → get_or before k false ≡ true
  pub left : (k : ℕ) (d : Rule) → place ≤ 4 * k → k < length rules → get_or after k false ≡ true → IsListed singles variable (get_or rules k d)
      → Stays (get_or rules k d)
  pub others : (k : ℕ) (d : Rule) → k < length rules → get_or before k false ≡ true → ¬ (NamesOf (get_or rules k d) variable) → get_or after k false ≡ true

pub none_woken : (s : Bool) (rules : List Rule) (variable : ℕ) (Stays : Rule → Type 0) (flags : List Bool) (place : ℕ) → IsLastNamingRule s rules variable (length rules) place
    → WokenSoFar s rules variable Stays flags flags place
none_woken s rules variable Stays flags place last = record {
  low = last.low;
  names = last.names;
  same_count = refl;
  only_cleared = (λ k m. m);
  left = (λ k d from lt m listed. absurd (last.none k d from lt listed));
  others = (λ k d lt m not_named. m);
}

-- a flag at this place that stays
pub one_left : (s : Bool) (rules : List Rule) (variable : ℕ) (Stays : Rule → Type 0) (before after : List Bool) (place next : ℕ)
    → WokenSoFar s rules variable Stays before after place → 0 < place
    → ((d : Rule) → get_or after (place / 4) false ≡ true → Stays (get_or rules (place / 4) d))
    → IsLastNamingRule s rules variable (place / 4) next → WokenSoFar s rules variable Stays before after next
one_left s rules variable Stays before after place next so_far pos stays last = record {
  low = (λ some. let a = last.low some in let b = so_far.low pos in omega (arith, a, b));
  names = last.names;
  same_count = so_far.same_count;
  only_cleared = so_far.only_cleared;
  left = (λ k d from lt m is. elim (cases_eq k (place / 4)) [
    | inl e ↦ subst (λ j. Stays (get_or rules j d)) (sym e) (stays d (subst (λ j. get_or after j false ≡ true) e m))
    | inr ne ↦ elim (cases_lt k (place / 4)) [
      | inl below ↦ absurd (last.none k d from below is)
      | inr above ↦ so_far.left k d (omega (arith, above, ne)) lt m is
    ]
  ]);
  others = so_far.others;
}

-- a flag at this place that is cleared
pub one_woken : (s : Bool) (rules : List Rule) (variable : ℕ) (Stays : Rule → Type 0) (before after : List Bool) (place next : ℕ)
    → WokenSoFar s rules variable Stays before after place → 0 < place → place / 4 < length after
    → IsLastNamingRule s rules variable (place / 4) next → WokenSoFar s rules variable Stays before (set after (place / 4) false) next
one_woken s rules variable Stays before after place next so_far pos within =
    one_left s rules variable Stays before (set after (place / 4) false) place next (record {
      low = so_far.low;
      names = so_far.names;
      same_count = length-set after (place / 4) false ∙ so_far.same_count;
      only_cleared = (λ k m. so_far.only_cleared k (was k m));
      left = (λ k d from lt m. so_far.left k d from lt (was k m));
      others = (λ k d lt m other. elim (cases_eq k (place / 4)) [
        | inl e ↦ absurd (other (subst (λ j. NamesOf (get_or rules j d) variable) (sym e)
            (listed_there s (place / 4) variable place _ (so_far.names (place / 4) d pos (omega arith) (omega arith))).0))
        | inr ne ↦ get_or-set_other after (place / 4) k false false ne ∙ so_far.others k d lt m other
      ]);
    }) pos (λ d m. absurd (false≢true (sym (get_or-set_same after (place / 4) false false within) ∙ m)))
  where
    was : (k : ℕ) → get_or (set after (place / 4) false) k false ≡ true → get_or after k false ≡ true
    was k m = elim (cases_eq k (place / 4)) [
      | inl e ↦ absurd (false≢true (sym (ap (λ i. get_or (set after (place / 4) false) i false) e ∙ get_or-set_same after (place / 4) false false within) ∙ m))
      | inr ne ↦ sym (get_or-set_other after (place / 4) k false false ne) ∙ m
    ]

pub all_woken : (s : Bool) (rules : List Rule) (variable : ℕ) (Stays : Rule → Type 0) (before after : List Bool) (place : ℕ) → WokenSoFar s rules variable Stays before after place
    → place ≤ 0 → AreClearedListed s rules variable Stays before after
all_woken s rules variable Stays before after place so_far end = record {
  same_count = so_far.same_count;
  only_cleared = so_far.only_cleared;
  left = (λ k d lt m. so_far.left k d (omega (arith, end)) lt m);
  others = so_far.others;
}

-- a list in which all stay
pub list_left : (s : Bool) (rules : List Rule) (variable : ℕ) (Stays : Rule → Type 0) (flags : List Bool) → ((rule : Rule) → Stays rule)
    → AreClearedListed s rules variable Stays flags flags
list_left s rules variable Stays flags stays = record {
  same_count = refl;
  only_cleared = (λ k m. m);
  left = (λ k d lt m is. stays (get_or rules k d));
  others = (λ k d lt m other. m);
}

pub list_weaker : (s : Bool) (rules : List Rule) (variable : ℕ) (Stays Stays' : Rule → Type 0) (before after : List Bool) → ((rule : Rule) → Stays rule → Stays' rule)
    → AreClearedListed s rules variable Stays before after → AreClearedListed s rules variable Stays' before after
list_weaker s rules variable Stays Stays' before after weaker cleared = record {
  same_count = cleared.same_count;
  only_cleared = cleared.only_cleared;
  left = (λ k d lt m is. weaker (get_or rules k d) (cleared.left k d lt m is));
  others = cleared.others;
}

-- both lists
pub lists_woken : (rules : List Rule) (variable : ℕ) (changed only_lost alone : Bool) (sets : ℕ → ℤ → Type 0) (before mid after : List Bool) → changed ≡ true
    → AreClearedListed false rules variable (IsFixedBy sets) before mid
    → AreClearedListed true rules variable (λ rule. IsFixedBy sets rule ⊎ ((only_lost ≡ true) × StillDiffers alone variable sets rule)) mid after
    → AreClearedRules changed only_lost alone rules variable sets before after
lists_woken rules variable changed only_lost alone sets before mid after t others singles = record {
  same_count = singles.same_count ∙ others.same_count;
  kept = (λ f. absurd (false≢true (sym f ∙ t)));
  only_cleared = (λ k m. others.only_cleared k (singles.only_cleared k m));
  apart = (λ _ k d lt m named. of_kind k d lt m named (needs_singles (get_or rules k d)) refl);
  others = (λ k d lt m other. singles.others k d lt (others.others k d lt m other) other);
}
  where
    of_kind : (k : ℕ) (d : Rule) → k < length rules → get_or after k false ≡ true → NamesOf (get_or rules k d) variable → (s : Bool) → needs_singles (get_or rules k d) ≡ s
        → IsFixedBy sets (get_or rules k d) ⊎ ((only_lost ≡ true) × (needs_singles (get_or rules k d) ≡ true) × StillDiffers alone variable sets (get_or rules k d))
    of_kind k d lt m named false is = inl (others.left k d lt (singles.only_cleared k m) (named, is))
    of_kind k d lt m named true is = elim (singles.left k d lt m (named, is)) [ inl f ↦ inl f | inr still ↦ inr (still.0, is, still.1) ]
