-- The points of the two parts of a cut, and of what is left of a half.
use Rattle.std.proofs.Common.{◌≡◌, ◌<◌, ◌≤◌, ◌+◌, ◌-◌, ◌*◌, ◌/◌, ◌++◌, ℕ, zero, suc, ◌⊎◌, inl, inr, sym, subst, arith, refl, List, [], ◌∷◌, length, ap}
use Rattle.std.specs.Prelude.{ℤ, ◌≤ℤ◌, All, slice_index_or}
use Rattle.std.proofs.Math.Nat.{mul-le-mul_left, mul-le-mul_right}
use Rattle.std.proofs.lemmas.Int.{ints}
use Rattle.ivl_laws.specs.Bounds.{width_of}
use Rattle.ivl_laws.specs.Counts.{IsCountOf}
use Rattle.ivl_laws.specs.Families.{set_at}
use Rattle.ivl_laws.specs.Runs.{Covers, IsRunListIn}
use Rattle.ivl_laws.specs.Sets.{HasSome, Intersection, IsBetween}
use Rattle.ivl_laws.proofs.Counts.{IsCountOf-same, count_is_unique}
use Rattle.ivl_laws.proofs.Intervals.{width_of-filled}
use Rattle.ivl_store.specs.Measure.{count_from}
use Rattle.ivl_network.specs.Network.{IsCutAt}
use Rattle.ivl_network.specs.Trail.{RulesPast}
use Rattle.ivl_store.proofs.Counting.{count_le, count_less}
use Rattle.ivl_store.proofs.Counts.{total_is_sum}
use Rattle.ivl_store.proofs.Totals.{total_falls}
use Rattle.ivl_search.specs.declared.search.choice.Wanted.{Wanted}
use Rattle.ivl_search.specs.declared.search.choice.Wanted.TheVariants.{Least, Greatest}
use Rattle.ivl_search.specs.declared.search.steps.Cut.{Cut}
use Rattle.ivl_search.specs.Best.{IsAsGood, IsBetter}
use Rattle.ivl_search.specs.Budget.{points_of}
use Rattle.ivl_search.specs.Halves.{IsMiddle}
use Rattle.ivl_search.proofs.Better.{good_or_worse}
use Rattle.ivl_search.proofs.Budget.{points_le, points_less, points_parts, points_some}
use Rattle.ivl_search.proofs.Cuts.{in_range}
use Rattle.ivl_search.proofs.Halves.{middle_good}
use Rattle.ivl_search.proofs.Paths.{not_both}
use Rattle.ivl_search.proofs.Rooms.{HasRoom, IsRoom, nodes_here, one_room, open_less, room_more}

same_or_not : (i j : ℕ) → (i ≡ j) ⊎ (i ≡ j → ⊥)
same_or_not zero zero = inl refl
same_or_not zero (suc j) = inr (λ e. omega (arith, e))
same_or_not (suc i) zero = inr (λ e. omega (arith, e))
same_or_not (suc i) (suc j) = elim (same_or_not i j) [ inl e ↦ inl (ap suc e) | inr n ↦ inr (λ e. n (omega (arith, e))) ]

pub as_good_as_itself : (wanted : Wanted) (value : ℤ) → IsAsGood wanted value value
as_good_as_itself Least value = omega (arith, ints)
as_good_as_itself Greatest value = omega (arith, ints)

-- a cut at a member leaves a member in each set
pub filled_low : (wanted : Wanted) (sets low : List (List (ℤ × ℤ))) (variable : ℕ) (value : ℤ) → ((i : ℕ) → i < length sets → HasSome (set_at sets i)) → length low ≡ length sets
    → set_at sets variable value → IsCutAt variable (IsAsGood wanted value) (set_at sets) (set_at low) → (i : ℕ) → i < length low → HasSome (set_at low i)
filled_low wanted sets low variable value filled same member cut i lt = elim (same_or_not i variable) [
  | inl e ↦ (value, (cut i value).1 (subst (λ j. set_at sets j value) (sym e) member, λ e. as_good_as_itself wanted value))
  | inr n ↦ (let some = filled i (subst (λ m. i < m) same lt) in (some.0, (cut i some.0).1 (some.1, λ e. absurd (n e))))
]

-- both parts of a cut have points, and together those of the sets
pub record IsOpened {B : Type 0} (value : B → ℤ) (wanted : Wanted) (whole : ℤ × ℤ) (cut : Cut B) (past : RulesPast) (low : List (List (ℤ × ℤ))) : Type 0 where
  pub some : 1 ≤ points_of whole low
  pub room : ℕ
  pub is : IsRoom value wanted whole cut past room
  pub sum : points_of whole low + room ≡ points_of whole past.domains

pub opened : {B : Type 0} (value : B → ℤ) (wanted : Wanted) (whole : ℤ × ℤ) (cut : Cut B) (past : RulesPast) (low : List (List (ℤ × ℤ))) → All (IsRunListIn whole) past.domains → All (IsRunListIn whole) low
    → ((i : ℕ) → i < length past.domains → HasSome (set_at past.domains i)) → cut.variable < length past.domains → set_at past.domains cut.variable (value cut.value)
    → HasSome (λ v. set_at past.domains cut.variable v × IsBetter wanted v (value cut.value)) → length low ≡ length past.domains
    → IsCutAt cut.variable (IsAsGood wanted (value cut.value)) (set_at past.domains) (set_at low) → IsOpened value wanted whole cut past low
opened value wanted whole cut past low runs runs_low filled known member worse same good =
    let sets = past.domains in
    let v = value cut.value in
    let some = points_some whole low runs_low (filled_low wanted sets low cut.variable v filled same member good) in
    let within : (i : ℕ) (z : ℤ) → set_at low i z → set_at sets i z = λ i z m. ((good i z).0 m).0 in
    let less = points_less whole low sets same within
    (total_falls whole sets low runs same within (record {
      variable = cut.variable;
      member = worse.0;
      was = worse.1.0;
      gone = λ m. not_both wanted v worse.0 (((good cut.variable worse.0).0 m).1 refl) worse.1.1;
    })) some in
    let room = points_of whole sets - points_of whole low in
    record {
      some = some;
      room = room;
      is = record {
        some = omega (arith, less);
        is = λ high e other.
            let sum = points_parts whole low high sets cut.variable (IsAsGood wanted v) (λ z. IsBetter wanted z v) (good_or_worse wanted v) (not_both wanted v) known same e good other in
            omega (arith, sum);
      };
      sum = omega (arith, less);
    }

-- two families within the sets, whose sets at a variable have no more members than that of the sets
points_of_two : (whole : ℤ × ℤ) (one two sets : List (List (ℤ × ℤ))) (variable : ℕ) → variable < length sets → length one ≡ length sets → length two ≡ length sets
    → ((i : ℕ) (v : ℤ) → set_at one i v → set_at sets i v) → ((i : ℕ) (v : ℤ) → set_at two i v → set_at sets i v)
    → count_from (slice_index_or one variable []) whole.0 (width_of whole) + count_from (slice_index_or two variable []) whole.0 (width_of whole)
    ≤ count_from (slice_index_or sets variable []) whole.0 (width_of whole)
    → points_of whole one + points_of whole two ≤ points_of whole sets
points_of_two whole one two [] variable lt a b in_one in_two counts = absurd (omega (arith, lt))
points_of_two whole [] two (s ∷ sets) variable lt a b in_one in_two counts = absurd (omega (arith, a))
points_of_two whole (x ∷ one) [] (s ∷ sets) variable lt a b in_one in_two counts = absurd (omega (arith, b))
points_of_two whole (x ∷ one) (y ∷ two) (s ∷ sets) zero lt a b in_one in_two counts =
    let n = width_of whole in
    let p = points_le whole one sets (omega (arith, a)) (λ i v. in_one (suc i) v) in
    let q = points_le whole two sets (omega (arith, b)) (λ i v. in_two (suc i) v) in
    at_first (count_from x whole.0 n) (count_from y whole.0 n) (count_from s whole.0 n) (points_of whole one) (points_of whole two) (points_of whole sets) counts p q
  where
    at_first : (x y s p q r : ℕ) → x + y ≤ s → p ≤ r → q ≤ r → x * p + y * q ≤ s * r
    at_first x y s p q r h a b =
        let i : x * p ≤ x * r = mul-le-mul_left x a in
        let j : y * q ≤ y * r = mul-le-mul_left y b in
        let k : (x + y) * r ≤ s * r = mul-le-mul_right r h in
        let e : (x + y) * r ≡ x * r + y * r = grind arith in
        omega (arith, i, j, k, e)
points_of_two whole (x ∷ one) (y ∷ two) (s ∷ sets) (suc variable) lt a b in_one in_two counts =
    let n = width_of whole in
    let rest = points_of_two whole one two sets variable (omega (arith, lt)) (omega (arith, a)) (omega (arith, b)) (λ i v. in_one (suc i) v) (λ i v. in_two (suc i) v) counts in
    at_others (count_from x whole.0 n) (count_from y whole.0 n) (count_from s whole.0 n) (points_of whole one) (points_of whole two) (points_of whole sets)
    (count_le x s whole.0 n (in_one 0)) (count_le y s whole.0 n (in_two 0)) rest
  where
    at_others : (x y s p q r : ℕ) → x ≤ s → y ≤ s → p + q ≤ r → x * p + y * q ≤ s * r
    at_others x y s p q r a b h =
        let i : x * p ≤ s * p = mul-le-mul_right p a in
        let j : y * q ≤ s * q = mul-le-mul_right q b in
        let k : s * (p + q) ≤ s * r = mul-le-mul_left s h in
        let e : s * (p + q) ≡ s * p + s * q = grind arith in
        omega (arith, i, j, k, e)

-- how many members runs of the range have
counted : (whole : ℤ × ℤ) (s : List (ℤ × ℤ)) → ((z : ℤ) → Covers s z → IsBetween whole z) → IsCountOf (count_from s whole.0 (width_of whole)) (Covers s)
counted whole s within =
    let h = total_is_sum (s ∷ []) whole in
    let e : count_from s whole.0 (width_of whole) ≡ h.0 = sum_of_one (count_from s whole.0 (width_of whole)) h.0 h.1 h.3 h.4 in
    subst (λ n. IsCountOf n (Covers s)) (sym e) (IsCountOf-same (Intersection (Covers s) (IsBetween whole)) (Covers s) h.0 (λ z. ((λ i. i.0), (λ c. (c, within z c)))) h.2)
  where
    sum_of_one : (n first others : ℕ) → others ≡ 0 → n + 0 ≡ first + others → n ≡ first
    sum_of_one n first others e h = omega arith

-- what is better than a point of the better half has fewer points than the other half
pub better_points : (whole : ℤ × ℤ) (wanted : Wanted) (sets good new : List (List (ℤ × ℤ))) (variable : ℕ) (half found : ℤ) → All (IsRunListIn whole) sets → variable < length sets
    → length good ≡ length sets → length new ≡ length sets → IsMiddle wanted (set_at sets variable) half
    → IsCutAt variable (IsAsGood wanted half) (set_at sets) (set_at good) → IsCutAt variable (IsBetter wanted found) (set_at sets) (set_at new)
    → set_at sets variable found → IsAsGood wanted half found → points_of whole new + points_of whole good ≤ points_of whole sets
better_points whole wanted sets good new variable half found runs lt same_good same_new middle in_good in_new member as_good =
    let n = width_of whole in
    let S = slice_index_or sets variable [] in
    let G = slice_index_or good variable [] in
    let N = slice_index_or new variable [] in
    let range = in_range whole sets runs variable in
    let r = range found member in
    let low = r.0 in
    let high = r.1 in
    let filled : whole.0 ≤ℤ whole.1 = omega (arith, ints) in
    let e = width_of-filled whole filled in
    let fewer = count_less N G whole.0 n (λ z m. (in_good variable z).1 (((in_new variable z).0 m).0, λ e. better_good wanted half found z as_good (((in_new variable z).0 m).1 refl)))
    found low (omega (arith, ints)) ((in_good variable found).1 (member, λ e. as_good)) (λ m. not_better wanted found (((in_new variable found).0 m).1 refl)) in
    let g : IsCountOf (count_from G whole.0 n) (Intersection (Covers S) (IsAsGood wanted half)) =
    IsCountOf-same (Covers G) (Intersection (Covers S) (IsAsGood wanted half)) (count_from G whole.0 n)
    (λ z. ((λ m. let k = (in_good variable z).0 m in (k.0, k.1 refl)), (λ k. (in_good variable z).1 (k.0, λ e. k.1))))
    (counted whole G (λ z m. range z ((in_good variable z).0 m).0)) in
    let all = count_is_unique (Covers S) middle.all (count_from S whole.0 n) middle.counted (counted whole S range) in
    let h = middle_good wanted (Covers S) half (count_from G whole.0 n) middle g in
    points_of_two whole new good sets variable lt same_new same_good (λ i v m. ((in_new i v).0 m).0) (λ i v m. ((in_good i v).0 m).0)
    (last (count_from N whole.0 n) (count_from G whole.0 n) middle.all (count_from S whole.0 n) fewer h all)
  where
    last : (new good all count : ℕ) → new < good → good + good ≤ all + 1 → all ≡ count → new + good ≤ count
    last new good all count a b c = omega arith

    better_good : (wanted : Wanted) (half found z : ℤ) → IsAsGood wanted half found → IsBetter wanted found z → IsAsGood wanted half z
    better_good Least half found z a b = omega (arith, ints)
    better_good Greatest half found z a b = omega (arith, ints)

    not_better : (wanted : Wanted) (found : ℤ) → IsBetter wanted found found → ⊥
    not_better Least found b = omega (arith, ints)
    not_better Greatest found b = omega (arith, ints)

-- one more cut takes a node off what is needed
pub record IsSpentOpen {B : Type 0} (value : B → ℤ) (wanted : Wanted) (whole : ℤ × ℤ) (m : ℕ) (cuts : List (Cut B)) (pasts : List RulesPast) (need here unsettled : ℕ) (low : List (List (ℤ × ℤ))) : Type 0 where
  pub more : ℕ
  pub rooms : HasRoom value wanted whole (m / 500 + 1) cuts pasts more
  pub less : (more + nodes_here (m / 500 + 1) (points_of whole low) unsettled) + 1 ≤ need + here

pub spent_open : {B : Type 0} (value : B → ℤ) (wanted : Wanted) (whole : ℤ × ℤ) (m : ℕ) (cuts : List (Cut B)) (pasts : List RulesPast) (cut : Cut B) (past : RulesPast) (need points u v : ℕ) (low : List (List (ℤ × ℤ)))
    → HasRoom value wanted whole (m / 500 + 1) cuts pasts need → v ≤ m → points_of whole past.domains ≤ points → IsOpened value wanted whole cut past low
    → IsSpentOpen value wanted whole m (cuts ++ cut ∷ []) (pasts ++ past ∷ []) need (nodes_here (m / 500 + 1) points u) v low
spent_open value wanted whole m cuts pasts cut past need points u v low rooms le more_points opened =
    let k = m / 500 + 1 in
    let sum = opened.sum in
    let w = one_room opened.room k opened.is.some in
    let more = ((opened.room * k + opened.room * k) + need) - k in
    let e : more + k ≡ (opened.room * k + opened.room * k) + need = omega (arith, w) in
    record {
      more = more;
      rooms = room_more value wanted whole k cuts pasts cut past opened.room need more rooms opened.is e;
      less = open_less m u v points (points_of whole low) opened.room 0 need more le opened.some opened.is.some (omega (arith, sum, more_points)) e;
    }
