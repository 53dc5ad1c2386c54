-- What is left of a set where only some members are kept.
use Rattle.std.proofs.Common.{◌≡◌, ◌↔◌, ◌⊎◌, ℕ, inl, inr, refl, sym, ap, subst, arith, ◌∙◌, List, [], ◌∷◌, length, map, take, get_or}
use Rattle.std.proofs.lemmas.Int.{ints}
use Rattle.std.specs.Prelude.{ℤ, ◌≤ℤ◌, ◌-ℤ◌, Option, Some, None, IfOk, Result, Ok, Err, unwrap_or}
use Rattle.ivl_laws.specs.Sets.{Differences, HasNone, HasSome, IsBetween, IsSubset, Only, SameMembers, Sums, Intersection}
use Rattle.ivl_laws.specs.Runs.{Covers, IsMaximal, IsRunListIn, IsRunsOf}
use mir.Syntax.{w128}
use mir.Val.{of_z, to_z}
use Rattle.ivl_laws.specs.Bounds.{IsBoundRange}
use Rattle.ivl_laws.specs.Counts.{IsCountOf}
use Rattle.ivl_laws.proofs.Counts.{IsCountOf-same}
use Rattle.ivl_laws.proofs.Runs.{lower_end}
use Rattle.ivl_laws.proofs.Products.{sums_of_intervals, differences_of_intervals}
use Rattle.ivl_laws.proofs.SetLaws.{sums_are_monotone, differences_are_monotone}
use Rattle.ivl_images.specs.declared.op.Op.TheVariants.{Sum as Plus}
use Rattle.ivl_images.proofs.Shifting.{is_moved, moved}
use Rattle.ivl_within.specs.declared.within.Combined.{Combined}
use Rattle.ivl_within.specs.declared.within.Combined.TheVariants.{Sum, Difference}
use Rattle.ivl_within.specs.Within.{Clipped, SumsBy, pair_by}
use Rattle.ivl_store.specs.NarrowedSets.{IsLeftOf}

-- ---- by a set that is given

-- all members are kept
pub keeps_all_within : (whole : ℤ × ℤ) (L kept : List (ℤ × ℤ)) (S : ℤ → Type 0) → IsRunListIn whole L → IsRunsOf kept (Intersection (Covers L) S)
    → SameMembers (Covers kept) (Covers L) → IsLeftOf whole L S None
keeps_all_within whole L kept S r k same = (r, λ z h. ((k.members z).0 ((same z).1 h)).1)

-- some member is lost
pub keeps_some_within : (whole : ℤ × ℤ) (L kept : List (ℤ × ℤ)) (S : ℤ → Type 0) → IsRunListIn whole L → IsRunsOf kept (Intersection (Covers L) S)
    → ¬ (SameMembers (Covers kept) (Covers L)) → IsLeftOf whole L S (Some kept)
keeps_some_within whole L kept S r k differ =
    (r, record { maximal = k.maximal; within = λ z h. r.within z ((k.members z).0 h).0 }, k.members, differ)

-- what is left, where the members of the set that are kept agree
pub left_same : (whole : ℤ × ℤ) (L : List (ℤ × ℤ)) (S T : ℤ → Type 0) (left : Option (List (ℤ × ℤ))) → ((z : ℤ) → Covers L z → S z ↔ T z)
    → IsLeftOf whole L S left → IsLeftOf whole L T left
left_same whole L S T None same h = (h.0, λ z m. (same z m).0 (h.1 z m))
left_same whole L S T (Some left) same h = (
  h.0,
  h.1,
  (λ z. ((λ m. let u = (h.2 z).0 m in (u.0, (same z u.0).0 u.1)), (λ u. (h.2 z).1 (u.0, (same z u.0).1 u.1)))),
  h.3,
)

-- ---- by single runs

-- the list of one run
pub one_run : (L M : List (ℤ × ℤ)) (p : ℤ × ℤ) → L ≡ M → length L ≡ 1 → p ≡ get_or L 0 p → M ≡ p ∷ []
one_run [] M p e n is = absurd (omega arith)
one_run (q ∷ []) M p e n is = sym e ∙ ap (λ r. r ∷ []) (sym is)
one_run (q ∷ r ∷ L) M p e n is = absurd (omega arith)

-- the members of such a list
covers_one : (L : List (ℤ × ℤ)) (p : ℤ × ℤ) → L ≡ p ∷ [] → SameMembers (Covers L) (IsBetween p)
covers_one L p e = subst (λ M. SameMembers (Covers M) (IsBetween p)) (sym e) (λ z. ((λ h. elim h [ inl b ↦ b | inr n ↦ absurd n ]), (λ b. inl b)))

sums_of_runs : (op : Combined) (p q : ℤ × ℤ) → p.0 ≤ℤ p.1 → q.0 ≤ℤ q.1 → SameMembers (IsBetween (pair_by op p q)) (SumsBy op (IsBetween p) (IsBetween q))
sums_of_runs Sum p q h k = sums_of_intervals p q h k
sums_of_runs Difference p q h k = differences_of_intervals p q h k

sums_by_same : (op : Combined) (S S' T T' : ℤ → Type 0) → IsSubset S S' → IsSubset T T' → IsSubset (SumsBy op S T) (SumsBy op S' T')
sums_by_same Sum S S' T T' h k = sums_are_monotone S S' T T' h k
sums_by_same Difference S S' T T' h k = differences_are_monotone S S' T T' h k

-- what two runs make within the run of a list
pub runs_keep : (op : Combined) (L M N : List (ℤ × ℤ)) (run p q kept : ℤ × ℤ) → N ≡ run ∷ [] → L ≡ p ∷ [] → M ≡ q ∷ [] → p.0 ≤ℤ p.1 → q.0 ≤ℤ q.1
    → SameMembers (IsBetween kept) (Clipped run (IsBetween (pair_by op p q))) → (z : ℤ) → Covers N z → IsBetween kept z ↔ SumsBy op (Covers L) (Covers M) z
runs_keep op L M N run p q kept n e f h k same z m =
    let s = sums_of_runs op p q h k z in
    let l = covers_one L p e in
    let r = covers_one M q f in (
      (λ b. sums_by_same op _ _ _ _ (λ x. (l x).1) (λ x. (r x).1) z (s.0 ((same z).0 b).0)),
      (λ u. (same z).1 (s.1 (sums_by_same op _ _ _ _ (λ x. (l x).0) (λ x. (r x).0) z u), (covers_one N run n z).0 m)),
    )

-- less than a single run is left
pub run_left : (whole : ℤ × ℤ) (L left : List (ℤ × ℤ)) (run kept : ℤ × ℤ) → IsRunListIn whole L → L ≡ run ∷ [] → IsSubset (IsBetween kept) (IsBetween run)
    → ¬ (SameMembers (IsBetween kept) (IsBetween run)) → IsRunsOf left (IsBetween kept) → IsLeftOf whole L (IsBetween kept) (Some left)
run_left whole L left run kept r e within differ is =
    let l = covers_one L run e in (
      r,
      record { maximal = is.maximal; within = λ z h. r.within z ((l z).1 (within z ((is.members z).0 h))) },
      (λ z. ((λ h. let u = (is.members z).0 h in ((l z).1 (within z u), u)), (λ u. (is.members z).1 u.1))),
      (λ agree. differ (λ z. ((λ b. (l z).0 ((agree z).0 ((is.members z).1 b))), (λ b. (is.members z).0 ((agree z).1 ((l z).1 b)))))),
    )

-- all of it is
pub run_left_all : (whole : ℤ × ℤ) (L : List (ℤ × ℤ)) (run kept : ℤ × ℤ) → IsRunListIn whole L → L ≡ run ∷ [] → SameMembers (IsBetween kept) (IsBetween run)
    → IsLeftOf whole L (IsBetween kept) None
run_left_all whole L run kept r e same = (r, λ z m. (same z).1 ((covers_one L run e z).0 m))

-- ---- a set of one number

-- the list of what is left
rest_is : (whole : ℤ × ℤ) (L : List (ℤ × ℤ)) (S : ℤ → Type 0) (left : Option (List (ℤ × ℤ))) → IsLeftOf whole L S left
    → IsRunListIn whole (unwrap_or left L) × SameMembers (Covers (unwrap_or left L)) (Intersection (Covers L) S)
rest_is whole L S None h = (h.0, λ z. ((λ m. (m, h.1 z m)), (λ u. u.0)))
rest_is whole L S (Some left) h = (h.1, h.2)

-- a list of runs has a member or none
some_or_none : (whole : ℤ × ℤ) (L : List (ℤ × ℤ)) → IsRunListIn whole L → HasSome (Covers L) ⊎ HasNone (Covers L)
some_or_none whole [] r = inr (λ z n. n)
some_or_none whole (p ∷ L) r = inl (p.0, inl (lower_end p r.maximal.0))

-- it stays exactly where some member of another set does
pub one_is_left : (whole : ℤ × ℤ) (one other : List (ℤ × ℤ)) (S T : ℤ → Type 0) (left result : Option (List (ℤ × ℤ))) → IsRunListIn whole one
    → (x : ℤ) × SameMembers (Covers one) (Only x) → IsLeftOf whole other S left
    → HasSome (Intersection (Covers other) S) ↔ HasSome (Intersection (Covers one) T)
    → (HasSome (Covers (unwrap_or left other)) → result ≡ None) → (HasNone (Covers (unwrap_or left other)) → result ≡ Some []) → IsLeftOf whole one T result
one_is_left whole one other S T left result r (x, only) h meet stays goes =
    let (runs, rest) = rest_is whole other S left h in
    elim (some_or_none whole (unwrap_or left other) runs) [
      | inl (v, m) ↦ rw (stays (v, m)) (let (w, (k, t)) = meet.0 (v, (rest v).0 m) in
          (r, λ z n. subst T ((only w).0 k ∙ sym ((only z).0 n)) t))
      | inr none ↦ rw (goes none) (
        r,
        record { maximal = tt; within = λ z n. absurd n },
        (λ z. ((λ n. absurd n), (λ u. let (v, k) = meet.1 (z, u) in none v ((rest v).1 k)))),
        (λ agree. (agree x).1 ((only x).1 refl)),
      )
    ]

-- ---- of a set, one number

-- which it lacks
pub number_lacks : (whole : ℤ × ℤ) (L : List (ℤ × ℤ)) (n : ℤ) (result : Option (List (ℤ × ℤ))) → IsRunListIn whole L → ¬ (Covers L n)
    → (HasNone (Covers L) → result ≡ None) → (HasSome (Covers L) → result ≡ Some []) → IsLeftOf whole L (Only n) result
number_lacks whole L n result r lacks empty filled = elim (some_or_none whole L r) [
  | inl (v, m) ↦ rw (filled (v, m)) (
    r,
    record { maximal = tt; within = λ z k. absurd k },
    (λ z. ((λ k. absurd k), (λ u. lacks (subst (Covers L) u.1 u.0)))),
    (λ agree. (agree v).1 m),
  )
  | inr none ↦ rw (empty none) (r, λ z m. absurd (none z m))
]

-- how far two values stand apart has a number of 128 bits
pub is_apart : (whole : ℤ × ℤ) (low high distance : ℤ) → IsBoundRange whole → IsBetween whole low → IsBetween whole high → distance ≡ high -ℤ low
    → to_z w128 (of_z w128 distance) ≡ high -ℤ low
is_apart whole low high distance r l h is =
    let least = r.low_at_least in let most = r.high_at_most in let a = l.0 in let b = l.1 in let c = h.0 in let d = h.1 in omega (arith, ints)

-- the number of the members that a sum of single numbers asks for
pub distance_is : (X Z : ℤ → Type 0) (a c n : ℤ) → SameMembers X (Only a) → SameMembers Z (Only c) → n ≡ c -ℤ a → (v : ℤ) → Only n v ↔ Differences Z X v
distance_is X Z a c n x z is v = (
  (λ e. (c, a, (z c).1 refl, (x a).1 refl, omega (arith, ints, e, is))),
  (λ (d, b, k, m, e). let f = (z d).0 k in let g = (x b).0 m in omega (arith, ints, e, f, g, is)),
)

module _ (X Y Z : ℤ → Type 0) (a c n : ℤ) (x : SameMembers X (Only a)) (z : SameMembers Z (Only c)) (is : n ≡ c -ℤ a) where
  -- both single numbers stay where it is a member
  pub stays_at_x : Y n → IsSubset X (Differences Z Y)
  stays_at_x m w k = let e = (x w).0 k in (c, n, (z c).1 refl, m, omega (arith, ints, e, is))

  pub stays_at_z : Y n → IsSubset Z (Sums X Y)
  stays_at_z m w k = let e = (z w).0 k in (a, n, (x a).1 refl, m, omega (arith, ints, e, is))

  -- and no member stays where it is none
  pub none_stays : ¬ (Y n) → ¬ (HasSome (Intersection Y (Differences Z X)))
  none_stays lacks (v, (m, d)) = lacks (subst Y ((distance_is X Z a c n x z is v).1 d) m)

-- a single number goes where none is kept
pub one_is_lost : (whole : ℤ × ℤ) (one made : List (ℤ × ℤ)) (T : ℤ → Type 0) → IsRunListIn whole one → (x : ℤ) × SameMembers (Covers one) (Only x) → ¬ (HasSome (Intersection (Covers one) T))
    → made ≡ [] → IsLeftOf whole one T (Some made)
one_is_lost whole one made T r (x, only) none e = rw e (
  r,
  record { maximal = tt; within = λ z n. absurd n },
  (λ z. ((λ n. absurd n), (λ u. none (z, u)))),
  (λ agree. (agree x).1 ((only x).1 refl)),
)

-- a member of one set is a difference of members where that of the other is
pub turned : (X Y Z : ℤ → Type 0) → HasSome (Intersection X (Differences Z Y)) → HasSome (Intersection Y (Differences Z X))
turned X Y Z (v, (m, (c, b, k, n, e))) = (b, (n, (c, v, k, m, omega (arith, ints, e))))

pub summed : (X Y Z : ℤ → Type 0) → HasSome (Intersection Y (Differences Z X)) ↔ HasSome (Intersection Z (Sums X Y))
summed X Y Z = (
  (λ (v, (m, (c, a, k, n, e))). (c, (k, (a, v, n, m, omega (arith, ints, e))))),
  (λ (c, (k, (a, v, n, m, e))). (v, (m, (c, a, k, n, omega (arith, ints, e))))),
)

pub sums_turned : (X Y : ℤ → Type 0) (z : ℤ) → Sums X Y z ↔ Sums Y X z
sums_turned X Y z = ((λ (x, y, m, n, e). (y, x, n, m, omega (arith, ints, e))), (λ (y, x, n, m, e). (x, y, m, n, omega (arith, ints, e))))

-- ---- a set that is moved onto another one

module _ (whole : ℤ × ℤ) (x y z : List (ℤ × ℤ)) (left : Option (List (ℤ × ℤ))) (h : IsLeftOf whole x (Differences (Covers z) (Covers y)) left) (k : ℤ) (only : SameMembers (Covers y) (Only k)) where
  rest : List (ℤ × ℤ)
  rest = unwrap_or left x

  -- what is left of x, moved, stands in z
  pub moved_within : IsSubset (Sums (Covers (unwrap_or left x)) (Only k)) (Covers z)
  moved_within v (r, l, m, e, s) =
      let (here, (c, b, t, n, d)) = ((rest_is whole x (Differences (Covers z) (Covers y)) left h).1 r).0 m in
      let f = (only b).0 n in
      let g : c ≡ v = omega (arith, ints, d, e, f, s) in
      subst (Covers z) g t

  -- and these are all members of z that are sums
  pub moved_are_sums : (left_of_z : Option (List (ℤ × ℤ))) → IsLeftOf whole z (Sums (Covers (unwrap_or left x)) (Only k)) left_of_z → IsLeftOf whole z (Sums (Covers x) (Covers y)) left_of_z
  moved_are_sums left_of_z = left_same whole z (Sums (Covers (unwrap_or left x)) (Only k)) (Sums (Covers x) (Covers y)) left_of_z (λ v t. (
    (λ (r, l, m, e, s). (r, l, (((rest_is whole x (Differences (Covers z) (Covers y)) left h).1 r).0 m).0, (only l).1 e, s)),
    (λ (r, l, m, n, s). (r, l, ((rest_is whole x (Differences (Covers z) (Covers y)) left h).1 r).1 (m, (v, l, t, n, omega (arith, ints, s))), (only l).0 n, s)),
  ))

-- the only number of a set
pub only_at : (S : ℤ → Type 0) (v : ℤ) → (k : ℤ) × SameMembers S (Only k) → S v → SameMembers S (Only v)
only_at S v (k, same) m =
    let e = (same v).0 m in
    λ z. ((λ n. (same z).0 n ∙ sym e), (λ f. (same z).1 (f ∙ e)))

-- some members of a set are left
pub part_left : (whole : ℤ × ℤ) (L made : List (ℤ × ℤ)) (S : ℤ → Type 0) → IsRunListIn whole L → IsSubset S (Covers L) → IsRunsOf made S → ¬ (SameMembers S (Covers L)) → IsLeftOf whole L S (Some made)
part_left whole L made S r part is differ = (
  r,
  record { maximal = is.maximal; within = λ z m. r.within z (part z ((is.members z).0 m)) },
  (λ z. ((λ m. let s = (is.members z).0 m in (part z s, s)), (λ u. (is.members z).1 u.1))),
  (λ agree. differ (λ z. ((λ s. part z s), (λ m. (is.members z).0 ((agree z).1 m))))),
)

-- a set moved by a number has as many members
pub count_moved : (whole : ℤ × ℤ) (L : List (ℤ × ℤ)) (k : ℤ) (n : ℕ) → IsMaximal L → IsSubset (Sums (Covers L) (Only k)) (IsBetween whole) → IsCountOf n (Covers L) → IsCountOf n (Sums (Covers L) (Only k))
count_moved whole L k n m fits c =
    let made = is_moved whole Plus k L L n (length L) (map (moved Plus k) (take (length L) L)) refl tt m c fits (omega arith) refl in
    IsCountOf-same (Covers (map (moved Plus k) (take (length L) L))) (Sums (Covers L) (Only k)) n made.runs.members made.count

-- ---- three facts of one result

pub by_all_three : {T E : Type 0} (r : Result T E) (P Q R S : T → Type 0) → ((x : T) → P x → Q x → R x → S x) → IfOk r P → IfOk r Q → IfOk r R → IfOk r S
by_all_three (Ok x) P Q R S f p q r = f x p q r
by_all_three (Err e) P Q R S f p q r = tt
