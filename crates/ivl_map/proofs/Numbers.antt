-- The numbers of entries, entry by entry: as a set, how many they are, and those whose values pass a test.
use Rattle.std.proofs.Common.{◌≡◌, ◌↔◌, ⊎_elim, inl, inr, ℕ, zero, suc, ◌+◌, ◌<◌, ◌≤◌, ℤ, Bool, List, [], ◌∷◌, length, get_or, take, subst, arith}
use Rattle.std.proofs.lemmas.Int.{ints}
use Rattle.std.specs.Cmp.{IsEquivalence}
use Rattle.ivl_laws.specs.Bounds.{width_of}
use Rattle.ivl_laws.specs.Sets.{IsBetween, IsSubset, SameMembers, Union, Without}
use Rattle.ivl_laws.specs.Runs.{Covers, IsRunsOf}
use Rattle.ivl_laws.specs.Counts.{IsCountOf}
use Rattle.ivl_laws.proofs.Counts.{IsCountOf-apart, IsCountOf-same, count_is_monotone}
use Rattle.ivl_laws.proofs.Intervals.{IsCountOf-width_of}
use Rattle.ivl_laws.proofs.SetLaws.{IsRunsOf-same}
use Rattle.ivl_places.specs.FirstFit.{FitsAt, IsFirstFit}
use Rattle.ivl_map.specs.Entries.{HasAt, HasValue, IsEntryList, intervals_of}
use Rattle.ivl_map.proofs.Windows.{keys_are}
use Rattle.ivl_map.proofs.Writing.{before_start}

module _ {V : Type 0} where
  runs_next : (E : List ((ℤ × ℤ) × V)) (i : ℕ) (d : (ℤ × ℤ) × V) (z : ℤ) → i < length E → Union (Covers (intervals_of (take i E))) (IsBetween (get_or E i d).0) z ↔ Covers (intervals_of (take (suc i) E)) z
  runs_next [] i d z h = absurd (omega arith)
  runs_next (e ∷ E) zero d z h = (⊎_elim (λ c. absurd c) (λ b. inl b), ⊎_elim (λ b. inr b) (λ c. absurd c))
  runs_next (e ∷ E) (suc i) d z h =
      let r = runs_next E i d z (omega arith) in (
        ⊎_elim (⊎_elim (λ b. inl b) (λ c. inr (r.0 (inl c)))) (λ b. inr (r.0 (inr b))),
        ⊎_elim (λ b. inl (inl b)) (λ c. ⊎_elim (λ k. inl (inr k)) (λ k. inr k) (r.1 c)),
      )

  -- one entry more
  pub numbers_next : (E : List ((ℤ × ℤ) × V)) (i : ℕ) (d : (ℤ × ℤ) × V) (L M : List (ℤ × ℤ)) (p : ℤ × ℤ) → i < length E → p ≡ (get_or E i d).0 → IsRunsOf L (Covers (intervals_of (take i E))) → IsRunsOf M (Union (Covers L) (IsBetween p)) → IsRunsOf M (Covers (intervals_of (take (suc i) E)))
  numbers_next E i d L M p h e l m =
      let P : ℤ × ℤ → Type 0 = λ q. IsRunsOf M (Union (Covers L) (IsBetween q)) in
      IsRunsOf-same (Union (Covers L) (IsBetween (get_or E i d).0)) (Covers (intervals_of (take (suc i) E))) M (λ z.
      let r = runs_next E i d z h in (
        ⊎_elim (λ c. r.0 (inl ((l.members z).0 c))) (λ b. r.0 (inr b)),
        (λ c. ⊎_elim (λ k. inl ((l.members z).1 k)) (λ b. inr b) (r.1 c)),
      )) (subst P e m)

-- ---- how many numbers there are

-- the numbers of the first entries, which are in the range, and how many they are
pub record IsCounted {V : Type 0} (whole : ℤ × ℤ) (E : List ((ℤ × ℤ) × V)) (n : ℕ) : Type 0 where
  pub count : IsCountOf n (Covers (intervals_of E))
  pub within : IsSubset (Covers (intervals_of E)) (IsBetween whole)

module _ {V : Type 0} (eq : V → V → Bool) (o : IsEquivalence eq) where
  apart_from : (E : List ((ℤ × ℤ) × V)) (i : ℕ) (d : (ℤ × ℤ) × V) (z : ℤ) → IsEntryList eq E → i < length E → Covers (intervals_of (take i E)) z → ¬ (IsBetween (get_or E i d).0 z)
  apart_from E i d z m h c b = let (v, k) = (keys_are eq o (take i E) z).0 c in let l = before_start eq o E i d z v m h k in omega (arith, ints, l, b.0)

  -- one entry more
  pub counted_next : (whole : ℤ × ℤ) (E : List ((ℤ × ℤ) × V)) (i : ℕ) (d : (ℤ × ℤ) × V) (p : ℤ × ℤ) (n k : ℕ) → IsEntryList eq E → i < length E → p ≡ (get_or E i d).0 → IsSubset (IsBetween p) (IsBetween whole) → IsCountOf k (IsBetween p) → IsCounted whole (take i E) n → IsCounted whole (take (suc i) E) (n + k)
  counted_next whole E i d p n k m h e w c l =
      let P : ℤ × ℤ → Type 0 = λ q. IsSubset (IsBetween q) (IsBetween whole) × IsCountOf k (IsBetween q) in
      let q = subst P e (w, c) in
      record {
        count = IsCountOf-same (Union (Covers (intervals_of (take i E))) (IsBetween (get_or E i d).0)) (Covers (intervals_of (take (suc i) E))) (n + k) (λ z. runs_next E i d z h)
            (IsCountOf-apart (Covers (intervals_of (take i E))) (IsBetween (get_or E i d).0) n k (λ z s b. apart_from E i d z m h s b) l.count q.1);
        within = λ z s. ⊎_elim (λ a. l.within z a) (λ b. q.0 z b) ((runs_next E i d z h).1 s);
      }

  -- a size is never above that of the range
  pub counted_fits : (whole : ℤ × ℤ) (E : List ((ℤ × ℤ) × V)) (n most : ℕ) → width_of whole ≤ most → IsCounted whole E n → n ≤ most
  counted_fits whole E n most w l =
      let c = count_is_monotone (Covers (intervals_of E)) (IsBetween whole) n (width_of whole) l.within l.count (IsCountOf-width_of whole) in
      omega (arith, c, w)

  pub counted_all : (whole : ℤ × ℤ) (E : List ((ℤ × ℤ) × V)) (n : ℕ) → IsCounted whole E n → IsCountOf n (HasValue (HasAt eq E))
  counted_all whole E n l = IsCountOf-same (Covers (intervals_of E)) (HasValue (HasAt eq E)) n (keys_are eq o E) l.count

-- ---- the numbers of a window that are in none of the entries that meet it

pub gaps_are : {V : Type 0} (A N : List (ℤ × ℤ)) (W : ℤ × ℤ) (F G : ℤ → V → Type 0) → IsRunsOf A (IsBetween W) → IsRunsOf N (HasValue F) → ((z : ℤ) (v : V) → IsBetween W z → F z v ↔ G z v) → SameMembers (Without (Covers A) (Covers N)) (Without (IsBetween W) (HasValue G))
gaps_are A N W F G a n h z = (
  (λ (b, f). let t = (a.members z).0 b in (t, λ k. f ((n.members z).1 (k.0, (h z k.0 t).1 k.1)))),
  (λ (b, f). ((a.members z).1 b, λ k. let c = (n.members z).0 k in f (c.0, (h z c.0 b).0 c.1))),
)

pub FitsAt-same : (n : ℕ) (S T : ℤ → Type 0) (v : ℤ) → SameMembers S T → FitsAt n S v → FitsAt n T v
FitsAt-same n S T v h f z b = (h z).0 (f z b)

pub IsFirstFit-same : (n : ℕ) (S T : ℤ → Type 0) (p : ℤ × ℤ) → SameMembers S T → IsFirstFit n S p → IsFirstFit n T p
IsFirstFit-same n S T p h f = record {
  count = f.count;
  members = λ z b. (h z).0 (f.members z b);
  lowest = λ v t. f.lowest v (λ z b. (h z).1 (t z b));
}
