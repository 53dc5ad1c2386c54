-- Runs put behind those of a set, from another list as far as it lies in an interval.
use Rattle.std.proofs.Common.{◌≡◌, inl, inr, ⊎_elim, ℕ, ◌+◌, ◌≤◌, ℤ, pos, List, [], ◌++◌, take, drop, length, ◌-◌, length-drop, take_all, ap, sym, subst, ◌∙◌, arith}
use Rattle.std.proofs.lemmas.Int.{ints}
use Rattle.std.proofs.lemmas.List.{take-append-drop}
use Rattle.std.proofs.Math.Seq.{take-append_seam, drop-append_seam}
use Rattle.ivl_laws.specs.Sets.{IsBetween, Intersection, Union}
use Rattle.ivl_laws.specs.Runs.{Covers, IsRunListIn, IsRunsOf}
use Rattle.ivl_laws.specs.Bounds.{width_of}
use Rattle.ivl_laws.specs.Counts.{IsCountOf}
use Rattle.ivl_laws.proofs.Counts.{IsCountOf-apart, IsCountOf-same}
use Rattle.ivl_laws.proofs.Merging.{covers-append, covers-append_left, covers-append_right}
use Rattle.ivl_laws.proofs.Widths.{count_is_total_width, total_width-le}
use Rattle.ivl_walks.specs.Order.{IsBelow}
use Rattle.ivl_walks.proofs.MergeState.{IsMaximal-append}

-- V is the list L and what R has in W, n and more numbers
pub record AddsPart (whole : ℤ × ℤ) (L V R : List (ℤ × ℤ)) (W : ℤ × ℤ) (n more greatest : ℕ) : Type 0 where
  pub fits : n + more ≤ greatest
  pub list : IsRunListIn whole V
  pub counts : IsCountOf (n + more) (Covers V)
  pub runs : IsRunsOf V (Union (Covers L) (Intersection (Covers R) (IsBetween W)))

module _ (whole : ℤ × ℤ) (L N R : List (ℤ × ℤ)) (W : ℤ × ℤ) (n more greatest : ℕ) (l : IsRunListIn whole L) (c : IsCountOf n (Covers L))
    (b : IsBelow (pos 2) (Covers L) (IsBetween W)) (r : IsRunsOf N (Intersection (Covers R) (IsBetween W))) (q : IsRunListIn whole N) (k : IsCountOf more (Covers N)) (g : width_of whole ≤ greatest) where
  below : IsBelow (pos 2) (Covers L) (Covers N)
  below x y s t = b x y s ((r.members y).0 t).1

  list : IsRunListIn whole (L ++ N)
  list = record { maximal = IsMaximal-append L N l.maximal q.maximal below; within = λ z s. ⊎_elim (l.within z) (q.within z) (covers-append L N z s) }

  counts : IsCountOf (n + more) (Covers (L ++ N))
  counts = IsCountOf-same (Union (Covers L) (Covers N)) (Covers (L ++ N)) (n + more)
      (λ z. (⊎_elim (λ s. covers-append_left L N z s) (λ s. covers-append_right L N z s), (λ s. covers-append L N z s)))
      (IsCountOf-apart (Covers L) (Covers N) n more (λ z s t. let far = below z z s t in omega (arith, ints)) c k)

  pub adds_behind : AddsPart whole L (L ++ N) R W n more greatest
  adds_behind =
      let total = (count_is_total_width (L ++ N) (n + more) list.maximal).0 counts in
      let most = total_width-le whole (L ++ N) list.maximal list.within in
      record {
        fits = omega (arith, total, most, g);
        list = list;
        counts = counts;
        runs = record {
          maximal = list.maximal;
          members = λ z. (
            (λ s. ⊎_elim (λ t. inl t) (λ t. inr ((r.members z).0 t)) (covers-append L N z s)),
            ⊎_elim (λ s. covers-append_left L N z s) (λ s. covers-append_right L N z ((r.members z).1 s)),
          );
        };
      }

-- the list V is L up to place i
pub adds_part : (whole : ℤ × ℤ) (L V R : List (ℤ × ℤ)) (W : ℤ × ℤ) (i n more greatest : ℕ) → IsRunListIn whole L → IsCountOf n (Covers L) →
    IsBelow (pos 2) (Covers L) (IsBetween W) → take i V ≡ L → IsRunsOf (drop i V) (Intersection (Covers R) (IsBetween W)) → IsRunListIn whole (drop i V) →
    IsCountOf more (Covers (drop i V)) → width_of whole ≤ greatest → AddsPart whole L V R W n more greatest
adds_part whole L V R W i n more greatest l c b e r q k g =
    subst (λ (K : List (ℤ × ℤ)). AddsPart whole L K R W n more greatest) (ap (λ (K : List (ℤ × ℤ)). K ++ drop i V) (sym e) ∙ take-append-drop i V)
    (adds_behind whole L (drop i V) R W n more greatest l c b r q k g)

pub behind : (I E R : List (ℤ × ℤ)) (i : ℕ) → i ≡ length I → E ≡ I ++ R → drop i E ≡ R
behind I E R i h e = ap (λ (K : List (ℤ × ℤ)). drop i K) e ∙ ap (λ (x : ℕ). drop x (I ++ R)) h ∙ drop-append_seam I R

pub rest_in : (whole : ℤ × ℤ) (V D : List (ℤ × ℤ)) (i : ℕ) → D ≡ V → IsRunListIn whole (drop i V) → IsRunListIn whole (take (length D - i) (drop i D))
rest_in whole V D i e r = subst (IsRunListIn whole) (sym (take_all (length D - i) (drop i D) (let many = length-drop i D in omega (arith, many)))) (subst (λ (K : List (ℤ × ℤ)). IsRunListIn whole (drop i K)) (sym e) r)

pub none_before : (L N : List (ℤ × ℤ)) (S : ℤ → Type 0) → L ≡ [] → IsRunsOf N (Union (Covers L) S) → IsRunsOf N S
none_before L N S e r = record {
  maximal = r.maximal;
  members = λ z. (
    (λ s. ⊎_elim (λ t. absurd (subst (λ (K : List (ℤ × ℤ)). Covers K z) e t)) (λ t. t) ((r.members z).0 s)),
    (λ s. (r.members z).1 (inr s)),
  );
}

-- the list I of a set, which a caller saw as S, with R behind it is E, and V with the runs of R cut; D is V once more
pub pushed_cut : (whole : ℤ × ℤ) (I S E V D R : List (ℤ × ℤ)) (W : ℤ × ℤ) (i n more greatest : ℕ) → IsRunListIn whole I → IsCountOf n (Covers I) → I ≡ S → i ≡ length I → E ≡ I ++ R →
    IsBelow (pos 2) (Covers S) (IsBetween W) → take i V ≡ take i E → IsRunsOf (drop i V) (Intersection (Covers (drop i E)) (IsBetween W)) → IsRunListIn whole (drop i V) →
    D ≡ V → IsCountOf more (Covers (take (length D - i) (drop i D))) → width_of whole ≤ greatest → AddsPart whole S V R W n more greatest
pushed_cut whole I S E V D R W i n more greatest l c s h e b t r q d k g =
    let front : take i V ≡ S = t ∙ ap (λ (K : List (ℤ × ℤ)). take i K) e ∙ ap (λ (x : ℕ). take x (I ++ R)) h ∙ take-append_seam I R ∙ s in
    let back = behind I E R i h e in
    adds_part whole S V R W i n more greatest
    (subst (IsRunListIn whole) s l) (subst (λ (K : List (ℤ × ℤ)). IsCountOf n (Covers K)) s c) b front
    (subst (λ (K : List (ℤ × ℤ)). IsRunsOf (drop i V) (Intersection (Covers K) (IsBetween W))) back r) q
    (subst (λ (K : List (ℤ × ℤ)). IsCountOf more (Covers (drop i K))) d (subst (λ (K : List (ℤ × ℤ)). IsCountOf more (Covers K)) (take_all (length D - i) (drop i D) (let many = length-drop i D in omega (arith, many))) k)) g
