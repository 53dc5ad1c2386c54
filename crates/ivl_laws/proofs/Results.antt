-- The results over each pair of runs, one after the other.
use Rattle.std.proofs.Common.{◌≡◌, ℕ, ◌+◌, ◌<◌, ℤ, ◌≤ℤ◌, ◌*ℤ◌, List, [], ◌∷◌, ◌++◌, map, take, length, get_or, refl, ap, sym, ◌∙◌, append_assoc, arith}
use Rattle.std.proofs.lemmas.Int.{ints}
use Rattle.std.proofs.lemmas.List.{take_more}
use Rattle.ivl_laws.specs.Sets.{Differences, ExactProducts, IsBetween, IsHullOf, SameMembers, Sums}
use Rattle.ivl_laws.specs.Arithmetic.{corner_hull, interval_difference, interval_sum, pairwise}
use Rattle.ivl_laws.proofs.Runs.{lower_end}
use Rattle.ivl_laws.proofs.Intervals.{same_between}
use Rattle.ivl_laws.proofs.Products.{sums_of_intervals, differences_of_intervals, hull_of_products}
use Rattle.ivl_laws.proofs.Spans.{hull_is_one_pair}

-- ---- the result of two runs is one pair

module _ (p q r : ℤ × ℤ) (o : p.0 ≤ℤ p.1) (o' : q.0 ≤ℤ q.1) where
  pub sum_is_interval_sum : SameMembers (IsBetween r) (Sums (IsBetween p) (IsBetween q)) → r ≡ interval_sum p q
  sum_is_interval_sum h =
      let e = sums_of_intervals p q o o' in
      sym (same_between (interval_sum p q) r (omega (arith, ints)) (λ z. ((λ b. (h z).1 ((e z).0 b)), (λ b. (e z).1 ((h z).0 b)))))

  pub difference_is_interval_difference : SameMembers (IsBetween r) (Differences (IsBetween p) (IsBetween q)) → r ≡ interval_difference p q
  difference_is_interval_difference h =
      let e = differences_of_intervals p q o o' in
      sym (same_between (interval_difference p q) r (omega (arith, ints)) (λ z. ((λ b. (h z).1 ((e z).0 b)), (λ b. (e z).1 ((h z).0 b)))))

  pub product_is_corner_hull : IsHullOf r (ExactProducts (IsBetween p) (IsBetween q)) → r ≡ corner_hull p q
  product_is_corner_hull h = hull_is_one_pair (ExactProducts (IsBetween p) (IsBetween q)) r (corner_hull p q)
      (p.0 *ℤ q.0, (p.0, q.0, lower_end p o, lower_end q o', refl)) h (hull_of_products p q o o')

-- ---- one more run of the first list, and one more of the second

pub pairwise-append : (f : ℤ × ℤ → ℤ × ℤ → ℤ × ℤ) (L L' M : List (ℤ × ℤ)) → pairwise f (L ++ L') M ≡ pairwise f L M ++ pairwise f L' M
pairwise-append f [] L' M = refl
pairwise-append f (p ∷ L) L' M = ap (λ N. map (f p) M ++ N) (pairwise-append f L L' M) ∙ sym (append_assoc (map (f p) M) (pairwise f L M) (pairwise f L' M))

pub map-append : {X Y : Type 0} (f : X → Y) (xs ys : List X) → map f (xs ++ ys) ≡ map f xs ++ map f ys
map-append f [] ys = refl
map-append f (x ∷ xs) ys = ap (λ zs. f x ∷ zs) (map-append f xs ys)

pub append-nil : {X : Type 0} (xs : List X) → xs ++ [] ≡ xs
append-nil [] = refl
append-nil {X} (x ∷ xs) = ap {B = List X} (λ ys. x ∷ ys) (append-nil xs)

pub pairwise-next : (f : ℤ × ℤ → ℤ × ℤ → ℤ × ℤ) (L M : List (ℤ × ℤ)) (i : ℕ) (d : ℤ × ℤ) → i < length L →
    pairwise f (take (i + 1) L) M ≡ pairwise f (take i L) M ++ map (f (get_or L i d)) M
pairwise-next f L M i d h =
    ap (λ N. pairwise f N M) (take_more L i d h) ∙ pairwise-append f (take i L) (get_or L i d ∷ []) M ∙ ap (λ N. pairwise f (take i L) M ++ N) (append-nil (map (f (get_or L i d)) M))

pub map-next : {X Y : Type 0} (f : X → Y) (xs : List X) (j : ℕ) (d : X) → j < length xs → map f (take (j + 1) xs) ≡ map f (take j xs) ++ f (get_or xs j d) ∷ []
map-next f xs j d h = ap (map f) (take_more xs j d h) ∙ map-append f (take j xs) (get_or xs j d ∷ [])
