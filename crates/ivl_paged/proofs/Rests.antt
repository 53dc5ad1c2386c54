-- A list without the first of its items, which are gone: what an edit of the whole list does to it.
use Rattle.std.proofs.Common.{◌≡◌, ℕ, ◌+◌, ◌<◌, ◌≤◌, ℤ, List, ◌∷◌, ◌++◌, length, length-drop, length-take, get_or, take, drop, set, sym, ap, subst, ◌∙◌, arith}
use Rattle.std.proofs.lemmas.List.{drop-append-le, drop-drop, drop-set-add, drop-take, get_or-drop, length-append, length-set}
use Rattle.ivl_paged.specs.Pages.{AreHeads}
use Rattle.ivl_paged.proofs.Heads.{heads_length}

pub item_of_rest : {X : Type 0} (xs : List X) (g i : ℕ) (x : X) → x ≡ get_or xs (g + i) x → x ≡ get_or (drop g xs) i x
item_of_rest xs g i x e = e ∙ sym (get_or-drop g xs i x)

pub first_of_rest : {X : Type 0} (xs : List X) (g : ℕ) (x : X) → x ≡ get_or xs g x → x ≡ get_or (drop g xs) 0 x
first_of_rest xs g x e = item_of_rest xs g 0 x (e ∙ ap (λ (n : ℕ). get_or xs n x) (omega arith))

pub place_in_all : {X : Type 0} (xs : List X) (g i : ℕ) → i < length (drop g xs) → g + i < length xs
place_in_all xs g i less = let e = length-drop g xs in omega (arith, e, less)

rest_of_parts : {X : Type 0} (xs ys : List X) (g i j : ℕ) → g + i ≤ length xs → drop g (take (g + i) xs ++ drop j ys) ≡ take i (drop g xs) ++ drop j ys
rest_of_parts xs ys g i j most =
    let n = length-take (g + i) xs in
    drop-append-le g (take (g + i) xs) (drop j ys) (omega (arith, n, most)) ∙ ap (λ zs. zs ++ drop j ys) (drop-take g i xs)

pub rest_without : {X : Type 0} (xs : List X) (g i j : ℕ) → g + i ≤ length xs → drop g (take (g + i) xs ++ drop (g + j) xs) ≡ take i (drop g xs) ++ drop j (drop g xs)
rest_without xs g i j most = rest_of_parts xs xs g i (g + j) most ∙ ap (λ zs. take i (drop g xs) ++ zs) (sym (drop-drop j g xs))

pub rest_removed : {X : Type 0} (xs : List X) (g i : ℕ) → g + i ≤ length xs → drop g (take (g + i) xs ++ drop (g + i + 1) xs) ≡ take i (drop g xs) ++ drop (i + 1) (drop g xs)
rest_removed xs g i most = ap (λ n. drop g (take (g + i) xs ++ drop n xs)) (omega arith) ∙ rest_without xs g i (i + 1) most

pub rest_with : {X : Type 0} (xs : List X) (g i : ℕ) (x : X) → g + i ≤ length xs → drop g (take (g + i) xs ++ x ∷ drop (g + i) xs) ≡ take i (drop g xs) ++ x ∷ drop i (drop g xs)
rest_with xs g i x most =
    rest_of_parts xs (x ∷ drop (g + i) xs) g i 0 most ∙ ap (λ zs. take i (drop g xs) ++ x ∷ zs) (sym (drop-drop i g xs))

pub rest_split : {X : Type 0} (xs : List X) (g i : ℕ) (x y : X) → g + i < length xs →
    drop g (set (take (g + (i + 1)) xs ++ y ∷ drop (g + (i + 1)) xs) (g + i) x) ≡ set (take (i + 1) (drop g xs) ++ y ∷ drop (i + 1) (drop g xs)) i x
rest_split xs g i x y less = drop-set-add g (take (g + (i + 1)) xs ++ y ∷ drop (g + (i + 1)) xs) i x ∙ ap (λ zs. set zs i x) (rest_with xs g (i + 1) y (omega (arith, less)))

-- as many are still gone
pub gone_split : {X : Type 0} (xs : List X) (g n k : ℕ) (x y : X) → g ≤ length xs → g ≤ length (set (take n xs ++ y ∷ drop n xs) k x)
gone_split xs g n k x y most =
    let a = length-set (take n xs ++ y ∷ drop n xs) k x in
    let b = length-append (take n xs) (y ∷ drop n xs) in
    let c = length-take n xs in
    let d = length-drop n xs in
    omega (arith, a, b, c, d, most)

pub gone_without : {X : Type 0} (xs : List X) (g i n : ℕ) → g + i ≤ length xs → g ≤ length (take (g + i) xs ++ drop n xs)
gone_without xs g i n most =
    let b = length-append (take (g + i) xs) (drop n xs) in
    let c = length-take (g + i) xs in
    omega (arith, b, c, most)

pub gone_set : {X : Type 0} (xs : List X) (g k : ℕ) (x : X) → g ≤ length xs → g ≤ length (set xs k x)
gone_set xs g k x most = let a = length-set xs k x in omega (arith, a, most)

module _ {X : Type 0} (value : X → ℤ) (H : List X) (P Q : List (List (ℤ × ℤ))) (g i : ℕ) (heads : AreHeads value (drop g H) (drop g P)) (view : drop g P ≡ Q) (there : i < length Q) where
  pub page_place : g + i < length P
  page_place = place_in_all P g i (subst (λ (R : List (List (ℤ × ℤ))). i < length R) (sym view) there)

  pub head_place : g + i < length H
  head_place =
      let same = heads_length value (drop g H) (drop g P) heads in
      let less = subst (λ (R : List (List (ℤ × ℤ))). i < length R) (sym view) there in
      place_in_all H g i (omega (arith, same, less))
