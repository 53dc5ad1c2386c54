-- The runs of pages one after the other, from both ends, and their text.
use Rattle.std.proofs.Common.{◌≡◌, ℕ, zero, suc, ◌+◌, ◌<◌, ◌≤◌, ℤ, ◌≤ℤ◌, Bool, true, false, IsTrue, ◌↔◌, List, [], ◌∷◌, ◌++◌, length, get_or, take, drop, Some, None, refl, sym, ap, subst, ◌∙◌, arith, append_assoc, append-nil, length-append}
use Rattle.std.specs.Prelude.{Option, ⊤, is_some, not}
use Rattle.std.specs.Bool.{◌==◌}
use Rattle.std.proofs.lemmas.Bool.Decides.{nat_tests}
use Rattle.std.specs.Iterator.{MakesProgress, YieldsFirst, YieldsLast, item_count}
use Rattle.ivl_laws.specs.Sets.{HasSome}
use Rattle.ivl_laws.specs.Runs.{Covers, IsMaximal}
use Rattle.ivl_interval.specs.SameInterval.{same_interval, same_interval_equiv}
use Rattle.intervallum.proofs.Equality.{same_pair}
use Rattle.ivl_paged.specs.Pages.{flattened}
use Rattle.ivl_paged.proofs.Paging.{IsMaximal-second, flattened-append, flattened_more}

-- ---- a copy, page by page

pub pages_so_far : (P Q : List (List (ℤ × ℤ))) (L d : List (ℤ × ℤ)) (i : ℕ) → i < length P → flattened Q ≡ flattened (take i P) → L ≡ get_or P i d → flattened (Q ++ L ∷ []) ≡ flattened (take (i + 1) P)
pages_so_far P Q L d i h e f =
    flattened-append Q (L ∷ [])
    ∙ ap (λ (K : List (ℤ × ℤ)). flattened Q ++ K) (append-nil L ∙ f)
    ∙ ap (λ (K : List (ℤ × ℤ)). K ++ get_or P i d) e
    ∙ sym (flattened_more P i d h)

-- ---- one step from the back

-- what is left is the rest and a part, and the part is empty only where nothing is left
pub record IsReadyBack (all rest part : List (ℤ × ℤ)) : Type 0 where
  pub parts : all ≡ rest ++ part
  pub none : part ≡ [] → rest ≡ []

pub last_of_part : (all rest part left : List (ℤ × ℤ)) (r : Option (ℤ × ℤ)) → IsReadyBack all rest part →
    YieldsLast (λ (l : List (ℤ × ℤ)). l) part r left → YieldsLast (λ (l : List (ℤ × ℤ)). l) all r (rest ++ left)
last_of_part all rest part left None h y =
    let e = h.none y.0 in (
      h.parts ∙ ap (λ (K : List (ℤ × ℤ)). rest ++ K) y.0 ∙ ap (λ (K : List (ℤ × ℤ)). K ++ []) e,
      ap (λ (K : List (ℤ × ℤ)). rest ++ K) y.1 ∙ ap (λ (K : List (ℤ × ℤ)). K ++ []) e,
    )
last_of_part all rest part left (Some x) h y = h.parts ∙ ap (λ (K : List (ℤ × ℤ)). rest ++ K) y ∙ sym (append_assoc rest left (x ∷ []))

pub goes_by_last : (all left : List (ℤ × ℤ)) (r : Option (ℤ × ℤ)) → YieldsLast (λ (l : List (ℤ × ℤ)). l) all r left → MakesProgress (λ _. ⊤) (item_count (λ (l : List (ℤ × ℤ)). l)) all r left
goes_by_last all left None y = record { on = λ f. tt; keeps = tt; rests = λ f. tt }
goes_by_last all left (Some x) y = let e = ap length y in let n = length-append left (x ∷ []) in record { on = λ f. (tt, tt, omega arith); keeps = tt; rests = λ f. tt }

-- the part that is there already
pub back_as_is : (all A M Z : List (ℤ × ℤ)) → A ++ M ++ Z ≡ all → 0 < length Z → IsReadyBack all (A ++ M) Z
back_as_is all A M Z e some = record {
  parts = sym e;
  none = λ n. absurd (let none = ap length n in omega (arith, none, some));
}

filled_length : (L : List (ℤ × ℤ)) → HasSome (Covers L) → 0 < length L
filled_length [] h = absurd h.1
filled_length (p ∷ L) h = omega arith

-- the last page L, whose runs are K
pub back_by_page : (all A Z K L : List (ℤ × ℤ)) (P rest : List (List (ℤ × ℤ))) → A ++ flattened P ++ Z ≡ all → Z ≡ [] → P ≡ rest ++ L ∷ [] → K ≡ L → HasSome (Covers L) →
    IsReadyBack all (A ++ flattened rest) K
back_by_page all A Z K L P rest e none f same some = record {
  parts = sym e
      ∙ ap (λ (K : List (ℤ × ℤ)). A ++ flattened P ++ K) none
      ∙ append-nil (A ++ flattened P)
      ∙ ap (λ (Q : List (List (ℤ × ℤ))). A ++ flattened Q) f
      ∙ ap (λ (K : List (ℤ × ℤ)). A ++ K) (flattened-append rest (L ∷ []) ∙ ap (λ (K : List (ℤ × ℤ)). flattened rest ++ K) (append-nil L))
      ∙ sym (append_assoc A (flattened rest) L)
      ∙ ap (λ (N : List (ℤ × ℤ)). (A ++ flattened rest) ++ N) (sym same);
  none = λ n. absurd (let less = ap length (sym same ∙ n) in let more = filled_length L some in omega (arith, less, more));
}

-- the part at the front, where no page is left
pub back_by_first : (all A Z E : List (ℤ × ℤ)) (P : List (List (ℤ × ℤ))) → A ++ flattened P ++ Z ≡ all → Z ≡ [] → length P ≡ 0 → E ≡ [] → IsReadyBack all (E ++ flattened P) A
back_by_first all A Z E [] e none h f = record {
  parts = sym e ∙ ap (λ (K : List (ℤ × ℤ)). (A ++ []) ++ K) none ∙ append-nil (A ++ []) ∙ append-nil A ∙ ap (λ (K : List (ℤ × ℤ)). (K ++ []) ++ A) (sym f);
  none = λ n. ap (λ (K : List (ℤ × ℤ)). K ++ []) f;
}
back_by_first all A Z E (L ∷ P) e none h f = absurd (omega arith)

pub empty_by : (t : Bool) (L : List (ℤ × ℤ)) → t ≡ (length L == 0) → t ≡ true → L ≡ []
empty_by t [] e f = refl
empty_by t (p ∷ L) e f = absurd (by_test (sym f ∙ e))
  where
    by_test : true ≡ (length (p ∷ L) == 0) → ⊥
    by_test h = grind (arith, nat_tests)

pub filled_by : (t : Bool) (L : List (ℤ × ℤ)) → t ≡ (length L == 0) → t ≡ false → 0 < length L
filled_by t [] e f = absurd (by_test (sym f ∙ e))
  where
    by_test : false ≡ (length {A = ℤ × ℤ} [] == 0) → ⊥
    by_test h = grind (arith, nat_tests)
filled_by t (p ∷ L) e f = omega arith

-- ---- two lists that are compared run by run

pub never : (X : Type 0) → ¬ X → IsTrue false ↔ X
never X n = ((λ h. absurd (cc)), (λ x. absurd (n x)))

cancelled : (K A B : List (ℤ × ℤ)) → K ++ A ≡ K ++ B → A ≡ B
cancelled [] A B e = e
cancelled (p ∷ K) A B e = cancelled K A B (cc)

-- both lists begin with K, and A and B are left of them
pub record IsSameSoFar (L M A B : List (ℤ × ℤ)) : Type 0 where
  pub shared : List (ℤ × ℤ)
  pub left : L ≡ shared ++ A
  pub right : M ≡ shared ++ B

pub same_so_far : (L M : List (ℤ × ℤ)) → IsSameSoFar L M L M
same_so_far L M = record { shared = []; left = refl; right = refl }

pub same_further : (L M A B C D : List (ℤ × ℤ)) (p q : ℤ × ℤ) → IsMaximal L → IsSameSoFar L M A B → A ≡ p ∷ C → B ≡ q ∷ D → same_interval p q ≡ true → IsSameSoFar L M C D
same_further L M A B C D p q m s e f t =
    let open_p : p.0 ≤ℤ p.1 = (IsMaximal-second s.shared (p ∷ C) (subst IsMaximal (s.left ∙ ap (λ (K : List (ℤ × ℤ)). s.shared ++ K) e) m)).0 in
    let same : p ≡ q = same_pair p q open_p t in
    record {
      shared = s.shared ++ p ∷ [];
      left = s.left ∙ ap (λ (K : List (ℤ × ℤ)). s.shared ++ K) e ∙ sym (append_assoc s.shared (p ∷ []) C);
      right = s.right ∙ ap (λ (K : List (ℤ × ℤ)). s.shared ++ K) f ∙ ap (λ (r : ℤ × ℤ). s.shared ++ r ∷ D) (sym same) ∙ sym (append_assoc s.shared (p ∷ []) D);
    }

pub differ_here : (L M A B C D : List (ℤ × ℤ)) (p q : ℤ × ℤ) → IsSameSoFar L M A B → A ≡ p ∷ C → B ≡ q ∷ D → same_interval p q ≡ false → ¬ (L ≡ M)
differ_here L M A B C D p q s e f t same =
    let parts : p ∷ C ≡ q ∷ D = sym e ∙ cancelled s.shared A B (sym s.left ∙ same ∙ s.right) ∙ f in
    let equal : p ≡ q = cc in
    let true_too : same_interval p q ≡ true = subst (λ (r : ℤ × ℤ). same_interval p r ≡ true) equal (same_interval_equiv.refl p) in
    cc

pub ends_differ : (L M A B C : List (ℤ × ℤ)) (p : ℤ × ℤ) → IsSameSoFar L M A B → A ≡ p ∷ C → B ≡ [] → ¬ (L ≡ M)
ends_differ L M A B C p s e f same =
    let parts : p ∷ C ≡ [] = sym e ∙ cancelled s.shared A B (sym s.left ∙ same ∙ s.right) ∙ f in
    cc

pub same_ends : (L M A B : List (ℤ × ℤ)) → IsSameSoFar L M A B → A ≡ [] → B ≡ [] → L ≡ M
same_ends L M A B s e f = s.left ∙ ap (λ (K : List (ℤ × ℤ)). s.shared ++ K) (e ∙ sym f) ∙ sym s.right

-- ---- a list that is read from the front

pub read_next : (L R : List (ℤ × ℤ)) (i : ℕ) (p : ℤ × ℤ) → drop i L ≡ p ∷ R → (i < length L) × (p ≡ get_or L i p) × (R ≡ drop (i + 1) L)
read_next [] R zero p e = absurd (cc)
read_next [] R (suc i) p e = absurd (cc)
read_next (q ∷ L) R zero p e = (omega arith, cc, cc)
read_next (q ∷ L) R (suc i) p e =
    let k = read_next L R i p e in
    let more : i + 1 + 1 ≡ suc (i + 1) = omega arith in
    let next : suc i + 1 ≡ suc (i + 1) = omega arith in
    (let less = k.0 in omega arith, k.1, k.2 ∙ ap (λ (n : ℕ). drop n (q ∷ L)) (sym next))

pub read_all : (L : List (ℤ × ℤ)) (i : ℕ) → drop i L ≡ [] → length L ≤ i
read_all [] i e = omega arith
read_all (q ∷ L) zero e = absurd (cc)
read_all (q ∷ L) (suc i) e = let k = read_all L i e in omega arith

pub nothing_left : (A A' : List (ℤ × ℤ)) (r : Option (ℤ × ℤ)) → YieldsFirst (λ (l : List (ℤ × ℤ)). l) A r A' → ((x : ℤ × ℤ) → ¬ (r ≡ Some x)) → A ≡ []
nothing_left A A' None y n = y.0
nothing_left A A' (Some x) y n = absurd (n x refl)

-- a list A of which p comes first, and a test that tells that another run comes next
pub two_at_least : (N A B C : List (ℤ × ℤ)) (p : ℤ × ℤ) (o : Option (ℤ × ℤ)) (t : Bool) → A ≡ N → A ≡ p ∷ B → YieldsFirst (λ (l : List (ℤ × ℤ)). l) B o C → is_some o ≡ not t → t ≡ false → ¬ (length N ≡ 1)
two_at_least N A B C p None t e f y h k n = absurd (cc)
two_at_least N A B C p (Some q) t e f y h k n = let a = ap length (sym e ∙ f) in let b = ap length y in omega (arith, a, b, n)

-- nothing is left of the first list, and a test tells whether anything is left of the other
pub same_by_ends : (L M A A' B B' : List (ℤ × ℤ)) (r o : Option (ℤ × ℤ)) (t : Bool) → IsSameSoFar L M A B → YieldsFirst (λ (l : List (ℤ × ℤ)). l) A r A' → ((x : ℤ × ℤ) → ¬ (r ≡ Some x)) →
    YieldsFirst (λ (l : List (ℤ × ℤ)). l) B o B' → is_some o ≡ not t → IsTrue t ↔ (L ≡ M)
same_by_ends L M A A' B B' (Some x) o t s a n b e = absurd (n x refl)
same_by_ends L M A A' B B' None None true s a n b e = ((λ _. same_ends L M A B s a.0 b.0), (λ _. refl))
same_by_ends L M A A' B B' None None false s a n b e = absurd (cc)
same_by_ends L M A A' B B' None (Some y) true s a n b e = absurd (cc)
same_by_ends L M A A' B B' None (Some y) false s a n b e = never (L ≡ M) (λ same. let parts : [] ≡ y ∷ B' = sym a.0 ∙ cancelled s.shared A B (sym s.left ∙ same ∙ s.right) ∙ b in cc)
