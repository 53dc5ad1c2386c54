-- Lists in which an entry is put between parts of others.
use Rattle.std.proofs.Common.{◌≡◌, ℕ, zero, suc, ◌<◌, ◌≤◌, ℤ, List, [], ◌∷◌, ◌++◌, length, get_or, take, drop, refl, ap, subst, sym, ◌∙◌, arith, Option, Some, None}
use Rattle.std.proofs.Math.ListN.{set}
use Rattle.ivl_map.specs.Entries.{entry_ended, entry_led}

-- ---- an interval is cut first, and what goes makes way then

cut_below : {X : Type 0} (r n : X) (E : List X) (i j : ℕ) → i < length E → i < j →
    take (suc i) (take i E ++ (r ∷ drop (suc i) E)) ++ (n ∷ drop j (take i E ++ (r ∷ drop (suc i) E))) ≡ take i E ++ (r ∷ n ∷ drop j E)
cut_below r n [] i j h k = absurd (omega arith)
cut_below r n (x ∷ E) zero zero h k = absurd (omega arith)
cut_below r n (x ∷ E) zero (suc j) h k = refl
cut_below r n (x ∷ E) (suc i) zero h k = absurd (omega arith)
cut_below {X} r n (x ∷ E) (suc i) (suc j) h k = ap {B = List X} (λ R. x ∷ R) (cut_below r n E i j (omega arith) (omega arith))

kept_length_next : {X : Type 0} (r : X) (E : List X) (i : ℕ) → i < length E → length (take i E ++ (r ∷ drop (suc i) E)) ≡ length E
kept_length_next r [] i h = absurd (omega arith)
kept_length_next r (x ∷ E) zero h = refl
kept_length_next r (x ∷ E) (suc i) h = ap suc (kept_length_next r E i (omega arith))

-- a list with another in the place of one is as long
pub kept_length : {X : Type 0} (r : X) (E : List X) (i j : ℕ) → i < length E → j ≡ suc i → length (take i E ++ (r ∷ drop j E)) ≡ length E
kept_length r E i j h e = let P : ℕ → Type 0 = λ n. length (take i E ++ (r ∷ drop n E)) ≡ length E in subst P (sym e) (kept_length_next r E i h)

-- x in the place of the last one that is kept
pub set_kept : {X : Type 0} (E N : List X) (x : X) (i : ℕ) → i < length E → set (take (suc i) E ++ N) i x ≡ take i E ++ (x ∷ N)
set_kept [] N x i h = absurd (omega arith)
set_kept (e ∷ E) N x zero h = refl
set_kept {X} (e ∷ E) N x (suc i) h = ap {B = List X} (λ R. e ∷ R) (set_kept E N x i (omega arith))

-- n in the place of those from behind r to before place j
pub below_cut : {X : Type 0} (E M D : List X) (r n : X) (i k j : ℕ) → i < length E → k ≡ suc i → k ≤ j → M ≡ take i E ++ (r ∷ drop k E) → D ≡ take k M ++ (n ∷ drop j M) → D ≡ take i E ++ (r ∷ n ∷ drop j E)
below_cut {X} E M D r n i k j h s l e g =
    let P : ℕ → Type 0 = λ t. M ≡ take i E ++ (r ∷ drop t E) in
    let Q : ℕ → Type 0 = λ t. D ≡ take t M ++ (n ∷ drop j M) in
    subst Q s g ∙ ap (λ (L : List X). take (suc i) L ++ (n ∷ drop j L)) (subst P s e) ∙ cut_below r n E i j h (omega (arith, s, l))

pub drop_taken : {X : Type 0} (E N : List X) (k : ℕ) → k ≤ length E → drop k (take k E ++ N) ≡ N
drop_taken E N zero h = refl
drop_taken [] N (suc k) h = absurd (omega arith)
drop_taken (x ∷ E) N (suc k) h = drop_taken E N k (omega arith)

pub take_taken : {X : Type 0} (E N : List X) (i k : ℕ) → i ≤ k → k ≤ length E → take i (take k E ++ N) ≡ take i E
take_taken E N zero k h l = refl
take_taken E N (suc i) zero h l = absurd (omega arith)
take_taken [] N (suc i) (suc k) h l = absurd (omega arith)
take_taken {X} (x ∷ E) N (suc i) (suc k) h l = ap {B = List X} (λ R. x ∷ R) (take_taken E N i k (omega arith) (omega arith))

pub at_taken : {X : Type 0} (E N : List X) (i k : ℕ) (d : X) → i < k → k ≤ length E → (i < length (take k E ++ N)) × (get_or (take k E ++ N) i d ≡ get_or E i d)
at_taken E N i zero d h l = absurd (omega arith)
at_taken [] N i (suc k) d h l = absurd (omega arith)
at_taken (x ∷ E) N zero (suc k) d h l = (omega arith, refl)
at_taken (x ∷ E) N (suc i) (suc k) d h l = let (less, e) = at_taken E N i k d (omega arith) (omega arith) in (omega (arith, less), e)

-- n in the place of those from place i to before r
pub above_cut : {X : Type 0} (E M D N : List X) (n : X) (i k : ℕ) → i ≤ k → k ≤ length E → M ≡ take k E ++ N → D ≡ take i M ++ (n ∷ drop k M) → D ≡ take i E ++ (n ∷ N)
above_cut {X} E M D N n i k h l e g =
    g ∙ ap (λ (L : List X). take i L ++ (n ∷ drop k L)) e
    ∙ ap (λ (L : List X). L ++ (n ∷ drop k (take k E ++ N))) (take_taken E N i k h l)
    ∙ ap (λ (L : List X). take i E ++ (n ∷ L)) (drop_taken E N k l)

-- f of the one at place i, and n, in the place of those from place i to before place k
pub both_cut : {X : Type 0} (f : X → X) (E M D C N : List X) (n : X) (i k j : ℕ) (d : X) → i < k → k ≤ length E → j ≡ suc i → j ≤ k → M ≡ take k E ++ N → D ≡ take i M ++ (f (get_or M i d) ∷ drop j M) → C ≡ take j D ++ (n ∷ drop k D) →
    C ≡ take i E ++ (f (get_or E i d) ∷ n ∷ N)
both_cut {X} f E M D C N n i k j d h l s t e g c =
    let P : List X → Type 0 = λ L. D ≡ take i L ++ (f (get_or L i d) ∷ drop j L) in
    let T = take k E ++ N in
    let there = at_taken E N i k d h l in
    let r = f (get_or T i d) in
    below_cut T D C r n i j k there.0 s t (subst P e g) c
    ∙ ap (λ (L : List X). L ++ (r ∷ n ∷ drop k T)) (take_taken E N i k (omega arith) l)
    ∙ ap (λ (L : List X). take i E ++ (r ∷ n ∷ L)) (drop_taken E N k l)
    ∙ ap (λ (x : X). take i E ++ (f x ∷ n ∷ N)) there.1

pub ended_led : {V : Type 0} (E : List ((ℤ × ℤ) × V)) (o : Option (ℤ × ℤ)) (x : V) (N : List ((ℤ × ℤ) × V)) → entry_ended E o x ++ N ≡ E ++ entry_led o x N
ended_led E None x N = refl
ended_led [] (Some p) x N = refl
ended_led {V} (e ∷ E) (Some p) x N = ap {B = List ((ℤ × ℤ) × V)} (λ R. e ∷ R) (ended_led E (Some p) x N)
