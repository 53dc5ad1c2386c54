-- Two lists that are compared run by run, some at a time.
use Rattle.std.proofs.Common.{◌≡◌, ◌↔◌, ◌∙◌, ◌&&◌, ◌<◌, ◌+◌, ◌++◌, Bool, IsTrue, ℕ, ℤ, pos, List, length, get_or, take, drop, ap, ap₂, sym, arith}
use Rattle.std.proofs.Math.Seq.{take-add}
use Rattle.std.proofs.lemmas.Bool.{and_parts, and_from}
use Rattle.std.proofs.lemmas.List.{take-append-drop}
use borrow.Author.Count.{below_more}
use Rattle.ivl_images.specs.Sweeps.{run_at}
use Rattle.ivl_laws.proofs.Slices.{same_item}

abbrev pub SameAt : List (ℤ × ℤ) → List (ℤ × ℤ) → ℕ → Type 0
SameAt A B i = run_at A i ≡ run_at B i

-- p and q are the runs that were read there
pub same_here : (A B : List (ℤ × ℤ)) (i : ℕ) (p q : ℤ × ℤ) → i < length A → i < length B → p ≡ get_or A i p → q ≡ get_or B i q → (p ≡ q) ↔ SameAt A B i
same_here A B i p q h k is is' =
    let a : run_at A i ≡ p = same_item A i (pos 0, pos 0) p h ∙ sym is in
    let b : run_at B i ≡ q = same_item B i (pos 0, pos 0) q k ∙ sym is' in
    ((λ e. a ∙ e ∙ sym b), (λ e. sym a ∙ e ∙ b))

-- a test of the runs before a place, and one of those that were read there
pub same_to_next : (A B : List (ℤ × ℤ)) (i : ℕ) (before here : Bool) (p q : ℤ × ℤ) → i < length A → i < length B → p ≡ get_or A i p → q ≡ get_or B i q →
    (IsTrue before ↔ ((k : ℕ) → k < i → SameAt A B k)) → (IsTrue here ↔ (p ≡ q)) → IsTrue (before && here) ↔ ((k : ℕ) → k < i + 1 → SameAt A B k)
same_to_next A B i before here p q h k is is' t u =
    let at = same_here A B i p q h k is is' in (
      (λ both. let parts = and_parts before here both in below_more (SameAt A B) i (t.0 parts.0) (at.0 (u.0 parts.1))),
      (λ same. and_from before here (t.1 (λ j less. same j (omega arith))) (u.1 (at.1 (same i (omega arith))))),
    )

-- one part more is the same
pub same_part : (A B : List (ℤ × ℤ)) (n m k : ℕ) → k ≡ n + m → take n A ≡ take n B → take m (drop n A) ≡ take m (drop n B) → take k A ≡ take k B
same_part A B n m k e f g =
    ap (λ (j : ℕ). take j A) e ∙ take-add n m A ∙ ap₂ (λ (X Y : List (ℤ × ℤ)). X ++ Y) f g ∙ sym (take-add n m B) ∙ ap (λ (j : ℕ). take j B) (sym e)

pub same_rest : (A B : List (ℤ × ℤ)) (n : ℕ) → take n A ≡ take n B → drop n A ≡ drop n B → A ≡ B
same_rest A B n f g = sym (take-append-drop n A) ∙ ap₂ (λ (X Y : List (ℤ × ℤ)). X ++ Y) f g ∙ take-append-drop n B
