-- What is laid in a room, beside what is written there.
use Rattle.std.proofs.Common.{◌≡◌, ℕ, ◌≤◌, ℤ, pos, List, [], ◌∷◌, ◌++◌, length, drop, map, true, refl, ap, ◌∙◌, sym, subst, arith}
use Rattle.std.proofs.lemmas.Bool.{le-leb}
use Rattle.std.specs.Prelude.{nat_le}
use Rattle.ivl_laws.proofs.SetLaws.{IsRunsOf-unique}
use Rattle.ivl_walks.specs.Sinks.{IsMerged, laid}
use Rattle.ivl_buffers.specs.Answers.{IsWritten, written}
use Rattle.ivl_buffers.specs.Merging.{IsLaid}

-- what a merge held in the room
pub merged_is_laid : (H : List (ℤ × ℤ) → Type 0) (S : ℤ → Type 0) (most : ℕ) (old new : List (ℤ × ℤ)) (told : ℕ) → ((L : List (ℤ × ℤ)) → H L → (told ≡ length L) × (new ≡ laid L old)) →
    (L : List (ℤ × ℤ)) × IsMerged H S most L → (L : List (ℤ × ℤ)) × IsLaid S old new told L
merged_is_laid H S most old new told is (L, u) = let (n, r) = is L u.held in (L, record { runs = u.runs; count = n; room = r })

pub merged_at_most : (H : List (ℤ × ℤ) → Type 0) (S : ℤ → Type 0) (most told : ℕ) → ((L : List (ℤ × ℤ)) → H L → told ≡ length L) → (L : List (ℤ × ℤ)) × IsMerged H S most L → told ≤ most
merged_at_most H S most told is (L, u) = let n = is L u.held in let few = u.at_most in omega (arith, n, few)

-- ---- what is laid in a room of which it fills no more than there is

laid_fits : (L room : List (ℤ × ℤ)) → length L ≤ length room → laid L room ≡ L ++ drop (length L) room
laid_fits [] [] h = refl
laid_fits [] (q ∷ room) h = refl
laid_fits (p ∷ L) [] h = absurd (omega arith)
laid_fits (p ∷ L) (q ∷ room) h = ap (λ (M : List (ℤ × ℤ)). p ∷ M) (laid_fits L room (omega arith))

written_fits : (L room : List (ℤ × ℤ)) → length L ≤ length room → written L room ≡ L ++ drop (length L) room
written_fits L room h = let e : nat_le (length L) (length room) ≡ true = le-leb (length L) (length room) h in rw e refl

pub laid_is_written : (S : ℤ → Type 0) (old new : List (ℤ × ℤ)) (told : ℕ) (t : ℤ) → t ≡ pos told → told ≤ length old → (L : List (ℤ × ℤ)) × IsLaid S old new told L →
    (L : List (ℤ × ℤ)) × IsWritten S old new t L
laid_is_written S old new told t e h (L, u) =
    let fits : length L ≤ length old = let c = u.count in omega (arith, h, c) in
    (L, record { runs = u.runs; count = e ∙ ap pos u.count; room = u.room ∙ laid_fits L old fits ∙ sym (written_fits L old fits) })

-- two counts of one set agree
pub counts_agree : (S : ℤ → Type 0) (old new room room' : List (ℤ × ℤ)) (m n : ℕ) → (L : List (ℤ × ℤ)) × IsLaid S old new m L → (L : List (ℤ × ℤ)) × IsLaid S room room' n L → m ≡ n
counts_agree S old new room room' m n (L, u) (M, v) =
    let same = IsRunsOf-unique S S L M (λ z. ((λ s. s), (λ s. s))) u.runs v.runs in
    u.count ∙ ap length same ∙ sym v.count

laid_in_none : (L : List (ℤ × ℤ)) → laid L [] ≡ []
laid_in_none [] = refl
laid_in_none (p ∷ L) = refl

-- an empty part of the room stays empty
pub same_room : {X : Type 0} (pair : X → ℤ × ℤ) (S : ℤ → Type 0) (none : List (ℤ × ℤ)) (new room : List X) (told : ℕ) → none ≡ [] → (L : List (ℤ × ℤ)) × IsLaid S none (map pair new) told L → new ++ room ≡ room
same_room pair S none [] room told e l = refl
same_room pair S none (x ∷ new) room told e (L, u) =
    let nothing : laid L none ≡ [] = subst (λ (M : List (ℤ × ℤ)). laid L M ≡ []) (sym e) (laid_in_none L) in
    let wrong : pair x ∷ map pair new ≡ [] = u.room ∙ nothing in
    absurd (cc)
