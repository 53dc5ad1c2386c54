-- A room whose first places have been written.
use Rattle.std.proofs.Common.{◌≡◌, ◌∙◌, ℕ, ◌+◌, ℤ, zero, suc, ◌<◌, ◌≤◌, List, [], ◌∷◌, ◌++◌, length, get_or, set, take, drop, map, ap, subst, arith}
use Rattle.std.proofs.lemmas.List.{map-set, length-map}
use Rattle.ivl_laws.specs.Sets.{HasSome, IsBetween}
use Rattle.ivl_laws.specs.Runs.{IsMaximal}
use Rattle.ivl_laws.proofs.Runs.{lower_end, pair_same}
use Rattle.ivl_images.proofs.Images.{open_here}

pub write_more : {X : Type 0} (L room : List X) (i : ℕ) (d : X) → i < length L → length L ≤ length room → d ≡ get_or L i d →
    set (take i L ++ drop i room) i d ≡ take (suc i) L ++ drop (suc i) room
write_more [] room i d h k is = absurd (omega arith)
write_more (p ∷ L) [] i d h k is = absurd (omega arith)
write_more (p ∷ L) (q ∷ room) zero d h k is = ap (λ x. x ∷ room) is
write_more (p ∷ L) (q ∷ room) (suc i) d h k is = ap (λ M. p ∷ M) (write_more L room i d (omega arith) (omega arith) is)

-- the run at a place is written as the pair of its bounds
pub wrote : {X : Type 0} (pair : X → ℤ × ℤ) (out old : List X) (L : List (ℤ × ℤ)) (i : ℕ) (d : ℤ × ℤ) (x : X) (a b : ℤ) → i < length L → length L ≤ length old → d ≡ get_or L i d →
    pair x ≡ (a, b) → a ≡ d.0 → b ≡ d.1 → map pair out ≡ take i L ++ drop i (map pair old) → map pair (set out i x) ≡ take (i + 1) L ++ drop (i + 1) (map pair old)
wrote pair out old L i d x a b h k is e low high inv =
    let room = map pair old in
    let same : pair x ≡ d = e ∙ pair_same (a, b) d low high in
    let P : List (ℤ × ℤ) → Type 0 = λ M. map pair (set out i x) ≡ set M i (pair x) in
    let Q : ℤ × ℤ → Type 0 = λ p. map pair (set out i x) ≡ set (take i L ++ drop i room) i p in
    let R : ℕ → Type 0 = λ n. map pair (set out i x) ≡ take n L ++ drop n room in
    let more : suc i ≡ i + 1 = omega arith in
    let fits : length L ≤ length room = let n = length-map old pair in omega (arith, k, n) in
    subst R more (subst Q same (subst P inv (map-set pair out i x)) ∙ write_more L room i d h fits is)

pub filled_at : (L : List (ℤ × ℤ)) (i : ℕ) (d : ℤ × ℤ) → IsMaximal L → i < length L → d ≡ get_or L i d → HasSome (IsBetween d)
filled_at L i d m h is = (d.0, lower_end d (open_here L i d m h is))
