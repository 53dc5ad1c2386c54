-- That each index of a command names a register, and one more empty register.
use Rattle.std.proofs.Common.{◌≡◌, ℕ, ◌+◌, ◌<◌, ℤ, List, [], ◌∷◌, ◌++◌, length, get_or, slice_index_or, replicate}
use Rattle.std.proofs.lemmas.List.{replicate_more}
use Rattle.std.proofs.lemmas.List.Elements.{All-nil, All-cons, All-head, All-tail}
use Rattle.std.specs.Prelude.{All}
use Rattle.ivl_within.proofs.Lists.{entry_seen}

pub two_named : (n a b : ℕ) → a < n → b < n → All (λ r. r < n) (a ∷ b ∷ [])
two_named n a b h k = All-cons (λ r. r < n) a (b ∷ []) h (All-cons (λ r. r < n) b [] k (All-nil (λ r. r < n)))

-- what is read at the second and the third register that a command names
pub second_seen : (items s : List (List (ℤ × ℤ))) (r a : ℕ) (more : List ℕ) (v : List (ℤ × ℤ)) → items ≡ s → All (λ x. x < length s) (r ∷ a ∷ more)
    → v ≡ get_or items a v → v ≡ slice_index_or s a []
second_seen items s r a more v view all is = entry_seen items s a v view (All-head (λ x. x < length s) a more (All-tail (λ x. x < length s) r (a ∷ more) all)) is

pub third_seen : (items s : List (List (ℤ × ℤ))) (r a b : ℕ) (v : List (ℤ × ℤ)) → items ≡ s → All (λ x. x < length s) (r ∷ a ∷ b ∷ [])
    → v ≡ get_or items b v → v ≡ slice_index_or s b []
third_seen items s r a b v view all is = second_seen items s a b [] v view (All-tail (λ x. x < length s) r (a ∷ b ∷ []) all) is

pub replicate_pushed : {X : Type 0} (n : ℕ) (x y : X) (old new : List X) → old ≡ replicate n y → x ≡ y → new ≡ old ++ x ∷ [] → new ≡ replicate (n + 1) y
replicate_pushed n x y old new h e is = rw (is, h, e) (replicate_more n y)
