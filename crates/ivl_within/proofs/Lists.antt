-- What is read in a list of sets through what holds it.
use Rattle.std.proofs.Common.{◌≡◌, ◌∙◌, ℕ, ◌<◌, ℤ, List, [], length, get_or, ap}
use Rattle.std.proofs.lemmas.List.{get_or_default}

pub entry_seen : (items state : List (List (ℤ × ℤ))) (a : ℕ) (v : List (ℤ × ℤ)) → items ≡ state → a < length state → v ≡ get_or items a v → v ≡ get_or state a []
entry_seen items state a v view h e = e ∙ ap (λ s. get_or s a v) view ∙ get_or_default state a v [] h
