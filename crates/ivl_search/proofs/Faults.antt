-- Faults of a call that are passed on.
use Rattle.std.proofs.Common.{◌≡◌, ◌↔◌, Result, Ok, Err}

-- a fault that is passed on is told exactly where it was
pub passed : {A B E : Type 0} (r : Result A E) (x y : E) → r ≡ Err x → (r ≡ Err y) ↔ (◌≡◌ {A = Result B E} (Err x) (Err y))
passed r x y is = ((λ e. cc), (λ e. cc))

-- and none where there is an answer
pub answered : {A B E : Type 0} (r : Result A E) (a : A) (b : B) (y : E) → r ≡ Ok a → (r ≡ Err y) ↔ (◌≡◌ {A = Result B E} (Ok b) (Err y))
answered r a b y is = ((λ e. cc), (λ e. cc))
