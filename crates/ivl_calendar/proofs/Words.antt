-- Words that may be names.
use Rattle.std.proofs.Common.{◌≡◌, ℕ, ℤ, Bool, true, false, List, Option, None, Some, refl}
use Rattle.std.specs.Prelude.{IfNone, IfSome, IsTrue, bytes_eq, codes, not}
use Rattle.std.specs.Option.{is_some}
use Rattle.std.proofs.lemmas.Slice.Eq.{bytes_eq-Decides}
use Rattle.ivl_calendar.specs.Days.{IsDayText}
use Rattle.ivl_calendar.specs.Requests.{IsName}

pub is_name_tested : (word : List ℕ) (read : Option ℤ) (b : Bool) → is_some read ≡ not b → IfSome read (λ day. IsDayText day word) → IfNone read ((day : ℤ) → ¬ (IsDayText day word)) → true ≡ not (bytes_eq word (codes "free"))
    → (IsTrue b → IsName word) × (IsName word → IsTrue b)
is_name_tested word None true is text none differs = ((λ t. (none, λ e. let same = (bytes_eq-Decides word (codes "free")).1 e in cc)), (λ n. refl))
is_name_tested word None false is text none differs = absurd cc
is_name_tested word (Some day) true is text none differs = absurd cc
is_name_tested word (Some day) false is text none differs = ((λ t. absurd cc), (λ n. absurd (n.0 day text)))
