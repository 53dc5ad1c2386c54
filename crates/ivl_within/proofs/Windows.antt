-- Results in a window: where it has no member, and where the sets are read through other lists.
use Rattle.std.proofs.Common.{◌≡◌, ℤ, List, [], Result}
use Rattle.std.specs.Prelude.{IfOk}
use Rattle.ivl_laws.specs.Sets.{IsCrossed}
use Rattle.ivl_laws.specs.Runs.{Covers, IsRunsOf}
use Rattle.ivl_laws.proofs.Intervals.{none_is_crossed}
use Rattle.ivl_within.specs.Within.{Clipped, SumsBy}
use Rattle.ivl_within.specs.declared.within.Combined.{Combined}

pub none_in_window : (w : ℤ × ℤ) (S : ℤ → Type 0) (L : List (ℤ × ℤ)) → L ≡ [] → IsCrossed w → IsRunsOf L (Clipped w S)
none_in_window w S L e crossed = rw e (record { maximal = tt; members = λ z. (λ n. absurd n, λ m. absurd ((none_is_crossed w).1 crossed z m.1)) })

pub runs_seen : {E : Type 0} (w : ℤ × ℤ) (op : Combined) (L M A B : List (ℤ × ℤ)) (r : Result (List (ℤ × ℤ)) E) → L ≡ A → M ≡ B
    → IfOk r (λ N. IsRunsOf N (Clipped w (SumsBy op (Covers L) (Covers M)))) → IfOk r (λ N. IsRunsOf N (Clipped w (SumsBy op (Covers A) (Covers B))))
runs_seen w op L M A B r e f h = rw (← e, ← f) h
