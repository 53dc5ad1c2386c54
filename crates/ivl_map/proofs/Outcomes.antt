-- What holds whatever a change answers.
use Rattle.std.proofs.Common.{◌≡◌, ℤ, ◌≤ℤ◌, Bool, true≢false, sym, subst, List, Option, Some, None, Result, Ok, Err}
use Rattle.std.specs.Prelude.{IfNone, IfOk, IfSome, IsOk, OnErr}
use Rattle.std.proofs.lemmas.Int.{by_lt_z}
use Rattle.ivl_laws.specs.Counts.{IsIn}
use Rattle.ivl_laws.specs.Sets.{HasNone, IsBetween}
use Rattle.ivl_laws.proofs.Intervals.{none_is_crossed, some_is_not_crossed}
use Rattle.ivl_places.specs.Edits.{widened}
use Rattle.ivl_map.specs.Changes.{NeedsRoom}
use Rattle.ivl_map.specs.Entries.{HasAt}

pub any_outcome : {X Y P Q R T : Type 0} (r : Result (Option X) Y) → IfOk r (λ met. IfNone met P) → IfOk r (λ met. IfSome met (λ x. Q)) → OnErr r R → (P → T) → (Q → T) → (R → T) → T
any_outcome (Ok None) a b c f g h = f a
any_outcome (Ok (Some x)) a b c f g h = g b
any_outcome (Err y) a b c f g h = h c

pub on_err_any : {X Y P : Type 0} (r : Result X Y) → P → OnErr r P
on_err_any (Ok x) p = tt
on_err_any (Err y) p = p

-- a write that failed is one that may fail
pub needs_room : {V X Y : Type 0} (eq : V → V → Bool) (E : List ((ℤ × ℤ) × V)) (p : ℤ × ℤ) (x : V) (r : Result X Y) (y : Y) → r ≡ Err y → (HasNone (IsBetween p) → IsOk r) →
    ((e : (ℤ × ℤ) × V) → IsIn E e → p.0 ≤ℤ e.0.0 → e.0.1 ≤ℤ p.1 → IsOk r) → ((z : ℤ) → IsBetween (widened p) z → HasAt eq E z x → IsOk r) → NeedsRoom eq E (p, x)
needs_room {V} {X} {Y} eq E p x r y is empty replaces grows =
    let P : Result X Y → Type 0 = λ t. IsOk t in
    let fails : ¬ (IsOk r) = λ s. true≢false (sym (subst P is s)) in
    record {
      filled = (some_is_not_crossed p).1 (by_lt_z p.1 p.0 (λ lt. absurd (fails (empty ((none_is_crossed p).1 lt)))) (λ le. le));
      replaces_none = λ e i from to. fails (replaces e i from to);
      grows_none = λ z b h. fails (grows z b h);
    }
