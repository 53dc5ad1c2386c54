use Rattle.std.proofs.Common.{◌≡◌, ℤ, ◌≤ℤ◌, List, ℕ, inr, refl, arith, sym, ap, ◌∙◌}
use Rattle.std.proofs.lemmas.Int.{ints}
use Rattle.ivl_calendar.specs.Days.{IsWindow, IsDayText}
use Rattle.ivl_calendar.proofs.dates.days_from.Goals as goal

window_is : (a b : ℤ) (first last : List ℕ) (window : ℤ × ℤ) → IsDayText a first → IsDayText b last → a ≤ℤ b → window.0 ≡ a → window.1 ≡ b → IsWindow first last window
window_is a b first last window h k le is_a is_b = ((h.0, h.1 ∙ sym is_a, h.2), (k.0, k.1 ∙ sym is_b, k.2), rw (is_a, is_b) le)

pub returns-then-from-to-clause-ok : goal.returns-then-from-to-clause-ok
returns-then-from-to-clause-ok c =
    let value = c.new.ensures.value in
    let le : c.in-Some.from ≤ℤ c.in-Some-day_from.to = omega (arith, ints) in
    window_is c.in-Some.from c.in-Some-day_from.to _ _ _ c.in-Some.ensures.is_text c.in-Some-day_from.ensures.is_text le (omega (arith, ints, ap (λ (p : ℤ × ℤ). p.0) value)) (omega (arith, ints, ap (λ (p : ℤ × ℤ). p.1) value))

pub returns-else-from-to-clause-err : goal.returns-else-from-to-clause-err
returns-else-from-to-clause-err c = inr (inr (c.in-Some.from, c.in-Some-day_from.to, c.in-Some.ensures.is_text, c.in-Some-day_from.ensures.is_text, omega (arith, ints), refl))
