-- When two pairs stand for one interval, as a test, and the laws of the test.
--     normal_pair p      the pair, or (1, 0) if it is crossed
--     equal_pairs p q      both ends agree
--     same_interval p q      the test of `==`: both pairs are crossed, or both ends agree
--     same_interval_equiv, same_interval_laws      the laws of that test
use Rattle.std.specs.Prelude.{ℤ, pos, Bool, ◌&&◌, int_lt, if◌then◌else◌}
use Rattle.std.specs.Cmp.{IsPartialEquivalence, IsEquivalence, partial_equiv_from_equiv}
use Rattle.std.specs.Ordering.{int_eq}
use Rattle.std.proofs.lemmas.Cmp.{on_equiv, and_equiv, int_eq_equiv}

abbrev pub normal_pair : ℤ × ℤ → ℤ × ℤ
normal_pair p = if int_lt p.1 p.0 then (pos 1, pos 0) else p

abbrev pub equal_pairs : ℤ × ℤ → ℤ × ℤ → Bool
equal_pairs p q = int_eq p.0 q.0 && int_eq p.1 q.1

abbrev pub same_interval : ℤ × ℤ → ℤ × ℤ → Bool
same_interval p q = equal_pairs (normal_pair p) (normal_pair q)

pub same_interval_equiv : IsEquivalence same_interval
same_interval_equiv =
    on_equiv normal_pair (and_equiv (on_equiv (λ (p : ℤ × ℤ). p.0) int_eq_equiv) (on_equiv (λ (p : ℤ × ℤ). p.1) int_eq_equiv))

pub same_interval_laws : IsPartialEquivalence same_interval
same_interval_laws = partial_equiv_from_equiv same_interval_equiv
