-- The laws of bounds and sizes at the integer types.
--     signed_order, unsigned_order, size_order      how the values of the integer types are ordered
--     range_u8, countable_u8      the laws of `u8` as a bound type; so for each integer type, `usize` and `isize` by
--         those of 64 bits
--     fits_u8      the numbers of `u8` are sizes; so for each unsigned type
--     range_full_u8, countable_full_u8, full_order      the laws of `Full<u8>`; so for `u16` and `u32`
use Rattle.std.specs.Prelude.{◌≡◌, ℕ, pos, negsuc, refl, nat_eq, Some, ◌-◌, ◌^◌, ◌<◌, ◌≤◌, ◌<ℤ◌}
use Rattle.std.specs.declared.cmp.Ordering.{Ordering}
use Rattle.std.specs.declared.cmp.Ordering.TheVariants.{Less, Equal, Greater}
use Rattle.std.specs.Ordering.{int_cmp, int_eq, is_eq, nat_cmp, MatchOrdering}
use Rattle.std.specs.Cmp.{int_cmp_is, ranks, unsigned_ties}
use Rattle.std.proofs.Common.{ap, ◌∙◌, lit<, lit≤}
use lib.Dec.{lt→ltb}
use Rattle.ivl_laws.specs.Bounds.{width_of, OrdersByNumber, OrdersByCount, IsBoundRange}

below : (x y : ℕ) → x < y → pos x <ℤ pos y
below x y h = record { lt = lt→ltb x y h }

-- where one natural number lies beside another, so does the whole number of the one beside that of the other
as_whole : (x y : ℕ) (r : Ordering) → MatchOrdering r (x < y) (x ≡ y) (y < x) → MatchOrdering r (pos x <ℤ pos y) (pos x ≡ pos y) (pos y <ℤ pos x)
as_whole x y Less h = below x y h
as_whole x y Equal h = ap pos h
as_whole x y Greater h = below y x h

nat_cmp_is_int_cmp : (x y : ℕ) → nat_cmp x y ≡ int_cmp (pos x) (pos y)
nat_cmp_is_int_cmp x y = int_cmp_is (pos x) (pos y) (nat_cmp x y) (as_whole x y (nat_cmp x y) (ranks x y))

nat_eq_is_int_eq : (x y : ℕ) → nat_eq x y ≡ int_eq (pos x) (pos y)
nat_eq_is_int_eq x y = unsigned_ties x y ∙ ap is_eq (nat_cmp_is_int_cmp x y)

pub signed_order : OrdersByNumber (λ x. x) int_eq (λ x y. Some (int_cmp x y)) int_cmp
signed_order = record { equal = λ _ _. refl; partial = λ _ _. refl; total = λ _ _. refl }

pub unsigned_order : OrdersByNumber pos nat_eq (λ x y. Some (nat_cmp x y)) nat_cmp
unsigned_order = record {
  equal = nat_eq_is_int_eq;
  partial = λ x y. ap Some (nat_cmp_is_int_cmp x y);
  total = nat_cmp_is_int_cmp;
}

pub full_order : {K : Type 0} (field : K → ℕ) → OrdersByNumber (λ x. pos (field x)) (λ x y. nat_eq (field x) (field y)) (λ x y. Some (nat_cmp (field x) (field y))) (λ x y. nat_cmp (field x) (field y))
full_order field = record {
  equal = λ x y. nat_eq_is_int_eq (field x) (field y);
  partial = λ x y. ap Some (nat_cmp_is_int_cmp (field x) (field y));
  total = λ x y. nat_cmp_is_int_cmp (field x) (field y);
}

pub size_order : OrdersByCount (λ x. x) nat_eq (λ x y. Some (nat_cmp x y)) nat_cmp
size_order = record { equal = λ _ _. refl; partial = λ _ _. refl; total = λ _ _. refl }

pub fits_u8 : 2 ^ 8 - 1 < 2 ^ 128
fits_u8 = lit< tt

pub range_u8 : IsBoundRange (pos 0, pos (2 ^ 8 - 2))
range_u8 = record {
  low_at_most = record { le = tt };
  high_at_least = record { le = tt };
  low_at_least = record { le = tt };
  high_at_most = record { le = tt };
}

pub countable_u8 : width_of (pos 0, pos (2 ^ 8 - 2)) ≤ 2 ^ 8 - 1
countable_u8 = lit≤ tt

pub range_full_u8 : IsBoundRange (pos 0, pos (2 ^ 8 - 1))
range_full_u8 = record {
  low_at_most = record { le = tt };
  high_at_least = record { le = tt };
  low_at_least = record { le = tt };
  high_at_most = record { le = tt };
}

pub countable_full_u8 : width_of (pos 0, pos (2 ^ 8 - 1)) ≤ 2 ^ 16 - 1
countable_full_u8 = lit≤ tt

pub range_i8 : IsBoundRange (negsuc (2 ^ 7 - 2), pos (2 ^ 7 - 1))
range_i8 = record {
  low_at_most = record { le = tt };
  high_at_least = record { le = tt };
  low_at_least = record { le = tt };
  high_at_most = record { le = tt };
}

pub countable_i8 : width_of (negsuc (2 ^ 7 - 2), pos (2 ^ 7 - 1)) ≤ 2 ^ 8 - 1
countable_i8 = lit≤ tt

pub fits_u16 : 2 ^ 16 - 1 < 2 ^ 128
fits_u16 = lit< tt

pub range_u16 : IsBoundRange (pos 0, pos (2 ^ 16 - 2))
range_u16 = record {
  low_at_most = record { le = tt };
  high_at_least = record { le = tt };
  low_at_least = record { le = tt };
  high_at_most = record { le = tt };
}

pub countable_u16 : width_of (pos 0, pos (2 ^ 16 - 2)) ≤ 2 ^ 16 - 1
countable_u16 = lit≤ tt

pub range_full_u16 : IsBoundRange (pos 0, pos (2 ^ 16 - 1))
range_full_u16 = record {
  low_at_most = record { le = tt };
  high_at_least = record { le = tt };
  low_at_least = record { le = tt };
  high_at_most = record { le = tt };
}

pub countable_full_u16 : width_of (pos 0, pos (2 ^ 16 - 1)) ≤ 2 ^ 32 - 1
countable_full_u16 = lit≤ tt

pub range_i16 : IsBoundRange (negsuc (2 ^ 15 - 2), pos (2 ^ 15 - 1))
range_i16 = record {
  low_at_most = record { le = tt };
  high_at_least = record { le = tt };
  low_at_least = record { le = tt };
  high_at_most = record { le = tt };
}

pub countable_i16 : width_of (negsuc (2 ^ 15 - 2), pos (2 ^ 15 - 1)) ≤ 2 ^ 16 - 1
countable_i16 = lit≤ tt

pub fits_u32 : 2 ^ 32 - 1 < 2 ^ 128
fits_u32 = lit< tt

pub range_u32 : IsBoundRange (pos 0, pos (2 ^ 32 - 2))
range_u32 = record {
  low_at_most = record { le = tt };
  high_at_least = record { le = tt };
  low_at_least = record { le = tt };
  high_at_most = record { le = tt };
}

pub countable_u32 : width_of (pos 0, pos (2 ^ 32 - 2)) ≤ 2 ^ 32 - 1
countable_u32 = lit≤ tt

pub range_full_u32 : IsBoundRange (pos 0, pos (2 ^ 32 - 1))
range_full_u32 = record {
  low_at_most = record { le = tt };
  high_at_least = record { le = tt };
  low_at_least = record { le = tt };
  high_at_most = record { le = tt };
}

pub countable_full_u32 : width_of (pos 0, pos (2 ^ 32 - 1)) ≤ 2 ^ 64 - 1
countable_full_u32 = lit≤ tt

pub range_i32 : IsBoundRange (negsuc (2 ^ 31 - 2), pos (2 ^ 31 - 1))
range_i32 = record {
  low_at_most = record { le = tt };
  high_at_least = record { le = tt };
  low_at_least = record { le = tt };
  high_at_most = record { le = tt };
}

pub countable_i32 : width_of (negsuc (2 ^ 31 - 2), pos (2 ^ 31 - 1)) ≤ 2 ^ 32 - 1
countable_i32 = lit≤ tt

pub fits_u64 : 2 ^ 64 - 1 < 2 ^ 128
fits_u64 = lit< tt

pub range_u64 : IsBoundRange (pos 0, pos (2 ^ 64 - 2))
range_u64 = record {
  low_at_most = record { le = tt };
  high_at_least = record { le = tt };
  low_at_least = record { le = tt };
  high_at_most = record { le = tt };
}

pub countable_u64 : width_of (pos 0, pos (2 ^ 64 - 2)) ≤ 2 ^ 64 - 1
countable_u64 = lit≤ tt

pub range_i64 : IsBoundRange (negsuc (2 ^ 63 - 2), pos (2 ^ 63 - 1))
range_i64 = record {
  low_at_most = record { le = tt };
  high_at_least = record { le = tt };
  low_at_least = record { le = tt };
  high_at_most = record { le = tt };
}

pub countable_i64 : width_of (negsuc (2 ^ 63 - 2), pos (2 ^ 63 - 1)) ≤ 2 ^ 64 - 1
countable_i64 = lit≤ tt
