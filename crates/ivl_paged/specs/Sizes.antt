-- How many members pages have together, by groups of 64 pages.
--     member_total P      how many numbers the runs of the pages of P have together
--     AreSizes S P      S has an element for each 64 pages of P in a row: how many members they have, up to multiples of 2 ^ 128
--     IsPageChange P i b a Q      Q is P but for page i, which had b members and has a, or is put behind the others
use Rattle.std.specs.Prelude.{◌≡◌, ◌⊎◌, ℕ, ◌+◌, ◌*◌, ◌%◌, ◌^◌, ◌<◌, ◌≤◌, ℤ, List, length, slice_index_or, sum_by, take}
use Rattle.ivl_laws.specs.Bounds.{width_of}
use Rattle.ivl_paged.specs.Pages.{flattened}

abbrev pub member_total : List (List (ℤ × ℤ)) → ℕ
member_total P = sum_by width_of (flattened P)

-- the pages up to the last of group g have the members of those before the group, and as many as the element says
pub record AreSizes (S : List ℕ) (P : List (List (ℤ × ℤ))) : Type 0 where
  pub enough : length P ≤ 64 * length S
  pub adds : (g : ℕ) → (member_total (take (64 * g) P) + slice_index_or S g 0) % 2 ^ 128 ≡ member_total (take (64 * g + 64) P) % 2 ^ 128

pub record IsPageChange (P : List (List (ℤ × ℤ))) (i b a : ℕ) (Q : List (List (ℤ × ℤ))) : Type 0 where
  pub places : (length Q ≤ length P) ⊎ (length Q ≡ i + 1)
  pub before : (n : ℕ) → n ≤ i → member_total (take n Q) ≡ member_total (take n P)
  pub behind : (n : ℕ) → i < n → member_total (take n Q) + b ≡ member_total (take n P) + a
