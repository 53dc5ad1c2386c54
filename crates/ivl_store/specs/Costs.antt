-- What narrowings count for.
--     pairs_of c sets      how many pairs of runs narrowing by the constraint may look at: those of x and y, of x and z, and of y and z; 2^64 - 1 at most
--     cost_of c sets      one, and one more for each 256 of these pairs
use Rattle.std.specs.Prelude.{◌+◌, ◌-◌, ◌*◌, ◌/◌, ◌^◌, ℕ, ℤ, List, [], length, min, slice_index_or}
use Rattle.ivl_store.specs.declared.store.constraint.Constraint.{Constraint}

unfoldable pub pairs_of : Constraint → List (List (ℤ × ℤ)) → ℕ
pairs_of c sets =
    let x = length (slice_index_or sets c.x []) in let y = length (slice_index_or sets c.y []) in let z = length (slice_index_or sets c.z []) in
    min (x * y + x * z + y * z) (2 ^ 64 - 1)

unfoldable pub cost_of : Constraint → List (List (ℤ × ℤ)) → ℕ
cost_of c sets = pairs_of c sets / 256 + 1
