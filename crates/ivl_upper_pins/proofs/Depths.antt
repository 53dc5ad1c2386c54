-- How deep the JSON of a set nests.
use Rattle.std.proofs.Common.{◌≤◌, Bool, true, false, ℤ, List, [], ◌∷◌, map, arith}
use Rattle.std.specs.Prelude.{int_lt, if◌then◌else◌}
use Rattle.serde_json.specs.Data.{null, array, item, no_items, depth, items_depth}
use Rattle.serde_json.specs.View.{items_of}
use Rattle.ivl_json.specs.Writing.{bound_json, interval_json, set_json}

pair_depth : (crossed : Bool) (p : ℤ × ℤ) → depth (if crossed then null else array (item (bound_json p.0) (item (bound_json p.1) no_items))) ≤ 1
pair_depth true p = omega arith
pair_depth false p = omega arith

runs_depth : (L : List (ℤ × ℤ)) → items_depth (items_of (map interval_json L)) ≤ 1
runs_depth [] = omega arith
runs_depth (p ∷ L) = omega (arith, pair_depth (int_lt p.1 p.0) p, runs_depth L)

pub depth-set_json : (L : List (ℤ × ℤ)) → depth (set_json L) ≤ 2
depth-set_json [] = omega arith
depth-set_json (p ∷ L) = omega (arith, runs_depth (p ∷ L))
