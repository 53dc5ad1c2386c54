-- The hash by which a rule is found.
--     mixed_with hash word      the hash with one more number
--     hash_of_rule rule      that of the rule, from its kind and what it holds; a shift plays its part without its sign
use Rattle.std.specs.Prelude.{◌+◌, ◌*◌, ◌%◌, ◌^◌, ℕ, unsigned_abs}
use Rattle.ivl_rules.specs.declared.rules.Rule.{Rule}
use Rattle.ivl_rules.specs.declared.rules.Rule.TheVariants.{Sum, Shifted, AtMost, Differs}

unfoldable pub mixed_with : ℕ → ℕ → ℕ
mixed_with hash word = ((hash * 11400714819323198485) % 2 ^ 64 + word) % 2 ^ 64

abbrev pub hash_of_rule : Rule → ℕ
hash_of_rule (Sum c) = mixed_with (mixed_with (mixed_with 1 c.x) c.y) c.z
hash_of_rule (Shifted x y by) = mixed_with (mixed_with (mixed_with 2 x) y) (unsigned_abs by)
hash_of_rule (AtMost x y by) = mixed_with (mixed_with (mixed_with 3 x) y) (unsigned_abs by)
hash_of_rule (Differs x y by) = mixed_with (mixed_with (mixed_with 4 x) y) (unsigned_abs by)
