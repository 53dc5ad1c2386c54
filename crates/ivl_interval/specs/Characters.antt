-- The numbers of characters.
--     character_number c      the place of a character among all characters: its scalar value, less the 2,048
--         surrogates if these lie below it
use Rattle.std.specs.Prelude.{ℕ, ◌-◌, cond, nat_lt}

abbrev pub character_number : ℕ → ℕ
character_number c = cond (nat_lt c 0xe000) c (c - 0x800)
