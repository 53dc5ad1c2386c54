-- The command that a line's words are: its name, and after it the words of its form.
--     register_of word      one letter from a to z, as the index of a register
--     register_alone_of, two_registers_of, three_registers_of words      so many registers, and nothing else
--     register_and_number_of, two_registers_and_number_of words      so many registers, then a number, and nothing else
--     commands      the table: each name but `set`, with what the words after it say
--     action_from name words      what a command does, by its name and the words after it; `looked_up commands` finds
--         the name in the table, `of_pairs` reads the words of `set`
use Rattle.std.specs.Prelude.{ℕ, ℤ, ◌-◌, ◌&&◌, List, [], ◌∷◌, nat_le, if◌then◌else◌, bytes_eq, codes, Option, None, Some, option_map, option_and_then}
use Rattle.ivl_calculator.specs.Actions.{Making, pairs, union, intersection, difference, symmetric, complement, at_least, at_most, above, below, plus, minus, times, plus_value, minus_value, times_value, Question, has, size, count, low, high, same, subset, meets, show, Action, make, ask}
use Rattle.ivl_lines.specs.Numbers.{number_of, pairs_of}

abbrev pub register_of : List ℕ → Option ℕ
register_of (letter ∷ []) = if nat_le 97 letter && nat_le letter 122 then Some (letter - 97) else None
register_of _ = None

abbrev pub register_alone_of : List (List ℕ) → Option ℕ
register_alone_of (a ∷ []) = register_of a
register_alone_of _ = None

abbrev pub two_registers_of : List (List ℕ) → Option (ℕ × ℕ)
two_registers_of (a ∷ b ∷ []) = option_and_then (λ x. option_map (λ y. (x, y)) (register_of b)) (register_of a)
two_registers_of _ = None

abbrev pub three_registers_of : List (List ℕ) → Option (ℕ × ℕ × ℕ)
three_registers_of (r ∷ a ∷ b ∷ []) =
    option_and_then (λ x. option_and_then (λ y. option_map (λ z. (x, y, z)) (register_of b)) (register_of a)) (register_of r)
three_registers_of _ = None

abbrev pub register_and_number_of : List (List ℕ) → Option (ℕ × ℤ)
register_and_number_of (a ∷ v ∷ []) = option_and_then (λ x. option_map (λ z. (x, z)) (number_of v)) (register_of a)
register_and_number_of _ = None

abbrev pub two_registers_and_number_of : List (List ℕ) → Option (ℕ × ℕ × ℤ)
two_registers_and_number_of (r ∷ a ∷ v ∷ []) =
    option_and_then (λ x. option_and_then (λ y. option_map (λ z. (x, y, z)) (number_of v)) (register_of a)) (register_of r)
two_registers_and_number_of _ = None

-- `r l u l u ..`
abbrev pub of_pairs : List (List ℕ) → Option Action
of_pairs (r ∷ words) = option_and_then (λ x. option_map (λ list. make x (pairs list)) (pairs_of words)) (register_of r)
of_pairs [] = None

-- `r a`
abbrev pub made_of_one : (ℕ → Making) → List (List ℕ) → Option Action
made_of_one making words = option_map (λ f. make f.0 (making f.1)) (two_registers_of words)

-- `r a b`
abbrev pub made_of_two : (ℕ → ℕ → Making) → List (List ℕ) → Option Action
made_of_two making words = option_map (λ f. make f.0 (making f.1 f.2)) (three_registers_of words)

-- `r a v`
abbrev pub made_of_one_and_number : (ℕ → ℤ → Making) → List (List ℕ) → Option Action
made_of_one_and_number making words = option_map (λ f. make f.0 (making f.1 f.2)) (two_registers_and_number_of words)

-- `a`
abbrev pub about_one : (ℕ → Question) → List (List ℕ) → Option Action
about_one question words = option_map (λ a. ask (question a)) (register_alone_of words)

-- `a b`
abbrev pub about_two : (ℕ → ℕ → Question) → List (List ℕ) → Option Action
about_two question words = option_map (λ f. ask (question f.0 f.1)) (two_registers_of words)

-- `a v`
abbrev pub about_one_and_number : (ℕ → ℤ → Question) → List (List ℕ) → Option Action
about_one_and_number question words = option_map (λ f. ask (question f.0 f.1)) (register_and_number_of words)

abbrev pub commands : List (List ℕ × (List (List ℕ) → Option Action))
commands =
    (codes "union", made_of_two union)
    ∷ (codes "inter", made_of_two intersection)
    ∷ (codes "diff", made_of_two difference)
    ∷ (codes "sym", made_of_two symmetric)
    ∷ (codes "comp", made_of_one complement)
    ∷ (codes "left", made_of_one_and_number at_least)
    ∷ (codes "right", made_of_one_and_number at_most)
    ∷ (codes "sleft", made_of_one_and_number above)
    ∷ (codes "sright", made_of_one_and_number below)
    ∷ (codes "plus", made_of_two plus)
    ∷ (codes "minus", made_of_two minus)
    ∷ (codes "times", made_of_two times)
    ∷ (codes "plusv", made_of_one_and_number plus_value)
    ∷ (codes "minusv", made_of_one_and_number minus_value)
    ∷ (codes "timesv", made_of_one_and_number times_value)
    ∷ (codes "has", about_one_and_number has)
    ∷ (codes "size", about_one size)
    ∷ (codes "count", about_one count)
    ∷ (codes "low", about_one low)
    ∷ (codes "high", about_one high)
    ∷ (codes "same", about_two same)
    ∷ (codes "sub", about_two subset)
    ∷ (codes "meets", about_two meets)
    ∷ (codes "show", about_one show)
    ∷ []

-- by the entry with this name
abbrev pub looked_up : List (List ℕ × (List (List ℕ) → Option Action)) → List ℕ → List (List ℕ) → Option Action
looked_up [] name words = None
looked_up (entry ∷ more) name words = if bytes_eq name entry.0 then entry.1 words else looked_up more name words

abbrev pub action_from : List ℕ → List (List ℕ) → Option Action
action_from name words = if bytes_eq name (codes "set") then of_pairs words else looked_up commands name words
