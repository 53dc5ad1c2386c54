-- A text with its control characters escaped.
--     escaped text      the text, with `\t`, `\u{1b}` and the like in place of each control character
--     shown_char c      one character as it is printed
use Rattle.std.specs.Prelude.{ℕ, List, [], ◌∷◌, flat_map, if◌then◌else◌}
use Rattle.std.specs.Char.{is_control}
use Rattle.std.specs.Char.Escape.{escape_default}
use Rattle.std.specs.Str.{chars, encode_utf8_all}

abbrev pub shown_char : ℕ → List ℕ
shown_char c = if is_control c then escape_default c else c ∷ []

abbrev pub escaped : List ℕ → List ℕ
escaped text = encode_utf8_all (flat_map shown_char (chars text))
