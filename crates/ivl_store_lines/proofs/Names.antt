-- The set of the names, and the list of their texts that a contract sees.
use Rattle.std.proofs.Common.{◌≡◌, ◌∙◌, ℕ, Bool, true, false, cond, not, ◌+◌, List, [], ◌∷◌, ◌++◌, length, map, suc, position, Some, None, refl, sym, ap, inl, inr, arith}
use Rattle.std.specs.Prelude.{String, string_bytes, string_eq, bytes_eq, nat_lt}
use Rattle.std.specs.Global.{Global}
use Rattle.std.specs.List.{list_any, position_or_len}
use Rattle.std.proofs.lemmas.Bool.{cases_Bool, true≢false}
use Rattle.std.proofs.lemmas.Bool.Decides.{nat_tests}
use Rattle.std.proofs.lemmas.List.{map-append}
use Rattle.std.proofs.lemmas.Slice.Eq.{bytes_eq-Decides}
use Rattle.ivl_laws.proofs.Lengths.{length-map}
use Rattle.indexmap.specs.IndexSet.{insert_key}
use Rattle.ivl_store_lines.specs.Solving.{variable_named}

flip : (a b : List ℕ) → bytes_eq a b ≡ bytes_eq b a
flip a b = elim (cases_Bool (bytes_eq a b)) [
  | inl same ↦ same ∙ sym ((bytes_eq-Decides b a).1 (sym ((bytes_eq-Decides a b).0 same)))
  | inr apart ↦ elim (cases_Bool (bytes_eq b a)) [
    | inl same ↦ absurd (true≢false (sym ((bytes_eq-Decides a b).1 (sym ((bytes_eq-Decides b a).0 same))) ∙ apart))
    | inr other ↦ apart ∙ sym other
  ]
]

-- how the set compares a text to a name
abbrev pub is_named : List ℕ → String Global → Bool
is_named name key = bytes_eq name (string_bytes key)

found_or_len : (names : List (String Global)) (name : List ℕ) → position_or_len (is_named name) names ≡ position_or_len (λ known. bytes_eq known name) (map string_bytes names)
found_or_len [] name = refl
found_or_len (x ∷ names) name = rw (flip name (string_bytes x)) (ap (λ (n : ℕ). cond (not (bytes_eq (string_bytes x) name)) (1 + n) 0) (found_or_len names name))

-- what is found among the names is the index of the text
pub found : (names : List (String Global)) (name : List ℕ) → position (is_named name) names ≡ variable_named (map string_bytes names) name
found names name = rw (found_or_len names name, length-map string_bytes names) refl

more : (a b : ℕ) → nat_lt (1 + a) (suc b) ≡ nat_lt a b
more a b = elim (cases_Bool (nat_lt a b)) [
  | inl below ↦ grind (arith, nat_tests)
  | inr above ↦ grind (arith, nat_tests)
]

first : (b : ℕ) → nat_lt 0 (suc b) ≡ true
first b = grind (arith, nat_tests)

is_there : (p : String Global → Bool) (names : List (String Global)) → nat_lt (position_or_len p names) (length names) ≡ list_any p names
is_there p [] = refl
is_there p (x ∷ names) = elim (cases_Bool (p x)) [
  | inl here ↦ rw here (first (length names))
  | inr other ↦ rw other (more (position_or_len p names) (length names) ∙ is_there p names)
]

none_there : (b : Bool) (i : ℕ) → cond b (Some i) None ≡ None → b ≡ false
none_there true i none = cc
none_there false i none = refl

-- a new name goes last
pub put : (names pushed : List (String Global)) (key : String Global) (name : List ℕ) → string_bytes key ≡ name → variable_named (map string_bytes names) name ≡ None → pushed ≡ insert_key string_eq names key
    → pushed ≡ names ++ key ∷ []
put names pushed key name is none pushed_is =
    let at : position (is_named (string_bytes key)) names ≡ None = found names (string_bytes key) ∙ ap (λ (text : List ℕ). variable_named (map string_bytes names) text) is ∙ none in
    let absent : list_any (string_eq key) names ≡ false = sym (is_there (string_eq key) names) ∙ none_there _ _ at in
    pushed_is ∙ rw absent refl

pub put_text : (names pushed : List (String Global)) (key : String Global) (name : List ℕ) → string_bytes key ≡ name → variable_named (map string_bytes names) name ≡ None → pushed ≡ insert_key string_eq names key
    → map string_bytes pushed ≡ map string_bytes names ++ name ∷ []
put_text names pushed key name is none pushed_is =
    ap (λ (keys : List (String Global)). map string_bytes keys) (put names pushed key name is none pushed_is) ∙ map-append string_bytes names (key ∷ []) ∙ ap (λ (text : List ℕ). map string_bytes names ++ text ∷ []) is
