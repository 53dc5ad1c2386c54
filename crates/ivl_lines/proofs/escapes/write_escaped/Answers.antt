use Rattle.std.proofs.Common.{◌≡◌, ◌∙◌, ℕ, List, [], ◌∷◌, ◌++◌, flat_map, map, refl, sym, ap}
use Rattle.std.proofs.Output.{has_written_append, has_written_of_eq}
use Rattle.std.proofs.lemmas.Grind.{flat_map-append}
use Rattle.std.proofs.lemmas.Iterator.{YieldsList-from_chars}
use Rattle.std.proofs.lemmas.Iterator.Consumers.{YieldsList-end}
use Rattle.std.proofs.lemmas.Str.{encodes-append}
use Rattle.std.proofs.lemmas.List.{append-nil}
use Rattle.std.specs.Str.{encode_utf8_all}
use Rattle.ivl_lines.specs.Escapes.{shown_char}
use Rattle.ivl_lines.proofs.escapes.write_escaped.Goals as goal

-- one more character
one_more : (written : List ℕ) (c : ℕ) → encode_utf8_all (flat_map shown_char written) ++ encode_utf8_all (shown_char c) ≡ encode_utf8_all (flat_map shown_char (written ++ c ∷ []))
one_more written c =
    sym (encodes-append (flat_map shown_char written) (shown_char c))
    ∙ ap (λ (cs : List ℕ). encode_utf8_all cs) (sym (flat_map-append shown_char written (c ∷ []) ∙ ap (λ (cs : List ℕ). flat_map shown_char written ++ cs) (append-nil (shown_char c))))

same : (xs : List ℕ) → map (λ x. x) xs ≡ xs
same [] = refl
same (x ∷ xs) = ap (λ (more : List ℕ). x ∷ more) (same xs)

pub loop-character-preserved : goal.loop-character-preserved
loop-character-preserved g c = λ plain.
    has_written_of_eq _ _ _ _ _ (one_more c.loop-character.yielded c.in-Some.character)
    (has_written_append _ _ _ _ _ _ (c.loop-character.invariant plain) (c.in_ok-write_shown.ensures (c.loop-character.invariant plain).plain refl))

pub returns : goal.returns
returns g c =
    let end = YieldsList-end (YieldsList-from_chars c.args.text.now c.utf8.text cc) c.loop-character.yielded _ c.loop-character.yielded_by _ _ c.in-None.is c.next.ensures.steps in
    λ plain ok. has_written_of_eq _ _ _ _ _ (ap (λ (cs : List ℕ). encode_utf8_all (flat_map shown_char cs)) (sym (same c.loop-character.yielded) ∙ end.0)) (c.loop-character.invariant plain)
