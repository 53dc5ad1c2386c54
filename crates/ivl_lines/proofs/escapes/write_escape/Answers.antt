use Rattle.std.proofs.Common.{◌≡◌, ◌∙◌, ℕ, List, [], ◌∷◌, ◌++◌, refl, sym, ap, append_assoc, arith}
use Rattle.std.proofs.Output.{has_written_append, has_written_of_eq}
use Rattle.std.proofs.lemmas.Str.{encodes-append}
use Rattle.std.proofs.lemmas.List.{append-nil}
use Rattle.std.specs.Char.{encode_utf8}
use Rattle.std.specs.Char.Iter.{escape_rest}
use Rattle.std.specs.Str.{encode_utf8_all}
use Rattle.ivl_lines.proofs.escapes.write_escape.Goals as goal

-- one more character
one_more : (written : List ℕ) (c : ℕ) → encode_utf8_all written ++ encode_utf8 c ≡ encode_utf8_all (written ++ c ∷ [])
one_more written c = sym (encodes-append written (c ∷ []) ∙ ap (λ (bytes : List ℕ). encode_utf8_all written ++ bytes) (append-nil (encode_utf8 c)))

pub loop-part-preserved : goal.loop-part-preserved
loop-part-preserved g c = record {
  written = (λ plain. has_written_of_eq _ _ _ _ _ (one_more c.loop-part.yielded c.in-Some.part)
      (has_written_append _ _ _ _ _ _ (c.loop-part.invariant.written plain) (c.in_ok-write_char.ensures.writes (c.loop-part.invariant.written plain).plain refl)));
  rest = append_assoc c.loop-part.yielded (c.in-Some.part ∷ []) (escape_rest c.next.new.self)
      ∙ ap (λ (more : List ℕ). c.loop-part.yielded ++ more) (sym c.in-Some.ensures.steps.1.0) ∙ c.loop-part.invariant.rest;
  bound = omega (arith, c.in-Some.ensures.steps.0, c.loop-part.invariant.bound);
}
