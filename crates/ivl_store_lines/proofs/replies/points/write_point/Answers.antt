use Rattle.std.proofs.Common.{◌≡◌, ◌++◌, ℕ, List, Option, ap, sym, ◌∙◌, append_assoc, rules}
use Rattle.std.specs.Prelude.{codes}
use Rattle.std.specs.Fmt.{signed_decimal}
use Rattle.std.specs.Io.KnownBytes.{Appends}
use Rattle.std.proofs.KnownBytes.{Appends-trans}
use Rattle.ivl_lines.specs.Escapes.{escaped}
use Rattle.ivl_store_lines.proofs.replies.points.write_point.Goals as goal

-- one more entry is written
one_more : (x y z : Option (List ℕ)) (entry left rest all : List ℕ) → ((text : List ℕ) × Appends x y text × (text ++ left ≡ all)) → left ≡ entry ++ rest → Appends y z entry → (text : List ℕ) × Appends x z text × (text ++ rest ≡ all)
one_more x y z entry left rest all h e k = (
  h.0 ++ entry,
  Appends-trans x y z h.0 entry h.1 k,
  append_assoc h.0 entry rest ∙ ap (λ (more : List ℕ). h.0 ++ more) (sym e) ∙ h.2,
)

pub loop-name-preserved : goal.loop-name-preserved
loop-name-preserved g c =
    let separator = c.loop-name.separator.now in
    let entry = separator ++ (escaped c.in-Some.name.now ++ (codes " " ++ signed_decimal c.in-Some.number.now)) in
    (search rules, one_more _ _ _ entry _ _ _ c.loop-name.invariant.1 (c.in-Some.ensures.some separator) c.in_ok-write_entry.ensures)
