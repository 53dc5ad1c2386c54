use Rattle.std.proofs.Common.{ℕ, List, ◌∷◌, [], Option, Some, refl, subst}
use Rattle.std.specs.Prelude.{IfSome}
use Rattle.std.specs.Fmt.{◌++?◌, signed_decimal}
use Rattle.std.specs.Io.KnownBytes.{Appends}
use Rattle.std.proofs.lemmas.Result.{on_ok_weaker}
use Rattle.ivl_lines.specs.Escapes.{escaped}
use Rattle.ivl_lines.proofs.SetTexts.{set_is_shown}
use Rattle.ivl_store_lines.proofs.replies.write_domain.Goals as goal

pub returns : goal.returns
returns g c =
    let P : Option (List ℕ) → Type 0 = λ text. IfSome (Some (escaped c.args.name.now) ++? (Some (32 ∷ []) ++? (text ++? Some (10 ∷ [])))) (Appends (g.W.Write.contents c.args.writer.now) (g.W.Write.contents c.writeln.new.self)) in
    on_ok_weaker c.writeln.result (λ written. subst P (set_is_shown signed_decimal c.args.domain.now c.in_whole.ensures.maximal (λ z held. refl)) written) c.writeln.ensures.bytes
