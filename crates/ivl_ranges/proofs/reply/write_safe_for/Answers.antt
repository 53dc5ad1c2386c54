use Rattle.std.proofs.Common.{◌≢◌, [], ℕ, List, Option, Some, refl, subst}
use Rattle.std.specs.Prelude.{IfSome, codes}
use Rattle.std.specs.Fmt.{◌++?◌, signed_decimal}
use Rattle.std.specs.Io.KnownBytes.{Appends}
use Rattle.std.proofs.lemmas.Bool.{false≢true}
use Rattle.std.proofs.lemmas.Result.{on_ok_weaker}
use Rattle.ivl_lines.proofs.SetTexts.{set_is_shown}
use Rattle.ivl_ranges.proofs.Printing.{told_safe_for}
use Rattle.ivl_ranges.proofs.reply.write_safe_for.Goals as goal

pub returns : goal.returns
returns g c =
    let P : Option (List ℕ) → Type 0 = λ text. IfSome (Some (codes "safe for i in ") ++? (text ++? Some (codes " alone\n"))) (Appends (g.W.Write.contents c.args.writer.now) (g.W.Write.contents c.writeln.new.self)) in
    let Q : List ℕ → Type 0 = λ line. Appends (g.W.Write.contents c.args.writer.now) (g.W.Write.contents c.writeln.new.self) line in
    let some : c.args.safe.now ≢ [] = λ none. false≢true (c.if-is_empty.ensures.none.1 none) in
    on_ok_weaker c.writeln.result (λ written. subst Q (told_safe_for c.args.safe.now some) (subst P (set_is_shown signed_decimal c.args.safe.now c.in_whole.ensures.maximal (λ z held. refl)) written)) c.writeln.ensures.bytes
