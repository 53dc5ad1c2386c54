use Rattle.std.proofs.Common.{ℕ, List, ◌∷◌, [], Option, Some, subst}
use Rattle.std.specs.Prelude.{IfSome, codes, decimal, unsigned_abs}
use Rattle.std.specs.Fmt.{◌++?◌}
use Rattle.std.specs.Io.KnownBytes.{Appends}
use Rattle.std.proofs.lemmas.Result.{on_ok_weaker}
use Rattle.ivl_lines.proofs.SetTexts.{set_is_shown}
use Rattle.ivl_ports.proofs.Shown.{from_0}
use Rattle.ivl_ports.proofs.ports.write_free.Goals as goal

pub returns : goal.returns
returns g c =
    let P : Option (List ℕ) → Type 0 = λ text. IfSome (Some (decimal c.size.result) ++? (Some (codes " free: ") ++? (text ++? Some (10 ∷ [])))) (Appends (g.W.Write.contents c.args.writer.now) (g.W.Write.contents c.writeln.new.self)) in
    on_ok_weaker c.writeln.result
    (λ written. (c.size.result, c.size.ensures, subst P (set_is_shown (λ z. decimal (unsigned_abs z)) c.args.free.now c.in_whole.ensures.maximal (λ z held. from_0 z (c.in_whole.ensures.within z held).0)) written))
    c.writeln.ensures.bytes
