use Rattle.std.proofs.Common.{◌≡◌, ℕ, List, ◌++◌, ◌∙◌, true, sym, subst}
use Rattle.std.specs.Prelude.{bytes_eq, codes, string_bytes}
use Rattle.std.specs.Io.KnownBytes.{Appends}
use Rattle.ivl_lines.specs.Escapes.{escaped}
use Rattle.ivl_calendar.proofs.Listing.{one_for}
use Rattle.ivl_calendar.proofs.names.write_if_for.Goals as goal

pub returns-in_ok-write_span-clause-text : goal.returns-in_ok-write_span-clause-text
returns-in_ok-write_span-clause-text g c =
    let here : bytes_eq (string_bytes c.args.booking.now.1) c.args.who.now ≡ true = sym c.is_for.ensures ∙ c.if-is_for.true in
    one_for c.args.who.now c.args.name.now c.args.is_first (c.args.booking.now.0, string_bytes c.args.booking.now.1) _ _ _ here
    (subst (λ (comma : List ℕ). Appends (g.W.Write.contents c.args.writer.now) (g.W.Write.contents c.write.new.self) (comma ++ (escaped c.args.name.now ++ codes " "))) c.comma_before-comma.ensures c.in_ok-write.ensures.bytes)
    c.in_ok-write_span.ensures
