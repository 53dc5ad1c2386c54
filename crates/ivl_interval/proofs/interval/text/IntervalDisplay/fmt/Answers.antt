use Rattle.std.proofs.Common.{ℕ, List, subst}
use Rattle.std.specs.Prelude.{Option}
use Rattle.std.specs.Fmt.{DisplaysOnOk, DisplaysStyledOnOk}
use Rattle.ivl_interval.proofs.Pairs.{not_that}
use Rattle.ivl_interval.proofs.Texts.{crossed_styled_text, crossed_text, open_styled_text, open_text}
use Rattle.ivl_interval.proofs.interval.text.IntervalDisplay.fmt.Goals as goal

pub returns-then-is_empty-clause-writes : goal.returns-then-is_empty-clause-writes
returns-then-is_empty-clause-writes g c =
    subst (λ (t : Option (List ℕ)). DisplaysOnOk g.W.Write.write_str_gives c.args.f.now c.write_str.result t c.write_str.new.self)
    (crossed_text c.args.self.now _ _ (c.is_empty.ensures.crossed.0 c.if-is_empty.true)) c.write_str.ensures.writes

pub returns-then-is_empty-clause-styled : goal.returns-then-is_empty-clause-styled
returns-then-is_empty-clause-styled g c =
    subst (λ (t : Option (List ℕ)). DisplaysStyledOnOk g.W.Write.write_str_gives c.args.f.now c.write_str.result t c.write_str.new.self)
    (crossed_styled_text c.args.self.now (c.is_empty.ensures.crossed.0 c.if-is_empty.true)) c.write_str.ensures.styled

pub returns-else-is_empty-clause-writes : goal.returns-else-is_empty-clause-writes
returns-else-is_empty-clause-writes g c =
    subst (λ (t : Option (List ℕ)). DisplaysOnOk g.W.Write.write_str_gives c.args.f.now c.write.result t c.write.new.self)
    (open_text g.B.Width.at g.B.Display.output c.args.self.now _ _ _ _ c.self.view_is c.self.invariant.1 c.self.invariant.2 (not_that _ c.is_empty.ensures.crossed c.if-is_empty.false))
    c.write.ensures.writes

pub returns-else-is_empty-clause-styled : goal.returns-else-is_empty-clause-styled
returns-else-is_empty-clause-styled g c =
    subst (λ (t : Option (List ℕ)). DisplaysStyledOnOk g.W.Write.write_str_gives c.args.f.now c.write.result t c.write.new.self)
    (open_styled_text c.args.self.now (not_that _ c.is_empty.ensures.crossed c.if-is_empty.false)) tt
