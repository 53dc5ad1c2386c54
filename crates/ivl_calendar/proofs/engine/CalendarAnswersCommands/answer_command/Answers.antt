use Rattle.std.proofs.Common.{[], ◌∙◌, sym}
use Rattle.std.proofs.KnownBytes.{Appends-nil}
use Rattle.std.proofs.lemmas.Result.{on_ok_weaker}
use Rattle.ivl_lines.specs.Words.{words_between}
use Rattle.ivl_calendar.proofs.Answering.{commented, is_book, is_cancel, is_gap, is_of, is_who}
use Rattle.ivl_calendar.proofs.engine.CalendarAnswersCommands.answer_command.Goals as goal

pub returns-in-book : goal.returns-in-book
returns-in-book g c =
    on_ok_weaker c.answer_book.result
    (λ h. (h.0, is_book c.args.self.now c.answer_book.new.calendar c.args.name.now (words_between c.args.words.now) h.0 c.in-book.is h.1, h.2))
    c.answer_book.ensures

pub returns-in-cancel : goal.returns-in-cancel
returns-in-cancel g c =
    on_ok_weaker c.answer_cancel.result
    (λ h. (h.0, is_cancel c.args.self.now c.answer_cancel.new.calendar c.args.name.now (words_between c.args.words.now) h.0 c.in-cancel.is h.1, h.2))
    c.answer_cancel.ensures

pub returns-in-gap : goal.returns-in-gap
returns-in-gap g c =
    on_ok_weaker c.answer_gap.result
    (λ h. (h.0, is_gap c.args.self.now c.answer_gap.new.calendar c.args.name.now (words_between c.args.words.now) h.0 c.in-gap.is h.1, h.2))
    c.answer_gap.ensures

pub returns-in-who : goal.returns-in-who
returns-in-who g c =
    on_ok_weaker c.answer_who.result
    (λ h. (h.0, is_who c.args.self.now c.answer_who.new.calendar c.args.name.now (words_between c.args.words.now) h.0 c.in-who.is h.1, h.2))
    c.answer_who.ensures

pub returns-in-of : goal.returns-in-of
returns-in-of g c =
    on_ok_weaker c.answer_of.result
    (λ h. (h.0, is_of c.args.self.now c.answer_of.new.calendar c.args.name.now (words_between c.args.words.now) h.0 c.in-of.is h.1, h.2))
    c.answer_of.ensures

pub returns-in_default : goal.returns-in_default
returns-in_default g c =
    ([], commented c.args.self.now c.args.name.now (words_between c.args.words.now) c.in_default.not-room c.in_default.not-rooms c.in_default.not-book c.in_default.not-cancel c.in_default.not-show c.in_default.not-gap c.in_default.not-free c.in_default.not-who c.in_default.not-of c.in_default.not-help (sym c.is_comment.ensures ∙ c.if-is_comment.true), Appends-nil _)
