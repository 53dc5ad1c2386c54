use Rattle.std.proofs.Common.{◌∙◌, lit<, rules}
use Rattle.ivl_lines.proofs.Spaces.{word_first, word_alone}
use Rattle.ivl_lines.proofs.words.next_word.Goals as goal

pub returns-then-not-is_empty-clause-some : goal.returns-then-not-is_empty-clause-some
returns-then-not-is_empty-clause-some c =
    let cut = c.in-Some.ensures.byte (lit< tt) (λ w o h. h) in
    c.loop-word.invariant.1 ∙ word_first c.loop-word.rest.now c.in-Some.word.now c.in-Some.after.now cut.2 cut.0 cut.1 (search rules)

pub returns-clause-some : goal.returns-clause-some
returns-clause-some c =
    let none = c.in_default.ensures.byte (lit< tt) (λ w o h. h) in
    c.loop-word.invariant.1 ∙ word_alone c.loop-word.rest.now none (search rules)
