use Rattle.std.proofs.Common.{◌∙◌, ap, refl, rules, tests}
use Rattle.std.proofs.lemmas.Iterator.Search.{find_from_yields_List}
use Rattle.std.proofs.lemmas.Iterator.Splits.{YieldsList-from_slice_split}
use Rattle.ivl_lines.specs.Lines.{first_of}
use Rattle.ivl_lines.specs.Words.{is_not_empty, words_between}
use Rattle.ivl_lines.proofs.Spaces.{word_found}
use Rattle.ivl_lines.proofs.text.first_word.Goals as goal

pub returns : goal.returns
returns c =
    ap (λ word. word.now) c.unwrap_or.ensures
    ∙ word_found (λ piece. piece.now) c.without_return.result.now c.find.result _ refl
    (find_from_yields_List is_not_empty _ _ c.find.result c.find.ensures.ran
    (YieldsList-from_slice_split _ _ c.without_return.result.now c.split-pieces.ensures.rest c.split-pieces.ensures.done c.split-pieces.ensures.closure (λ x r q k. search (rules, tests)))
    (λ x b q k. search (rules, tests)))
    ∙ ap (λ text. first_of (words_between text)) c.without_return.ensures
