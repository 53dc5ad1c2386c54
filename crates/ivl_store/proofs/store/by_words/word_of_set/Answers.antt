use Rattle.std.proofs.Common.{subst, ◌∙◌}
use Rattle.std.proofs.lemmas.Int.{to_z-of_z}
use Rattle.ivl_laws.specs.Runs.{Covers}
use Rattle.ivl_store.specs.Words.{IsWordOf}
use Rattle.ivl_store.proofs.store.by_words.word_of_set.Goals as goal

pub returns-then-is_below : goal.returns-then-is_below
returns-then-is_below g c =
    subst (λ runs. IsWordOf c.word_of.result c.args.base (Covers runs)) (c.as_slice.ensures.value ∙ c.iter.ensures.rest)
    (subst (λ base. IsWordOf c.word_of.result base (Covers c.as_slice.result.now)) (to_z-of_z _ c.args.base c.ranges.base) c.word_of.ensures)

pub returns : goal.returns
returns g c = subst (λ base. IsWordOf c.word_of_close_set.result base (Covers c.args.set.now)) (to_z-of_z _ c.args.base c.ranges.base) c.word_of_close_set.ensures
