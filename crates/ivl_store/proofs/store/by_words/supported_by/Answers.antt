use Rattle.ivl_store.proofs.Words.{supported_turned}
use Rattle.ivl_store.proofs.store.by_words.supported_by.Goals as goal

pub returns : goal.returns
returns c = supported_turned _ _ _ _ _ _ c.supported-turned.ensures
