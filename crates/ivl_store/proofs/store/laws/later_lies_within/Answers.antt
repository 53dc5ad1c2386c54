use Rattle.ivl_store.proofs.Posting.{later_within}
use Rattle.ivl_store.proofs.store.laws.later_lies_within.Goals as goal

pub returns : goal.returns
returns g c = later_within c.args.posts.now
