use Rattle.ivl_laws.specs.Families.{set_at}
use Rattle.ivl_store.specs.Posts.{CutBy, constraints_of}
use Rattle.ivl_store.proofs.Families.{greatest_unique}
use Rattle.ivl_store.proofs.store.laws.left_is_one.Goals as goal

pub returns : goal.returns
returns g c = λ old first second a b. greatest_unique (constraints_of c.args.posts.now) (CutBy c.args.posts.now (set_at old)) first second a b
