use Rattle.std.proofs.Common.{sym, subst, refl}
use Rattle.std.specs.Prelude.{All}
use Rattle.std.proofs.lemmas.Bool.{iff_false, false≢true}
use Rattle.std.proofs.lemmas.List.{take_all}
use Rattle.std.proofs.lemmas.List.Elements.{All-get_or, All-more}
use Rattle.ivl_store.specs.Solutions.{AreDistinct}
use Rattle.ivl_store.specs.Posts.{OfConstraint}
use Rattle.ivl_store.proofs.Orders.{constraints_all, all_constraints}
use Rattle.ivl_store.proofs.store.callers.all_distinct.Goals as goal

pub returns-then-not-is_distinct : goal.returns-then-not-is_distinct
returns-then-not-is_distinct g c =
    let posts = c.args.posts.now in let p = c.post-item.result in (
      (λ t. absurd (false≢true t)),
      (λ h. absurd (iff_false c.is_distinct.ensures c.if-not-is_distinct.true
          (subst (OfConstraint AreDistinct) (sym c.post-item.is) (All-get_or (OfConstraint AreDistinct) posts c.loop-post.post-index p c.loop-post-test.true (all_constraints AreDistinct posts h))))),
    )

pub returns : goal.returns
returns g c =
    let posts = c.args.posts.now in (
      (λ _. constraints_all AreDistinct posts (subst (All (OfConstraint AreDistinct)) (take_all c.loop-post.post-index posts c.loop-post-test.false) c.loop-post.invariant)),
      (λ _. refl),
    )

pub loop-post-preserved : goal.loop-post-preserved
loop-post-preserved g c =
    All-more (OfConstraint AreDistinct) _ c.loop-post.post-index c.post-item.result c.loop-post-test.true c.loop-post.invariant
    (subst (OfConstraint AreDistinct) c.post-item.is (c.is_distinct.ensures.0 c.if-not-is_distinct.false))
