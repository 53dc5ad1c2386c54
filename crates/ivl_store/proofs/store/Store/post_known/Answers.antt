use Rattle.std.proofs.Common.{◌≡◌, ◌∙◌, ◌+◌, ◌≤◌, ap, arith, length, refl}
use Rattle.std.specs.Vec.{vec_len, vec_capacity}
use Rattle.ivl_store.proofs.Partly.{nothing_posted, partly_posted}
use Rattle.ivl_store.proofs.Steps.{on_err}
use Rattle.ivl_store.proofs.Posting.{posted_present, posted_keeps, posted_step, posted_left, left_keeps}
use Rattle.ivl_store.proofs.store.Store.post_known.Goals as goal

pub take_post-requires-clause-present : goal.take_post-requires-clause-present
take_post-requires-clause-present g c =
    posted_present c.args.posts.now c.args.self.now c.loop-post.self c.loop-post.constraints.items c.loop-post.replies.items c.loop-post.post-index c.requires.known c.loop-post.invariant.0

pub returns-in_err-reply-clause-keeps : goal.returns-in_err-reply-clause-keeps
returns-in_err-reply-clause-keeps g c =
    posted_keeps c.args.posts.now c.args.self.now c.loop-post.self c.take_post.new.self c.loop-post.constraints.items c.loop-post.replies.items c.loop-post.post-index c.post-item.result
    c.loop-post-test.true c.post-item.is c.loop-post.invariant.0 c.take_post.ensures.keeps

pub loop-post-preserved : goal.loop-post-preserved
loop-post-preserved g c =
    let count : vec_len c.push.new.self ≡ c.loop-post.post-index + 1 = c.in_ok-push.ensures.len ∙ ap (λ n. n + 1) c.loop-post.invariant.2 in
    let room : length c.args.posts.now ≤ vec_capacity c.push.new.self =
    (let reserved = c.loop-post.invariant.3 in let kept = c.push.ensures.capacity in omega arith) in (
      posted_step c.args.posts.now c.args.self.now c.loop-post.self c.take_post.new.self c.loop-post.constraints.items c.take_post.new.constraints.items
          c.loop-post.replies.items c.push.new.self.items c.in_ok-reply.reply c.loop-post.post-index c.post-item.result
          c.loop-post-test.true c.post-item.is c.requires.distinct c.loop-post.invariant.0 c.take_post.ensures.kept_count
          c.in_ok-reply.ensures.added c.in_ok-reply.ensures.left c.in_ok-reply.ensures.reply c.in_ok-push.ensures.items,
      c.in_ok-reply.ensures.settled,
      count,
      room,
    )

pub returns-clause-keeps : goal.returns-clause-keeps
returns-clause-keeps g c =
    left_keeps c.args.posts.now c.args.self.now c.loop-post.self
    (posted_left c.args.posts.now c.args.self.now c.loop-post.self c.loop-post.constraints.items c.loop-post.replies.items c.loop-post.post-index c.loop-post-test.false c.loop-post.invariant.0)

pub returns-clause-left : goal.returns-clause-left
returns-clause-left g c =
    posted_left c.args.posts.now c.args.self.now c.loop-post.self c.loop-post.constraints.items c.loop-post.replies.items c.loop-post.post-index c.loop-post-test.false c.loop-post.invariant.0

pub returns-in_err-replies-clause-memory : goal.returns-in_err-replies-clause-memory
returns-in_err-replies-clause-memory g c = on_err c.from_residual.result _ (nothing_posted c.args.posts.now c.args.self.now c.args.self.now refl)

pub returns-in_err-constraints-clause-memory : goal.returns-in_err-constraints-clause-memory
returns-in_err-constraints-clause-memory g c = on_err c.from_residual-in_err-constraints.result _ (nothing_posted c.args.posts.now c.args.self.now c.args.self.now refl)

pub returns-in_err-settled-clause-memory : goal.returns-in_err-settled-clause-memory
returns-in_err-settled-clause-memory g c = on_err c.from_residual-in_err-settled.result _ (nothing_posted c.args.posts.now c.args.self.now c.args.self.now refl)

pub returns-in_err-reply-clause-memory : goal.returns-in_err-reply-clause-memory
returns-in_err-reply-clause-memory g c =
    on_err c.from_residual-in_err-reply.result _
    (partly_posted c.args.posts.now c.args.self.now c.loop-post.self c.take_post.new.self c.loop-post.constraints.items c.loop-post.replies.items c.loop-post.post-index c.post-item.result
    c.loop-post-test.true c.post-item.is c.loop-post.invariant.0 c.in_err-reply.ensures.memory)
