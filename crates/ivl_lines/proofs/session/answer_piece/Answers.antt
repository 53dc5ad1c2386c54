use Rattle.std.proofs.Common.{◌++◌, ◌∷◌, [], refl}
use Rattle.std.proofs.lemmas.List.{append-nil}
use Rattle.ivl_lines.proofs.Cuts.{Progress-none, Progress-split, Progress-last, split_whole}
use Rattle.ivl_lines.proofs.session.answer_piece.Goals as goal

pub loop-bytes-init : goal.loop-bytes-init
loop-bytes-init g c = ([], refl, λ line begun none. (line, begun, rw append-nil (Progress-none _ _ _ _ none)))

pub loop-bytes-preserved : goal.loop-bytes-preserved
loop-bytes-preserved g c = (
  c.loop-bytes.invariant.0 ++ (c.in-Some.bytes.now ++ 10 ∷ []),
  split_whole _ _ _ _ _ c.loop-bytes.invariant.1 c.in-Some.ensures.some,
  λ line begun none.
      let so_far = c.loop-bytes.invariant.2 line begun none in
      Progress-split _ _ _ _ _ _ _ _ _ _ _ _ _ _ so_far.2 c.in-Some.ensures.some (c.in_ok-answer_ended.ensures.ok so_far.0 so_far.1) c.in_ok-answer_ended.ensures.emptied,
)

pub returns-clause-ok : goal.returns-clause-ok
returns-clause-ok g c = λ line begun none.
    let so_far = c.loop-bytes.invariant.2 line begun none in
    Progress-last _ _ _ _ _ _ _ _ _ _ _ c.loop-bytes.invariant.1 so_far.2 c.in_default.ensures.none (c.extend.ensures so_far.0 so_far.1)
