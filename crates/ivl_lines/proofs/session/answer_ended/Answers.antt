use Rattle.std.proofs.Common.{◌≡◌, ◌++◌, ℕ, List, [], Option, Some, inl, sym, subst}
use Rattle.std.proofs.lemmas.Result.{on_ok_weaker}
use Rattle.ivl_lines.specs.Cut.{IsBegun}
use Rattle.ivl_lines.proofs.session.answer_ended.Goals as goal

nothing_begun : (line : List ℕ) (begun : Option (List ℕ)) → begun ≡ Some [] → IsBegun line begun → line ≡ []
nothing_begun line begun e h = let is : [] ≡ line = subst (λ (o : Option (List ℕ)). IsBegun line o) e h in sym is

pub returns-then-is_empty-clause-ok : goal.returns-then-is_empty-clause-ok
returns-then-is_empty-clause-ok g c =
    on_ok_weaker c.answer_seen.result
    (λ answered. λ line begun. (answered.0, inl (rw (nothing_begun line _ (c.is_empty.ensures.0 c.if-is_empty.true) begun) answered.1), answered.2))
    c.answer_seen.ensures.ok

pub returns-clause-ok : goal.returns-clause-ok
returns-clause-ok g c = λ line begun. c.in_ok-answer_begun.ensures.ok (line ++ c.args.bytes.now) (c.extend.ensures line begun)
