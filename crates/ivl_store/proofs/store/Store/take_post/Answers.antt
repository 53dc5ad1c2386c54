use Rattle.std.proofs.Common.{◌++◌, ◌∷◌, [], All, inl, inr, subst, ◌∙◌}
use Rattle.ivl_store.specs.Posts.{constraints_of, CutBy}
use Rattle.ivl_store.proofs.Partly.{partly_taken}
use Rattle.ivl_store.proofs.Steps.{on_err}
use Rattle.ivl_laws.specs.Families.{set_at}
use Rattle.ivl_store.specs.Narrowing.{Keeps, IsFixed}
use Rattle.ivl_store.proofs.Posting.{CutKeeps-narrowed, cut_greatest}
use Rattle.ivl_store.proofs.store.Store.take_post.Goals as goal

pub returns-in_err-settle-clause-keeps : goal.returns-in_err-settle-clause-keeps
returns-in_err-settle-clause-keeps g c =
    CutKeeps-narrowed (c.args.constraints.now.items ++ constraints_of (c.args.post.now ∷ [])) c.deref.result.now (c.args.post.now ∷ []) c.args.self.now c.admit.new.self c.settle.new.self
    (c.deref.ensures.value ∙ c.in_ok-admit.ensures.added) c.in_ok-admit.ensures.cut c.settle.ensures.keeps

pub returns-clause-keeps : goal.returns-clause-keeps
returns-clause-keeps g c =
    CutKeeps-narrowed (c.args.constraints.now.items ++ constraints_of (c.args.post.now ∷ [])) c.deref.result.now (c.args.post.now ∷ []) c.args.self.now c.admit.new.self c.settle.new.self
    (c.deref.ensures.value ∙ c.in_ok-admit.ensures.added) c.in_ok-admit.ensures.cut c.settle.ensures.keeps

pub returns-clause-left : goal.returns-clause-left
returns-clause-left g c = λ distinct.
    cut_greatest c.admit.new.constraints.items (c.args.post.now ∷ []) c.args.self.now c.admit.new.self c.settle.new.self c.in_ok-admit.ensures.cut
    (subst (λ cs. Keeps cs c.admit.new.self c.settle.new.self) c.deref.ensures.value c.settle.ensures.keeps)
    (subst (λ cs. All (IsFixed (set_at c.settle.new.self)) cs) c.deref.ensures.value c.in_ok-settle.ensures.fixed)
    distinct

pub returns-in_err-admit-clause-memory : goal.returns-in_err-admit-clause-memory
returns-in_err-admit-clause-memory g c = on_err c.from_residual.result _ (inl c.in_err-admit.ensures.refused)

pub returns-in_err-settle-clause-memory : goal.returns-in_err-settle-clause-memory
returns-in_err-settle-clause-memory g c =
    on_err c.from_residual-in_err-settle.result _ (inr (partly_taken (c.args.constraints.now.items ++ constraints_of (c.args.post.now ∷ [])) c.deref.result.now
    (CutBy (c.args.post.now ∷ []) (set_at c.args.self.now)) (set_at c.admit.new.self) (set_at c.settle.new.self)
    (c.deref.ensures.value ∙ c.in_ok-admit.ensures.added) c.in_ok-admit.ensures.cut c.in_err-settle.ensures.memory))
