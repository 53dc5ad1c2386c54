use Rattle.std.proofs.Common.{◌≡◌, length, All, sym, subst, ◌∙◌, None, rules}
use Rattle.ivl_store.specs.Posts.{IsKnown, CutBy, constraints_of, first_unknown_post}
use Rattle.ivl_store.proofs.Posting.{posts_known}
use Rattle.ivl_store.proofs.Points.{solutions_kept}
use Rattle.ivl_laws.specs.Families.{set_at}
use Rattle.ivl_store.proofs.store.Store.post_all.Goals as goal

pub post_known-requires-clause-known : goal.post_known-requires-clause-known
post_known-requires-clause-known g c =
    let h : first_unknown_post c.len.result c.args.posts.now ≡ None = sym c.first_unknown_post.ensures ∙ c.in_default.is in
    let l : c.len.result ≡ length c.args.self.now = search rules in
    subst (λ n. All (IsKnown n) c.args.posts.now) l (posts_known c.len.result c.args.posts.now h)

pub returns-in_err-post_known-clause-solutions : goal.returns-in_err-post_known-clause-solutions
returns-in_err-post_known-clause-solutions g c =
    solutions_kept (constraints_of c.args.posts.now) (CutBy c.args.posts.now (set_at c.args.self.now)) (set_at c.post_known.new.self) c.post_known.ensures.keeps.families

pub returns-clause-solutions : goal.returns-clause-solutions
returns-clause-solutions g c =
    solutions_kept (constraints_of c.args.posts.now) (CutBy c.args.posts.now (set_at c.args.self.now)) (set_at c.post_known.new.self) c.post_known.ensures.keeps.families

pub returns-in_err-post_known-clause-memory : goal.returns-in_err-post_known-clause-memory
returns-in_err-post_known-clause-memory g c = λ _. c.in_err-post_known.ensures.memory
