use Rattle.std.proofs.Common.{◌≡◌, ◌∙◌, ◌∷◌, ◌++◌, [], List, ℤ, ap, ap₂, append_assoc, append-nil, subst, sym}
use Rattle.ivl_laws.specs.Runs.{IsMaximal}
use Rattle.ivl_paged.specs.Pages.{flattened}
use Rattle.ivl_paged.proofs.paged_set.retain.push_behind.Goals as goal

pub push_runs-requires : goal.push_runs-requires
push_runs-requires g c = subst IsMaximal (sym (c.as_slice.ensures.value ∙ c.in_ok-push.ensures.items)) c.requires

pub returns : goal.returns
returns g c =
    let A = flattened c.args.pages.now in
    let K = c.args.kept.now.items in
    let all : flattened c.push_runs.new.pages ≡ A ++ (K ++ c.args.run ∷ []) = c.in_ok-push_runs.ensures ∙ ap (λ (L : List (ℤ × ℤ)). A ++ L) (c.as_slice.ensures.value ∙ c.in_ok-push.ensures.items) in
    ap₂ (λ (L M : List (ℤ × ℤ)). L ++ M) all c.clear.ensures.items ∙ append-nil (A ++ (K ++ c.args.run ∷ [])) ∙ sym (append_assoc A K (c.args.run ∷ []))
