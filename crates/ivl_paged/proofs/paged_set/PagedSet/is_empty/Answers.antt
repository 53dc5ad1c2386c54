use Rattle.std.proofs.Common.{◌<◌, [], List, ℤ, get_or, length, refl, subst, rules}
use Rattle.ivl_laws.specs.Runs.{Covers}
use Rattle.ivl_paged.proofs.Paging.{has_page}
use Rattle.ivl_paged.proofs.paged_set.PagedSet.is_empty.Goals as goal

pub returns-clause-members : goal.returns-clause-members
returns-clause-members g c =
    let P = c.self.inside.pages in
    let some : 0 < length P = search rules in
    let has = has_page P c.args.self.now (get_or P 0 []) _ refl c.self.view_is c.head.ensures.0 in
    ((λ h. absurd (cc)), (λ none. absurd (none _ has)))

pub returns-clause-none : goal.returns-clause-none
returns-clause-none g c =
    let P = c.self.inside.pages in
    let some : 0 < length P = search rules in
    let has = has_page P c.args.self.now (get_or P 0 []) _ refl c.self.view_is c.head.ensures.0 in
    let v : ℤ = g.B.Width.value c.head.result in
    ((λ h. absurd (cc)), (λ e. absurd (subst (λ (L : List (ℤ × ℤ)). Covers L v) e has)))
