use Rattle.std.proofs.Common.{rules, ◌≡◌, ◌∙◌, ◌++◌, [], List, ℤ, ap, subst, sym}
use Rattle.ivl_laws.specs.Sets.{HasSome}
use Rattle.ivl_laws.specs.Runs.{Covers, IsMaximal}
use Rattle.ivl_paged.proofs.Paging.{page_filled}
use Rattle.ivl_paged.proofs.pages.page_of.Goals as goal

behind_none : (N M R : List (ℤ × ℤ)) → N ≡ [] → M ≡ N ++ R → M ≡ R
behind_none N M R none e = e ∙ ap (λ (L : List (ℤ × ℤ)). L ++ R) none

pub from_runs-requires : goal.from_runs-requires
from_runs-requires g c =
    let none : c.in_ok-list.list.items ≡ [] = search rules in
    subst IsMaximal (sym (behind_none _ c.extend_from_slice.new.self.items c.args.runs.now none c.in_ok-extend_from_slice.ensures.items)) c.requires.runs

pub of-requires : goal.of-requires
of-requires g c =
    let none : c.in_ok-list.list.items ≡ [] = search rules in
    let same : c.from_runs.result ≡ c.args.runs.now = c.from_runs.ensures ∙ behind_none _ _ c.args.runs.now none c.in_ok-extend_from_slice.ensures.items in
    subst (λ (L : List (ℤ × ℤ)). HasSome (Covers L)) (sym same) (page_filled c.args.runs.now c.requires.runs c.requires.some)

pub returns : goal.returns
returns g c =
    let none : c.in_ok-list.list.items ≡ [] = search rules in
    c.of.ensures ∙ c.from_runs.ensures ∙ behind_none _ _ c.args.runs.now none c.in_ok-extend_from_slice.ensures.items
