use Rattle.std.proofs.Common.{◌≡◌, ◌++◌, ◌∙◌, ℤ, List, ap, append-nil, subst, sym}
use Rattle.ivl_laws.specs.Runs.{IsMaximal}
use Rattle.ivl_paged.proofs.Iterating.{nothing_left}
use Rattle.ivl_paged.proofs.paged_set.within.listed.Goals as goal

pub from_runs-requires : goal.from_runs-requires
from_runs-requires g c =
    let left = nothing_left c.runs.left c.next.new.self c.next.result c.next.ensures.steps c.in_default.not-Some in
    let all : c.runs.list.items ≡ c.args.left = sym (append-nil c.runs.list.items) ∙ ap (λ (L : List (ℤ × ℤ)). c.runs.list.items ++ L) (sym left) ∙ c.runs.invariant in
    subst IsMaximal (sym all) c.requires

pub returns : goal.returns
returns g c =
    let left = nothing_left c.runs.left c.next.new.self c.next.result c.next.ensures.steps c.in_default.not-Some in
    c.from_runs.ensures ∙ sym (append-nil c.runs.list.items) ∙ ap (λ (L : List (ℤ × ℤ)). c.runs.list.items ++ L) (sym left) ∙ c.runs.invariant
