use Rattle.std.proofs.Common.{◌∙◌, subst, sym}
use Rattle.ivl_laws.specs.Runs.{IsMaximal}
use Rattle.ivl_paged.specs.Pages.{flattened}
use Rattle.ivl_paged.proofs.Paging.{IsMaximal-second}
use Rattle.ivl_paged.proofs.combine.put_apart.Goals as goal

pub push_runs-requires : goal.push_runs-requires
push_runs-requires g c = IsMaximal-second (flattened c.args.pages.now) c.args.piece.now c.requires

pub join_if_few-requires : goal.join_if_few-requires
join_if_few-requires g c = subst IsMaximal (sym c.in_ok-push_runs.ensures) c.requires

pub returns : goal.returns
returns g c = c.join_if_few.ensures ∙ c.in_ok-push_runs.ensures
