use Rattle.std.proofs.Common.{◌∙◌, ap, drop, ◌-◌, arith}
use Rattle.ivl_laws.proofs.Places.{IsMaximal-drop, IsMaximal-take}
use Rattle.ivl_paged.specs.Pages.{flattened}
use Rattle.ivl_paged.proofs.Paging.{parts_so_far}
use Rattle.ivl_paged.proofs.pages.push_runs.Goals as goal

pub page_of-requires-clause-runs : goal.page_of-requires-clause-runs
page_of-requires-clause-runs g c =
    IsMaximal-take (drop c.parts.start c.args.runs.now) (c.min-end.result - c.parts.start) (IsMaximal-drop c.args.runs.now c.parts.start c.requires)

pub parts-preserved : goal.parts-preserved
parts-preserved g c = (
  omega arith,
  ap flattened c.in_ok-push.ensures.ok ∙ parts_so_far c.parts.pages (flattened c.args.pages.now) c.args.runs.now c.in_ok-page_of.field-0 c.parts.start c.min-end.result (omega arith) c.parts.invariant.1 c.in_ok-page_of.ensures,
)
