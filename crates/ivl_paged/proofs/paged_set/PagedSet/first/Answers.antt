use Rattle.std.proofs.Common.{[], get_or, refl, rules}
use Rattle.ivl_paged.proofs.Reading.{least_seen, none_seen, range_seen}
use Rattle.ivl_paged.proofs.paged_set.PagedSet.first.Goals as goal

pub returns-then-is_empty-clause-least : goal.returns-then-is_empty-clause-least
returns-then-is_empty-clause-least g c = none_seen c.self.inside.pages c.args.self.now c.self.invariant.maximal c.self.view_is (search rules)

pub returns-clause-least : goal.returns-clause-least
returns-clause-least g c =
    let P = c.self.inside.pages in
    least_seen P c.args.self.now c.self.invariant.maximal c.self.view_is (get_or P 0 []) (g.B.Width.value c.head.result) refl c.head.ensures

pub returns-clause-in_range : goal.returns-clause-in_range
returns-clause-in_range g c =
    range_seen c.self.inside.pages c.args.self.now c.self.invariant.maximal c.self.view_is g.B.Width.whole (g.B.Width.value c.head.result) c.self.invariant (returns-clause-least g c).0
