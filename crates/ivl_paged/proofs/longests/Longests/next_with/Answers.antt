use Rattle.std.proofs.Common.{◌∙◌, ap, length, sym}
use Rattle.ivl_paged.specs.Longests.{place_count}
use Rattle.ivl_paged.proofs.Bounding.{counted, part_seen}
use Rattle.ivl_paged.proofs.longests.Longests.next_with.Goals as goal

pub next_group-requires-clause-same : goal.next_group-requires-clause-same
next_group-requires-clause-same g c = ap length c.as_slice.ensures.value ∙ c.self.invariant ∙ sym (ap length c.as_slice-2.ensures.value)

pub next_group-requires-clause-all : goal.next_group-requires-clause-all
next_group-requires-clause-all g c = ap place_count c.as_slice.ensures.value ∙ counted g.B.Output.SizeNumber.size c.self.inside.counts.items c.self.inside.mosts.items c.args.self.now c.self.invariant c.self.view_is ∙ c.requires

pub returns : goal.returns
returns g c = part_seen g.B.Output.SizeNumber.size c.self.inside.counts.items c.self.inside.mosts.items c.args.self.now c.self.invariant c.self.view_is c.as_slice.result.now c.as_slice-2.result.now c.args.from (g.B.Output.SizeNumber.size c.args.count) c.next_group.result c.as_slice.ensures.value c.as_slice-2.ensures.value c.next_group.ensures
