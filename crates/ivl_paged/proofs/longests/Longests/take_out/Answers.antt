use Rattle.std.proofs.Common.{◌∙◌, ap, length}
use Rattle.ivl_paged.proofs.Bounding.{length_of_cut, taken_out}
use Rattle.ivl_paged.proofs.longests.Longests.take_out.Goals as goal

pub remove_empty-requires : goal.remove_empty-requires
remove_empty-requires g c = ap length c.take_places.ensures ∙ length_of_cut c.args.start c.args.end c.self.inside.counts.items ∙ c.self.invariant

pub returns : goal.returns
returns g c = taken_out g.B.Output.SizeNumber.size c.self.inside.counts.items c.self.inside.mosts.items c.args.self.now c.self.invariant c.self.view_is c.args.start c.args.end c.take_places.new.counts.items _ c.requires c.take_places.ensures c.remove_empty.ensures.bounds
