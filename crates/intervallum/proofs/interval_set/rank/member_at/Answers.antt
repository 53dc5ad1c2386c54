use Rattle.std.proofs.Common.{◌∙◌, subst, sym}
use Rattle.ivl_laws.specs.Sets.{IsBetween}
use Rattle.ivl_images.proofs.Offsets.{place_fits, place_in, place_is, place_sum_fits}
use Rattle.intervallum.proofs.interval_set.rank.member_at.Goals as goal

pub overflow_cast-number : goal.overflow_cast-number
overflow_cast-number g c = place_fits g.B.Width.whole c.args.run.now (g.B.Output.SizeNumber.size c.args.i) g.met.B.Width.range c.in_whole.ensures c.requires _ _ c.number-2.result c.number.ensures c.lower_bound.ensures c.number-2.ensures.number

pub overflow_add-number : goal.overflow_add-number
overflow_add-number g c = place_sum_fits g.B.Width.whole c.args.run.now (g.B.Output.SizeNumber.size c.args.i) g.met.B.Width.range c.in_whole.ensures c.requires _ _ c.number-2.result c.number.ensures c.lower_bound.ensures c.number-2.ensures.number

pub unwrap-requires : goal.unwrap-requires
unwrap-requires g c = c.from_number.ensures.known.1 (subst (IsBetween g.B.Width.whole) (sym (place_is g.B.Width.whole c.args.run.now (g.B.Output.SizeNumber.size c.args.i) g.met.B.Width.range c.in_whole.ensures c.requires _ _ c.number-2.result c.number.ensures c.lower_bound.ensures c.number-2.ensures.number)) (place_in g.B.Width.whole c.args.run.now (g.B.Output.SizeNumber.size c.args.i) g.met.B.Width.range c.in_whole.ensures c.requires))

pub returns : goal.returns
returns g c = (rw c.unwrap.ensures at c.from_number.ensures.same_number) ∙ place_is g.B.Width.whole c.args.run.now (g.B.Output.SizeNumber.size c.args.i) g.met.B.Width.range c.in_whole.ensures c.requires _ _ c.number-2.result c.number.ensures c.lower_bound.ensures c.number-2.ensures.number
