use Rattle.std.proofs.Common.{◌∙◌, ℤ, ◌≤ℤ◌, sym, subst}
use Rattle.ivl_laws.specs.Sets.{IsBetween}
use Rattle.ivl_laws.proofs.Runs.{pair_same}
use Rattle.ivl_images.proofs.Offsets.{count_fits, last_in, last_is, start_in, sum_fits}
use Rattle.ivl_map.proofs.interval_map.windows.lowest_of.Goals as goal

pub overflow_cast-last : goal.overflow_cast-last
overflow_cast-last g c =
    count_fits g.B.Width.whole c.args.gap _ g.met.B.Width.range c.in_whole.ensures c.requires.above_zero c.requires.enough _ _ c.number-2.result c.number.ensures c.lower_bound-start.ensures c.number-2.ensures.number

pub overflow_add-last : goal.overflow_add-last
overflow_add-last g c =
    sum_fits g.B.Width.whole c.args.gap _ g.met.B.Width.range c.in_whole.ensures c.requires.above_zero c.requires.enough _ _ c.number-2.result c.number.ensures c.lower_bound-start.ensures c.number-2.ensures.number

pub unwrap-requires : goal.unwrap-requires
unwrap-requires g c =
    c.from_number.ensures.known.1 (subst (IsBetween g.B.Width.whole)
    (sym (last_is g.B.Width.whole c.args.gap _ g.met.B.Width.range c.in_whole.ensures c.requires.above_zero c.requires.enough _ _ c.number-2.result c.number.ensures c.lower_bound-start.ensures c.number-2.ensures.number))
    (last_in g.B.Width.whole c.args.gap _ g.met.B.Width.range c.in_whole.ensures c.requires.above_zero c.requires.enough))

pub new-requires : goal.new-requires
new-requires g c =
    let e = (rw c.unwrap.ensures at c.from_number.ensures.same_number) ∙ last_is g.B.Width.whole c.args.gap _ g.met.B.Width.range c.in_whole.ensures c.requires.above_zero c.requires.enough _ _ c.number-2.result c.number.ensures c.lower_bound-start.ensures c.number-2.ensures.number in (
      subst (λ (z : ℤ). g.B.Width.whole.0 ≤ℤ z) (sym c.lower_bound-start.ensures) (start_in g.B.Width.whole c.args.gap _ g.met.B.Width.range c.in_whole.ensures c.requires.above_zero c.requires.enough).0,
      subst (λ (z : ℤ). z ≤ℤ g.B.Width.whole.1) (sym e) (last_in g.B.Width.whole c.args.gap _ g.met.B.Width.range c.in_whole.ensures c.requires.above_zero c.requires.enough).1,
    )

pub returns : goal.returns
returns g c =
    let e = (rw c.unwrap.ensures at c.from_number.ensures.same_number) ∙ last_is g.B.Width.whole c.args.gap _ g.met.B.Width.range c.in_whole.ensures c.requires.above_zero c.requires.enough _ _ c.number-2.result c.number.ensures c.lower_bound-start.ensures c.number-2.ensures.number in
    c.new.ensures.value ∙ pair_same _ _ c.lower_bound-start.ensures e
