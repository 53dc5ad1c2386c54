use Rattle.std.proofs.Common.{◌≡◌, ◌∙◌, ◌+ℤ◌, ◌-ℤ◌, refl}
use Rattle.ivl_within.proofs.Fronts.{difference_bounds, difference_made, sum_bounds, sum_made}
use Rattle.ivl_within.proofs.within.fronts.result_at.Goals as goal

pub add_in_range-requires : goal.add_in_range-requires
add_in_range-requires g c =
    let w = sum_bounds g.B.Width.whole c.args.op c.args.b.now c.args.run c.index-b-place.result c.args.place c.in-Sum.is c.requires.filled c.requires.right c.requires.place c.requires.fits c.index-b-place.is in
    rw (c.lower_bound.ensures, c.lower_bound-in-Sum.ensures) w.0

pub add_in_range-requires-in-Sum : goal.add_in_range-requires-in-Sum
add_in_range-requires-in-Sum g c =
    let w = sum_bounds g.B.Width.whole c.args.op c.args.b.now c.args.run c.index-b-place.result c.args.place c.in-Sum.is c.requires.filled c.requires.right c.requires.place c.requires.fits c.index-b-place.is in
    rw (c.upper_bound.ensures, c.upper_bound-in-Sum.ensures) w.1

pub new-requires : goal.new-requires
new-requires g c =
    let w = sum_bounds g.B.Width.whole c.args.op c.args.b.now c.args.run c.index-b-place.result c.args.place c.in-Sum.is c.requires.filled c.requires.right c.requires.place c.requires.fits c.index-b-place.is in
    rw (c.add_in_range.ensures, c.add_in_range-in-Sum.ensures, c.lower_bound.ensures, c.lower_bound-in-Sum.ensures, c.upper_bound.ensures, c.upper_bound-in-Sum.ensures) (w.0.0, w.1.1)

pub returns-in-Sum : goal.returns-in-Sum
returns-in-Sum g c =
    let p = c.args.run in
    let q = c.index-b-place.result in
    let made : c.new.result ≡ (p.0 +ℤ q.0, p.1 +ℤ q.1) =
    c.new.ensures.value ∙ rw (c.add_in_range.ensures, c.add_in_range-in-Sum.ensures, c.lower_bound.ensures, c.lower_bound-in-Sum.ensures, c.upper_bound.ensures, c.upper_bound-in-Sum.ensures) refl in
    sum_made c.args.op c.args.b.now p q c.new.result c.args.place c.in-Sum.is c.requires.place c.index-b-place.is made

pub sub_in_range-requires : goal.sub_in_range-requires
sub_in_range-requires g c =
    let w = difference_bounds g.B.Width.whole c.args.op c.args.b.now c.args.run c.index-b-b.result c.args.place c.in-Difference.is c.requires.filled c.requires.right c.requires.place c.requires.fits c.index-b-b.is in
    rw (c.lower_bound-in-Difference.ensures, c.upper_bound-in-Difference.ensures) w.0

pub sub_in_range-requires-in-Difference : goal.sub_in_range-requires-in-Difference
sub_in_range-requires-in-Difference g c =
    let w = difference_bounds g.B.Width.whole c.args.op c.args.b.now c.args.run c.index-b-b.result c.args.place c.in-Difference.is c.requires.filled c.requires.right c.requires.place c.requires.fits c.index-b-b.is in
    rw (c.upper_bound-in-Difference-2.ensures, c.lower_bound-in-Difference-2.ensures) w.1

pub new-requires-in-Difference : goal.new-requires-in-Difference
new-requires-in-Difference g c =
    let w = difference_bounds g.B.Width.whole c.args.op c.args.b.now c.args.run c.index-b-b.result c.args.place c.in-Difference.is c.requires.filled c.requires.right c.requires.place c.requires.fits c.index-b-b.is in
    rw (c.sub_in_range.ensures, c.sub_in_range-in-Difference.ensures, c.lower_bound-in-Difference.ensures, c.upper_bound-in-Difference.ensures, c.upper_bound-in-Difference-2.ensures, c.lower_bound-in-Difference-2.ensures) (w.0.0, w.1.1)

pub returns-in-Difference : goal.returns-in-Difference
returns-in-Difference g c =
    let p = c.args.run in
    let q = c.index-b-b.result in
    let made : c.new-in-Difference.result ≡ (p.0 -ℤ q.1, p.1 -ℤ q.0) =
    c.new-in-Difference.ensures.value ∙ rw (c.sub_in_range.ensures, c.sub_in_range-in-Difference.ensures, c.lower_bound-in-Difference.ensures, c.upper_bound-in-Difference.ensures, c.upper_bound-in-Difference-2.ensures, c.lower_bound-in-Difference-2.ensures) refl in
    difference_made c.args.op c.args.b.now p q c.new-in-Difference.result c.args.place c.in-Difference.is c.requires.place c.index-b-b.is made
