use Rattle.std.proofs.Common.{arith, ◌<◌, length, ℤ, subst}
use Rattle.ivl_laws.specs.Sets.{Intersection, IsBetween, SameMembers}
use Rattle.ivl_laws.proofs.Slices.{same_item}
use Rattle.ivl_map.proofs.merge.heads_in.Goals as goal

pub returns : goal.returns
returns g c =
    let E = c.args.entries.now in
    let D = c.args.others.now in
    let i = c.args.i in
    let j = c.args.j in
    let less : i < length E = omega arith in
    let less_too : j < length D = omega arith in
    let P : (ℤ × ℤ) × g.row.V.Denot → Type 0 = λ e. SameMembers (IsBetween c.intersection-run.result) (Intersection (IsBetween e.0) (IsBetween c.args.rest)) in
    let Q : (ℤ × ℤ) × g.row.V.Denot → Type 0 = λ e. SameMembers (IsBetween c.intersection-other.result) (Intersection (IsBetween e.0) (IsBetween c.args.rest)) in
    (less, less_too, (λ d. subst P (same_item E i c.index-entries-i.result d less) c.intersection-run.ensures), (λ d. subst Q (same_item D j c.index-others-j.result d less_too) c.intersection-other.ensures))
