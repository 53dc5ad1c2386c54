use Rattle.std.proofs.Common.{ℤ, List, None, subst, take}
use Rattle.ivl_laws.specs.Sets.{AtLeast}
use Rattle.ivl_laws.specs.Runs.{Covers}
use Rattle.ivl_places.specs.FirstFit.{IsFirstFit}
use Rattle.ivl_places.proofs.FirstFit.{IsFitOf}
use Rattle.ivl_paged.specs.Pages.{StartsUpTo, flattened}
use Rattle.ivl_paged.proofs.Fitting.{fit_from_above, fit_from_below}
use Rattle.ivl_paged.proofs.paged_set.PagedSet.first_fit_from.Goals as goal

pub returns-in-Some : goal.returns-in-Some
returns-in-Some g c =
    let P = c.self.inside.pages in
    let n = g.B.Output.SizeNumber.size c.args.count in
    let v = g.B.Width.value c.args.v in
    let k = c.starts_up_to-place.result in
    let s : StartsUpTo P v k = c.starts_up_to-place.ensures in
    fit_from_below n P c.args.self.now v k c.requires c.self.invariant.maximal c.self.view_is s c.in-Some.run'
    (subst (λ (N : List (List (ℤ × ℤ))). IsFirstFit n (AtLeast v (Covers (flattened (take k N)))) c.in-Some.run') c.as_slice.ensures.value c.in-Some.ensures)

pub returns-in-None : goal.returns-in-None
returns-in-None g c =
    let P = c.self.inside.pages in
    let n = g.B.Output.SizeNumber.size c.args.count in
    let v = g.B.Width.value c.args.v in
    let k = c.starts_up_to-place.result in
    let s : StartsUpTo P v k = c.starts_up_to-place.ensures in
    fit_from_above n P c.args.self.now v k c.requires c.self.invariant.maximal c.self.view_is s c.fit_from.result
    (subst (λ (N : List (List (ℤ × ℤ))). IsFitOf n (AtLeast v (Covers (flattened (take k N)))) None) c.as_slice.ensures.value c.in-None.ensures)
    c.fit_from.ensures
