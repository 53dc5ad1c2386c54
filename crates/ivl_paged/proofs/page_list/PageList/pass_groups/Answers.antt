use Rattle.std.proofs.Common.{◌≡◌, ◌+◌, ℤ, List, take, length, length-drop, ap, subst, arith}
use Rattle.ivl_paged.specs.Sizes.{member_total}
use Rattle.ivl_paged.proofs.Totals.{left_behind, total_left}
use Rattle.ivl_paged.proofs.page_list.PageList.pass_groups.Goals as goal

pub pass_groups-place-requires-clause-exact : goal.pass_groups-place-requires-clause-exact
pass_groups-place-requires-clause-exact g c =
    let all = total_left c.self.inside.pages.items c.args.self.now c.self.inside.gone c.self.view_is in
    let same = ap (λ (Q : List (List (ℤ × ℤ))). member_total Q) c.as_slice-2.ensures.value in
    let first = ap (λ (Q : List (List (ℤ × ℤ))). member_total (take c.self.inside.gone Q)) c.as_slice-2.ensures.value in
    omega (arith, all, same, first, c.requires)

pub returns : goal.returns
returns g c =
    let seen = ap length c.as_slice-2.ensures.value in
    let view = ap (λ (Q : List (List (ℤ × ℤ))). length Q) c.self.view_is in
    let rest = length-drop c.self.inside.gone c.self.inside.pages.items in
    let most = c.pass_groups-place.ensures.at_most in
    record {
      at_most = omega (arith, seen, view, rest, most);
      left = left_behind c.self.inside.pages.items c.args.self.now c.self.inside.gone c.pass_groups-place.result.0 c.pass_groups-place.result.1 c.args.count c.self.view_is c.pass_groups-place.ensures.from
          (subst (λ (Q : List (List (ℤ × ℤ))). member_total (take c.pass_groups-place.result.0 Q) + c.pass_groups-place.result.1 ≡ member_total (take c.self.inside.gone Q) + c.args.count) c.as_slice-2.ensures.value c.pass_groups-place.ensures.left);
    }
