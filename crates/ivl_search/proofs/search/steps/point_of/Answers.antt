use Rattle.std.proofs.Common.{◌≡◌, [], length, map, ℕ, ◌+◌, ◌<◌}
use Rattle.ivl_laws.specs.Families.{set_at}
use Rattle.ivl_laws.specs.Runs.{Covers}
use Rattle.std.proofs.Common.{ap, subst, sym, refl, arith, ◌∙◌}
use Rattle.std.proofs.lemmas.List.{get_or_default, length_push, length-map, map_push}
use Rattle.ivl_laws.specs.Sets.{Only, SameMembers}
use Rattle.ivl_search.specs.Points.{coordinate}
use Rattle.ivl_search.proofs.Cuts.{only_member, only_more}
use Rattle.ivl_search.proofs.search.steps.point_of.Goals as goal

pub lower-requires : goal.lower-requires
lower-requires g c =
    let one = c.requires c.loop-domain.domain-index c.loop-domain-test.true in
    (one.0, subst (λ s. Covers s one.0) (sym (c.domain-item.is ∙ get_or_default c.args.domains.now c.loop-domain.domain-index c.domain-item.result [] c.loop-domain-test.true)) ((one.1 one.0).1 refl))

pub loop-domain-preserved : goal.loop-domain-preserved
loop-domain-preserved g c =
    let items = c.in_ok-push.ensures.items in
    let k = c.loop-domain.domain-index in
    let one = c.requires k c.loop-domain-test.true in
    let value = g.B.Width.value in
    let here = only_member (set_at c.args.domains.now k) one.0 (value c.lower.result) one.1
    (subst (λ s. Covers s (value c.lower.result)) (c.domain-item.is ∙ get_or_default c.args.domains.now k c.domain-item.result [] c.loop-domain-test.true) c.lower.ensures.member) in (
      (ap length items ∙ length_push c.loop-domain.point.items c.lower.result ∙ ap (λ n. n + 1) c.loop-domain.invariant.0),
      subst (λ point. (i : ℕ) → i < k + 1 → SameMembers (set_at c.args.domains.now i) (Only (coordinate point i)))
          (sym (ap (map value) items ∙ map_push value c.loop-domain.point.items c.lower.result))
          (only_more c.args.domains.now (map value c.loop-domain.point.items) k (value c.lower.result) (length-map c.loop-domain.point.items value ∙ c.loop-domain.invariant.0) c.loop-domain.invariant.1 here),
    )

pub returns : goal.returns
returns g c =
    let seen = c.loop-domain-test.false in
    let end = c.loop-domain.auto.domain-index-end in
    let all : c.loop-domain.domain-index ≡ length c.args.domains.now = omega arith in
    record {
      one_each = length-map c.loop-domain.point.items g.B.Width.value ∙ c.loop-domain.invariant.0 ∙ all;
      only = λ i lt. c.loop-domain.invariant.1 i (subst (λ n. i < n) (sym all) lt);
    }
