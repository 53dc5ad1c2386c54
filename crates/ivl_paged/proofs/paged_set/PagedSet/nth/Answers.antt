use Rattle.std.proofs.Common.{◌≡◌, ◌∙◌, ◌+◌, ◌<◌, [], ℕ, ℤ, List, get_or, subst, sym, arith, take, true≢false, refl}
use Rattle.std.specs.Prelude.{MatchOption, ◌≤◌}
use Rattle.std.proofs.lemmas.List.{get_or_default}
use Rattle.ivl_laws.specs.Counts.{IsCountOf}
use Rattle.ivl_laws.specs.Sets.{Below}
use Rattle.ivl_laws.specs.Runs.{Covers, IsMaximal}
use Rattle.ivl_places.proofs.Ranks.{no_room}
use Rattle.ivl_paged.specs.Pages.{flattened}
use Rattle.ivl_paged.proofs.Reading.{counts_next_page, no_nth_seen, nth_seen}
use Rattle.ivl_paged.specs.Sizes.{member_total}
use Rattle.ivl_paged.proofs.Totals.{all_fit, total_counts}
use Rattle.ivl_paged.proofs.paged_set.PagedSet.nth.Goals as goal

pub pass_groups-start-requires : goal.pass_groups-start-requires
pass_groups-start-requires g c = all_fit g.B.Width.whole c.self.inside.pages g.B.Output.SizeNumber.greatest c.self.invariant g.met.B.Width.countable g.met.B.Output.SizeNumber.bounded

pub unwrap-left-requires : goal.unwrap-left-requires
unwrap-left-requires g c =
    let left = c.pass_groups-start.ensures.left in
    c.from_number.ensures.known.1 (omega (arith, left, c.number.ensures.number, c.number.ensures.at_most))

pub loop-k-init : goal.loop-k-init
loop-k-init g c =
    let P = c.self.inside.pages in
    let made = rw c.unwrap-left.ensures at c.from_number.ensures.same_number in
    let left = c.pass_groups-start.ensures.left in (
      member_total (take c.pass_groups-start.result.0 P),
      omega (arith, made, left, c.number.ensures.number),
      subst (λ (Q : List (List (ℤ × ℤ))). IsCountOf (member_total (take c.pass_groups-start.result.0 P)) (Covers (flattened (take c.pass_groups-start.result.0 Q)))) (sym c.as_slice-pages.ensures.value) (total_counts P c.pass_groups-start.result.0 c.self.invariant.maximal),
    )

pub returns-in-None : goal.returns-in-None
returns-in-None g c =
    let (m, e, a) = c.loop-k.invariant in
    let P = c.as_slice-pages.result.now in
    let i = c.loop-k.k in
    let N = c.args.self.now in
    let left = g.B.Output.SizeNumber.size c.loop-k.left in
    let open_all : IsMaximal (flattened P) = subst (λ (Q : List (List (ℤ × ℤ))). IsMaximal (flattened Q)) (sym c.as_slice-pages.ensures.value) c.self.invariant.maximal in
    let view : flattened P ≡ N = subst (λ (Q : List (List (ℤ × ℤ))). flattened Q ≡ N) (sym c.as_slice-pages.ensures.value) c.self.view_is in
    let page : c.set-in-None.result.now ≡ get_or P i [] = c.set-in-None.ensures.same ∙ c.index-pages-k.is ∙ get_or_default P i _ [] c.loop-k-test.true in
    let size : IsCountOf (g.B.Output.SizeNumber.size c.size.result) (Covers c.set-in-None.result.now) = subst (λ (L : List (ℤ × ℤ)). IsCountOf (g.B.Output.SizeNumber.size c.size.result) (Covers L)) (c.set.ensures.same ∙ sym c.set-in-None.ensures.same) c.size.ensures in
    let less : left < g.B.Output.SizeNumber.size c.size.result = no_room _ left _ refl (λ le. true≢false (sym (c.in-None.ensures.known.1 le))) in
    subst (λ (k : ℕ). MatchOption c.nth.result ((n : ℕ) → IsCountOf n (Covers N) → n ≤ k) (λ x. Covers N (g.B.Width.value x) × IsCountOf k (Below (g.B.Width.value x) (Covers N)))) e
    (nth_seen g.B.Width.value P N c.set-in-None.result.now i m left _ c.nth.result open_all view c.loop-k-test.true page a size less c.nth.ensures)

pub loop-k-preserved : goal.loop-k-preserved
loop-k-preserved g c =
    let (m, e, a) = c.loop-k.invariant in
    let P = c.as_slice-pages.result.now in
    let i = c.loop-k.k in
    let f = c.in-Some.ensures.same_number in
    let open_all : IsMaximal (flattened P) = subst (λ (Q : List (List (ℤ × ℤ))). IsMaximal (flattened Q)) (sym c.as_slice-pages.ensures.value) c.self.invariant.maximal in
    let page : c.set.result.now ≡ get_or P i [] = c.set.ensures.same ∙ c.index-pages-k.is ∙ get_or_default P i _ [] c.loop-k-test.true in
    (m + g.B.Output.SizeNumber.size c.size.result, omega (arith, e, f), counts_next_page P i c.set.result.now m (g.B.Output.SizeNumber.size c.size.result) open_all c.loop-k-test.true page a c.size.ensures)

pub returns : goal.returns
returns g c n b =
    let (m, e, a) = c.loop-k.invariant in
    let P = c.as_slice-pages.result.now in
    let view : flattened P ≡ c.args.self.now = subst (λ (Q : List (List (ℤ × ℤ))). flattened Q ≡ c.args.self.now) (sym c.as_slice-pages.ensures.value) c.self.view_is in
    let all = no_nth_seen P c.args.self.now c.loop-k.k m n view c.loop-k-test.false a b in
    omega (arith, e, all)
