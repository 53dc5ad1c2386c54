use Rattle.std.proofs.Common.{◌<◌, [], arith, below_more, length, subst, sym, ◌∙◌}
use Rattle.std.specs.Prelude.{IfSome}
use Rattle.std.proofs.lemmas.Bool.{false≢true}
use Rattle.std.proofs.lemmas.List.{get_or_default}
use Rattle.ivl_laws.specs.Families.{set_at}
use Rattle.ivl_laws.specs.Runs.{Covers}
use Rattle.ivl_laws.specs.Sets.{HasSome}
use Rattle.ivl_search.specs.Best.{IsBetter}
use Rattle.ivl_network.specs.Settled.{HasTwo}
use Rattle.ivl_search.proofs.search.choice.node_of.Goals as goal

pub better-best-requires-clause-filled : goal.better-best-requires-clause-filled
better-best-requires-clause-filled g c =
    subst (λ s. HasSome (Covers s)) (c.index-domains-i.is ∙ get_or_default c.args.domains.now c.loop-i.i c.index-domains-i.result [] c.loop-i-test.true)
    (c.is_empty.ensures.filled (λ yes. false≢true (sym c.if-is_empty.false ∙ yes)))

pub better-best-requires-clause-before : goal.better-best-requires-clause-before
better-best-requires-clause-before g c = c.loop-i.invariant.known

pub loop-i-preserved : goal.loop-i-preserved
loop-i-preserved g c =
    let v = c.loop-i.invariant in
    let here : HasSome (set_at c.args.domains.now c.loop-i.i) =
    subst (λ s. HasSome (Covers s)) (c.index-domains-i.is ∙ get_or_default c.args.domains.now c.loop-i.i c.index-domains-i.result [] c.loop-i-test.true)
    (c.is_empty.ensures.filled (λ yes. false≢true (sym c.if-is_empty.false ∙ yes))) in
    record {
      filled = below_more _ _ v.filled here;
      known = c.better-best.ensures.known;
      single = λ none. let both = c.better-best.ensures.none none in below_more _ _ (v.single both.0) both.1;
    }

pub cut_value-requires : goal.cut_value-requires
cut_value-requires g c =
    let sets = c.args.domains.now in
    let known = subst (λ o. IfSome o (λ j. (j < length sets) × HasTwo (set_at sets j))) c.in-Some.is c.loop-i.invariant.known in
    let same = c.index-domains-i-in-Some.is ∙ get_or_default sets c.in-Some.i c.index-domains-i-in-Some.result [] known.0 in
    subst (λ s. HasTwo (Covers s)) (sym same) known.1

pub returns-in-Some-cut_value-clause-node : goal.returns-in-Some-cut_value-clause-node
returns-in-Some-cut_value-clause-node g c =
    let sets = c.args.domains.now in
    let value = g.B.Width.value c.in-Some-cut_value.value in
    let known = subst (λ o. IfSome o (λ j. (j < length sets) × HasTwo (set_at sets j))) c.in-Some.is c.loop-i.invariant.known in
    let same = c.index-domains-i-in-Some.is ∙ get_or_default sets c.in-Some.i c.index-domains-i-in-Some.result [] known.0 in
    let seen = c.loop-i-test.false in record {
      filled = λ i lt. c.loop-i.invariant.filled i (omega (arith, lt, seen));
      known = known.0;
      in_range = c.in-Some-cut_value.ensures.in_range;
      member = subst (λ s. Covers s value) same c.in-Some-cut_value.ensures.member;
      worse = subst (λ s. HasSome (λ v. Covers s v × IsBetter c.args.wanted v value)) same c.in-Some-cut_value.ensures.worse;
    }
