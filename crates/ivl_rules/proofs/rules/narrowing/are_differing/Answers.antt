use Rattle.std.proofs.Common.{◌∙◌, arith, sym}
use Rattle.std.proofs.lemmas.Bool.{false≢true}
use Rattle.std.proofs.lemmas.Int.{ints}
use Rattle.ivl_rules.proofs.Differing.{apart_differ, two_differ}
use Rattle.ivl_rules.proofs.rules.narrowing.are_differing.Goals as goal

pub returns-then-is_singleton : goal.returns-then-is_singleton
returns-then-is_singleton g c = λ t.
    let is = c.shift_back_of.ensures.value in
    apart_differ g.B.Width.whole c.args.x.now c.args.y.now c.args.by.now c.in_whole.ensures c.in_whole-2.ensures
    (c.is_empty.ensures.filled (λ e. false≢true (sym c.if-is_empty.false ∙ e))) (c.is_empty-else-is_empty.ensures.filled (λ e. false≢true (sym c.if-is_empty-2.false ∙ e)))
    (λ v w hv hw e. let n = c.lacks_moved.ensures t v w hv hw in n (omega (arith, ints, e)))

pub returns-then-is_singleton-2 : goal.returns-then-is_singleton-2
returns-then-is_singleton-2 g c = λ t.
    let is = c.shift_of.ensures.value in
    apart_differ g.B.Width.whole c.args.x.now c.args.y.now c.args.by.now c.in_whole.ensures c.in_whole-2.ensures
    (c.is_empty.ensures.filled (λ e. false≢true (sym c.if-is_empty.false ∙ e))) (c.is_empty-else-is_empty.ensures.filled (λ e. false≢true (sym c.if-is_empty-2.false ∙ e)))
    (λ v w hv hw e. let n = c.lacks_moved-then-is_singleton-2.ensures t w v hw hv in n (omega (arith, ints, e)))

pub lacks_moved-requires-clause-single : goal.lacks_moved-requires-clause-single
lacks_moved-requires-clause-single g c = c.is_singleton.ensures.0 c.if-is_singleton.true

pub lacks_moved-requires-then-is_singleton-2-clause-single : goal.lacks_moved-requires-then-is_singleton-2-clause-single
lacks_moved-requires-then-is_singleton-2-clause-single g c = c.is_singleton-2.ensures.0 c.if-is_singleton-2.true

pub returns : goal.returns
returns g c = λ _.
    two_differ g.B.Width.whole c.args.x.now c.args.y.now c.args.by.now c.in_whole.ensures c.in_whole-2.ensures
    (c.is_empty.ensures.filled (λ e. false≢true (sym c.if-is_empty.false ∙ e))) (c.is_empty-else-is_empty.ensures.filled (λ e. false≢true (sym c.if-is_empty-2.false ∙ e)))
    (λ h. false≢true (sym c.if-is_singleton-2.false ∙ c.is_singleton-2.ensures.1 h))
    (λ h. false≢true (sym c.if-is_singleton.false ∙ c.is_singleton.ensures.1 h))
