use Rattle.std.proofs.Common.{arith, refl}
use Rattle.std.proofs.lemmas.Bool.{false≢true}
use Rattle.std.proofs.lemmas.Int.{ints}
use Rattle.ivl_store.proofs.store.by_words.narrowed_by_words.Goals as goal

pub base_of-y_base-requires : goal.base_of-y_base-requires
base_of-y_base-requires g c = record { some = c.if-is_empty-2.ensures.filled (λ t. false≢true t); near = c.if-is_far-2.ensures refl }

pub span_of-x_span-requires-clause-some : goal.span_of-x_span-requires-clause-some
span_of-x_span-requires-clause-some g c = c.if-is_empty.ensures.filled (λ t. false≢true t)

pub span_of-y_span-requires-clause-some : goal.span_of-y_span-requires-clause-some
span_of-y_span-requires-clause-some g c = c.if-is_empty-2.ensures.filled (λ t. false≢true t)

pub left_by_words-requires-clause-some_x : goal.left_by_words-requires-clause-some_x
left_by_words-requires-clause-some_x g c = c.if-is_empty.ensures.filled (λ t. false≢true t)

pub left_by_words-requires-clause-some_y : goal.left_by_words-requires-clause-some_y
left_by_words-requires-clause-some_y g c = c.if-is_empty-2.ensures.filled (λ t. false≢true t)

pub left_by_words-requires-clause-some_z : goal.left_by_words-requires-clause-some_z
left_by_words-requires-clause-some_z g c = c.if-is_empty-3.ensures.filled (λ t. false≢true t)

pub left_by_words-requires-clause-least_x : goal.left_by_words-requires-clause-least_x
left_by_words-requires-clause-least_x g c = λ a h.
    let l = c.base_of-x_base.ensures.least a h in let m = c.base_of-x_base.ensures.near.0 in let n = c.base_of-x_base.ensures.near.1 in omega (arith, ints)

pub left_by_words-requires-clause-least_y : goal.left_by_words-requires-clause-least_y
left_by_words-requires-clause-least_y g c = λ b h.
    let l = c.base_of-y_base.ensures.least b h in let m = c.base_of-y_base.ensures.near.0 in let n = c.base_of-y_base.ensures.near.1 in omega (arith, ints)

pub left_by_words-requires-clause-close : goal.left_by_words-requires-clause-close
left_by_words-requires-clause-close g c = λ a b h k.
    let u = c.span_of-x_span.ensures.greatest a h in let v = c.span_of-y_span.ensures.greatest b k in let t = c.if-x_span-y_span-gt63.false in
    let m = c.base_of-x_base.ensures.near.0 in let n = c.base_of-x_base.ensures.near.1 in let m2 = c.base_of-y_base.ensures.near.0 in let n2 = c.base_of-y_base.ensures.near.1 in
    let s = c.span_of-x_span.ensures.near.0 in let s2 = c.span_of-x_span.ensures.near.1 in let r = c.span_of-y_span.ensures.near.0 in let r2 = c.span_of-y_span.ensures.near.1 in
    omega (arith, ints)
