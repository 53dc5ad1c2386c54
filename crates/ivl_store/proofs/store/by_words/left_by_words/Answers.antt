use Rattle.std.proofs.Common.{arith, subst}
use Rattle.std.proofs.lemmas.Int.{ints, to_z-of_z}
use Rattle.std.specs.Prelude.{◌+ℤ◌}
use Rattle.ivl_laws.specs.Sets.{Differences, Sums}
use Rattle.ivl_laws.specs.Runs.{Covers}
use Rattle.ivl_store.specs.NarrowedSets.{IsLeftOf}
use Rattle.ivl_store.specs.Words.{InWord, IsWordOf}
use Rattle.ivl_store.proofs.NarrowedSets.{left_same}
use Rattle.ivl_store.proofs.Words.{kept_at_x, kept_at_y, kept_at_z, sum_of_bases}
use Rattle.ivl_store.proofs.store.by_words.left_by_words.Goals as goal

pub returns-clause-at_x : goal.returns-clause-at_x
returns-clause-at_x g c =
    let ex = to_z-of_z _ c.args.x_base c.ranges.x_base in let ey = to_z-of_z _ c.args.y_base c.ranges.y_base in
    let ez = sum_of_bases c.args.x_base c.args.y_base c.sum_of-z_base.result c.requires.within_x c.requires.within_y c.sum_of-z_base.ensures.sum in
    left_same g.B.Width.whole c.args.x.now (InWord c.args.x_base c.supported_by-kept.result.x) (Differences (Covers c.args.z.now) (Covers c.args.y.now)) c.in_ok-left_of_x.left_of_x
    (kept_at_x (Covers c.args.x.now) (Covers c.args.y.now) (Covers c.args.z.now) c.args.x_base c.args.y_base _ _ _ _ _ _ c.word_of_close_set-xs.type_inv c.word_of_close_set-ys.type_inv c.word_of_set-zs.type_inv
    (subst (λ base. IsWordOf c.word_of_close_set-xs.result base (Covers c.args.x.now)) ex c.word_of_close_set-xs.ensures)
    (subst (λ base. IsWordOf c.word_of_close_set-ys.result base (Covers c.args.y.now)) ey c.word_of_close_set-ys.ensures)
    (subst (λ base. IsWordOf c.word_of_set-zs.result base (Covers c.args.z.now)) ez c.word_of_set-zs.ensures)
    c.requires.least_x c.requires.least_y c.requires.close c.supported_by-kept.ensures)
    (subst (λ base. IsLeftOf g.B.Width.whole c.args.x.now (InWord base c.supported_by-kept.result.x) c.in_ok-left_of_x.left_of_x) ex c.in_ok-left_of_x.ensures)

pub returns-clause-at_y : goal.returns-clause-at_y
returns-clause-at_y g c =
    let ex = to_z-of_z _ c.args.x_base c.ranges.x_base in let ey = to_z-of_z _ c.args.y_base c.ranges.y_base in
    let ez = sum_of_bases c.args.x_base c.args.y_base c.sum_of-z_base.result c.requires.within_x c.requires.within_y c.sum_of-z_base.ensures.sum in
    left_same g.B.Width.whole c.args.y.now (InWord c.args.y_base c.supported_by-kept.result.y) (Differences (Covers c.args.z.now) (Covers c.args.x.now)) c.in_ok-left_of_y.left_of_y
    (kept_at_y (Covers c.args.x.now) (Covers c.args.y.now) (Covers c.args.z.now) c.args.x_base c.args.y_base _ _ _ _ _ _ c.word_of_close_set-xs.type_inv c.word_of_close_set-ys.type_inv c.word_of_set-zs.type_inv
    (subst (λ base. IsWordOf c.word_of_close_set-xs.result base (Covers c.args.x.now)) ex c.word_of_close_set-xs.ensures)
    (subst (λ base. IsWordOf c.word_of_close_set-ys.result base (Covers c.args.y.now)) ey c.word_of_close_set-ys.ensures)
    (subst (λ base. IsWordOf c.word_of_set-zs.result base (Covers c.args.z.now)) ez c.word_of_set-zs.ensures)
    c.requires.least_x c.requires.least_y c.requires.close c.supported_by-kept.ensures)
    (subst (λ base. IsLeftOf g.B.Width.whole c.args.y.now (InWord base c.supported_by-kept.result.y) c.in_ok-left_of_y.left_of_y) ey c.in_ok-left_of_y.ensures)

pub returns-clause-at_z : goal.returns-clause-at_z
returns-clause-at_z g c =
    let ex = to_z-of_z _ c.args.x_base c.ranges.x_base in let ey = to_z-of_z _ c.args.y_base c.ranges.y_base in
    let ez = sum_of_bases c.args.x_base c.args.y_base c.sum_of-z_base.result c.requires.within_x c.requires.within_y c.sum_of-z_base.ensures.sum in
    left_same g.B.Width.whole c.args.z.now (InWord (c.args.x_base +ℤ c.args.y_base) c.supported_by-kept.result.z) (Sums (Covers c.args.x.now) (Covers c.args.y.now)) c.in_ok-left_of_z.left_of_z
    (kept_at_z (Covers c.args.x.now) (Covers c.args.y.now) (Covers c.args.z.now) c.args.x_base c.args.y_base _ _ _ _ _ _ c.word_of_close_set-xs.type_inv c.word_of_close_set-ys.type_inv c.word_of_set-zs.type_inv
    (subst (λ base. IsWordOf c.word_of_close_set-xs.result base (Covers c.args.x.now)) ex c.word_of_close_set-xs.ensures)
    (subst (λ base. IsWordOf c.word_of_close_set-ys.result base (Covers c.args.y.now)) ey c.word_of_close_set-ys.ensures)
    (subst (λ base. IsWordOf c.word_of_set-zs.result base (Covers c.args.z.now)) ez c.word_of_set-zs.ensures)
    c.requires.least_x c.requires.least_y c.requires.close c.supported_by-kept.ensures)
    (subst (λ base. IsLeftOf g.B.Width.whole c.args.z.now (InWord base c.supported_by-kept.result.z) c.in_ok-left_of_z.left_of_z) ez c.in_ok-left_of_z.ensures)

pub word_of_close_set-xs-requires-clause-first : goal.word_of_close_set-xs-requires-clause-first
word_of_close_set-xs-requires-clause-first g c = λ a m.
    let ex = to_z-of_z _ c.args.x_base c.ranges.x_base in let h = c.requires.least_x a m in omega (arith, ints)

pub word_of_close_set-xs-requires-clause-last : goal.word_of_close_set-xs-requires-clause-last
word_of_close_set-xs-requires-clause-last g c = λ a m.
    let ex = to_z-of_z _ c.args.x_base c.ranges.x_base in let ey = to_z-of_z _ c.args.y_base c.ranges.y_base in
    let (b, n) = c.requires.some_y in let k = c.requires.close a b m n in let l = c.requires.least_y b n in omega (arith, ints)

pub word_of_close_set-ys-requires-clause-first : goal.word_of_close_set-ys-requires-clause-first
word_of_close_set-ys-requires-clause-first g c = λ b n.
    let ey = to_z-of_z _ c.args.y_base c.ranges.y_base in let h = c.requires.least_y b n in omega (arith, ints)

pub word_of_close_set-ys-requires-clause-last : goal.word_of_close_set-ys-requires-clause-last
word_of_close_set-ys-requires-clause-last g c = λ b n.
    let ex = to_z-of_z _ c.args.x_base c.ranges.x_base in let ey = to_z-of_z _ c.args.y_base c.ranges.y_base in
    let (a, m) = c.requires.some_x in let k = c.requires.close a b m n in let l = c.requires.least_x a m in omega (arith, ints)
