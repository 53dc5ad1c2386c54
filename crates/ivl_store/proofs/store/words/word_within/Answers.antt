use Rattle.std.proofs.Common.{arith, refl, subst, take}
use Rattle.std.proofs.lemmas.Int.{ints, to_z-of_z}
use Rattle.std.proofs.lemmas.List.{take_all}
use Rattle.ivl_laws.specs.Runs.{Covers}
use Rattle.ivl_store.specs.Words.{IsWordOf}
use Rattle.ivl_store.proofs.Lists.{item_covers, item_in_range}
use Rattle.ivl_store.proofs.Words.{word_next, word_none}
use Rattle.ivl_store.proofs.store.words.word_within.Goals as goal

pub loop-run-init : goal.loop-run-init
loop-run-init g c = λ p small. word_none c.args.base p

pub word_of_run_within-word-requires-clause-in_range : goal.word_of_run_within-word-requires-clause-in_range
word_of_run_within-word-requires-clause-in_range g c =
    (item_in_range g.B.Width.whole c.args.runs.now c.args.runs.now c.loop-run.run-index c.run-item.result refl c.requires.runs c.loop-run-test.true c.run-item.is).0

pub word_of_run_within-word-requires-clause-in_order : goal.word_of_run_within-word-requires-clause-in_order
word_of_run_within-word-requires-clause-in_order g c =
    (item_in_range g.B.Width.whole c.args.runs.now c.args.runs.now c.loop-run.run-index c.run-item.result refl c.requires.runs c.loop-run-test.true c.run-item.is).1

pub loop-run-preserved : goal.loop-run-preserved
loop-run-preserved g c =
    word_next c.args.runs.now c.loop-run.run-index c.run-item.result _ c.loop-run.word c.word_of_run_within-word.result c.loop-run-test.true c.run-item.is c.loop-run.invariant c.word_of_run_within-word.ensures

pub returns : goal.returns
returns g c =
    subst (λ L. IsWordOf c.loop-run.word c.args.base (Covers L)) (take_all c.loop-run.run-index c.args.runs.now c.loop-run-test.false)
    (subst (λ base. IsWordOf c.loop-run.word base (Covers (take c.loop-run.run-index c.args.runs.now))) (to_z-of_z _ c.args.base c.ranges.base) c.loop-run.invariant)

pub word_of_run_within-word-requires-clause-first : goal.word_of_run_within-word-requires-clause-first
word_of_run_within-word-requires-clause-first g c =
    let base = to_z-of_z _ c.args.base c.ranges.base in
    let o = (item_in_range g.B.Width.whole c.args.runs.now c.args.runs.now c.loop-run.run-index c.run-item.result refl c.requires.runs c.loop-run-test.true c.run-item.is).1 in
    let h = c.requires.first _ (item_covers c.args.runs.now c.loop-run.run-index c.run-item.result c.loop-run-test.true c.run-item.is o).0 in
    omega (arith, ints)

pub word_of_run_within-word-requires-clause-last : goal.word_of_run_within-word-requires-clause-last
word_of_run_within-word-requires-clause-last g c =
    let base = to_z-of_z _ c.args.base c.ranges.base in
    let o = (item_in_range g.B.Width.whole c.args.runs.now c.args.runs.now c.loop-run.run-index c.run-item.result refl c.requires.runs c.loop-run-test.true c.run-item.is).1 in
    let h = c.requires.last _ (item_covers c.args.runs.now c.loop-run.run-index c.run-item.result c.loop-run-test.true c.run-item.is o).1 in
    omega (arith, ints)
