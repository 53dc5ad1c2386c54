use Rattle.std.proofs.Common.{◌≡◌, ◌++◌, ◌∷◌, [], arith, subst, sym}
use Rattle.std.proofs.lemmas.Int.{ints, to_z-of_z}
use Rattle.std.specs.Prelude.{◌+ℤ◌, pos}
use Rattle.ivl_laws.specs.Sets.{IsBetween}
use Rattle.ivl_store.proofs.Words.{Taken, taken_all, taken_next, taken_none}
use Rattle.ivl_store.proofs.store.words.set_of_word.Goals as goal

pub runs-init : goal.runs-init
runs-init g c =
    subst (λ base. Taken base c.args.word c.args.word c.args.empty) (sym (to_z-of_z _ c.args.base c.ranges.base))
    (subst (λ L. Taken c.args.base c.args.word c.args.word L) (sym c.requires.empty) (taken_none c.args.base c.args.word))

pub run_of-requires-clause-first : goal.run_of-requires-clause-first
run_of-requires-clause-first g c =
    let bits = c.first_bits-low.ensures in
    subst (λ base. IsBetween g.B.Width.whole (base +ℤ pos c.first_bits-low.result.0)) (sym (to_z-of_z _ c.args.base c.ranges.base))
    (c.requires.in_range _ (c.runs.invariant.left _ (bits.set _ (omega arith) bits.in_order)))

pub run_of-requires-clause-last : goal.run_of-requires-clause-last
run_of-requires-clause-last g c =
    let bits = c.first_bits-low.ensures in
    subst (λ base. IsBetween g.B.Width.whole (base +ℤ pos c.first_bits-low.result.1)) (sym (to_z-of_z _ c.args.base c.ranges.base))
    (c.requires.in_range _ (c.runs.invariant.left _ (bits.set _ bits.in_order (omega arith))))

pub push_run-requires-clause-filled : goal.push_run-requires-clause-filled
push_run-requires-clause-filled g c =
    let order = c.first_bits-low.ensures.in_order in
    rw c.run_of.ensures (omega (arith, ints))

pub push_run-requires-clause-apart : goal.push_run-requires-clause-apart
push_run-requires-clause-apart g c =
    let bits = c.first_bits-low.ensures in
    rw c.run_of.ensures (λ v m. c.runs.invariant.apart _ v (bits.set _ (omega arith) bits.in_order) m)

pub bits_above-rest-requires-clause-set : goal.bits_above-rest-requires-clause-set
bits_above-rest-requires-clause-set g c = let bits = c.first_bits-low.ensures in bits.set _ bits.in_order (omega arith)

pub runs-preserved : goal.runs-preserved
runs-preserved g c =
    taken_next _ c.args.word c.runs.rest c.bits_above-rest.result c.first_bits-low.result.0 c.first_bits-low.result.1 c.runs.set c.push_run.new.self c.runs.invariant
    (subst (λ run. c.push_run.new.self ≡ c.runs.set ++ run ∷ []) c.run_of.ensures c.in_ok-push_run.ensures.ok) c.first_bits-low.ensures.set c.first_bits-low.ensures.lowest
    c.first_bits-low.ensures.ends c.bits_above-rest.ensures.left

pub returns : goal.returns
returns g c =
    let taken = subst (λ base. Taken base c.args.word c.runs.rest c.runs.set) (to_z-of_z _ c.args.base c.ranges.base) c.runs.invariant in
    record {
      maximal = c.in_whole.ensures.maximal;
      members = taken_all c.args.base c.args.word c.runs.set (subst (λ rest. Taken c.args.base c.args.word rest c.runs.set) c.runs-test.false taken);
    }
