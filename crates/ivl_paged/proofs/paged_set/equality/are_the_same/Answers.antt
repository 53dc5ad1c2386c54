use Rattle.std.proofs.Common.{◌≡◌, ◌∙◌, sym, true, false}
use Rattle.ivl_paged.proofs.Iterating.{IsSameSoFar, differ_here, ends_differ, never, same_by_ends, same_further, same_so_far}
use Rattle.ivl_paged.proofs.paged_set.equality.are_the_same.Goals.{in-Some-next, in-None}
use Rattle.ivl_paged.proofs.paged_set.equality.are_the_same.Goals as goal

pub runs-init : goal.runs-init
runs-init g c = same_so_far c.args.a c.args.b

pub returns-then-not-is_same : goal.returns-then-not-is_same
returns-then-not-is_same g c = never (c.args.a ≡ c.args.b) (
    elim c.match-next-2.branch [
      | in-Some-next w ↦ differ_here c.args.a c.args.b c.runs.a c.runs.b c.next.new.self c.next-in-Some.new.self c.in-Some.run' w.in-Some-next.other c.runs.invariant c.in-Some.ensures.steps w.in-Some-next.ensures.steps
          (sym w.eq-is_same.ensures.value ∙ sym w.is_same-is ∙ c.if-not-is_same.true)
      | in-None w ↦ ends_differ c.args.a c.args.b c.runs.a c.runs.b c.next.new.self c.in-Some.run' c.runs.invariant c.in-Some.ensures.steps w.in-None.ensures.steps.0
    ])

pub runs-preserved : goal.runs-preserved
runs-preserved g c =
    let next : IsSameSoFar c.args.a c.args.b c.next.new.self c.next-in-Some.new.self = elim c.match-next-2.branch [
      | in-Some-next w ↦ same_further c.args.a c.args.b c.runs.a c.runs.b c.next.new.self c.next-in-Some.new.self c.in-Some.run' w.in-Some-next.other c.requires.left c.runs.invariant c.in-Some.ensures.steps w.in-Some-next.ensures.steps
          (sym w.eq-is_same.ensures.value ∙ sym w.is_same-is ∙ c.if-not-is_same.false)
      | in-None w ↦ absurd (let e : true ≡ false = sym c.if-not-is_same.false ∙ w.is_same-is in cc)
    ] in
    next

pub returns : goal.returns
returns g c = same_by_ends c.args.a c.args.b c.runs.a c.next.new.self c.runs.b c.next-2.new.self c.next.result c.next-2.result c.is_none.result c.runs.invariant c.next.ensures.steps c.in_default.not-Some c.next-2.ensures.steps c.is_none.ensures
