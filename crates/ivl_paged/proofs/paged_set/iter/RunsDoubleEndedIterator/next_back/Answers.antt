use Rattle.std.proofs.Common.{◌++◌, ◌∙◌, refl}
use Rattle.ivl_paged.specs.Pages.{flattened}
use Rattle.ivl_paged.proofs.Iterating.{IsReadyBack, back_as_is, back_by_first, back_by_page, empty_by, filled_by, goes_by_last, last_of_part}
use Rattle.ivl_paged.proofs.paged_set.iter.RunsDoubleEndedIterator.next_back.Goals.{then-is_empty, in-Some, in-None, else-is_empty}
use Rattle.ivl_paged.proofs.paged_set.iter.RunsDoubleEndedIterator.next_back.Goals as goal

pub returns-clause-steps : goal.returns-clause-steps
returns-clause-steps g c =
    let all = c.args.self.now in
    let old = c.self.inside in
    let now = c.if-is_empty.self-inside in
    let ready : IsReadyBack all (now.first.now ++ flattened now.between.now) now.last.now = elim c.if-is_empty.branch [
      | then-is_empty w ↦ elim w.match-split_last.branch [
        | in-Some v ↦ rw (w.self-inside-is, v.self-is, v.self-inside-is) (back_by_page all old.first.now old.last.now _ v.in-Some.page.now old.between.now v.in-Some.rest.now c.self.view_is (empty_by _ old.last.now c.is_empty.ensures w.if-is_empty.true) v.in-Some.ensures.cases.0 (v.runs-self-inside.ensures.same ∙ v.set.ensures.same) v.set.ensures.some)
        | in-None v ↦ rw (w.self-inside-is, v.self-is, v.self-inside-is, v.replace-self-inside.ensures.value, v.replace-self-inside.ensures.after) (back_by_first all old.first.now old.last.now _ old.between.now c.self.view_is (empty_by _ old.last.now c.is_empty.ensures w.if-is_empty.true) v.in-None.ensures.cases refl)
      ]
      | else-is_empty w ↦ rw w.self-inside-is (back_as_is all old.first.now (flattened old.between.now) old.last.now c.self.view_is (filled_by _ old.last.now c.is_empty.ensures w.if-is_empty.false))
    ] in
    last_of_part all (now.first.now ++ flattened now.between.now) now.last.now _ c.take_last.result ready c.take_last.ensures

pub returns-clause-goes : goal.returns-clause-goes
returns-clause-goes g c = goes_by_last c.args.self.now _ c.take_last.result (returns-clause-steps g c)
