use Rattle.std.proofs.Common.{◌≡◌, ◌≤ℤ◌, List, ℤ, subst, sym, take_all}
use Rattle.ivl_laws.specs.Sets.{Without}
use Rattle.ivl_laws.specs.Runs.{Covers, IsRunsOf}
use Rattle.ivl_laws.proofs.Places.{open_at}
use Rattle.ivl_paged.specs.InPlace.{AreCut, AreTouching, IsAddedIfApart}
use Rattle.ivl_paged.proofs.InPlace.{added_are_cut, added_more, added_same, added_undone, on_err_holds, on_ok_there}
use Rattle.ivl_paged.proofs.paged_set.PagedSet.insert_apart.Goals as goal

pub insert_if_apart-requires : goal.insert_if_apart-requires
insert_if_apart-requires g c =
    let F : ℤ × ℤ → Type 0 = λ r. r.0 ≤ℤ r.1 in
    subst F (sym c.run-item.is) (open_at c.args.runs.now c.loop-run.run-index c.run-item.result c.requires c.loop-run-test.true)

pub remove_each-requires : goal.remove_each-requires
remove_each-requires g c =
    let same = on_err_holds ((c.insert_if_apart.new.self ≡ c.loop-run.self) × (c.insert_if_apart.new.added.items ≡ c.loop-run.added.items)) c.insert_if_apart.result c.is_err.result c.is_err.ensures.value c.if-is_err.true c.insert_if_apart.ensures.err in
    let s = added_same c.args.self.now c.loop-run.self c.insert_if_apart.new.self c.loop-run.added.items c.insert_if_apart.new.added.items c.args.runs.now c.loop-run.run-index c.loop-run.invariant same in
    subst (λ (L : List (ℤ × ℤ)). AreCut (Covers c.insert_if_apart.new.self) L) (sym c.deref.ensures.value)
    (added_are_cut c.args.self.now c.insert_if_apart.new.self c.insert_if_apart.new.added.items c.args.runs.now c.loop-run.run-index s)

pub returns-then-is_err-clause-err : goal.returns-then-is_err-clause-err
returns-then-is_err-clause-err g c =
    let same = on_err_holds ((c.insert_if_apart.new.self ≡ c.loop-run.self) × (c.insert_if_apart.new.added.items ≡ c.loop-run.added.items)) c.insert_if_apart.result c.is_err.result c.is_err.ensures.value c.if-is_err.true c.insert_if_apart.ensures.err in
    let s = added_same c.args.self.now c.loop-run.self c.insert_if_apart.new.self c.loop-run.added.items c.insert_if_apart.new.added.items c.args.runs.now c.loop-run.run-index c.loop-run.invariant same in
    added_undone c.args.self.now c.insert_if_apart.new.self c.remove_each.new.self c.insert_if_apart.new.added.items c.args.runs.now c.loop-run.run-index c.in_whole.ensures.maximal s
    (subst (λ (L : List (ℤ × ℤ)). IsRunsOf c.remove_each.new.self (Without (Covers c.insert_if_apart.new.self) (Covers L))) c.deref.ensures.value c.remove_each.ensures)

pub loop-run-preserved : goal.loop-run-preserved
loop-run-preserved g c =
    let F : ℤ × ℤ → Type 0 = λ r. r.0 ≤ℤ r.1 in
    added_more c.args.self.now c.loop-run.self c.insert_if_apart.new.self c.loop-run.added.items c.insert_if_apart.new.added.items c.args.runs.now c.loop-run.run-index c.run-item.result c.loop-run-test.true c.run-item.is
    (subst F (sym c.run-item.is) (open_at c.args.runs.now c.loop-run.run-index c.run-item.result c.requires c.loop-run-test.true)) c.loop-run.invariant
    (on_ok_there (IsAddedIfApart c.loop-run.self c.insert_if_apart.new.self c.loop-run.added.items c.insert_if_apart.new.added.items c.run-item.result) c.insert_if_apart.result c.is_err.result c.is_err.ensures.value c.if-is_err.false c.insert_if_apart.ensures.ok)

pub returns-clause-touching : goal.returns-clause-touching
returns-clause-touching g c = subst (λ (L : List (ℤ × ℤ)). AreTouching (Covers c.loop-run.self) L) (take_all c.loop-run.run-index c.args.runs.now c.loop-run-test.false) c.loop-run.invariant.touching
