use Rattle.std.proofs.Common.{◌≡◌, ◌≤ℤ◌, List, ℤ, subst, sym, take_all}
use Rattle.ivl_laws.specs.Sets.{Union}
use Rattle.ivl_laws.specs.Runs.{Covers, IsRunsOf}
use Rattle.ivl_laws.proofs.Places.{open_at}
use Rattle.ivl_paged.specs.InPlace.{AreCut, AreTouching, IsRemovedIfInside}
use Rattle.ivl_paged.proofs.InPlace.{removed_are_touching, removed_more, removed_same, removed_undone, on_err_holds, on_ok_there}
use Rattle.ivl_paged.proofs.paged_set.PagedSet.remove_inside.Goals as goal

pub remove_if_inside-requires : goal.remove_if_inside-requires
remove_if_inside-requires g c =
    let F : ℤ × ℤ → Type 0 = λ r. r.0 ≤ℤ r.1 in
    subst F (sym c.run-item.is) (open_at c.args.runs.now c.loop-run.run-index c.run-item.result c.requires c.loop-run-test.true)

pub insert_each-requires : goal.insert_each-requires
insert_each-requires g c =
    let same = on_err_holds ((c.remove_if_inside.new.self ≡ c.loop-run.self) × (c.remove_if_inside.new.removed.items ≡ c.loop-run.removed.items)) c.remove_if_inside.result c.is_err.result c.is_err.ensures.value c.if-is_err.true c.remove_if_inside.ensures.err in
    let s = removed_same c.args.self.now c.loop-run.self c.remove_if_inside.new.self c.loop-run.removed.items c.remove_if_inside.new.removed.items c.args.runs.now c.loop-run.run-index c.loop-run.invariant same in
    subst (λ (L : List (ℤ × ℤ)). AreTouching (Covers c.remove_if_inside.new.self) L) (sym c.deref.ensures.value)
    (removed_are_touching c.args.self.now c.remove_if_inside.new.self c.remove_if_inside.new.removed.items c.args.runs.now c.loop-run.run-index s)

pub returns-then-is_err-clause-err : goal.returns-then-is_err-clause-err
returns-then-is_err-clause-err g c =
    let same = on_err_holds ((c.remove_if_inside.new.self ≡ c.loop-run.self) × (c.remove_if_inside.new.removed.items ≡ c.loop-run.removed.items)) c.remove_if_inside.result c.is_err.result c.is_err.ensures.value c.if-is_err.true c.remove_if_inside.ensures.err in
    let s = removed_same c.args.self.now c.loop-run.self c.remove_if_inside.new.self c.loop-run.removed.items c.remove_if_inside.new.removed.items c.args.runs.now c.loop-run.run-index c.loop-run.invariant same in
    removed_undone c.args.self.now c.remove_if_inside.new.self c.insert_each.new.self c.remove_if_inside.new.removed.items c.args.runs.now c.loop-run.run-index c.in_whole.ensures.maximal s
    (subst (λ (L : List (ℤ × ℤ)). IsRunsOf c.insert_each.new.self (Union (Covers c.remove_if_inside.new.self) (Covers L))) c.deref.ensures.value c.insert_each.ensures)

pub loop-run-preserved : goal.loop-run-preserved
loop-run-preserved g c =
    let F : ℤ × ℤ → Type 0 = λ r. r.0 ≤ℤ r.1 in
    removed_more c.args.self.now c.loop-run.self c.remove_if_inside.new.self c.loop-run.removed.items c.remove_if_inside.new.removed.items c.args.runs.now c.loop-run.run-index c.run-item.result c.loop-run-test.true c.run-item.is
    (subst F (sym c.run-item.is) (open_at c.args.runs.now c.loop-run.run-index c.run-item.result c.requires c.loop-run-test.true)) c.loop-run.invariant
    (on_ok_there (IsRemovedIfInside c.loop-run.self c.remove_if_inside.new.self c.loop-run.removed.items c.remove_if_inside.new.removed.items c.run-item.result) c.remove_if_inside.result c.is_err.result c.is_err.ensures.value c.if-is_err.false c.remove_if_inside.ensures.ok)

pub returns-clause-cut : goal.returns-clause-cut
returns-clause-cut g c = subst (λ (L : List (ℤ × ℤ)). AreCut (Covers c.loop-run.self) L) (take_all c.loop-run.run-index c.args.runs.now c.loop-run-test.false) c.loop-run.invariant.cut
