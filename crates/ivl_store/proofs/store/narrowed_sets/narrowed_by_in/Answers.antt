use Rattle.std.proofs.Common.{◌≡◌, ◌∷◌, [], ◌∙◌, ℤ, List, subst}
use Rattle.std.proofs.lemmas.Result.{IfOk-weaker}
use Rattle.std.specs.Prelude.{MatchOption, Option}
use Rattle.ivl_laws.specs.Sets.{Intersection, IsBetween, IsSubset}
use Rattle.ivl_laws.specs.Runs.{Covers, IsMaximal, IsRunsOf}
use Rattle.ivl_within.specs.Within.{SumsBy}
use Rattle.intervallum.proofs.Equality.{differ_by_size, same_by_size}
use Rattle.ivl_store.proofs.NarrowedSets.{keeps_all_within, keeps_some_within, left_same, one_run, runs_keep}
use Rattle.ivl_store.proofs.store.narrowed_sets.narrowed_by_in.Goals as goal
use Rattle.ivl_store.proofs.store.narrowed_sets.narrowed_by_in.Goals.{then-ne, else-ne}

pub narrowed_run-requires-clause-one_run : goal.narrowed_run-requires-clause-one_run
narrowed_run-requires-clause-one_run g c = one_run _ _ _ (c.as_slice-runs.ensures.value ∙ c.iter.ensures.rest) c.if-runs-eq1.true c.index-runs-0.is

pub narrowed_run-requires-clause-within : goal.narrowed_run-requires-clause-within
narrowed_run-requires-clause-within g c = λ z b. ((c.pair_in_window-kept.ensures z).0 b).1

pub returns-then-second-eq1 : goal.returns-then-second-eq1
returns-then-second-eq1 g c =
    let w = g.B.Width.whole in
    let x : c.args.x.now ≡ c.index-runs-0.result ∷ [] = one_run _ _ _ (c.as_slice-runs.ensures.value ∙ c.iter.ensures.rest) c.if-runs-eq1.true c.index-runs-0.is in
    let a : c.args.a.now ≡ c.index-first-0.result ∷ [] = one_run _ _ _ (c.as_slice-first.ensures.value ∙ c.iter-2.ensures.rest) c.if-first-eq1.true c.index-first-0.is in
    let b : c.args.b.now ≡ c.index-second-0.result ∷ [] = one_run _ _ _ (c.as_slice-second.ensures.value ∙ c.iter-3.ensures.rest) c.if-second-eq1.true c.index-second-0.is in
    let filled = (subst IsMaximal a c.iter-2.ensures.runs.maximal).0 in
    let filled' = (subst IsMaximal b c.iter-3.ensures.runs.maximal).0 in
    IfOk-weaker c.narrowed_run.result _ _
    (λ left h. left_same w c.args.x.now (IsBetween c.pair_in_window-kept.result) (SumsBy c.args.op (Covers c.args.a.now) (Covers c.args.b.now)) left
    (runs_keep c.args.op _ _ _ _ _ _ c.pair_in_window-kept.result x a b filled filled' c.pair_in_window-kept.ensures) h) c.narrowed_run.ensures

pub returns : goal.returns
returns g c =
    let w = g.B.Width.whole in
    let left = Covers c.in-Some.left in
    let x = Covers c.args.x.now in
    let S = SumsBy c.args.op (Covers c.args.a.now) (Covers c.args.b.now) in
    let made : IsRunsOf c.in-Some.left (Intersection x S) = subst (λ (o : Option (List (ℤ × ℤ))). MatchOption o (IsSubset x S) (λ L. IsRunsOf L (Intersection x S))) c.in-Some.is c.in_ok-left.ensures in
    elim c.if-ne.branch [
      | then-ne b ↦ rw b.result-is (keeps_some_within w _ c.in-Some.left _ c.iter.ensures.runs made
          (differ_by_size g.met.B.Output.SizeNumber.ordered _ _ c.ne.result left x c.ne.ensures c.size.ensures c.size-2.ensures b.if-ne.true))
      | else-ne b ↦ rw b.result-is (keeps_all_within w _ c.in-Some.left _ c.iter.ensures.runs made
          (same_by_size g.met.B.Output.SizeNumber.ordered _ _ c.ne.result left x c.ne.ensures c.size.ensures c.size-2.ensures b.if-ne.false
          (λ z h. ((made.members z).0 h).0)))
    ]
