use Rattle.std.proofs.Common.{[], ◌∷◌, ◌≡◌, refl, subst, sym, ◌∙◌, arith}
use Rattle.std.proofs.lemmas.Result.{IfOk-weaker}
use Rattle.ivl_images.proofs.Images.{open_here_seen}
use Rattle.ivl_laws.specs.Sets.{IsBetween}
use Rattle.ivl_laws.specs.Runs.{Covers, IsMaximal}
use Rattle.ivl_laws.proofs.Adding.{untrue}
use Rattle.ivl_laws.proofs.Intervals.{not_crossed}
use Rattle.ivl_laws.proofs.SetLaws.{IsRunsOf-same}
use Rattle.ivl_within.specs.Within.{Clipped, SumsBy}
use Rattle.ivl_within.proofs.Clipping.{clipped_pair, one_item}
use Rattle.ivl_within.proofs.Windows.{none_in_window, runs_seen}
use Rattle.ivl_within.proofs.within.combine.Goals as goal

pub returns-then-is_empty : goal.returns-then-is_empty
returns-then-is_empty g c = none_in_window _ _ _ c.empty.ensures (c.is_empty.ensures.crossed.0 c.if-is_empty.true)

pub pair_in_window-requires : goal.pair_in_window-requires
pair_in_window-requires g c = record {
  left = open_here_seen c.as_slice-left.result.now c.args.a.now 0 c.index-left-0.result (c.as_slice-left.ensures.value ∙ c.iter.ensures.rest)
      c.iter.ensures.runs.maximal (omega arith) c.index-left-0.is;
  right = open_here_seen c.as_slice-right.result.now c.args.b.now 0 c.index-right-0.result (c.as_slice-right.ensures.value ∙ c.iter-2.ensures.rest)
      c.iter-2.ensures.runs.maximal (omega arith) c.index-right-0.is;
  window = not_crossed _ (untrue _ c.if-is_empty.false c.is_empty.ensures.crossed);
}

pub combine_runs-requires : goal.combine_runs-requires
combine_runs-requires g c = record {
  left = subst IsMaximal (sym (c.as_slice-left.ensures.value ∙ c.iter.ensures.rest)) c.iter.ensures.runs.maximal;
  right = c.iter-2.ensures.runs;
  window = not_crossed _ (untrue _ c.if-is_empty.false c.is_empty.ensures.crossed);
}

pub returns : goal.returns
returns g c =
    runs_seen _ c.args.op _ _ _ _ c.combine_runs.result
    (c.as_slice-left.ensures.value ∙ c.iter.ensures.rest) refl c.combine_runs.ensures

pub returns-then-right-eq1 : goal.returns-then-right-eq1
returns-then-right-eq1 g c =
    let L = c.args.a.now in
    let M = c.args.b.now in
    let p = c.index-left-0.result in
    let q = c.index-right-0.result in
    let left : c.as_slice-left.result.now ≡ L = c.as_slice-left.ensures.value ∙ c.iter.ensures.rest in
    let right : c.as_slice-right.result.now ≡ M = c.as_slice-right.ensures.value ∙ c.iter-2.ensures.rest in
    let one : L ≡ p ∷ [] = sym left ∙ one_item c.as_slice-left.result.now p (omega arith) c.index-left-0.is in
    let other : M ≡ q ∷ [] = sym right ∙ one_item c.as_slice-right.result.now q (omega arith) c.index-right-0.is in
    let filled = open_here_seen c.as_slice-left.result.now L 0 p left c.iter.ensures.runs.maximal (omega arith) c.index-left-0.is in
    let filled' = open_here_seen c.as_slice-right.result.now M 0 q right c.iter-2.ensures.runs.maximal (omega arith) c.index-right-0.is in
    let same = clipped_pair c.args.window c.args.op L M p q c.pair_in_window.result one other filled filled' c.pair_in_window.ensures in
    IfOk-weaker c.of.result _ _ (λ N h. IsRunsOf-same (IsBetween c.pair_in_window.result) (Clipped c.args.window (SumsBy c.args.op (Covers L) (Covers M))) N same h) c.of.ensures.members
