use Rattle.std.proofs.lemmas.Result.{IfOk-weaker}
use Rattle.ivl_laws.specs.Runs.{Covers}
use Rattle.ivl_laws.proofs.SetLaws.{IsRunsOf-same}
use Rattle.ivl_within.specs.Within.{Clipped, SumsBy}
use Rattle.ivl_within.proofs.Clipping.{none_old}
use Rattle.ivl_within.proofs.within.combine_runs.Goals as goal

pub returns : goal.returns
returns g c =
    let S = Clipped c.args.window (SumsBy c.args.op (Covers c.args.left.now) (Covers c.args.right.now)) in
    let same = none_old _ c.push_rows.new.entries.items S c.in_ok-entries.ensures.items c.in_ok-push_rows.ensures in
    IfOk-weaker c.coalesce.result _ _ (λ L h. IsRunsOf-same (Covers c.push_rows.new.entries.items) S L same h) c.coalesce.ensures
