use Rattle.std.proofs.Common.{rules}
use Rattle.std.specs.Int.Signed.{lt_z}
use Rattle.std.proofs.lemmas.List.Elements.{filter_from_retain}
use Rattle.ivl_upper_pins.proofs.retained.keeps_runs_of_several.Goals as goal

pub returns-clause-kept : goal.returns-clause-kept
returns-clause-kept c = filter_from_retain _ (λ run. lt_z run.0 run.1) (λ f run b g k. search rules) _ _ _ c.in_ok-retain.ensures.ok
