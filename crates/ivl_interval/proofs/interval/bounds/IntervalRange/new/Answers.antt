use Rattle.std.proofs.Common.{refl}
use Rattle.ivl_interval.proofs.interval.bounds.IntervalRange.new.Goals as goal

pub returns : goal.returns
returns g c = record { members = λ z. (λ b. b, λ b. b); value = refl }
