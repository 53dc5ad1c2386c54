use Rattle.std.proofs.Common.{◌≡◌, length}
use denote.Text.{Utf8}
use denote.Shadow.{shadow}
use Rattle.std.specs.Prelude.{bytes_eq}
use Rattle.std.specs.List.{list_any}
use Rattle.ivl_lines.specs.Words.{words_between}
use Rattle.ivl_store_lines.proofs.different.has_name.Given as goal

-- the names that were passed over are others
abbrev pub invariant-loop-other : goal.invariant-loop-other
invariant-loop-other l = shadow (Utf8 l.rest) × (list_any (λ other. bytes_eq l.name other) (words_between l.names) ≡ list_any (λ other. bytes_eq l.name other) (words_between l.rest))

abbrev pub decreases-loop-other : goal.decreases-loop-other
decreases-loop-other l = length l.rest
