use Rattle.std.proofs.Common.{◌≡◌, ◌++◌, length}
use Rattle.std.specs.Prelude.{option_map}
use denote.Text.{Utf8}
use denote.Shadow.{shadow}
use Rattle.ivl_lines.specs.Words.{words_between}
use Rattle.ivl_lines.specs.Numbers.{pairs_of}
use Rattle.ivl_lines.proofs.numbers.pairs_from.Given as goal

-- the pairs so far stand before those of the words that are left
abbrev pub invariant-loop-l : goal.invariant-loop-l
invariant-loop-l l =
    shadow (Utf8 l.rest)
    × (pairs_of (words_between l.text) ≡ option_map (λ more. l.pairs.items ++ more) (pairs_of (words_between l.rest)))

abbrev pub decreases-loop-l : goal.decreases-loop-l
decreases-loop-l l = length l.rest
