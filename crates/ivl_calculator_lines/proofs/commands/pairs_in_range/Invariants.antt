use Rattle.std.proofs.Common.{◌≡◌, length}
use denote.Text.{Utf8}
use denote.Shadow.{shadow}
use Rattle.ivl_lines.specs.Words.{words_between}
use Rattle.ivl_calculator_lines.proofs.Unkept.{and_then, fit_of}
use Rattle.ivl_calculator_lines.proofs.commands.pairs_in_range.Given as goal

-- those so far, and those of the words that are left
abbrev pub invariant-loop-l : goal.invariant-loop-l
invariant-loop-l l =
    shadow (Utf8 l.rest)
    × (fit_of (words_between l.words) ≡ and_then l.in_range (fit_of (words_between l.rest)))

abbrev pub decreases-loop-l : goal.decreases-loop-l
decreases-loop-l l = length l.rest
