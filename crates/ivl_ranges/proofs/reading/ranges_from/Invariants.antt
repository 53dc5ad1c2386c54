use Rattle.std.proofs.Common.{◌≡◌, ◌++◌, ℕ, List, length}
use denote.Text.{Utf8}
use denote.Shadow.{shadow}
use Rattle.ivl_lines.specs.Words.{words_between}
use Rattle.ivl_ranges.specs.Ranges.{AreRanges}
use Rattle.ivl_ranges.proofs.reading.ranges_from.Given as goal

-- the words so far are the ranges, and those that are left follow them
abbrev pub invariant-words : goal.invariant-words
invariant-words l =
    shadow (Utf8 l.rest)
    × ((front : List (List ℕ)) × (words_between l.words ≡ front ++ words_between l.rest) × AreRanges front l.ranges.items)

abbrev pub decreases-words : goal.decreases-words
decreases-words l = length l.rest
