use Rattle.std.proofs.Common.{◌≡◌, length}
use denote.Text.{Utf8}
use denote.Shadow.{shadow}
use Rattle.ivl_lines.specs.Words.{words_between}
use Rattle.ivl_store_lines.specs.Requests.{first_bad_number_of}
use Rattle.ivl_store_lines.proofs.request.first_bad_number.Given as goal

-- the words that were passed over are numbers
abbrev pub invariant-loop-word : goal.invariant-loop-word
invariant-loop-word l = shadow (Utf8 l.rest) × (first_bad_number_of (words_between l.words) ≡ first_bad_number_of (words_between l.rest))

abbrev pub decreases-loop-word : goal.decreases-loop-word
decreases-loop-word l = length l.rest
