use Rattle.std.proofs.Common.{◌≡◌, ◌⊎◌, ℕ, take}
use Rattle.std.specs.Prelude.{All}
use Rattle.ivl_laws.specs.Runs.{Covers}
use Rattle.ivl_paged.specs.Longests.{HasLong, NoneLonger}
use Rattle.ivl_paged.proofs.longests.longest_of.Given as goal

-- no run of the pages so far is longer, and one is as long
abbrev pub invariant-loop-page : goal.invariant-loop-page
invariant-loop-page g l =
    All (λ L. NoneLonger (g.B.Output.SizeNumber.size l.most) (Covers L)) (take l.page-index l.pages) × ((g.B.Output.SizeNumber.size l.most ≡ 0) ⊎ ((k : ℕ) × HasLong (g.B.Output.SizeNumber.size l.most) l.pages k))
