-- A list of runs that is read from the front, of which the run in hand may be put back.
--     IsReadPast v L M      M is left of L when some runs that end below v are passed
--     put_back o L      L, and before it the run in hand, if there is one
--     IsReadTo v L o R      of L, runs that end below v are passed; then comes the run o, which does not, and R is behind it
use Rattle.std.specs.Prelude.{◌≡◌, ℤ, ◌≤ℤ◌, List, [], ◌∷◌, ◌++◌, Option, Some, None, MatchOption}
use Rattle.ivl_places.specs.Places.{EndBelow}

pub record IsReadPast (v : ℤ) (L M : List (ℤ × ℤ)) : Type 0 where
  pub passed : List (ℤ × ℤ)
  pub list : L ≡ passed ++ M
  pub below : EndBelow v passed

abbrev pub put_back : Option (ℤ × ℤ) → List (ℤ × ℤ) → List (ℤ × ℤ)
put_back None L = L
put_back (Some run) L = run ∷ L

-- where there is no such run, all are passed
pub record IsReadTo (v : ℤ) (L : List (ℤ × ℤ)) (o : Option (ℤ × ℤ)) (R : List (ℤ × ℤ)) : Type 0 where
  pub passed : IsReadPast v L (put_back o R)
  pub next : MatchOption o (R ≡ []) (λ run. v ≤ℤ run.1)
