-- What one walk over two run lists writes.
--     IsLaid S old new told L      the list has the runs of S, their number is returned, and they are laid
use Rattle.std.specs.Prelude.{◌≡◌, ℕ, ℤ, List, length}
use Rattle.ivl_laws.specs.Runs.{IsRunsOf}
use Rattle.ivl_walks.specs.Sinks.{laid}

pub record IsLaid (S : ℤ → Type 0) (old new : List (ℤ × ℤ)) (told : ℕ) (L : List (ℤ × ℤ)) : Type 0 where
  pub runs : IsRunsOf L S
  pub count : told ≡ length L
  pub room : new ≡ laid L old
