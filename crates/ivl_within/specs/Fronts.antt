-- Where the results that begin up to a number end, and where the next ones begin.
--     nth_by op M k      the run of M whose results with a run come at place k, where these ascend
--     IsFront S from met reach next      if met, the numbers from `from` to `reach` are in S; if not, the members of S from
--         `from` on are at `next` or above, which is above `from`
--     IsStretch S from to met reach next      if met, the numbers from `from` to `reach` are in S; the members of S from `from`
--         to `to` are these, or at `next` or above, which is above `from`
use Rattle.std.specs.Prelude.{◌≡◌, ◌⊎◌, ℕ, ◌-◌, ℤ, ◌≤ℤ◌, ◌<ℤ◌, Bool, false, IsTrue, List, length}
use Rattle.ivl_laws.specs.Sets.{IsBetween, IsSubset}
use Rattle.ivl_images.specs.Sweeps.{run_at}
use Rattle.ivl_within.specs.declared.within.Combined.{Combined}
use Rattle.ivl_within.specs.declared.within.Combined.TheVariants.{Sum, Difference}

-- a difference is the greater, the less is taken away
abbrev pub nth_by : Combined → List (ℤ × ℤ) → ℕ → ℤ × ℤ
nth_by Sum M k = run_at M k
nth_by Difference M k = run_at M ((length M - 1) - k)

pub record IsFront (S : ℤ → Type 0) (from : ℤ) (is_met : Bool) (reach next : ℤ) : Type 0 where
  pub met : IsTrue is_met → (from ≤ℤ reach) × IsSubset (IsBetween (from, reach)) S
  pub unmet : is_met ≡ false → (z : ℤ) → S z → from ≤ℤ z → (from <ℤ next) × (next ≤ℤ z)

pub record IsStretch (S : ℤ → Type 0) (from to : ℤ) (is_met : Bool) (reach next : ℤ) : Type 0 where
  pub met : IsTrue is_met → (from ≤ℤ reach) × IsSubset (IsBetween (from, reach)) S
  pub rest : (z : ℤ) → S z → IsBetween (from, to) z → (IsTrue is_met × (z ≤ℤ reach)) ⊎ ((from <ℤ next) × (next ≤ℤ z))
