-- The complement of a list of runs: what is written, and what the runs from a place on leave of the numbers above an end.
use Rattle.std.proofs.Common.{◌≡◌, inl, ⊎_elim, ◌+◌, ◌≤◌, ℤ, pos, ◌+ℤ◌, ◌-ℤ◌, List, [], ◌∷◌, length, map, refl, sym, subst, arith}
use Rattle.std.proofs.lemmas.Int.{ints}
use Rattle.std.proofs.lemmas.List.{length-map}
use Rattle.ivl_laws.specs.Bounds.{IsBoundRange}
use Rattle.ivl_laws.specs.Sets.{Complement, IsBetween}
use Rattle.ivl_laws.specs.Runs.{Covers, IsRunListIn, IsRunsOf}
use Rattle.ivl_laws.proofs.Lengths.{length_of_complement}
use Rattle.ivl_laws.proofs.Runs.{lower_end}
use Rattle.ivl_walks.specs.Sinks.{AddsAtEnd, AddsFilled}
use Rattle.ivl_walks.proofs.Complements.{IsAround, above_end, after_end, around_ends, around_next, around_starts, before_start, below_start}
use Rattle.ivl_walks.proofs.Laying.{IsHeld, lays}
use Rattle.ivl_walks.proofs.MergeState.{building_done}

pub record IsLeaving (whole : ℤ × ℤ) (e : ℤ) (L : List (ℤ × ℤ)) (S : ℤ → Type 0) (H : List (ℤ × ℤ) → Type 0) (W : List (ℤ × ℤ)) : Type 0 where
  pub around : IsAround whole W e L S
  pub held : H W

-- the range is left whole by no runs
pub leaving_all : (whole : ℤ × ℤ) (K : List (ℤ × ℤ)) (H : List (ℤ × ℤ) → Type 0) → IsBoundRange whole → K ≡ [] → H (whole ∷ []) → (L : List (ℤ × ℤ)) × IsHeld (Complement whole (Covers K)) H L
leaving_all whole K H r e h = (
  whole ∷ [],
  record {
    runs = subst (λ (M : List (ℤ × ℤ)). IsRunsOf (whole ∷ []) (Complement whole (Covers M))) (sym e) (record {
      maximal = (let low = r.low_at_most in let high = r.high_at_least in omega (arith, ints), tt, tt);
      members = λ z. (⊎_elim (λ b. (b, λ c. c)) (λ n. absurd n), (λ k. inl k.0));
    });
    held = h;
  },
)

module _ (whole p : ℤ × ℤ) (L : List (ℤ × ℤ)) (H H' : List (ℤ × ℤ) → Type 0) (n : IsRunListIn whole (p ∷ L)) where
  pub leaving_begins : H [] → AddsFilled (whole.0, p.0 -ℤ pos 1) H H' → (W : List (ℤ × ℤ)) × IsLeaving whole p.1 L (Complement whole (Covers (p ∷ L))) H' W
  leaving_begins h l =
      let (W, v) = lays [] (whole.0, p.0 -ℤ pos 1) H H' tt (λ x y c. absurd c) h l in
      (W, record { around = around_starts whole p L [] W (whole.0, p.0 -ℤ pos 1) n refl (below_start whole p.0 (n.within p.0 (inl (lower_end p n.maximal.0))).1) v.runs; held = v.held })

  module _ (e : ℤ) (S : ℤ → Type 0) (u : (W : List (ℤ × ℤ)) × IsLeaving whole e (p ∷ L) S H W) where
    pub leaving_after : IsBetween whole (e +ℤ pos 1)
    leaving_after = let (W, v) = u in after_end whole p e W (p ∷ L) L S v.around n refl

    pub leaving_before : IsBetween whole (p.0 -ℤ pos 1)
    leaving_before = let (W, v) = u in before_start whole p e W (p ∷ L) L S v.around n refl

    pub leaving_next : AddsAtEnd (e +ℤ pos 1, p.0 -ℤ pos 1) H H' → (W : List (ℤ × ℤ)) × IsLeaving whole p.1 L S H' W
    leaving_next l = let (W, v) = u in
        (_, record { around = around_next whole p e W (p ∷ L) L S v.around n refl (p, refl) _ refl; held = l W v.held })

pub leaving_within : (whole : ℤ × ℤ) (e : ℤ) (L : List (ℤ × ℤ)) (S : ℤ → Type 0) (H : List (ℤ × ℤ) → Type 0) → (W : List (ℤ × ℤ)) × IsLeaving whole e L S H W → IsBetween whole e
leaving_within whole e L S H (W, v) = v.around.within

pub leaving_ends : (whole : ℤ × ℤ) (e : ℤ) (L : List (ℤ × ℤ)) (S : ℤ → Type 0) (H H' : List (ℤ × ℤ) → Type 0) → L ≡ [] → AddsFilled (e +ℤ pos 1, whole.1) H H' →
    (W : List (ℤ × ℤ)) × IsLeaving whole e L S H W → (L : List (ℤ × ℤ)) × IsHeld S H' L
leaving_ends whole e L S H H' none l u =
    let (W, v) = subst (λ (M : List (ℤ × ℤ)). (W : List (ℤ × ℤ)) × IsLeaving whole e M S H W) none u in
    let b = around_ends whole whole (e +ℤ pos 1, whole.1) W [] e S v.around refl refl (above_end whole e v.around.within.0) in
    let (W', w) = lays W (e +ℤ pos 1, whole.1) H H' b.maximal b.below v.held l in
    (W', record { runs = building_done (pos 2) W W' (IsBetween (e +ℤ pos 1, whole.1)) S b w.runs; held = w.held })

pub complement_at_most : {X : Type 0} (pair : X → ℤ × ℤ) (whole : ℤ × ℤ) (a : List X) (L : List (ℤ × ℤ)) → IsRunsOf L (Complement whole (Covers (map pair a))) → length L ≤ length a + 1
complement_at_most pair whole a L r = let few = length_of_complement whole (map pair a) L r in let same = length-map a pair in omega (arith, few, same)
