-- What a union of maximal lists keeps from step to step, and the gathering of runs one by one.
-- `written` is what stands so far, and the rests are what is still to read.
use Rattle.std.proofs.Common.{◌≡◌, ◌⊎◌, ◌↔◌, inl, inr, ⊎_elim, ℤ, List, [], ◌∷◌, subst, arith, ◌++◌, sym}
use Rattle.std.proofs.lemmas.Int.{ints}
use Rattle.ivl_laws.specs.Sets.{IsBetween, Union}
use Rattle.ivl_laws.specs.Runs.{Covers, StartsBy, IsMaximal, IsRunsOf}
use Rattle.ivl_laws.specs.Walks.{StartsFrom, TakesFirst}
use Rattle.ivl_laws.proofs.Merging.{covers-append, covers-append_left, covers-append_right, StartsBy-more}

-- nothing is written above where the rest starts
abbrev pub StartsBefore : List (ℤ × ℤ) → List (ℤ × ℤ) → Type 0
StartsBefore written [] = Unit {0}
StartsBefore written (p ∷ rest) = StartsBy p.0 written

pub StartsBefore-from : (written rest : List (ℤ × ℤ)) (n : ℤ) → StartsBy n written → StartsFrom n rest → StartsBefore written rest
StartsBefore-from written [] n s f = tt
StartsBefore-from written (p ∷ rest) n s f = StartsBy-more written n p.0 s f

pub StartsFrom-rest : (p : ℤ × ℤ) (rest : List (ℤ × ℤ)) → IsMaximal (p ∷ rest) → StartsFrom p.1 rest
StartsFrom-rest p [] m = tt
StartsFrom-rest p (q ∷ rest) m = let far = m.1 in omega (arith, ints)

-- ---- union

-- what is written and the two rests cover S
pub record IsUniting (written A B : List (ℤ × ℤ)) (S : ℤ → Type 0) : Type 0 where
  pub maximal : IsMaximal written
  pub first : IsMaximal A
  pub second : IsMaximal B
  pub before_first : StartsBefore written A
  pub before_second : StartsBefore written B
  pub members : (z : ℤ) → S z ↔ (Covers written z ⊎ (Covers A z ⊎ Covers B z))

pub uniting_begins : (A B : List (ℤ × ℤ)) → IsMaximal A → IsMaximal B → IsUniting [] A B (Union (Covers A) (Covers B))
uniting_begins A B a b = record {
  maximal = tt;
  first = a;
  second = b;
  before_first = none A;
  before_second = none B;
  members = λ z. ((λ h. inr h), ⊎_elim (λ n. absurd n) (λ h. h));
}
  where
    none : (L : List (ℤ × ℤ)) → StartsBefore [] L
    none [] = tt
    none (p ∷ L) = tt

pub uniting_swaps : (written A B : List (ℤ × ℤ)) (S : ℤ → Type 0) → IsUniting written A B S → IsUniting written B A S
uniting_swaps written A B S u = record {
  maximal = u.maximal;
  first = u.second;
  second = u.first;
  before_first = u.before_second;
  before_second = u.before_first;
  members = λ z. (
    (λ s. ⊎_elim (λ c. inl c) (⊎_elim (λ a. inr (inr a)) (λ b. inr (inl b))) ((u.members z).0 s)),
    (λ h. (u.members z).1 (⊎_elim (λ c. inl c) (⊎_elim (λ b. inr (inr b)) (λ a. inr (inl a))) h)),
  );
}

-- the first run of the rest that starts first is added
pub uniting_takes : (written added : List (ℤ × ℤ)) (p : ℤ × ℤ) (A B : List (ℤ × ℤ)) (S : ℤ → Type 0) → IsUniting written (p ∷ A) B S → StartsFrom p.0 B →
    IsRunsOf added (Union (Covers written) (IsBetween p)) → StartsBy p.0 added → IsUniting added A B S
uniting_takes written added p A B S u f r s = record {
  maximal = r.maximal;
  first = u.first.2;
  second = u.second;
  before_first = StartsBefore-from added A p.1 (StartsBy-more added p.0 p.1 s u.first.0) (StartsFrom-rest p A u.first);
  before_second = StartsBefore-from added B p.0 s f;
  members = λ z. (
    (λ t. ⊎_elim (λ c. inl ((r.members z).1 (inl c))) (⊎_elim (⊎_elim (λ b. inl ((r.members z).1 (inr b))) (λ a. inr (inl a))) (λ b. inr (inr b))) ((u.members z).0 t)),
    (λ h. (u.members z).1 (⊎_elim (λ c. ⊎_elim (λ w. inl w) (λ b. inr (inl (inl b))) ((r.members z).0 c)) (⊎_elim (λ a. inr (inl (inr a))) (λ b. inr (inr b))) h)),
  );
}

pub uniting_ends : (written : List (ℤ × ℤ)) (S : ℤ → Type 0) → IsUniting written [] [] S → IsRunsOf written S
uniting_ends written S u = record {
  maximal = u.maximal;
  members = λ z. ((λ c. (u.members z).1 (inl c)), (λ s. ⊎_elim (λ c. c) (⊎_elim (λ n. absurd n) (λ n. absurd n)) ((u.members z).0 s)));
}

-- the run that starts first is taken from the two rests, and may be added
pub uniting_next : (written added : List (ℤ × ℤ)) (A B A' B' : List (ℤ × ℤ)) (p : ℤ × ℤ) (S : ℤ → Type 0) → IsUniting written A B S → TakesFirst A B A' B' p →
    IsRunsOf added (Union (Covers written) (IsBetween p)) → StartsBy p.0 added → IsUniting added A' B' S
uniting_next written added A B A' B' p S u (inl (e, f, h)) r s =
    subst (λ (b : List (ℤ × ℤ)). IsUniting added A' b S) f
    (uniting_takes written added p A' B S (subst (λ (a : List (ℤ × ℤ)). IsUniting written a B S) e u) h r s)
uniting_next written added A B A' B' p S u (inr (e, f, h)) r s =
    subst (λ (a : List (ℤ × ℤ)). IsUniting added a B' S) f
    (uniting_swaps added B' A S (uniting_takes written added p B' A S (uniting_swaps written A (p ∷ B') S (subst (λ (b : List (ℤ × ℤ)). IsUniting written A b S) e u)) h r s))

-- ---- the runs of a list of pairs that are added one by one

pub gathering_takes : (written added done more : List (ℤ × ℤ)) (p : ℤ × ℤ) → more ≡ done ++ p ∷ [] → IsRunsOf written (Covers done) →
    IsRunsOf added (Union (Covers written) (IsBetween p)) → IsRunsOf added (Covers more)
gathering_takes written added done more p e r s = subst (λ (l : List (ℤ × ℤ)). IsRunsOf added (Covers l)) (sym e) (record {
  maximal = s.maximal;
  members = λ z. (
    (λ c. ⊎_elim (λ w. covers-append_left done (p ∷ []) z ((r.members z).0 w)) (λ b. covers-append_right done (p ∷ []) z (inl b)) ((s.members z).0 c)),
    (λ c. (s.members z).1 (⊎_elim (λ a. inl ((r.members z).1 a)) (⊎_elim (λ b. inr b) (λ n. absurd n)) (covers-append done (p ∷ []) z c))),
  );
})
