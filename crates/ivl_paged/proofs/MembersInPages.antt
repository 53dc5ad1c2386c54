-- The members of runs in pages, one by one: what the iterator over them does beside that over a list.
use Rattle.std.proofs.Common.{◌≡◌, ◌∙◌, ℤ, List, [], ◌∷◌, ◌++◌, All, ap, length, sym, subst, Some, None, refl}
use Rattle.std.specs.Prelude.{Option}
use Rattle.std.specs.Iterator.{YieldsFirst, YieldsLast}
use Rattle.ivl_laws.specs.Sets.{HasSome, Intersection, IsBetween, IsCrossed, SameMembers}
use Rattle.ivl_laws.specs.Runs.{IsRunsOf}
use Rattle.ivl_places.specs.Members.{members_of, numbers_of}
use Rattle.ivl_places.specs.Windows.{OfRunsThatMeet}
use Rattle.ivl_places.proofs.Members.{IsReady, IsReadyBack, back_by_first, ready_by_last}
use Rattle.ivl_places.proofs.MembersWithin.{IsListWithin, of_none, of_one}

-- no run is left between the ends; B' is what a look for one leaves
pub ready_at_end : (all : List ℤ) (F L E : ℤ × ℤ) (B B' : List (ℤ × ℤ)) → numbers_of F ++ members_of B ++ numbers_of L ≡ all → IsCrossed F → IsCrossed E → B ≡ [] → B' ≡ [] →
    IsReady all (numbers_of L) (members_of B' ++ numbers_of E)
ready_at_end all F L E B B' e c d n n' = subst (λ (K : List (ℤ × ℤ)). IsReady all (numbers_of L) (members_of K ++ numbers_of E)) (n ∙ sym n') (ready_by_last all F L E B e c d (ap length n))

pub back_at_end : (all : List ℤ) (F L E : ℤ × ℤ) (B B' : List (ℤ × ℤ)) → numbers_of F ++ members_of B ++ numbers_of L ≡ all → IsCrossed L → IsCrossed E → B ≡ [] → B' ≡ [] →
    IsReadyBack all (numbers_of E ++ members_of B') (numbers_of F)
back_at_end all F L E B B' e c d n n' = subst (λ (K : List (ℤ × ℤ)). IsReadyBack all (numbers_of E ++ members_of K) (numbers_of F)) (n ∙ sym n') (back_by_first all F L E B e c d (ap length n))

pub of_no_run : (S : ℤ → Type 0) (W E E' : ℤ × ℤ) (K K' : List (ℤ × ℤ)) → IsRunsOf K (OfRunsThatMeet (IsBetween W) S) → K ≡ [] → K' ≡ [] → IsCrossed E → IsCrossed E' →
    IsListWithin S W (numbers_of E ++ members_of K' ++ numbers_of E')
of_no_run S W E E' K K' k n n' c d = subst (λ (J : List (ℤ × ℤ)). IsListWithin S W (numbers_of E ++ members_of J ++ numbers_of E')) (n ∙ sym n') (of_none S W E E' K k (ap length n) c d)

-- where no run came, none was there and none is left
pub none_came : (A A' : List (ℤ × ℤ)) (r : Option (ℤ × ℤ)) → YieldsFirst (λ (l : List (ℤ × ℤ)). l) A r A' → ((x : ℤ × ℤ) → ¬ (r ≡ Some x)) → (A ≡ []) × (A' ≡ [])
none_came A A' None y n = (y.0, y.1)
none_came A A' (Some x) y n = absurd (n x refl)

pub none_came_back : (A A' : List (ℤ × ℤ)) (r : Option (ℤ × ℤ)) → YieldsLast (λ (l : List (ℤ × ℤ)). l) A r A' → ((x : ℤ × ℤ) → ¬ (r ≡ Some x)) → (A ≡ []) × (A' ≡ [])
none_came_back A A' None y n = (y.0, y.1)
none_came_back A A' (Some x) y n = absurd (n x refl)

pub of_one_run : (S : ℤ → Type 0) (W p F E : ℤ × ℤ) (K R R' : List (ℤ × ℤ)) → IsRunsOf K (OfRunsThatMeet (IsBetween W) S) → All (λ run. HasSome (Intersection (IsBetween run) (IsBetween W))) K → K ≡ p ∷ R → R ≡ [] → R' ≡ [] →
    SameMembers (IsBetween F) (Intersection (IsBetween p) (IsBetween W)) → IsCrossed E → IsListWithin S W (numbers_of F ++ members_of R' ++ numbers_of E)
of_one_run S W p F E K R R' k h e n n' f c = subst (λ (J : List (ℤ × ℤ)). IsListWithin S W (numbers_of F ++ members_of J ++ numbers_of E)) (n ∙ sym n') (of_one S W p F E K R k h e (ap length n) f c)
