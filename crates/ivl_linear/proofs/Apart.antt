-- Where no two values of a term are apart by more than what is to spare, no member is lost.
use Rattle.std.proofs.Common.{◌≡◌, ◌↔◌, ◌⊎◌, inl, inr, ℕ, ◌<◌, ℤ, pos, ◌+ℤ◌, ◌-ℤ◌, ◌*ℤ◌, ◌≤ℤ◌, ◌<ℤ◌, List, get_or, length, sym, ap, subst, ◌∙◌, arith}
use Rattle.std.proofs.lemmas.Int.{ints}
use Rattle.ivl_linear.specs.declared.linear.Term.{Term}
use Rattle.ivl_linear.specs.declared.linear.Relation.{Relation}
use Rattle.ivl_linear.specs.declared.linear.Relation.TheVariants.{AtMost, AtLeast}
use Rattle.ivl_linear.specs.Linear.{AreOfDifferent, HasLinearPointAt, HasTermOf, sum_at}
use Rattle.ivl_linear.specs.Ends.{IsGreatestSum, IsGreatestTerm, IsLeastSum, IsLeastTerm}
use Rattle.ivl_linear.specs.Rests.{IsApartBy}
use Rattle.ivl_linear.proofs.Totals.{put, put-same}
use Rattle.ivl_linear.proofs.Support.{Holds, holds_at, named_of, place_of, put_inside, sum_at-put}

pub apart_by_ends : (a : ℤ) (S : ℤ → Type 0) (m most n : ℤ) → IsLeastTerm a S m → IsGreatestTerm a S most → (most -ℤ m) ≤ℤ n → IsApartBy a S n
apart_by_ends a S m most n low high h u v hu hv = step (a *ℤ u) (a *ℤ v) m most n (high.bound u hu) (low.bound v hv) h
  where
    step : (x y m most n : ℤ) → x ≤ℤ most → m ≤ℤ y → (most -ℤ m) ≤ℤ n → x ≤ℤ (y +ℤ n)
    step x y m most n h k l = omega (arith, ints)

supported_below : (terms : List Term) (t : Term) (bound least : ℤ) (sets : ℕ → ℤ → Type 0) → AreOfDifferent terms → Holds terms t → IsLeastSum terms sets least
    → IsApartBy t.coefficient (sets t.variable) (bound -ℤ least) → (v : ℤ) → sets t.variable v → HasLinearPointAt terms (AtMost bound) sets t.variable v
supported_below terms t bound least sets d h all apart v m =
    let p = all.reached.0 in let x = t.variable in
    record {
      point = put p x v;
      is_point = record {
        inside = put_inside terms sets p x v all.reached.1 m;
        satisfies = stays (sum_at terms (put p x v)) (t.coefficient *ℤ p x) least (t.coefficient *ℤ v) bound
            (sum_at-put terms t p v d h ∙ ap (λ (y : ℤ). y +ℤ (t.coefficient *ℤ v)) (sym all.reached.2)) (apart v (p x) m (all.reached.1 x (named_of terms t h)));
      };
      at = put-same p x v;
    }
  where
    stays : (new own least av bound : ℤ) → (new +ℤ own) ≡ (least +ℤ av) → av ≤ℤ (own +ℤ (bound -ℤ least)) → new ≤ℤ bound
    stays new own least av bound e h = omega (arith, ints)

supported_above : (terms : List Term) (t : Term) (bound greatest : ℤ) (sets : ℕ → ℤ → Type 0) → AreOfDifferent terms → Holds terms t → IsGreatestSum terms sets greatest
    → IsApartBy t.coefficient (sets t.variable) (greatest -ℤ bound) → (v : ℤ) → sets t.variable v → HasLinearPointAt terms (AtLeast bound) sets t.variable v
supported_above terms t bound greatest sets d h all apart v m =
    let p = all.reached.0 in let x = t.variable in
    record {
      point = put p x v;
      is_point = record {
        inside = put_inside terms sets p x v all.reached.1 m;
        satisfies = stays (sum_at terms (put p x v)) (t.coefficient *ℤ p x) greatest (t.coefficient *ℤ v) bound
            (sum_at-put terms t p v d h ∙ ap (λ (y : ℤ). y +ℤ (t.coefficient *ℤ v)) (sym all.reached.2)) (apart (p x) v (all.reached.1 x (named_of terms t h)) m);
      };
      at = put-same p x v;
    }
  where
    stays : (new own greatest av bound : ℤ) → (new +ℤ own) ≡ (greatest +ℤ av) → own ≤ℤ (av +ℤ (greatest -ℤ bound)) → bound ≤ℤ new
    stays new own greatest av bound e h = omega (arith, ints)

-- what holds of the variable of the term at each place holds of each variable of a term
pub at_places : (terms : List Term) (d : Term) (relation : Relation) (sets : ℕ → ℤ → Type 0)
    → ((k : ℕ) → k < length terms → (v : ℤ) → sets (get_or terms k d).variable v → HasLinearPointAt terms relation sets (get_or terms k d).variable v)
    → (i : ℕ) → HasTermOf terms i → (v : ℤ) → sets i v → HasLinearPointAt terms relation sets i v
at_places terms d relation sets h i named v m =
    let p = place_of terms i d named in
    subst (λ j. HasLinearPointAt terms relation sets j v) (sym p.2) (h p.0 p.1 v (subst (λ j. sets j v) p.2 m))

pub all_below : (terms : List Term) (e : Term) (bound least : ℤ) (sets : ℕ → ℤ → Type 0) → AreOfDifferent terms → IsLeastSum terms sets least
    → ((k : ℕ) → k < length terms → IsApartBy (get_or terms k e).coefficient (sets (get_or terms k e).variable) (bound -ℤ least))
    → (i : ℕ) → HasTermOf terms i → (v : ℤ) → sets i v → HasLinearPointAt terms (AtMost bound) sets i v
all_below terms e bound least sets d all apart =
    at_places terms e (AtMost bound) sets (λ k known. supported_below terms (get_or terms k e) bound least sets d (holds_at terms k e known) all (apart k known))

pub all_above : (terms : List Term) (e : Term) (bound greatest : ℤ) (sets : ℕ → ℤ → Type 0) → AreOfDifferent terms → IsGreatestSum terms sets greatest
    → ((k : ℕ) → k < length terms → IsApartBy (get_or terms k e).coefficient (sets (get_or terms k e).variable) (greatest -ℤ bound))
    → (i : ℕ) → HasTermOf terms i → (v : ℤ) → sets i v → HasLinearPointAt terms (AtLeast bound) sets i v
all_above terms e bound greatest sets d all apart =
    at_places terms e (AtLeast bound) sets (λ k known. supported_above terms (get_or terms k e) bound greatest sets d (holds_at terms k e known) all (apart k known))
