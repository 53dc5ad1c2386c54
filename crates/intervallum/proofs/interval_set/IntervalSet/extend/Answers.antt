use Rattle.std.proofs.Common.{refl, ⊎_elim, inl, inr, ℤ, List, [], ◌∷◌, Option, Some, None}
use Rattle.std.proofs.lemmas.Result.{on_ok_weaker}
use Rattle.std.specs.Iterator.{Drains}
use Rattle.ivl_laws.specs.Sets.{IsBetween, Union}
use Rattle.ivl_laws.specs.Runs.{Covers, IsRunsOf}
use Rattle.ivl_laws.proofs.SetLaws.{IsRunsOf-same}
use Rattle.ivl_images.proofs.Sweeping.{united_with_items}
use Rattle.intervallum.proofs.interval_set.IntervalSet.extend.Goals as goal

-- the items of an iterator that is at its end, and of one that gave x first
drained : {S A : Type 0} (steps : S → Option A → S → Type 0) (s t : S) → steps s None t → Drains steps s []
drained steps s t none = (t, (s, refl, none))

drains_first : {S A : Type 0} (steps : S → Option A → S → Type 0) (s t : S) (x : A) (xs : List A) → steps s (Some x) t → Drains steps t xs → Drains steps s (x ∷ xs)
drains_first steps s t x xs first (end, (last, yields, none)) = (end, (last, (t, first, yields), none))

-- a set with one interval is a set with a list of one
united_with_item : (all : List (ℤ × ℤ)) (item : ℤ × ℤ) (S : ℤ → Type 0) → IsRunsOf all (Union S (IsBetween item)) → IsRunsOf all (Union S (Covers (item ∷ [])))
united_with_item all item S = IsRunsOf-same (Union S (IsBetween item)) (Union S (Covers (item ∷ []))) all (λ z. (
  ⊎_elim (λ s. inl s) (λ b. inr (inl b)),
  ⊎_elim (λ s. inl s) (⊎_elim (λ b. inr b) (λ n. absurd n)),
))

pub returns-in_default-next-clause-ok : goal.returns-in_default-next-clause-ok
returns-in_default-next-clause-ok g c =
    let first = c.in-Some.first in
    let items = drains_first g.I.Iterator.next_gives c.args.iterator c.next.new.self first [] c.in-Some.ensures.steps (drained g.I.Iterator.next_gives c.next.new.self c.next-2.new.self c.in_default-next.ensures.steps) in
    on_ok_weaker c.insert_interval.result (λ runs. (first ∷ [], items, united_with_item c.insert_interval.new.self first (Covers c.args.self.now) runs)) c.insert_interval.ensures.ok

pub returns-clause-ok : goal.returns-clause-ok
returns-clause-ok g c =
    let (others, drains, gathered) = c.in_ok-added.ensures in
    let first = c.in-Some.first in
    let second = c.in-Some-next.second in
    let items = first ∷ second ∷ others in
    let after_first = drains_first g.I.Iterator.next_gives c.next.new.self c.next-2.new.self second others c.in-Some-next.ensures.steps drains in
    let all = drains_first g.I.Iterator.next_gives c.args.iterator c.next.new.self first (second ∷ others) c.in-Some.ensures.steps after_first in
    (items, all, united_with_items c.in_ok-all.all c.in_ok-added.added items (Covers c.args.self.now) gathered c.in_ok-all.ensures.members)
