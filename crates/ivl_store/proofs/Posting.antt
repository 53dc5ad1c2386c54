-- What a list of posts leaves, post by post.
use Rattle.std.proofs.Common.{◌≡◌, ◌↔◌, ℕ, ◌+◌, ◌<◌, ◌≤◌, refl, sym, ap, subst, arith, ◌∙◌, List, [], ◌∷◌, ◌++◌, length, get_or, take, drop, Bool, false, below_more}
use Rattle.std.specs.Prelude.{ℤ, All, IsTrue}
use Rattle.std.proofs.Math.ListN.{get_or-append}
use Rattle.std.proofs.lemmas.List.{take_more, take-append-drop, take_all, get_or_push, length_push}
use Rattle.std.proofs.lemmas.List.Elements.{All-nil, All-cons, All-take}
use Rattle.std.proofs.lemmas.Bool.Decides.{nat_tests}
use Rattle.std.proofs.Common.{zero, suc, cond, leb}
use Rattle.std.specs.Prelude.{Some, None}
use Rattle.intervallum.proofs.Options.{or_none}
use Rattle.ivl_store.proofs.Lists.{All-first, All-rest, All-head}
use Rattle.ivl_store.specs.declared.store.constraint.Constraint.{Constraint}
use Rattle.ivl_store.specs.declared.store.post.Post.{Post}
use Rattle.ivl_store.specs.declared.store.post.Post.TheVariants.{Restrict, Require}
use Rattle.ivl_laws.specs.Families.{set_at}
use Rattle.ivl_store.specs.Solutions.{AreDistinct, Supports, LiesWithin, IsGreatestFamily}
use Rattle.ivl_store.specs.Narrowing.{IsFixed, Keeps, AllPresent}
use Rattle.ivl_store.specs.Posts.{constraints_of, AllAllow, CutBy, IsLeftBy, HasEmpty, AnswersPost, CutKeeps, IsKnown, unknown_in, first_unknown_post}
use Rattle.ivl_store.proofs.Places.{all_present}
use Rattle.ivl_store.proofs.Rounds.{fixed_greatest}

-- the constraints of two lists of posts
pub constraints_of-append : {B O : Type 0} (ps qs : List (Post B O)) → constraints_of (ps ++ qs) ≡ constraints_of ps ++ constraints_of qs
constraints_of-append [] qs = refl
constraints_of-append (Restrict i s ∷ ps) qs = constraints_of-append ps qs
constraints_of-append (Require c ∷ ps) qs = ap (λ cs. c ∷ cs) (constraints_of-append ps qs)

-- what two lists of posts allow, each of them allows
pub AllAllow-parts : {B O : Type 0} (ps qs : List (Post B O)) (i : ℕ) (v : ℤ) → AllAllow (ps ++ qs) i v → AllAllow ps i v × AllAllow qs i v
AllAllow-parts [] qs i v h = (tt, h)
AllAllow-parts (Restrict j s ∷ ps) qs i v h = let k = AllAllow-parts ps qs i v h.1 in ((h.0, k.0), k.1)
AllAllow-parts (Require c ∷ ps) qs i v h = AllAllow-parts ps qs i v h

-- and the other way round
pub AllAllow-append : {B O : Type 0} (ps qs : List (Post B O)) (i : ℕ) (v : ℤ) → AllAllow ps i v → AllAllow qs i v → AllAllow (ps ++ qs) i v
AllAllow-append [] qs i v h k = k
AllAllow-append (Restrict j s ∷ ps) qs i v h k = (h.0, AllAllow-append ps qs i v h.1 k)
AllAllow-append (Require c ∷ ps) qs i v h k = AllAllow-append ps qs i v h k

-- a property of the constraints of all posts is one of those of the first posts
pub All-first_posts : {B O : Type 0} (P : Constraint → Type 0) (ps qs : List (Post B O)) → All P (constraints_of (ps ++ qs)) → All P (constraints_of ps)
All-first_posts P ps qs h = All-first P (constraints_of ps) (constraints_of qs) (subst (All P) (constraints_of-append ps qs) h)

-- where each post is known, its constraint names variables of the store
pub known_present : {B O : Type 0} (count : ℕ) (posts : List (Post B O)) → All (IsKnown count) posts → All (AllPresent count) (constraints_of posts)
known_present count [] h = All-nil (AllPresent count)
known_present count (Restrict i s ∷ posts) h = known_present count posts (All-rest (IsKnown count) (Restrict i s) posts h)
known_present count (Require c ∷ posts) h =
    All-cons (AllPresent count) c (constraints_of posts) (All-head (IsKnown count) (Require c) posts h) (known_present count posts (All-rest (IsKnown count) (Require c) posts h))

-- where no index of a post is unknown, the post is known
post_known : {B O : Type 0} (count : ℕ) (post : Post B O) → unknown_in count post ≡ None → IsKnown count post
post_known count (Restrict i s) h = below count i h
  where
    below : (count i : ℕ) → cond (leb count i) (Some i) None ≡ None → i < count
    below count i h = grind (arith, nat_tests)
post_known count (Require c) h = all_present count c h

-- where no index of the posts is unknown, each post is known
pub posts_known : {B O : Type 0} (count : ℕ) (posts : List (Post B O)) → first_unknown_post count posts ≡ None → All (IsKnown count) posts
posts_known count [] h = All-nil (IsKnown count)
posts_known count (post ∷ posts) h =
    let n = or_none (unknown_in count post) (first_unknown_post count posts) h in
    All-cons (IsKnown count) post posts (post_known count post n.0) (posts_known count posts n.1)

-- no posts leave the family as it is
pub left_none : {B O : Type 0} (posts : List (Post B O)) (old : List (List (ℤ × ℤ))) → posts ≡ [] → IsLeftBy posts (set_at old) (set_at old)
left_none posts old e = subst (λ ps. IsLeftBy ps (set_at old) (set_at old)) (sym e) (record {
  within = (λ i v h. (h, tt));
  supported = All-nil (λ c. Supports c (set_at old));
  greatest = (λ other w s i v h. (w i v h).0);
})

-- The step from post to post: what some posts leave, cut by more posts and then the greatest for the
-- constraints of all, is what all the posts leave.
pub left_more : {B O : Type 0} (ps qs : List (Post B O)) (old mid new : List (List (ℤ × ℤ))) → IsLeftBy ps (set_at old) (set_at mid)
    → IsGreatestFamily (constraints_of (ps ++ qs)) (CutBy qs (set_at mid)) (set_at new) → IsLeftBy (ps ++ qs) (set_at old) (set_at new)
left_more ps qs old mid new g h = record {
  within = (λ i v m. let u = h.within i v m in let w = g.within i v u.0 in (w.0, AllAllow-append ps qs i v w.1 u.1));
  supported = h.supported;
  greatest = (λ other w s.
      let first = g.greatest other (λ i v m. let u = w i v m in (u.0, (AllAllow-parts ps qs i v u.1).0)) (All-first_posts (λ c. Supports c (set_at other)) ps qs s) in
      h.greatest other (λ i v m. (first i v m, (AllAllow-parts ps qs i v (w i v m).1).1)) s);
}

-- the greatest family for more posts lies within that for the first of them
pub left_shrinks : {B O : Type 0} (ps qs : List (Post B O)) (old family after : List (List (ℤ × ℤ))) → IsLeftBy ps (set_at old) (set_at family)
    → IsLeftBy (ps ++ qs) (set_at old) (set_at after) → LiesWithin (set_at after) (set_at family)
left_shrinks ps qs old family after g h =
    g.greatest after (λ i v m. let u = h.within i v m in (u.0, (AllAllow-parts ps qs i v u.1).0)) (All-first_posts (λ c. Supports c (set_at after)) ps qs h.supported)

-- domains that the posts left keep what the posts leave
pub left_keeps : {B O : Type 0} (posts : List (Post B O)) (old new : List (List (ℤ × ℤ))) → IsLeftBy posts (set_at old) (set_at new)
    → CutKeeps (constraints_of posts) posts old new
left_keeps posts old new g = record {
  within = (λ i v h. (g.within i v h).0);
  families = (λ f s w. g.greatest f w s);
}

-- a cut and then narrowings keep it
pub CutKeeps-narrowed : {B O : Type 0} (constraints more : List Constraint) (posts : List (Post B O)) (old mid new : List (List (ℤ × ℤ)))
    → more ≡ constraints
    → ((i : ℕ) (v : ℤ) → set_at mid i v ↔ CutBy posts (set_at old) i v) → Keeps more mid new → CutKeeps constraints posts old new
CutKeeps-narrowed constraints more posts old mid new e m k = subst (λ cs. CutKeeps cs posts old new) e (record {
  within = (λ i v h. ((m i v).0 (k.within i v h)).0);
  families = (λ f s w. k.families f s (λ i v h. (m i v).1 (w i v h)));
})

-- a cut and then narrowings to the fixed point give the greatest family for the cut
pub cut_greatest : {B O : Type 0} (constraints : List Constraint) (posts : List (Post B O)) (old mid new : List (List (ℤ × ℤ)))
    → ((i : ℕ) (v : ℤ) → set_at mid i v ↔ CutBy posts (set_at old) i v) → Keeps constraints mid new
    → All (IsFixed (set_at new)) constraints → All AreDistinct constraints → IsGreatestFamily constraints (CutBy posts (set_at old)) (set_at new)
cut_greatest constraints posts old mid new m k fixed distinct =
    let g = fixed_greatest constraints mid new k distinct fixed in
    record {
      within = (λ i v h. (m i v).0 (g.within i v h));
      supported = g.supported;
      greatest = (λ other w s. g.greatest other (λ i v h. (m i v).1 (w i v h)) s);
    }

-- what was kept by more posts after the first is kept by all
pub CutKeeps-more : {B O : Type 0} (ps qs rest : List (Post B O)) (old mid new : List (List (ℤ × ℤ))) → IsLeftBy ps (set_at old) (set_at mid)
    → CutKeeps (constraints_of (ps ++ qs)) qs mid new → CutKeeps (constraints_of ((ps ++ qs) ++ rest)) ((ps ++ qs) ++ rest) old new
CutKeeps-more ps qs rest old mid new g k = record {
  within = (λ i v h. (g.within i v (k.within i v h)).0);
  families = (λ f s w.
      let both = All-first_posts (λ c. Supports c (set_at f)) (ps ++ qs) rest s in
      let allowed = λ (i : ℕ) (v : ℤ) (h : set_at f i v). AllAllow-parts ps qs i v (AllAllow-parts (ps ++ qs) rest i v (w i v h).1).0 in
      let first = g.greatest f (λ i v h. ((w i v h).0, (allowed i v h).0)) (All-first_posts (λ c. Supports c (set_at f)) ps qs both) in
      k.families f both (λ i v h. (first i v h, (allowed i v h).1)));
}

-- the posts as far as they have been taken
pub record PostedSoFar {B O : Type 0} (posts : List (Post B O)) (old now : List (List (ℤ × ℤ))) (constraints : List Constraint) (replies : List Bool) (k : ℕ) : Type 0 where
  pub same_count : length now ≡ length old
  pub constraints_are : constraints ≡ constraints_of (take k posts)
  pub left : IsLeftBy (take k posts) (set_at old) (set_at now)
  pub one_each : length replies ≡ k
  pub each : (j : ℕ) → j < k → AnswersPost (take (j + 1) posts) old (get_or replies j false)

-- one more post stands at the end of those taken
pub next_post : {B O : Type 0} (posts : List (Post B O)) (k : ℕ) (p : Post B O) → k < length posts → p ≡ get_or posts k p → take (k + 1) posts ≡ take k posts ++ p ∷ []
next_post posts k p lt e = take_more posts k p lt ∙ ap (λ q. take k posts ++ q ∷ []) (sym e)

-- the constraints with those of one more post
pub next_constraints : {B O : Type 0} (posts : List (Post B O)) (constraints : List Constraint) (k : ℕ) (p : Post B O) → k < length posts → p ≡ get_or posts k p
    → constraints ≡ constraints_of (take k posts) → constraints ++ constraints_of (p ∷ []) ≡ constraints_of (take k posts ++ p ∷ [])
next_constraints posts constraints k p lt e f = ap (λ cs. cs ++ constraints_of (p ∷ [])) f ∙ sym (constraints_of-append (take k posts) (p ∷ []))

-- the constraints so far name variables of the store
pub posted_present : {B O : Type 0} (posts : List (Post B O)) (old now : List (List (ℤ × ℤ))) (constraints : List Constraint) (replies : List Bool) (k : ℕ)
    → All (IsKnown (length old)) posts → PostedSoFar posts old now constraints replies k → All (AllPresent (length now)) constraints
posted_present posts old now constraints replies k known so_far =
    subst (λ n. All (AllPresent n) constraints) (sym so_far.same_count)
    (subst (All (AllPresent (length old))) (sym so_far.constraints_are) (known_present (length old) (take k posts) (All-take (IsKnown (length old)) k posts known)))

-- where the call ends after a post, no family has lost what all posts leave it
pub posted_keeps : {B O : Type 0} (posts : List (Post B O)) (old mid new : List (List (ℤ × ℤ))) (constraints : List Constraint) (replies : List Bool) (k : ℕ) (p : Post B O)
    → k < length posts → p ≡ get_or posts k p → PostedSoFar posts old mid constraints replies k
    → CutKeeps (constraints ++ constraints_of (p ∷ [])) (p ∷ []) mid new → CutKeeps (constraints_of posts) posts old new
posted_keeps posts old mid new constraints replies k p lt e so_far h =
    let h' = subst (λ cs. CutKeeps cs (p ∷ []) mid new) (next_constraints posts constraints k p lt e so_far.constraints_are) h in
    subst (λ ps. CutKeeps (constraints_of ps) ps old new)
    (ap (λ ps. ps ++ drop (k + 1) posts) (sym (next_post posts k p lt e)) ∙ take-append-drop (k + 1) posts)
    (CutKeeps-more (take k posts) (p ∷ []) (drop (k + 1) posts) old mid new so_far.left h')

-- one more post, and its reply
pub posted_step : {B O : Type 0} (posts : List (Post B O)) (old mid new : List (List (ℤ × ℤ))) (constraints constraints' : List Constraint) (replies replies' : List Bool) (reply : Bool) (k : ℕ) (p : Post B O)
    → k < length posts → p ≡ get_or posts k p → All AreDistinct (constraints_of posts)
    → PostedSoFar posts old mid constraints replies k → length new ≡ length mid
    → constraints' ≡ constraints ++ constraints_of (p ∷ [])
    → (All AreDistinct constraints' → IsGreatestFamily constraints' (CutBy (p ∷ []) (set_at mid)) (set_at new))
    → (IsTrue reply ↔ HasEmpty (length new) (set_at new))
    → replies' ≡ replies ++ reply ∷ []
    → PostedSoFar posts old new constraints' replies' (k + 1)
posted_step posts old mid new constraints constraints' replies replies' reply k p lt e distinct so_far count added greatest answer pushed =
    let taken = next_post posts k p lt e in
    let all = added ∙ next_constraints posts constraints k p lt e so_far.constraints_are in
    let distinct' : All AreDistinct (constraints_of (take k posts ++ p ∷ [])) =
    subst (λ ps. All AreDistinct (constraints_of ps)) taken
    (All-first_posts AreDistinct (take (k + 1) posts) (drop (k + 1) posts) (subst (λ ps. All AreDistinct (constraints_of ps)) (sym (take-append-drop (k + 1) posts)) distinct)) in
    let g : IsGreatestFamily (constraints_of (take k posts ++ p ∷ [])) (CutBy (p ∷ []) (set_at mid)) (set_at new) =
    subst (λ cs. IsGreatestFamily cs (CutBy (p ∷ []) (set_at mid)) (set_at new)) all (greatest (subst (All AreDistinct) (sym all) distinct')) in
    let l : IsLeftBy (take (k + 1) posts) (set_at old) (set_at new) =
    subst (λ ps. IsLeftBy ps (set_at old) (set_at new)) (sym taken) (left_more (take k posts) (p ∷ []) old mid new so_far.left g) in
    let same : length new ≡ length old = count ∙ so_far.same_count in
    record {
      same_count = same;
      constraints_are = all ∙ ap constraints_of (sym taken);
      left = l;
      one_each = ap length pushed ∙ length_push replies reply ∙ ap (λ n. n + 1) so_far.one_each;
      each = below_more _ k
          (λ j below. subst (AnswersPost (take (j + 1) posts) old)
          (sym (ap (λ rs. get_or rs j false) pushed ∙ get_or-append replies (reply ∷ []) false j (let n = so_far.one_each in omega arith))) (so_far.each j below))
          (subst (AnswersPost (take (k + 1) posts) old) (sym (ap (λ rs. get_or rs k false) pushed ∙ get_or_push replies reply false k so_far.one_each))
          (record { family = new; left = l; reply_is = subst (λ n. IsTrue reply ↔ HasEmpty n (set_at new)) same answer }));
    }

-- once all posts are taken, the domains are what they leave
pub posted_left : {B O : Type 0} (posts : List (Post B O)) (old now : List (List (ℤ × ℤ))) (constraints : List Constraint) (replies : List Bool) (k : ℕ)
    → length posts ≤ k → PostedSoFar posts old now constraints replies k → IsLeftBy posts (set_at old) (set_at now)
posted_left posts old now constraints replies k done so_far = subst (λ ps. IsLeftBy ps (set_at old) (set_at now)) (take_all k posts done) so_far.left

-- one more is taken at the end, if any is left
take_suc : {X : Type 0} (k : ℕ) (xs : List X) → take (suc k) xs ≡ take k xs ++ take 1 (drop k xs)
take_suc zero xs = refl
take_suc (suc k) [] = refl
take_suc (suc k) (x ∷ xs) = ap (λ ys. x ∷ ys) (take_suc k xs)

-- the greatest family for one more post lies within that for the posts before it
pub later_within : {B O : Type 0} (posts : List (Post B O)) (k : ℕ) (old earlier later : List (List (ℤ × ℤ))) → IsLeftBy (take k posts) (set_at old) (set_at earlier)
    → IsLeftBy (take (k + 1) posts) (set_at old) (set_at later) → LiesWithin (set_at later) (set_at earlier)
later_within posts k old earlier later g h =
    let n : k + 1 ≡ suc k = omega arith in
    left_shrinks (take k posts) (take 1 (drop k posts)) old earlier later g
    (subst (λ ps. IsLeftBy ps (set_at old) (set_at later)) (ap (λ m. take m posts) n ∙ take_suc k posts) h)
