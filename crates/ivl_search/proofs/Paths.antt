-- The path of a search from its root, and the solutions that are left over the other parts of its cuts.
use Rattle.std.proofs.Common.{◌≡◌, ◌<◌, ◌≤◌, ◌+◌, ℕ, ◌⊎◌, inl, inr, sym, subst, arith, refl, List, [], ◌∷◌, ◌++◌, get_or, length, take, ap, ◌∙◌}
use Rattle.std.specs.Prelude.{ℤ, ◌↔◌, All}
use Rattle.std.proofs.lemmas.List.{append-nil, append_assoc, get_or_push, length-append}
use Rattle.std.proofs.lemmas.List.Elements.{All-nil, All-cons}
use Rattle.std.proofs.Math.Seq.{take-append_seam}
use Rattle.ivl_laws.specs.Families.{set_at}
use Rattle.ivl_laws.specs.Sets.{IsBetween}
use Rattle.ivl_rules.specs.declared.rules.Rule.{Rule}
use Rattle.ivl_network.specs.Network.{IsCutAt}
use Rattle.ivl_network.specs.Trail.{RulesPast}
use Rattle.ivl_search.specs.declared.search.End.TheVariants.{All as AllFound}
use Rattle.ivl_search.specs.declared.search.choice.Wanted.{Wanted}
use Rattle.ivl_search.specs.declared.search.choice.Wanted.TheVariants.{Least, Greatest}
use Rattle.ivl_search.specs.declared.search.steps.Cut.{Cut}
use Rattle.ivl_search.specs.Best.{IsAsGood, IsBetter}
use Rattle.ivl_search.specs.Points.{Finds, SolvesRules, coordinate}
use Rattle.ivl_search.proofs.Better.{good_or_worse}
use Rattle.ivl_search.proofs.Cuts.{cut_solves}
use Rattle.ivl_search.proofs.Progress.{IsLeft, left_part}
use Rattle.std.proofs.lemmas.Int.{ints}

-- a solution over the domains before a cut, in the part that is searched first, or in the other
abbrev pub InFirst : {B : Type 0} → (B → ℤ) → Wanted → List Rule → Cut B → List (List (ℤ × ℤ)) → List ℤ → Type 0
InFirst value wanted rules cut sets point = SolvesRules rules sets point × IsAsGood wanted (value cut.value) (coordinate point cut.variable)

abbrev pub InOther : {B : Type 0} → (B → ℤ) → Wanted → List Rule → Cut B → List (List (ℤ × ℤ)) → List ℤ → Type 0
InOther value wanted rules cut sets point = SolvesRules rules sets point × IsBetter wanted (coordinate point cut.variable) (value cut.value)

-- a cut with what the network was at its mark
pub record IsStep {B : Type 0} (value : B → ℤ) (whole : ℤ × ℤ) (cs : List Rule) (n base : ℕ) (within : List ℤ → Type 0) (cut : Cut B) (past : RulesPast) : Type 0 where
  pub mark : cut.mark ≡ base
  pub rules : past.rules ≡ cs
  pub count : length past.domains ≡ n
  pub known : cut.variable < length past.domains
  pub in_range : IsBetween whole (value cut.value)
  pub inward : (point : List ℤ) → SolvesRules cs past.domains point → within point

-- each cut is made within the first part of the one before it, and the domains lie within that of the last
abbrev pub IsPath : {B : Type 0} → (B → ℤ) → Wanted → ℤ × ℤ → List Rule → ℕ → ℕ → (List ℤ → Type 0) → List (Cut B) → List RulesPast → List (List (ℤ × ℤ)) → Type 0
IsPath value wanted whole rules count base within [] [] sets = (point : List ℤ) → SolvesRules rules sets point → within point
IsPath value wanted whole rules count base within [] (past ∷ pasts) sets = ⊥
IsPath value wanted whole rules count base within (cut ∷ cuts) [] sets = ⊥
IsPath value wanted whole rules count base within (cut ∷ cuts) (past ∷ pasts) sets =
    IsStep value whole rules count base within cut past × IsPath value wanted whole rules count (base + 1) (InFirst value wanted rules cut past.domains) cuts pasts sets

-- the solutions over the other part of each cut, and those over the domains
abbrev pub Rest : {B : Type 0} → (B → ℤ) → Wanted → List Rule → List (Cut B) → List RulesPast → List (List (ℤ × ℤ)) → List ℤ → Type 0
Rest value wanted rules [] pasts sets point = SolvesRules rules sets point
Rest value wanted rules (cut ∷ cuts) [] sets point = SolvesRules rules sets point
Rest value wanted rules (cut ∷ cuts) (past ∷ pasts) sets point =
    InOther value wanted rules cut past.domains point ⊎ Rest value wanted rules cuts pasts sets point

-- the domains may lose solutions
pub path_within : {B : Type 0} (value : B → ℤ) (wanted : Wanted) (whole : ℤ × ℤ) (rules : List Rule) (count base : ℕ) (within : List ℤ → Type 0)
    (cuts : List (Cut B)) (pasts : List RulesPast) (sets less : List (List (ℤ × ℤ))) → IsPath value wanted whole rules count base within cuts pasts sets
    → ((point : List ℤ) → SolvesRules rules less point → SolvesRules rules sets point) → IsPath value wanted whole rules count base within cuts pasts less
path_within value wanted whole rules count base within [] [] sets less path inner = λ point s. path point (inner point s)
path_within value wanted whole rules count base within [] (past ∷ pasts) sets less path inner = absurd path
path_within value wanted whole rules count base within (cut ∷ cuts) [] sets less path inner = absurd path
path_within value wanted whole rules count base within (cut ∷ cuts) (past ∷ pasts) sets less path inner =
    (path.0, path_within value wanted whole rules count (base + 1) (InFirst value wanted rules cut past.domains) cuts pasts sets less path.1 inner)

-- narrowing changes none of the solutions that are left
pub rest_after : {B : Type 0} (value : B → ℤ) (wanted : Wanted) (rules : List Rule) (cuts : List (Cut B)) (pasts : List RulesPast) (sets less : List (List (ℤ × ℤ)))
    → ((point : List ℤ) → SolvesRules rules sets point ↔ SolvesRules rules less point)
    → (point : List ℤ) → Rest value wanted rules cuts pasts sets point ↔ Rest value wanted rules cuts pasts less point
rest_after value wanted rules [] pasts sets less same point = same point
rest_after value wanted rules (cut ∷ cuts) [] sets less same point = same point
rest_after value wanted rules (cut ∷ cuts) (past ∷ pasts) sets less same point =
    let others = rest_after value wanted rules cuts pasts sets less same point in (
      (λ r. elim r [ inl o ↦ inl o | inr h ↦ inr (others.0 h) ]),
      (λ r. elim r [ inl o ↦ inl o | inr h ↦ inr (others.1 h) ]),
    )

-- those over the domains are left
pub rest_here : {B : Type 0} (value : B → ℤ) (wanted : Wanted) (rules : List Rule) (cuts : List (Cut B)) (pasts : List RulesPast) (sets : List (List (ℤ × ℤ)))
    (point : List ℤ) → SolvesRules rules sets point → Rest value wanted rules cuts pasts sets point
rest_here value wanted rules [] pasts sets point s = s
rest_here value wanted rules (cut ∷ cuts) [] sets point s = s
rest_here value wanted rules (cut ∷ cuts) (past ∷ pasts) sets point s = inr (rest_here value wanted rules cuts pasts sets point s)

-- they lie within the root
pub path_here : {B : Type 0} (value : B → ℤ) (wanted : Wanted) (whole : ℤ × ℤ) (rules : List Rule) (count base : ℕ) (within : List ℤ → Type 0)
    (cuts : List (Cut B)) (pasts : List RulesPast) (sets : List (List (ℤ × ℤ))) → IsPath value wanted whole rules count base within cuts pasts sets
    → (point : List ℤ) → SolvesRules rules sets point → within point
path_here value wanted whole rules count base within [] [] sets path point s = path point s
path_here value wanted whole rules count base within [] (past ∷ pasts) sets path point s = absurd path
path_here value wanted whole rules count base within (cut ∷ cuts) [] sets path point s = absurd path
path_here value wanted whole rules count base within (cut ∷ cuts) (past ∷ pasts) sets path point s =
    path.0.inward point (path_here value wanted whole rules count (base + 1) (InFirst value wanted rules cut past.domains) cuts pasts sets path.1 point s).0

-- and so do all that are left
path_inward : {B : Type 0} (value : B → ℤ) (wanted : Wanted) (whole : ℤ × ℤ) (rules : List Rule) (count base : ℕ) (within : List ℤ → Type 0)
    (cuts : List (Cut B)) (pasts : List RulesPast) (sets : List (List (ℤ × ℤ))) → IsPath value wanted whole rules count base within cuts pasts sets
    → (point : List ℤ) → Rest value wanted rules cuts pasts sets point → within point
path_inward value wanted whole rules count base within [] [] sets path point s = path point s
path_inward value wanted whole rules count base within [] (past ∷ pasts) sets path point s = absurd path
path_inward value wanted whole rules count base within (cut ∷ cuts) [] sets path point s = absurd path
path_inward value wanted whole rules count base within (cut ∷ cuts) (past ∷ pasts) sets path point s = elim s [
  | inl o ↦ path.0.inward point o.0
  | inr h ↦ path.0.inward point (path_inward value wanted whole rules count (base + 1) (InFirst value wanted rules cut past.domains) cuts pasts sets path.1 point h).0
]

pub not_both : (wanted : Wanted) (value v : ℤ) → IsAsGood wanted value v → IsBetter wanted v value → ⊥
not_both Least value v a b = omega (arith, ints)
not_both Greatest value v a b = omega (arith, ints)

-- a cut goes in front of none
one_more : (base n : ℕ) → (base + 1) + n ≡ base + (n + 1)
one_more base n = omega arith

-- one more cut
pub path_more : {B : Type 0} (value : B → ℤ) (wanted : Wanted) (whole : ℤ × ℤ) (rules : List Rule) (count base : ℕ) (within : List ℤ → Type 0)
    (cuts : List (Cut B)) (pasts : List RulesPast) (cut : Cut B) (past : RulesPast) (low : List (List (ℤ × ℤ))) → IsPath value wanted whole rules count base within cuts pasts past.domains
    → cut.mark ≡ base + length pasts → past.rules ≡ rules → length past.domains ≡ count → cut.variable < length past.domains → IsBetween whole (value cut.value)
    → ((point : List ℤ) → SolvesRules rules low point → InFirst value wanted rules cut past.domains point)
    → IsPath value wanted whole rules count base within (cuts ++ cut ∷ []) (pasts ++ past ∷ []) low
path_more value wanted whole rules count base within [] [] cut past low path mark same counted known in_range first =
    (record { mark = omega (arith, mark); rules = same; count = counted; known = known; in_range = in_range; inward = path }, first)
path_more value wanted whole rules count base within [] (p ∷ pasts) cut past low path mark same counted known in_range first = absurd path
path_more value wanted whole rules count base within (c ∷ cuts) [] cut past low path mark same counted known in_range first = absurd path
path_more value wanted whole rules count base within (c ∷ cuts) (p ∷ pasts) cut past low path mark same counted known in_range first =
    (path.0, path_more value wanted whole rules count (base + 1) (InFirst value wanted rules c p.domains) cuts pasts cut past low path.1 (omega (arith, mark)) same counted known in_range first)

-- changes none of the solutions that are left
pub rest_more : {B : Type 0} (value : B → ℤ) (wanted : Wanted) (whole : ℤ × ℤ) (rules : List Rule) (count base : ℕ) (within : List ℤ → Type 0)
    (cuts : List (Cut B)) (pasts : List RulesPast) (cut : Cut B) (past : RulesPast) (low : List (List (ℤ × ℤ))) → IsPath value wanted whole rules count base within cuts pasts past.domains
    → ((point : List ℤ) → SolvesRules rules low point ↔ InFirst value wanted rules cut past.domains point)
    → (point : List ℤ) → Rest value wanted rules cuts pasts past.domains point ↔ Rest value wanted rules (cuts ++ cut ∷ []) (pasts ++ past ∷ []) low point
rest_more value wanted whole rules count base within [] [] cut past low path first point = (
  (λ s. elim (good_or_worse wanted (value cut.value) (coordinate point cut.variable)) [
    | inl good ↦ inr ((first point).1 (s, good))
    | inr worse ↦ inl (s, worse)
  ]),
  (λ r. elim r [ inl o ↦ o.0 | inr s ↦ ((first point).0 s).0 ]),
)
rest_more value wanted whole rules count base within [] (p ∷ pasts) cut past low path first point = absurd path
rest_more value wanted whole rules count base within (c ∷ cuts) [] cut past low path first point = absurd path
rest_more value wanted whole rules count base within (c ∷ cuts) (p ∷ pasts) cut past low path first point =
    let others = rest_more value wanted whole rules count (base + 1) (InFirst value wanted rules c p.domains) cuts pasts cut past low path.1 first point in (
      (λ r. elim r [ inl o ↦ inl o | inr h ↦ inr (others.0 h) ]),
      (λ r. elim r [ inl o ↦ inl o | inr h ↦ inr (others.1 h) ]),
    )

-- a path without its last cut
pub record IsPopped {B : Type 0} (value : B → ℤ) (wanted : Wanted) (whole : ℤ × ℤ) (cs : List Rule) (n base : ℕ) (within : List ℤ → Type 0)
    (cuts : List (Cut B)) (cut : Cut B) (pasts : List RulesPast) (sets : List (List (ℤ × ℤ))) : Type 0 where
  pub before : List RulesPast
  pub past : RulesPast
  pub split : pasts ≡ before ++ past ∷ []
  pub mark : cut.mark ≡ base + length before
  pub rules : past.rules ≡ cs
  pub count : length past.domains ≡ n
  pub known : cut.variable < length past.domains
  pub path : IsPath value wanted whole cs n base within cuts before past.domains
  pub first : (point : List ℤ) → SolvesRules cs sets point → InFirst value wanted cs cut past.domains point

pub path_popped : {B : Type 0} (value : B → ℤ) (wanted : Wanted) (whole : ℤ × ℤ) (rules : List Rule) (count base : ℕ) (within : List ℤ → Type 0)
    (cuts : List (Cut B)) (cut : Cut B) (pasts : List RulesPast) (sets : List (List (ℤ × ℤ))) → IsPath value wanted whole rules count base within (cuts ++ cut ∷ []) pasts sets
    → IsPopped value wanted whole rules count base within cuts cut pasts sets
path_popped value wanted whole rules count base within [] cut [] sets path = absurd path
path_popped value wanted whole rules count base within [] cut (past ∷ []) sets path = record {
  before = [];
  past = past;
  split = refl;
  mark = let e = path.0.mark in omega (arith, e);
  rules = path.0.rules;
  count = path.0.count;
  known = path.0.known;
  path = path.0.inward;
  first = path.1;
}
path_popped value wanted whole rules count base within [] cut (past ∷ (other ∷ pasts)) sets path = absurd path.1
path_popped value wanted whole rules count base within (c ∷ cuts) cut [] sets path = absurd path
path_popped value wanted whole rules count base within (c ∷ cuts) cut (p ∷ pasts) sets path =
    let popped = path_popped value wanted whole rules count (base + 1) (InFirst value wanted rules c p.domains) cuts cut pasts sets path.1 in record {
      before = p ∷ popped.before;
      past = popped.past;
      split = ap (λ ps. p ∷ ps) popped.split;
      mark = let e = popped.mark in omega (arith, e);
      rules = popped.rules;
      count = popped.count;
      known = popped.known;
      path = (path.0, popped.path);
      first = popped.first;
    }

-- the last cut's other part beside the rest of the path, and the domains within its first part
rest_apart : {B : Type 0} (value : B → ℤ) (wanted : Wanted) (whole : ℤ × ℤ) (rules : List Rule) (count base : ℕ) (within : List ℤ → Type 0)
    (cuts : List (Cut B)) (cut : Cut B) (before : List RulesPast) (past : RulesPast) (sets high : List (List (ℤ × ℤ)))
    → IsPath value wanted whole rules count base within cuts before past.domains
    → ((point : List ℤ) → SolvesRules rules sets point → InFirst value wanted rules cut past.domains point)
    → ((point : List ℤ) → SolvesRules rules high point ↔ InOther value wanted rules cut past.domains point)
    → (point : List ℤ) → SolvesRules rules sets point → Rest value wanted rules cuts before high point → ⊥
rest_apart value wanted whole rules count base within [] cut [] past sets high path first other point s r =
    not_both wanted (value cut.value) (coordinate point cut.variable) (first point s).1 ((other point).0 r).1
rest_apart value wanted whole rules count base within [] cut (p ∷ before) past sets high path first other point s r = absurd path
rest_apart value wanted whole rules count base within (c ∷ cuts) cut [] past sets high path first other point s r = absurd path
rest_apart value wanted whole rules count base within (c ∷ cuts) cut (p ∷ before) past sets high path first other point s r = elim r [
  | inl o ↦ not_both wanted (value c.value) (coordinate point c.variable)
      (path_here value wanted whole rules count (base + 1) (InFirst value wanted rules c p.domains) cuts before past.domains path.1 point (first point s).0).1 o.1
  | inr h ↦ rest_apart value wanted whole rules count (base + 1) (InFirst value wanted rules c p.domains) cuts cut before past sets high path.1 first other point s h
]

rest_other : {B : Type 0} (value : B → ℤ) (wanted : Wanted) (whole : ℤ × ℤ) (rules : List Rule) (count base : ℕ) (within : List ℤ → Type 0)
    (cuts : List (Cut B)) (cut : Cut B) (before : List RulesPast) (past : RulesPast) (sets high : List (List (ℤ × ℤ)))
    → IsPath value wanted whole rules count base within cuts before past.domains
    → ((point : List ℤ) → SolvesRules rules high point ↔ InOther value wanted rules cut past.domains point)
    → (point : List ℤ) → Rest value wanted rules (cuts ++ cut ∷ []) (before ++ past ∷ []) sets point
    ↔ (SolvesRules rules sets point ⊎ Rest value wanted rules cuts before high point)
rest_other value wanted whole rules count base within [] cut [] past sets high path other point = (
  (λ r. elim r [ inl o ↦ inr ((other point).1 o) | inr s ↦ inl s ]),
  (λ r. elim r [ inl s ↦ inr s | inr h ↦ inl ((other point).0 h) ]),
)
rest_other value wanted whole rules count base within [] cut (p ∷ before) past sets high path other point = absurd path
rest_other value wanted whole rules count base within (c ∷ cuts) cut [] past sets high path other point = absurd path
rest_other value wanted whole rules count base within (c ∷ cuts) cut (p ∷ before) past sets high path other point =
    let others = rest_other value wanted whole rules count (base + 1) (InFirst value wanted rules c p.domains) cuts cut before past sets high path.1 other point in (
      (λ r. elim r [ inl o ↦ inr (inl o) | inr h ↦ elim (others.0 h) [ inl s ↦ inl s | inr k ↦ inr (inr k) ] ]),
      (λ r. elim r [ inl s ↦ inr (others.1 (inl s)) | inr k ↦ elim k [ inl o ↦ inl o | inr h ↦ inr (others.1 (inr h)) ] ]),
    )

-- where the domains are searched to their end, the last cut's other part is left, and those before it
pub left_in_other : {B : Type 0} (value : B → ℤ) (wanted : Wanted) (whole : ℤ × ℤ) (rules : List Rule) (count base : ℕ) (within : List ℤ → Type 0)
    (cuts : List (Cut B)) (cut : Cut B) (pasts : List RulesPast) (sets high : List (List (ℤ × ℤ))) (found more : List (List ℤ))
    (popped : IsPopped value wanted whole rules count base within cuts cut pasts sets)
    → ((point : List ℤ) → SolvesRules rules high point ↔ InOther value wanted rules cut popped.past.domains point)
    → IsLeft within found (Rest value wanted rules (cuts ++ cut ∷ []) pasts sets) → Finds (SolvesRules rules sets) more AllFound
    → IsLeft within (found ++ more) (Rest value wanted rules cuts popped.before high)
left_in_other value wanted whole rules count base within cuts cut pasts sets high found more popped other left finds =
    let here = subst (λ ps. IsLeft within found (Rest value wanted rules (cuts ++ cut ∷ []) ps sets)) popped.split left in
    let parts = rest_other value wanted whole rules count base within cuts cut popped.before popped.past sets high popped.path other in
    left_part within (Rest value wanted rules (cuts ++ cut ∷ []) (popped.before ++ popped.past ∷ []) sets) (SolvesRules rules sets)
    (Rest value wanted rules cuts popped.before high) found more here finds
    (λ point s. (parts point).1 (inl s))
    (λ point r. (parts point).1 (inr r))
    (rest_apart value wanted whole rules count base within cuts cut popped.before popped.past sets high popped.path popped.first other)
    (λ point r. (parts point).0 r)

-- the cuts are in the range, and their marks are marks of the network
pub path_in_range : {B : Type 0} (value : B → ℤ) (wanted : Wanted) (whole : ℤ × ℤ) (rules : List Rule) (count base : ℕ) (within : List ℤ → Type 0)
    (cuts : List (Cut B)) (pasts : List RulesPast) (sets : List (List (ℤ × ℤ))) → IsPath value wanted whole rules count base within cuts pasts sets
    → All (λ cut. IsBetween whole (value cut.value)) cuts
path_in_range value wanted whole rules count base within [] pasts sets path = All-nil (λ cut. IsBetween whole (value cut.value))
path_in_range value wanted whole rules count base within (cut ∷ cuts) [] sets path = absurd path
path_in_range value wanted whole rules count base within (cut ∷ cuts) (past ∷ pasts) sets path =
    All-cons (λ cut. IsBetween whole (value cut.value)) cut cuts path.0.in_range (path_in_range value wanted whole rules count (base + 1) (InFirst value wanted rules cut past.domains) cuts pasts sets path.1)

pub path_known : {B : Type 0} (value : B → ℤ) (wanted : Wanted) (whole : ℤ × ℤ) (rules : List Rule) (count base : ℕ) (within : List ℤ → Type 0)
    (cuts : List (Cut B)) (pasts : List RulesPast) (sets : List (List (ℤ × ℤ))) (n : ℕ) → IsPath value wanted whole rules count base within cuts pasts sets
    → base + length pasts ≤ n → All (λ cut. cut.mark < n) cuts
path_known value wanted whole rules count base within [] pasts sets n path le = All-nil (λ cut. cut.mark < n)
path_known value wanted whole rules count base within (cut ∷ cuts) [] sets n path le = absurd path
path_known value wanted whole rules count base within (cut ∷ cuts) (past ∷ pasts) sets n path le =
    let e = path.0.mark in
    All-cons (λ cut. cut.mark < n) cut cuts (omega (arith, e, le)) (path_known value wanted whole rules count (base + 1) (InFirst value wanted rules cut past.domains) cuts pasts sets n path.1 (omega (arith, le)))

-- without a cut there is no mark
pub path_empty : {B : Type 0} (value : B → ℤ) (wanted : Wanted) (whole : ℤ × ℤ) (rules : List Rule) (count base : ℕ) (within : List ℤ → Type 0)
    (pasts : List RulesPast) (sets : List (List (ℤ × ℤ))) → IsPath {B = B} value wanted whole rules count base within [] pasts sets → pasts ≡ []
path_empty value wanted whole rules count base within [] sets path = refl
path_empty value wanted whole rules count base within (past ∷ pasts) sets path = absurd path

-- where the marks from the first cut on are dropped, those before it are left
pub marks_before : {B : Type 0} (value : B → ℤ) (wanted : Wanted) (whole : ℤ × ℤ) (rules : List Rule) (within : List ℤ → Type 0)
    (count : ℕ) (cuts : List (Cut B)) (pasts : List RulesPast) (sets : List (List (ℤ × ℤ))) (first old new : List RulesPast)
    → IsPath value wanted whole rules count (length first) within cuts pasts sets → old ≡ first ++ pasts → (cuts ≡ [] → new ≡ old)
    → ((cut : Cut B) (rest : List (Cut B)) → cuts ≡ cut ∷ rest → new ≡ take cut.mark old) → new ≡ first
marks_before value wanted whole rules within count [] [] sets first old new path is none some = none refl ∙ is ∙ append-nil first
marks_before value wanted whole rules within count [] (past ∷ pasts) sets first old new path is none some = absurd path
marks_before value wanted whole rules within count (cut ∷ cuts) [] sets first old new path is none some = absurd path
marks_before value wanted whole rules within count (cut ∷ cuts) (past ∷ pasts) sets first old new path is none some =
    some cut cuts refl ∙ ap (take cut.mark) is ∙ ap (λ k. take k (first ++ past ∷ pasts)) path.0.mark ∙ take-append_seam first (past ∷ pasts)

-- what a search has left after it went back to its last cut
pub record IsBack {B : Type 0} (value : B → ℤ) (wanted : Wanted) (whole : ℤ × ℤ) (cs : List Rule) (n : ℕ) (first : List RulesPast) (within : List ℤ → Type 0)
    (cuts : List (Cut B)) (cut : Cut B) (pasts : List RulesPast) (found : List (List ℤ)) (marks : List RulesPast) (new_rules : List Rule) (high : List (List (ℤ × ℤ))) : Type 0 where
  pub before : List RulesPast
  pub past : RulesPast
  pub split : pasts ≡ before ++ past ∷ []
  pub one_each : length cuts ≡ length before
  pub marked : marks ≡ first ++ before
  pub rules : new_rules ≡ cs
  pub same_count : length high ≡ length past.domains
  pub count : length high ≡ n
  pub other : IsCutAt cut.variable (λ v. IsBetter wanted v (value cut.value)) (set_at past.domains) (set_at high)
  pub path : IsPath value wanted whole cs n (length first) within cuts before high
  pub left : IsLeft within found (Rest value wanted cs cuts before high)

path_lengths : {B : Type 0} (value : B → ℤ) (wanted : Wanted) (whole : ℤ × ℤ) (rules : List Rule) (count base : ℕ) (within : List ℤ → Type 0)
    (cuts : List (Cut B)) (pasts : List RulesPast) (sets : List (List (ℤ × ℤ))) → IsPath value wanted whole rules count base within cuts pasts sets → length cuts ≡ length pasts
path_lengths value wanted whole rules count base within [] [] sets path = refl
path_lengths value wanted whole rules count base within [] (past ∷ pasts) sets path = absurd path
path_lengths value wanted whole rules count base within (cut ∷ cuts) [] sets path = absurd path
path_lengths value wanted whole rules count base within (cut ∷ cuts) (past ∷ pasts) sets path =
    let e = path_lengths value wanted whole rules count (base + 1) (InFirst value wanted rules cut past.domains) cuts pasts sets path.1 in omega (arith, e)

pub went_back : {B : Type 0} (value : B → ℤ) (wanted : Wanted) (whole : ℤ × ℤ) (rules : List Rule) (count : ℕ) (first : List RulesPast) (within : List ℤ → Type 0)
    (all cuts : List (Cut B)) (cut : Cut B) (pasts : List RulesPast) (sets high : List (List (ℤ × ℤ))) (found more : List (List ℤ)) (old new : List RulesPast) (new_rules : List Rule)
    → all ≡ cuts ++ cut ∷ [] → IsPath value wanted whole rules count (length first) within all pasts sets → old ≡ first ++ pasts → new ≡ take cut.mark old
    → ((d : RulesPast) → (new_rules ≡ (get_or old cut.mark d).rules) × (length high ≡ length (get_or old cut.mark d).domains)
    × IsCutAt cut.variable (λ v. IsBetter wanted v (value cut.value)) (set_at (get_or old cut.mark d).domains) (set_at high))
    → IsLeft within found (Rest value wanted rules all pasts sets) → Finds (SolvesRules rules sets) more AllFound
    → IsBack value wanted whole rules count first within cuts cut pasts (found ++ more) new new_rules high
went_back value wanted whole rules count first within all cuts cut pasts sets high found more old new new_rules is path marks undone parts left finds =
    let base = length first in
    let popped = path_popped value wanted whole rules count base within cuts cut pasts sets
    (subst (λ cs. IsPath value wanted whole rules count base within cs pasts sets) is path) in
    let past = popped.past in
    let split : old ≡ (first ++ popped.before) ++ past ∷ [] = marks ∙ ap (λ ps. first ++ ps) popped.split ∙ sym (append_assoc first popped.before (past ∷ [])) in
    let place : cut.mark ≡ length (first ++ popped.before) = popped.mark ∙ sym (length-append first popped.before) in
    let at : get_or old cut.mark past ≡ past = ap (λ ms. get_or ms cut.mark past) split ∙ get_or_push (first ++ popped.before) past past cut.mark (sym place) in
    let part = subst (λ p. (new_rules ≡ p.rules) × (length high ≡ length p.domains)
    × IsCutAt cut.variable (λ v. IsBetter wanted v (value cut.value)) (set_at p.domains) (set_at high)) at (parts past) in
    let other = cut_solves rules past.domains high cut.variable (λ v. IsBetter wanted v (value cut.value)) part.1 popped.known part.2 in
    record {
      before = popped.before;
      past = past;
      split = popped.split;
      one_each = path_lengths value wanted whole rules count base within cuts popped.before past.domains popped.path;
      marked = undone ∙ ap (take cut.mark) split ∙ ap (λ k. take k ((first ++ popped.before) ++ past ∷ [])) place ∙ take-append_seam (first ++ popped.before) (past ∷ []);
      rules = part.0 ∙ popped.rules;
      same_count = part.1;
      count = part.1 ∙ popped.count;
      other = part.2;
      path = path_within value wanted whole rules count base within cuts popped.before past.domains high popped.path (λ point s. ((other point).0 s).0);
      left = left_in_other value wanted whole rules count base within cuts cut pasts sets high found more popped other
          (subst (λ cs. IsLeft within found (Rest value wanted rules cs pasts sets)) is left) finds;
    }

-- without a cut, only the marks from before are left, and only the solutions over the domains
pub no_cut_marks : {B : Type 0} (value : B → ℤ) (wanted : Wanted) (whole : ℤ × ℤ) (rules : List Rule) (count base : ℕ) (within : List ℤ → Type 0)
    (cuts : List (Cut B)) (pasts : List RulesPast) (sets : List (List (ℤ × ℤ))) (first marked : List RulesPast) → IsPath value wanted whole rules count base within cuts pasts sets
    → cuts ≡ [] → marked ≡ first ++ pasts → marked ≡ first
no_cut_marks value wanted whole rules count base within cuts pasts sets first marked path none is =
    let empty = path_empty value wanted whole rules count base within pasts sets (subst (λ cs. IsPath value wanted whole rules count base within cs pasts sets) none path) in
    is ∙ ap (λ ps. first ++ ps) empty ∙ append-nil first

pub no_cut_left : {B : Type 0} (value : B → ℤ) (wanted : Wanted) (rules : List Rule) (within : List ℤ → Type 0) (found : List (List ℤ))
    (cuts : List (Cut B)) (pasts : List RulesPast) (sets : List (List (ℤ × ℤ))) → cuts ≡ [] → IsLeft within found (Rest value wanted rules cuts pasts sets)
    → IsLeft within found (SolvesRules rules sets)
no_cut_left value wanted rules within found cuts pasts sets none left = subst (λ cs. IsLeft within found (Rest value wanted rules cs pasts sets)) none left
