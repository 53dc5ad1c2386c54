-- What the calls of a network keep.
use Rattle.std.proofs.Common.{◌≡◌, ℕ, inl, inr, sym, subst, arith, List, [], ◌∷◌, ◌++◌, length, get_or, take, ◌∙◌, ◌<◌, ◌≤◌, refl}
use Rattle.std.specs.Prelude.{ℤ, All}
use Rattle.std.proofs.Math.ListN.{get_or-append, get_or-eq_default}
use Rattle.std.proofs.lemmas.Bool.{cases_lt}
use Rattle.ivl_laws.specs.Families.{set_at}
use Rattle.ivl_laws.specs.Runs.{Covers}
use Rattle.ivl_network.specs.Network.{IsCutAt, IsRuleRequired}
use Rattle.ivl_store.specs.Solutions.{LiesWithin}
use Rattle.ivl_store.proofs.Lists.{All-first}
use Rattle.ivl_rules.specs.declared.rules.Rule.{Rule}
use Rattle.ivl_rules.specs.Rules.{SupportsAll}
use Rattle.ivl_rules.proofs.Narrowings.{HasPointAt-mono}
use Rattle.ivl_network.specs.Families.{AllSupport, ArePresent, IsGreatestUnder, KeepsUnder}
use Rattle.ivl_network.proofs.Families.{named_present}
use Rattle.std.proofs.Math.Nat.{min-le_left}
use Rattle.std.proofs.lemmas.List.{get_or-append_right, get_or-take, length-take}

-- ---- families that are cut off after the first variables, and lists with one more at the end

-- a family is cut off after the first variables
cut_off : (family : List (List (ℤ × ℤ))) (count i : ℕ) → i < count → get_or (take count family) i [] ≡ get_or family i []
cut_off family count i lt = get_or-take count family i [] lt

pub none_beyond : (family : List (List (ℤ × ℤ))) (count i : ℕ) (v : ℤ) → count ≤ i → set_at (take count family) i v → ⊥
none_beyond family count i v le h =
    subst (λ L. Covers L v) (get_or-eq_default (take count family) [] (let m = length-take count family in let n = min-le_left count (length family) in omega arith)) h

pub cut_within : (family : List (List (ℤ × ℤ))) (count : ℕ) → LiesWithin (set_at (take count family)) (set_at family)
cut_within family count i v h = elim (cases_lt i count) [
  | inl lt ↦ subst (λ L. Covers L v) (cut_off family count i lt) h
  | inr le ↦ absurd (none_beyond family count i v le h)
]

pub cut_has : (family : List (List (ℤ × ℤ))) (count i : ℕ) (v : ℤ) → i < count → set_at family i v → set_at (take count family) i v
cut_has family count i v lt h = subst (λ L. Covers L v) (sym (cut_off family count i lt)) h

-- a list with one more at the end
pub at_rest : (sets others : List (List (ℤ × ℤ))) (domain : List (ℤ × ℤ)) (i : ℕ) → length sets ≡ length others → length sets ≤ i
    → get_or (sets ++ domain ∷ []) i [] ≡ get_or (others ++ domain ∷ []) i []
at_rest sets others domain i same le =
    get_or-append_right sets (domain ∷ []) (length others) i [] same (omega arith) ∙ sym (get_or-append_right others (domain ∷ []) (length others) i [] refl (omega arith))

-- ---- the calls

-- a cut of the posted sets and of the domains
pub cut_keeps : (rules : List Rule) (posted posted' domains domains' : List (List (ℤ × ℤ))) (variable : ℕ) (allowed : List (ℤ × ℤ))
    → IsCutAt variable (Covers allowed) (set_at posted) (set_at posted') → IsCutAt variable (Covers allowed) (set_at domains) (set_at domains')
    → KeepsUnder rules posted domains → KeepsUnder rules posted' domains'
cut_keeps rules posted posted' domains domains' variable allowed p d k = record {
  within = (λ i v h. let was = (d i v).0 h in (p i v).1 (k.within i v was.0, was.1));
  families = (λ f s w i v h. (d i v).1 (k.families f s (λ j u m. ((p j u).0 (w j u m)).0) i v h, ((p i v).0 (w i v h)).1));
}

-- more rules support fewer families
pub requiring_keeps : (rule : Rule) (rules rules' : List Rule) (posted domains : List (List (ℤ × ℤ)))
    → IsRuleRequired rule rules rules' → KeepsUnder rules posted domains → KeepsUnder rules' posted domains
requiring_keeps rule rules rules' posted domains (inl again) k = subst (λ cs. KeepsUnder cs posted domains) (sym again.1) k
requiring_keeps rule rules rules' posted domains (inr first) k = subst (λ cs. KeepsUnder cs posted domains) (sym first.1) (record {
  within = k.within;
  families = (λ f s w. k.families f (All-first (λ d. SupportsAll d (set_at f)) rules (rule ∷ []) s) w);
})

-- what all is settled from
pub all_greatest : (rules : List Rule) (posted domains domains' : List (List (ℤ × ℤ))) → KeepsUnder rules posted domains
    → IsGreatestUnder rules (set_at domains) (set_at domains') → IsGreatestUnder rules (set_at posted) (set_at domains')
all_greatest rules posted domains domains' k g = record {
  within = (λ i v h. k.within i v (g.within i v h));
  supported = g.supported;
  greatest = (λ other w s. g.greatest other (k.families other s w) s);
}

-- ---- one more variable

-- the first sets of a family are supported where all rules name these
cut_supported : (rules : List Rule) (count : ℕ) (family : List (List (ℤ × ℤ))) → All (ArePresent count) rules
    → AllSupport rules (set_at family) → AllSupport rules (set_at (take count family))
cut_supported rules count family present s k d lt i named v h =
    HasPointAt-mono (get_or rules k d) (set_at family) (set_at (take count family))
    (λ j known w m. cut_has family count j w (named_present count (get_or rules k d) (present k d lt) j known) m) i v
    (s k d lt i named v (cut_within family count i v h))

pub adding_keeps : (rules : List Rule) (posted domains : List (List (ℤ × ℤ))) (domain : List (ℤ × ℤ)) → length posted ≡ length domains
    → All (ArePresent (length domains)) rules → KeepsUnder rules posted domains → KeepsUnder rules (posted ++ domain ∷ []) (domains ++ domain ∷ [])
adding_keeps rules posted domains domain same present k = record {
  within = (λ i v h. elim (cases_lt i (length domains)) [
    | inl lt ↦ subst (λ L. Covers L v) (sym (get_or-append posted (domain ∷ []) [] i (omega arith))) (k.within i v (subst (λ L. Covers L v) (get_or-append domains (domain ∷ []) [] i lt) h))
    | inr le ↦ subst (λ L. Covers L v) (at_rest domains posted domain i (sym same) le) h
  ]);
  families = (λ f s w i v h. elim (cases_lt i (length domains)) [
    | inl lt ↦ subst (λ L. Covers L v) (sym (get_or-append domains (domain ∷ []) [] i lt))
        (k.families (take (length domains) f) (cut_supported rules (length domains) f present s) (first_within f w) i v (cut_has f (length domains) i v lt h))
    | inr le ↦ subst (λ L. Covers L v) (at_rest posted domains domain i same (omega arith)) (w i v h)
  ]);
}
  where
    first_within : (f : List (List (ℤ × ℤ))) → LiesWithin (set_at f) (set_at (posted ++ domain ∷ [])) → LiesWithin (set_at (take (length domains) f)) (set_at posted)
    first_within f w i v h = elim (cases_lt i (length domains)) [
      | inl lt ↦ subst (λ L. Covers L v) (get_or-append posted (domain ∷ []) [] i (omega arith)) (w i v (cut_within f (length domains) i v h))
      | inr le ↦ absurd (none_beyond f (length domains) i v le h)
    ]
