-- A value reads one way at most, and what it reads as lies in the range.
--     intervals_read_alike, sets_read_alike      a value reads as one interval, as one set
--     interval_refused_alone, set_refused_alone      and what reads is not refused
use Rattle.std.proofs.Common.{inl, inr, ◌⊎◌, ⊎_elim, ◌≡◌, ◌≢◌, ℕ, suc, ℤ, pos, List, [], ◌∷◌, refl, arith, sym, subst}
use Rattle.std.proofs.lemmas.Int.{ints}
use Rattle.std.specs.Prelude.{Option, Some, None, Result, Ok, Err}
use Rattle.serde_json.specs.Data.{Data, null, boolean, number, string, array, object, Items, no_items, item}
use Rattle.ivl_laws.specs.Sets.{IsBetween, IsSubset, SameMembers}
use Rattle.ivl_laws.specs.Runs.{Covers, IsRunListIn}
use Rattle.ivl_laws.proofs.Intervals.{in_range_is_within}
use Rattle.ivl_laws.proofs.Runs.{runs_are_unique}
use Rattle.ivl_json.specs.declared.faults.ItemFault.{ItemFault}
use Rattle.ivl_json.specs.declared.faults.JsonFault.{JsonFault}
use Rattle.ivl_json.specs.Faults.{json_fault}
use Rattle.ivl_json.specs.Reading.{within, bound_read, both_read, elements_read, interval_read, Reads}
use Rattle.ivl_json.specs.SetReading.{item_then, items_read, set_read, SetReads}

-- ---- a value reads one way at most

pub one_interval : (S T : ℤ → Type 0) (whole : ℤ × ℤ) (d : Data) → Reads whole d S → Reads whole d T → SameMembers S T
one_interval S T whole d (p, e, m) (q, f, n) =
    let same : p ≡ q = cc in
    let n' : SameMembers (IsBetween p) T = subst (λ (t : ℤ × ℤ). SameMembers (IsBetween t) T) (sym same) n in
    λ z. ((λ s. (n' z).0 ((m z).1 s)), (λ t. (m z).0 ((n' z).1 t)))

pub one_set : (S T : ℤ → Type 0) (whole : ℤ × ℤ) (d : Data) → SetReads whole d S → SetReads whole d T → SameMembers S T
one_set S T whole d (ps, e, m) (qs, f, n) =
    let same : ps ≡ qs = cc in
    let n' : SameMembers (Covers ps) T = subst (λ (t : List (ℤ × ℤ)). SameMembers (Covers t) T) (sym same) n in
    λ z. ((λ s. (n' z).0 ((m z).1 s)), (λ t. (m z).0 ((n' z).1 t)))

pub interval_not_refused : (S : ℤ → Type 0) (whole : ℤ × ℤ) (d : Data) (fault : ItemFault) → Reads whole d S → interval_read whole d ≢ Err fault
interval_not_refused S whole d fault (p, e, m) f = cc

pub set_not_refused : (S : ℤ → Type 0) (whole : ℤ × ℤ) (d : Data) (fault : JsonFault) → SetReads whole d S → set_read whole d ≢ Err fault
set_not_refused S whole d fault (ps, e, m) f = cc

-- ---- within the range

within-in_range : (whole : ℤ × ℤ) (o : Option ℤ) (z : ℤ) → within whole o ≡ Ok z → IsBetween whole z
within-in_range whole None z e = absurd (cc)
within-in_range whole (Some y) z e = grind (arith, ints)

both-in_range : (whole : ℤ × ℤ) (first second : Result ℤ ItemFault) (p : ℤ × ℤ) → ((z : ℤ) → first ≡ Ok z → IsBetween whole z) → ((z : ℤ) → second ≡ Ok z → IsBetween whole z)
    → both_read first second ≡ Ok p → IsBetween whole p.0 × IsBetween whole p.1
both-in_range whole (Err f) second p a b e = absurd (cc)
both-in_range whole (Ok l) (Err f) p a b e = absurd (cc)
both-in_range whole (Ok l) (Ok u) p a b e =
    let same : (l, u) ≡ p = cc in
    subst (λ (t : ℤ × ℤ). IsBetween whole t.0 × IsBetween whole t.1) same (a l refl, b u refl)

elements-in_range : (whole : ℤ × ℤ) (ds : Items) (p : ℤ × ℤ) → elements_read whole ds ≡ Ok p → IsBetween whole p.0 × IsBetween whole p.1
elements-in_range whole no_items p e = absurd (cc)
elements-in_range whole (item x no_items) p e = absurd (cc)
elements-in_range whole (item x (item y no_items)) p e = both-in_range whole (bound_read whole x) (bound_read whole y) p (within-in_range whole _) (within-in_range whole _) e
elements-in_range whole (item x (item y (item z more))) p e = absurd (cc)

interval-in_range : (whole : ℤ × ℤ) (d : Data) (p : ℤ × ℤ) → interval_read whole d ≡ Ok p → IsSubset (IsBetween p) (IsBetween whole)
interval-in_range whole null p e =
    let same : (pos 1, pos 0) ≡ p = cc in
    subst (λ (t : ℤ × ℤ). IsSubset (IsBetween t) (IsBetween whole)) same (λ z b. absurd (omega (arith, ints, b.0, b.1)))
interval-in_range whole (boolean b) p e = absurd (cc)
interval-in_range whole (number n) p e = absurd (cc)
interval-in_range whole (string s) p e = absurd (cc)
interval-in_range whole (array ds) p e = let ends = elements-in_range whole ds p e in in_range_is_within whole p (ends.0.0, ends.1.1)
interval-in_range whole (object ms) p e = absurd (cc)

pub interval_reads-in_range : (S : ℤ → Type 0) (whole : ℤ × ℤ) (d : Data) → Reads whole d S → IsSubset S (IsBetween whole)
interval_reads-in_range S whole d (p, e, m) z s = interval-in_range whole d p e z ((m z).1 s)

item_then-in_range : (whole : ℤ × ℤ) (i : ℕ) (first : Result (ℤ × ℤ) ItemFault) (rest : Result (List (ℤ × ℤ)) JsonFault) (ps : List (ℤ × ℤ))
    → ((p : ℤ × ℤ) → first ≡ Ok p → IsSubset (IsBetween p) (IsBetween whole)) → ((qs : List (ℤ × ℤ)) → rest ≡ Ok qs → IsSubset (Covers qs) (IsBetween whole))
    → item_then i first rest ≡ Ok ps → IsSubset (Covers ps) (IsBetween whole)
item_then-in_range whole i (Err f) rest ps a b e = absurd (cc)
item_then-in_range whole i (Ok p) (Err f) ps a b e = absurd (cc)
item_then-in_range whole i (Ok p) (Ok qs) ps a b e =
    let same : p ∷ qs ≡ ps = cc in
    subst (λ (t : List (ℤ × ℤ)). IsSubset (Covers t) (IsBetween whole)) same (λ z. ⊎_elim (a p refl z) (b qs refl z))

items-in_range : (whole : ℤ × ℤ) (i : ℕ) (ds : Items) (ps : List (ℤ × ℤ)) → items_read whole i ds ≡ Ok ps → IsSubset (Covers ps) (IsBetween whole)
items-in_range whole i no_items ps e =
    let same : [] ≡ ps = cc in
    subst (λ (t : List (ℤ × ℤ)). IsSubset (Covers t) (IsBetween whole)) same (λ z c. absurd c)
items-in_range whole i (item d ds) ps e =
    item_then-in_range whole i (interval_read whole d) (items_read whole (suc i) ds) ps (interval-in_range whole d) (items-in_range whole (suc i) ds) e

set-in_range : (whole : ℤ × ℤ) (d : Data) (ps : List (ℤ × ℤ)) → set_read whole d ≡ Ok ps → IsSubset (Covers ps) (IsBetween whole)
set-in_range whole null ps e =
    let same : [] ≡ ps = cc in
    subst (λ (t : List (ℤ × ℤ)). IsSubset (Covers t) (IsBetween whole)) same (λ z c. absurd c)
set-in_range whole (boolean b) ps e = absurd (cc)
set-in_range whole (number n) ps e = absurd (cc)
set-in_range whole (string s) ps e = absurd (cc)
set-in_range whole (array ds) ps e = items-in_range whole 0 ds ps e
set-in_range whole (object ms) ps e = absurd (cc)

pub set_reads-in_range : (S : ℤ → Type 0) (whole : ℤ × ℤ) (d : Data) → SetReads whole d S → IsSubset S (IsBetween whole)
set_reads-in_range S whole d (ps, e, m) z s = set-in_range whole d ps e z ((m z).1 s)

-- ---- for `JsonForm`

pub intervals_read_alike : (whole : ℤ × ℤ) (d : Data) (p q : ℤ × ℤ) → Reads whole d (IsBetween p) → Reads whole d (IsBetween q) → SameMembers (IsBetween p) (IsBetween q)
intervals_read_alike whole d p q = one_interval (IsBetween p) (IsBetween q) whole d

pub interval_refused_alone : (whole : ℤ × ℤ) (d : Data) (p : ℤ × ℤ) (fault : JsonFault) → Reads whole d (IsBetween p) → (k : ItemFault) × (fault ≡ json_fault k) × (interval_read whole d ≡ Err k) → fault ≡ JsonFault.Memory
interval_refused_alone whole d p fault r (k, same, refused) = absurd (interval_not_refused (IsBetween p) whole d k r refused)

pub sets_read_alike : (whole : ℤ × ℤ) (d : Data) (L M : List (ℤ × ℤ)) → IsRunListIn whole L × SetReads whole d (Covers L) → IsRunListIn whole M × SetReads whole d (Covers M) → L ≡ M
sets_read_alike whole d L M (l, r) (m, s) = runs_are_unique L M l.maximal m.maximal (one_set (Covers L) (Covers M) whole d r s)

pub set_refused_alone : (whole : ℤ × ℤ) (d : Data) (L : List (ℤ × ℤ)) (fault : JsonFault) → IsRunListIn whole L × SetReads whole d (Covers L) → (fault ≡ JsonFault.Memory) ⊎ (set_read whole d ≡ Err fault) → fault ≡ JsonFault.Memory
set_refused_alone whole d L fault (l, r) (inl memory) = memory
set_refused_alone whole d L fault (l, r) (inr refused) = absurd (set_not_refused (Covers L) whole d fault r refused)
