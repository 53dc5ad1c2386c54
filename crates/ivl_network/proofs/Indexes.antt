-- The lists of the rules that name a variable, where a rule is added or dropped.
use Rattle.std.proofs.Common.{◌≡◌, ◌∙◌, ◌+◌, ◌-◌, ◌*◌, ◌/◌, ◌<◌, ◌≤◌, ◌⊎◌, inl, inr, Bool, true, false, ℕ, ap, arith, get_or, length, List, [], ◌∷◌, ◌++◌, refl, set, subst, sym, take}
use Rattle.std.specs.Prelude.{ℤ, All, Option, Some, None, map}
use Rattle.std.proofs.Math.ListN.{get_or-append, get_or-eq_default}
use Rattle.std.proofs.Math.Seq.{take-append_seam}
use Rattle.std.proofs.lemmas.Bool.{cases_eq, cases_lt, false≢true}
use Rattle.std.proofs.lemmas.List.{get_or_push, get_or-take, length-append, length-set, length-take, length_push, get_or-set_other, get_or-set_same, map-append}
use Rattle.ivl_network.specs.declared.network.index.Index.{Index}
use Rattle.ivl_rules.specs.declared.rules.Rule.{Rule}
use Rattle.ivl_rules.specs.declared.rules.Rule.TheVariants.{Sum}
use Rattle.ivl_store.specs.declared.store.constraint.Constraint.{Constraint}
use Rattle.ivl_store.specs.NarrowedSets.{narrowed_at}
use Rattle.ivl_network.specs.Families.{ArePresent}
use Rattle.ivl_network.specs.declared.network.hashes.Hashes.{Hashes}
use Rattle.ivl_network.specs.Hashes.{AreHashLists}
use Rattle.ivl_network.specs.Queue.{AreKnown, IsLastNamingRule, IsListed, IsListedAt, IsRuleIndex, IsRulePlace, lasts_of}
use Rattle.ivl_network.specs.RuleHashes.{hash_of_rule}
use Rattle.ivl_laws.proofs.Places.{get_or-append_right}
use Rattle.ivl_rules.specs.Rules.{needs_singles, places}
use Rattle.ivl_store.specs.Narrowing.{AllPresent}
use Rattle.ivl_store.specs.Solutions.{Names}

-- ---- three places that are written

-- what stands there then
unfoldable pub put : List ℕ → Constraint → ℕ → ℕ → ℕ → List ℕ
put lasts c a b d = set (set (set lasts c.x a) c.y b) c.z d

pub length-put : (lasts : List ℕ) (c : Constraint) (a b d : ℕ) → length (put lasts c a b d) ≡ length lasts
unfolding put
length-put lasts c a b d = length-set (set (set lasts c.x a) c.y b) c.z d ∙ length-set (set lasts c.x a) c.y b ∙ length-set lasts c.x a

-- a fact that holds of each of the three at its variable, and of what stood there at each other variable
pub put_at : (lasts : List ℕ) (c : Constraint) (a b d : ℕ) (P : ℕ → ℕ → Type 0) → AllPresent (length lasts) c → P c.x a → P c.y b → P c.z d
    → ((i : ℕ) → (Names c i → ⊥) → P i (get_or lasts i 0)) → (i : ℕ) → P i (get_or (put lasts c a b d) i 0)
unfolding put
put_at lasts c a b d P p at_x at_y at_z other i =
    elim (cases_eq i c.z) [
      | inl e ↦ subst (λ j. P j (get_or (put lasts c a b d) j 0)) (sym e)
          (subst (P c.z) (sym (get_or-set_same (set (set lasts c.x a) c.y b) c.z d 0 (let l = p.2 in let m = length-set (set lasts c.x a) c.y b in let n = length-set lasts c.x a in omega (arith, l, m, n)))) at_z)
      | inr nz ↦ subst (P i) (sym (get_or-set_other (set (set lasts c.x a) c.y b) c.z i d 0 nz)) (elim (cases_eq i c.y) [
        | inl e ↦ subst (λ j. P j (get_or (set (set lasts c.x a) c.y b) j 0)) (sym e)
            (subst (P c.y) (sym (get_or-set_same (set lasts c.x a) c.y b 0 (let l = p.1 in let n = length-set lasts c.x a in omega (arith, l, n)))) at_y)
        | inr ny ↦ subst (P i) (sym (get_or-set_other (set lasts c.x a) c.y i b 0 ny)) (elim (cases_eq i c.x) [
          | inl e ↦ subst (λ j. P j (get_or (set lasts c.x a) j 0)) (sym e) (subst (P c.x) (sym (get_or-set_same lasts c.x a 0 p.0)) at_x)
          | inr nx ↦ subst (P i) (sym (get_or-set_other lasts c.x i a 0 nx)) (other i (λ h. elim h [ inl e ↦ nx e | inr (inl e) ↦ ny e | inr (inr e) ↦ nz e ]))
        ])
      ])
    ]

-- ---- the places of a rule

-- they lie between those of the others
place_between : (c : Rule) (k i place : ℕ) → IsRulePlace k i place c → (4 * k < place) × (place < 4 * k + 4)
place_between c k i place at = elim at [
  | inl e ↦ (let p = e.0 in (omega (arith, p), omega (arith, p)))
  | inr (inl e) ↦ (let p = e.0 in (omega (arith, p), omega (arith, p)))
  | inr (inr e) ↦ (let p = e.0 in (omega (arith, p), omega (arith, p)))
]

-- the rule names the variable
pub listed_there : (s : Bool) (k i place : ℕ) (c : Rule) → IsListedAt s k i place c → IsListed s i c
listed_there s k i place c h = (elim h.0 [ inl e ↦ inl e.1 | inr (inl e) ↦ inr (inl e.1) | inr (inr e) ↦ inr (inr e.1) ], h.1)

-- ---- one more rule

-- which plays no part among those before it
more : (s : Bool) (cs : List Rule) (c : Rule) (i before place : ℕ) → before ≤ length cs → IsLastNamingRule s cs i before place → IsLastNamingRule s (cs ++ c ∷ []) i before place
more s cs c i before place le n = record {
  low = n.low;
  names = (λ k d pos from to. subst (IsListedAt s k i place) (sym (get_or-append cs (c ∷ []) d k (let l = n.low pos in omega (arith, from, l, le)))) (n.names k d pos from to));
  none = (λ k d from to h. n.none k d from to (subst (IsListed s i) (get_or-append cs (c ∷ []) d k (omega (arith, to, le))) h));
}

-- it is the last that is listed at its variables
newest : (s : Bool) (cs : List Rule) (c : Rule) (i place : ℕ) → IsListedAt s (length cs) i place c → IsLastNamingRule s (cs ++ c ∷ []) i (length (cs ++ c ∷ [])) place
newest s cs c i place at =
    let l = length_push cs c in let b = place_between c (length cs) i place at.0 in let above = b.0 in let below = b.1 in
    record {
      low = (λ pos. omega (arith, below, l));
      names = (λ k d pos from to.
          let here : k ≡ length cs = omega (arith, from, to, above, below) in
          subst (λ j. IsListedAt s j i place (get_or (cs ++ c ∷ []) k d)) (sym here) (subst (IsListedAt s (length cs) i place) (sym (get_or_push cs c d k (sym here))) at));
      none = (λ k d from to. absurd (omega (arith, from, to, l, above)));
    }

-- and in no other list
not_newest : (s : Bool) (cs : List Rule) (c : Rule) (i place : ℕ) → (IsListed s i c → ⊥) → IsLastNamingRule s cs i (length cs) place
    → IsLastNamingRule s (cs ++ c ∷ []) i (length (cs ++ c ∷ [])) place
not_newest s cs c i place not was =
    let l = length_push cs c in
    let m = more s cs c i (length cs) place (omega arith) was in
    record {
      low = (λ pos. let w = was.low pos in omega (arith, w, l));
      names = m.names;
      none = (λ k d from to h. elim (cases_eq k (length cs)) [
        | inl at ↦ not (subst (IsListed s i) (get_or_push cs c d k (sym at)) h)
        | inr ne ↦ m.none k d from (omega (arith, to, l, ne)) h
      ]);
    }

-- ---- one rule less

fewer : (s : Bool) (cs : List Rule) (c : Rule) (i before place : ℕ) → before ≤ length cs → IsLastNamingRule s (cs ++ c ∷ []) i before place → IsLastNamingRule s cs i before place
fewer s cs c i before place le n = record {
  low = n.low;
  names = (λ k d pos from to. subst (IsListedAt s k i place) (get_or-append cs (c ∷ []) d k (let l = n.low pos in omega (arith, from, l, le))) (n.names k d pos from to));
  none = (λ k d from to h. n.none k d from to (subst (IsListed s i) (sym (get_or-append cs (c ∷ []) d k (omega (arith, to, le)))) h));
}

was_not_newest : (s : Bool) (cs : List Rule) (c : Rule) (i place : ℕ) → (IsListed s i c → ⊥) → IsLastNamingRule s (cs ++ c ∷ []) i (length (cs ++ c ∷ [])) place
    → IsLastNamingRule s cs i (length cs) place
was_not_newest s cs c i place not was =
    let l = length_push cs c in
    let low : 0 < place → place < 4 * length cs = (λ pos. elim (cases_lt place (4 * length cs)) [
      | inl lt ↦ lt
      | inr ge ↦ absurd (not (subst (IsListed s i) (get_or_push cs c c (length cs) refl)
          (listed_there s (length cs) i place _ (was.names (length cs) c pos ge (let w = was.low pos in omega (arith, w, l))))))
    ]) in
    record {
      low = low;
      names = (λ k d pos from to. subst (IsListedAt s k i place) (get_or-append cs (c ∷ []) d k (let w = low pos in omega (arith, from, w))) (was.names k d pos from to));
      none = (λ k d from to h. was.none k d from (omega (arith, to, l)) (subst (IsListed s i) (sym (get_or-append cs (c ∷ []) d k to)) h));
    }

-- ---- the index

same_kind : (s t : Bool) → (t ≡ s) ⊎ (t ≡ s → ⊥)
same_kind true true = inl refl
same_kind true false = inr false≢true
same_kind false true = inr (λ e. false≢true (sym e))
same_kind false false = inl refl

-- what holds of both lists
pub of_both : (P : Bool → Type 0) → P true → P false → (s : Bool) → P s
of_both P t f true = t
of_both P t f false = f

pub same_index : (count : ℕ) (cs : List Rule) (index index' : Index) → ((s : Bool) → lasts_of s index' ≡ lasts_of s index) → index'.links.items ≡ index.links.items
    → (AreKnown cs index.hashes → AreKnown cs index'.hashes) → IsRuleIndex count cs index → IsRuleIndex count cs index'
same_index count cs index index' e f known was = record {
  known = known was.known;
  one_each = (λ s. ap length (e s) ∙ was.one_each s);
  four_each = ap length f ∙ was.four_each;
  lasts = (λ s i. subst (λ l. IsLastNamingRule s cs i (length cs) (get_or l i 0)) (sym (e s)) (was.lasts s i));
  links = (λ s k i place d lt at. subst (λ ls. IsLastNamingRule s cs i k (get_or ls place 0)) (sym f) (was.links s k i place d lt at));
}

-- hashes that are the same
pub known_same : (cs : List Rule) (hashes hashes' : Hashes) → AreHashLists hashes' → hashes'.hashes.items ≡ hashes.hashes.items → AreKnown cs hashes → AreKnown cs hashes'
known_same cs hashes hashes' lists same known = (lists, same ∙ known.1)

-- one more, and one less
pub known_pushed : (cs : List Rule) (c : Rule) (hash : ℕ) (hashes hashes' : Hashes) → AreHashLists hashes' → hashes'.hashes.items ≡ hashes.hashes.items ++ hash ∷ [] → hash ≡ hash_of_rule c
    → AreKnown cs hashes → AreKnown (cs ++ c ∷ []) hashes'
known_pushed cs c hash hashes hashes' lists added is known =
    (lists, added ∙ ap (λ l. l ++ hash ∷ []) known.1 ∙ ap (λ h. map hash_of_rule cs ++ h ∷ []) is ∙ sym (map-append hash_of_rule cs (c ∷ [])))

pub known_popped : (cs : List Rule) (c : Rule) (hashes hashes' : Hashes) → AreHashLists hashes' → hashes'.hashes.items ≡ take (length hashes.hashes.items - 1) hashes.hashes.items
    → AreKnown (cs ++ c ∷ []) hashes → AreKnown cs hashes'
known_popped cs c hashes hashes' lists left known =
    let is : hashes.hashes.items ≡ map hash_of_rule cs ++ hash_of_rule c ∷ [] = known.1 ∙ map-append hash_of_rule cs (c ∷ []) in
    (lists, left ∙ ap (λ l. take (length l - 1) l) is ∙ dropped (map hash_of_rule cs) (hash_of_rule c))
  where
    dropped : (l : List ℕ) (x : ℕ) → take (length (l ++ x ∷ []) - 1) (l ++ x ∷ []) ≡ l
    dropped l x = ap (λ n. take n (l ++ x ∷ [])) (let n = length_push l x in let m : length (l ++ x ∷ []) - 1 ≡ length l = omega (arith, n) in m) ∙ take-append_seam l (x ∷ [])

-- a variable that is not there is named by none
absent_last : (s : Bool) (count : ℕ) (cs : List Rule) (index : Index) (i : ℕ) → IsRuleIndex count cs index → length (lasts_of s index) ≤ i → IsLastNamingRule s cs i (length cs) 0
absent_last s count cs index i was le = subst (λ p. IsLastNamingRule s cs i (length cs) p) (get_or-eq_default (lasts_of s index) 0 le) (was.lasts s i)

pub variable_pushed : (count : ℕ) (cs : List Rule) (index index' : Index) → ((s : Bool) → lasts_of s index' ≡ lasts_of s index ++ 0 ∷ []) → index'.links.items ≡ index.links.items
    → index'.hashes ≡ index.hashes → IsRuleIndex count cs index → IsRuleIndex (count + 1) cs index'
variable_pushed count cs index index' e f same was = record {
  known = subst (AreKnown cs) (sym same) was.known;
  one_each = (λ s. let n = length_push (lasts_of s index) 0 in let one = was.one_each s in ap length (e s) ∙ omega (arith, n, one));
  four_each = ap length f ∙ was.four_each;
  lasts = (λ s i. subst (λ l. IsLastNamingRule s cs i (length cs) (get_or l i 0)) (sym (e s)) (elim (cases_lt i (length (lasts_of s index))) [
    | inl lt ↦ subst (λ p. IsLastNamingRule s cs i (length cs) p) (sym (get_or-append (lasts_of s index) (0 ∷ []) 0 i lt)) (was.lasts s i)
    | inr le ↦ (let none = absent_last s count cs index i was le in elim (cases_eq i (length (lasts_of s index))) [
      | inl at ↦ subst (λ p. IsLastNamingRule s cs i (length cs) p) (sym (get_or_push (lasts_of s index) 0 0 i (sym at))) none
      | inr ne ↦ subst (λ p. IsLastNamingRule s cs i (length cs) p)
          (sym (get_or-eq_default (lasts_of s index ++ 0 ∷ []) 0 (let n = length_push (lasts_of s index) 0 in omega (arith, n, le, ne)))) none
    ])
  ]));
  links = (λ s k i place d lt at. subst (λ ls. IsLastNamingRule s cs i k (get_or ls place 0)) (sym f) (was.links s k i place d lt at));
}

-- where no rule names a variable
unnamed_last : (s : Bool) (n : ℕ) (cs : List Rule) (i : ℕ) → All (ArePresent n) cs → n ≤ i → IsLastNamingRule s cs i (length cs) 0
unnamed_last s n cs i present le = record {
  low = (λ pos. absurd (omega (arith, pos)));
  names = (λ k d pos. absurd (omega (arith, pos)));
  none = (λ k d from lt h. let p = present k d lt in let x = p.0 in let y = p.1 in let z = p.2 in elim h.0 [
    | inl e ↦ omega (arith, e, x, le)
    | inr (inl e) ↦ omega (arith, e, y, le)
    | inr (inr e) ↦ omega (arith, e, z, le)
  ]);
}

pub variable_popped : (count : ℕ) (cs : List Rule) (index index' : Index) → ((s : Bool) → lasts_of s index' ≡ take (length (lasts_of s index) - 1) (lasts_of s index))
    → index'.links.items ≡ index.links.items → index'.hashes ≡ index.hashes → IsRuleIndex count cs index → All (ArePresent (count - 1)) cs → IsRuleIndex (count - 1) cs index'
variable_popped count cs index index' e f same was present = record {
  known = subst (AreKnown cs) (sym same) was.known;
  one_each = (λ s. let one = was.one_each s in let n = length-take (length (lasts_of s index) - 1) (lasts_of s index) in ap length (e s) ∙ omega (arith, n, one));
  four_each = ap length f ∙ was.four_each;
  lasts = (λ s i. subst (λ l. IsLastNamingRule s cs i (length cs) (get_or l i 0)) (sym (e s)) (elim (cases_lt i (length (lasts_of s index) - 1)) [
    | inl lt ↦ subst (λ p. IsLastNamingRule s cs i (length cs) p) (sym (get_or-take (length (lasts_of s index) - 1) (lasts_of s index) i 0 lt)) (was.lasts s i)
    | inr le ↦ subst (λ p. IsLastNamingRule s cs i (length cs) p)
        (sym (get_or-eq_default (take (length (lasts_of s index) - 1) (lasts_of s index)) 0 (let n = length-take (length (lasts_of s index) - 1) (lasts_of s index) in omega (arith, n, le))))
        (unnamed_last s (count - 1) cs i present (let one = was.one_each s in omega (arith, one, le)))
  ]));
  links = (λ s k i place d lt at. subst (λ ls. IsLastNamingRule s cs i k (get_or ls place 0)) (sym f) (was.links s k i place d lt at));
}

-- places are put at three variables of the list of one kind, and the other list stays
pub record IsPutAt (s : Bool) (c : Constraint) (x y z : ℕ) (index index' : Index) : Type 0 where
  pub at : lasts_of s index' ≡ set (set (set (lasts_of s index) c.x x) c.y y) c.z z
  pub other : (t : Bool) → (t ≡ s → ⊥) → lasts_of t index' ≡ lasts_of t index

pub put_singles : (c : Constraint) (x y z : ℕ) (index index' : Index) → index'.single_lasts.items ≡ set (set (set index.single_lasts.items c.x x) c.y y) c.z z
    → index'.lasts.items ≡ index.lasts.items → IsPutAt true c x y z index index'
put_singles c x y z index index' e f = record { at = e; other = other }
  where
    other : (t : Bool) → (t ≡ true → ⊥) → lasts_of t index' ≡ lasts_of t index
    other true ne = absurd (ne refl)
    other false ne = f

pub put_others : (c : Constraint) (x y z : ℕ) (index index' : Index) → index'.lasts.items ≡ set (set (set index.lasts.items c.x x) c.y y) c.z z
    → index'.single_lasts.items ≡ index.single_lasts.items → IsPutAt false c x y z index index'
put_others c x y z index index' e f = record { at = e; other = other }
  where
    other : (t : Bool) → (t ≡ false → ⊥) → lasts_of t index' ≡ lasts_of t index
    other true ne = f
    other false ne = absurd (ne refl)

put_lengths : (s : Bool) (c : Constraint) (x y z : ℕ) (index index' : Index) (count : ℕ) → IsPutAt s c x y z index index' → ((t : Bool) → length (lasts_of t index) ≡ count)
    → (t : Bool) → length (lasts_of t index') ≡ count
unfolding put
put_lengths s c x y z index index' count p each t = elim (same_kind s t) [
  | inl e ↦ subst (λ u. length (lasts_of u index') ≡ count) (sym e) (ap length p.at ∙ length-put (lasts_of s index) c x y z ∙ each s)
  | inr ne ↦ ap length (p.other t ne) ∙ each t
]

put_lasts : (s : Bool) (c : Constraint) (x y z : ℕ) (index index' : Index) (P : Bool → ℕ → ℕ → Type 0) → IsPutAt s c x y z index index' → AllPresent (length (lasts_of s index)) c
    → P s c.x x → P s c.y y → P s c.z z → ((t : Bool) (i : ℕ) → ((t ≡ s) × Names c i → ⊥) → P t i (get_or (lasts_of t index) i 0)) → (t : Bool) (i : ℕ) → P t i (get_or (lasts_of t index') i 0)
unfolding put
put_lasts s c x y z index index' P p present at_x at_y at_z others t i = elim (same_kind s t) [
  | inl e ↦ subst (λ u. P u i (get_or (lasts_of u index') i 0)) (sym e)
      (subst (λ l. P s i (get_or l i 0)) (sym p.at) (put_at (lasts_of s index) c x y z (P s) present at_x at_y at_z (λ j not. others s j (λ h. not h.1)) i))
  | inr ne ↦ subst (λ l. P t i (get_or l i 0)) (sym (p.other t ne)) (others t i (λ h. ne h.0))
]

-- four more links, of which three hold these places
pub record HasFourMore (links links' : List ℕ) (x y z : ℕ) : Type 0 where
  pub count : length links' ≡ length links + 4
  pub same : (place : ℕ) → place < length links → get_or links' place 0 ≡ get_or links place 0
  pub at_x : get_or links' (length links + 1) 0 ≡ x
  pub at_y : get_or links' (length links + 2) 0 ≡ y
  pub at_z : get_or links' (length links + 3) 0 ≡ z

pub four_more : (links links' : List ℕ) (x y z : ℕ) → links' ≡ links ++ 0 ∷ x ∷ y ∷ z ∷ [] → HasFourMore links links' x y z
four_more links links' x y z e = record {
  count = ap length e ∙ length-append links (0 ∷ x ∷ y ∷ z ∷ []);
  same = (λ place lt. ap (λ ls. get_or ls place 0) e ∙ get_or-append links (0 ∷ x ∷ y ∷ z ∷ []) 0 place lt);
  at_x = ap (λ ls. get_or ls (length links + 1) 0) e ∙ get_or-append_right links (0 ∷ x ∷ y ∷ z ∷ []) (length links + 1) 1 0 refl;
  at_y = ap (λ ls. get_or ls (length links + 2) 0) e ∙ get_or-append_right links (0 ∷ x ∷ y ∷ z ∷ []) (length links + 2) 2 0 refl;
  at_z = ap (λ ls. get_or ls (length links + 3) 0) e ∙ get_or-append_right links (0 ∷ x ∷ y ∷ z ∷ []) (length links + 3) 3 0 refl;
}

pub four_fewer : (links links' : List ℕ) (start x y z : ℕ) → start + 4 ≡ length links → links' ≡ take start links
    → x ≡ get_or links (start + 1) 0 → y ≡ get_or links (start + 2) 0 → z ≡ get_or links (start + 3) 0 → HasFourMore links' links x y z
four_fewer links links' start x y z n e of_x of_y of_z =
    let count : length links' ≡ start = (let m = length-take start links in ap length e ∙ omega (arith, m, n)) in
    record {
      count = omega (arith, count, n);
      same = (λ place lt. sym (ap (λ ls. get_or ls place 0) e ∙ get_or-take start links place 0 (omega (arith, lt, count))));
      at_x = ap (λ m. get_or links (m + 1) 0) count ∙ sym of_x;
      at_y = ap (λ m. get_or links (m + 2) 0) count ∙ sym of_y;
      at_z = ap (λ m. get_or links (m + 3) 0) count ∙ sym of_z;
    }

-- what stands at a place of the new rule
more_at : (links links' : List ℕ) (x y z n i place : ℕ) (c : Rule) (P : ℕ → ℕ → Type 0) → HasFourMore links links' x y z → length links ≡ 4 * n
    → P (places c).x x → P (places c).y y → P (places c).z z → IsRulePlace n i place c → P i (get_or links' place 0)
more_at links links' x y z n i place c P added four of_x of_y of_z at = elim at [
  | inl e ↦ (let p = e.0 in let here : place ≡ length links + 1 = omega (arith, p, four) in
      subst (λ j. P j (get_or links' place 0)) (sym e.1) (subst (P (places c).x) (sym (ap (λ m. get_or links' m 0) here ∙ added.at_x)) of_x))
  | inr (inl e) ↦ (let p = e.0 in let here : place ≡ length links + 2 = omega (arith, p, four) in
      subst (λ j. P j (get_or links' place 0)) (sym e.1) (subst (P (places c).y) (sym (ap (λ m. get_or links' m 0) here ∙ added.at_y)) of_y))
  | inr (inr e) ↦ (let p = e.0 in let here : place ≡ length links + 3 = omega (arith, p, four) in
      subst (λ j. P j (get_or links' place 0)) (sym e.1) (subst (P (places c).z) (sym (ap (λ m. get_or links' m 0) here ∙ added.at_z)) of_z))
]

-- the last places of a rule's kind are those of the rules before it, and it takes their place
index_pushed_at : (count : ℕ) (cs : List Rule) (c : Rule) (s : Bool) (index index' : Index) (start : ℕ) → needs_singles c ≡ s → ArePresent (length (lasts_of s index)) c
    → start ≡ length index.links.items
    → HasFourMore index.links.items index'.links.items (get_or (lasts_of s index) (places c).x 0) (get_or (lasts_of s index) (places c).y 0) (get_or (lasts_of s index) (places c).z 0)
    → IsPutAt s (places c) (start + 1) (start + 2) (start + 3) index index' → (AreKnown cs index.hashes → AreKnown (cs ++ c ∷ []) index'.hashes) → IsRuleIndex count cs index → IsRuleIndex count (cs ++ c ∷ []) index'
index_pushed_at count cs c s index index' start is present at links put known was =
    let n = length_push cs c in
    let m = links.count in
    let four = was.four_each in
    let before : (i : ℕ) → IsLastNamingRule s (cs ++ c ∷ []) i (length cs) (get_or (lasts_of s index) i 0) = (λ i. more s cs c i (length cs) _ (omega arith) (was.lasts s i)) in
    record {
      known = known was.known;
      one_each = put_lengths s (places c) (start + 1) (start + 2) (start + 3) index index' count put was.one_each;
      four_each = omega (arith, n, m, four);
      lasts = put_lasts s (places c) (start + 1) (start + 2) (start + 3) index index' (λ t j q. IsLastNamingRule t (cs ++ c ∷ []) j (length (cs ++ c ∷ [])) q) put present
          (newest s cs c (places c).x _ (inl (omega (arith, at, four), refl), is)) (newest s cs c (places c).y _ (inr (inl (omega (arith, at, four), refl)), is))
          (newest s cs c (places c).z _ (inr (inr (omega (arith, at, four), refl)), is))
          (λ t j not. not_newest t cs c j _ (λ h. not (sym h.1 ∙ is, h.0)) (was.lasts t j));
      links = (λ t k i place d lt listed. elim (cases_eq k (length cs)) [
        | inl here ↦ (let of_it = subst (IsListedAt t k i place) (get_or_push cs c d k (sym here)) listed in
            subst (λ u. IsLastNamingRule u (cs ++ c ∷ []) i k (get_or index'.links.items place 0)) (sym is ∙ of_it.1)
            (subst (λ b. IsLastNamingRule s (cs ++ c ∷ []) i b (get_or index'.links.items place 0)) (sym here)
            (more_at index.links.items index'.links.items _ _ _ (length cs) i place c (λ j q. IsLastNamingRule s (cs ++ c ∷ []) j (length cs) q) links four
            (before (places c).x) (before (places c).y) (before (places c).z) (subst (λ b. IsRulePlace b i place c) here of_it.0))))
        | inr ne ↦ (let below : k < length cs = omega (arith, lt, n, ne) in
            let of_old = subst (IsListedAt t k i place) (get_or-append cs (c ∷ []) d k below) listed in
            let top = (place_between (get_or cs k d) k i place of_old.0).1 in
            subst (λ q. IsLastNamingRule t (cs ++ c ∷ []) i k q) (sym (links.same place (omega (arith, top, below, four))))
            (more t cs c i k _ (omega (arith, below)) (was.links t k i place d below of_old)))
      ]);
    }

index_popped_at : (count : ℕ) (cs : List Rule) (c : Rule) (s : Bool) (index index' : Index) (x y z : ℕ) → needs_singles c ≡ s → ArePresent (length (lasts_of s index)) c
    → HasFourMore index'.links.items index.links.items x y z → IsPutAt s (places c) x y z index index' → (AreKnown (cs ++ c ∷ []) index.hashes → AreKnown cs index'.hashes)
    → IsRuleIndex count (cs ++ c ∷ []) index → IsRuleIndex count cs index'
index_popped_at count cs c s index index' x y z is present links put known was =
    let n = length_push cs c in
    let m = links.count in
    let four = was.four_each in
    let same : length index'.links.items ≡ 4 * length cs = omega (arith, n, m, four) in
    let before : (i place q : ℕ) → IsRulePlace (length cs) i place c → get_or index.links.items place 0 ≡ q → IsLastNamingRule s cs i (length cs) q =
    (λ i place q at e. subst (λ r. IsLastNamingRule s cs i (length cs) r) e (fewer s cs c i (length cs) _ (omega arith)
    (was.links s (length cs) i place c (omega (arith, n)) (subst (IsListedAt s (length cs) i place) (sym (get_or_push cs c c (length cs) refl)) (at, is))))) in
    record {
      known = known was.known;
      one_each = put_lengths s (places c) x y z index index' count put was.one_each;
      four_each = same;
      lasts = put_lasts s (places c) x y z index index' (λ t j q. IsLastNamingRule t cs j (length cs) q) put present
          (before (places c).x (4 * length cs + 1) x (inl (refl, refl)) (ap (λ a. get_or index.links.items (a + 1) 0) (sym same) ∙ links.at_x))
          (before (places c).y (4 * length cs + 2) y (inr (inl (refl, refl))) (ap (λ a. get_or index.links.items (a + 2) 0) (sym same) ∙ links.at_y))
          (before (places c).z (4 * length cs + 3) z (inr (inr (refl, refl))) (ap (λ a. get_or index.links.items (a + 3) 0) (sym same) ∙ links.at_z))
          (λ t j not. was_not_newest t cs c j _ (λ h. not (sym h.1 ∙ is, h.0)) (was.lasts t j));
      links = (λ t k i place d lt listed.
          let top = (place_between (get_or cs k d) k i place listed.0).1 in
          subst (λ q. IsLastNamingRule t cs i k q) (links.same place (omega (arith, top, lt, same)))
          (fewer t cs c i k _ (omega (arith, lt)) (was.links t k i place d (omega (arith, n, lt)) (subst (IsListedAt t k i place) (sym (get_or-append cs (c ∷ []) d k lt)) listed))));
    }

-- the same where the places were read before
pub index_pushed : (count : ℕ) (cs : List Rule) (c : Rule) (p : Constraint) (s : Bool) (index index' : Index) (start : ℕ) → p ≡ places c → needs_singles c ≡ s
    → ArePresent (length (lasts_of (needs_singles c) index)) c → start ≡ length index.links.items
    → index'.links.items ≡ index.links.items ++ 0 ∷ get_or (lasts_of s index) p.x 0 ∷ get_or (lasts_of s index) p.y 0 ∷ get_or (lasts_of s index) p.z 0 ∷ []
    → IsPutAt s p (start + 1) (start + 2) (start + 3) index index' → (AreKnown cs index.hashes → AreKnown (cs ++ c ∷ []) index'.hashes) → IsRuleIndex count cs index → IsRuleIndex count (cs ++ c ∷ []) index'
index_pushed count cs c p s index index' start at is present top links put known was =
    let lasts = lasts_of s index in
    index_pushed_at count cs c s index index' start is (subst (λ t. ArePresent (length (lasts_of t index)) c) is present) top
    (subst (λ (q : Constraint). HasFourMore index.links.items index'.links.items (get_or lasts q.x 0) (get_or lasts q.y 0) (get_or lasts q.z 0)) at (four_more index.links.items index'.links.items _ _ _ links))
    (subst (λ (q : Constraint). IsPutAt s q (start + 1) (start + 2) (start + 3) index index') at put) known was

pub index_popped : (count : ℕ) (cs : List Rule) (c : Rule) (p : Constraint) (s : Bool) (index index' : Index) (x y z : ℕ) → p ≡ places c → needs_singles c ≡ s
    → ArePresent (length (lasts_of (needs_singles c) index)) c
    → HasFourMore index'.links.items index.links.items x y z → IsPutAt s p x y z index index' → (AreKnown (cs ++ c ∷ []) index.hashes → AreKnown cs index'.hashes)
    → IsRuleIndex count (cs ++ c ∷ []) index → IsRuleIndex count cs index'
index_popped count cs c p s index index' x y z at is present links put known was =
    index_popped_at count cs c s index index' x y z is (subst (λ t. ArePresent (length (lasts_of t index)) c) is present) links
    (subst (λ (q : Constraint). IsPutAt s q x y z index index') at put) known was

-- an index of no more than three numbers has no rule
pub no_rule_left : (count n : ℕ) (cs : List Rule) (c : Rule) (index : Index) → n ≡ length index.links.items → n < 4 → IsRuleIndex count (cs ++ c ∷ []) index → ⊥
no_rule_left count n cs c index e lt was = let l = length_push cs c in let four = was.four_each in omega (arith, l, four, e, lt)

-- as many variables
pub index_of_count : (count count' : ℕ) (cs : List Rule) (index : Index) → count' ≡ count → IsRuleIndex count cs index → IsRuleIndex count' cs index
index_of_count count count' cs index e s = subst (λ n. IsRuleIndex n cs index) (sym e) s

pub index_narrowed : (sets sets' : List (List (ℤ × ℤ))) (i : ℕ) (left : Option (List (ℤ × ℤ))) (cs : List Rule) (index : Index) → sets' ≡ narrowed_at sets i left
    → IsRuleIndex (length sets) cs index → IsRuleIndex (length sets') cs index
index_narrowed sets sets' i None cs index e s = index_of_count _ _ cs index (ap length e) s
index_narrowed sets sets' i (Some left) cs index e s = index_of_count _ _ cs index (ap length e ∙ length-set sets i left) s

-- the last of the rules names variables that are there
pub present_last : (count : ℕ) (cs cs' : List Rule) (c : Rule) (index : Index) → cs ≡ cs' ++ c ∷ [] → All (ArePresent count) cs → IsRuleIndex count cs index
    → ArePresent (length (lasts_of (needs_singles c) index)) c
present_last count cs cs' c index e present s =
    let n = length_push cs' c in let l = ap length e in
    let at : get_or cs (length cs') c ≡ c = ap (λ ds. get_or ds (length cs') c) e ∙ get_or_push cs' c c (length cs') refl in
    subst (λ m. ArePresent m c) (sym (s.one_each (needs_singles c))) (subst (ArePresent count) at (present (length cs') c (omega (arith, n, l))))

-- ---- a walk over the rules that name a variable

-- some rule, where one is asked for that plays no part
pub any_rule : Rule
any_rule = Sum (record { x = 0; y = 0; z = 0 })

-- the place before one at which a walk is
pub next_place : (count : ℕ) (cs : List Rule) (index : Index) (s : Bool) (i place next : ℕ) → IsRuleIndex count cs index → (0 < place → place < 4 * length cs)
    → ((k : ℕ) (d : Rule) → 0 < place → 4 * k ≤ place → place < 4 * k + 4 → IsListedAt s k i place (get_or cs k d)) → 0 < place → next ≡ get_or index.links.items place 0
    → IsLastNamingRule s cs i (place / 4) next
next_place count cs index s i place next was low names pos e =
    let below = low pos in
    subst (λ q. IsLastNamingRule s cs i (place / 4) q) (sym e)
    (was.links s (place / 4) i place any_rule (omega (arith, below)) (names (place / 4) any_rule pos (omega arith) (omega arith)))

-- it is a lower one
pub next_is_lower : (s : Bool) (cs : List Rule) (i place next : ℕ) → 0 < place → IsLastNamingRule s cs i (place / 4) next → next < place
next_is_lower s cs i place next pos n = elim (cases_lt 0 next) [
  | inl some ↦ (let low = n.low some in omega (arith, low))
  | inr none ↦ omega (arith, none, pos)
]
