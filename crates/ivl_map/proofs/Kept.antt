-- What each change keeps: the entries are in order and in the range. And copies of lists.
use Rattle.std.proofs.Common.{◌≡◌, ◌↔◌, ⊎_elim, inl, inr, ℕ, zero, suc, ◌<◌, ℤ, pos, ◌+ℤ◌, ◌≤ℤ◌, ◌<ℤ◌, Bool, true, false, List, [], ◌∷◌, ◌++◌, length, get_or, take, sym, subst, ◌∙◌, arith, Result, Ok, Err}
use Rattle.std.specs.Prelude.{OnErr, OnOk}
use Rattle.std.proofs.lemmas.Int.{ints}
use Rattle.std.specs.Cmp.{IsEquivalence}
use Rattle.ivl_laws.specs.Sets.{Complement, IsBetween, IsSubset, SameMembers}
use Rattle.ivl_map.specs.Entries.{HasAt, IsEntriesOf, IsEntryList, IsEntryListIn, IsPast, NotAt, OnlyAt, Outside, Written}
use Rattle.ivl_map.proofs.Lists.{above_past, differs_left, differs_right, alike_left}

-- whatever the result of a change is
pub either_way : {X Y P Q T : Type 0} (r : Result X Y) → OnOk r P → OnErr r Q → (P → T) → (Q → T) → T
either_way (Ok x) p q f g = f p
either_way (Err y) p q f g = g q

-- the same intervals with equal values
abbrev pub AreCopies : {V : Type 0} → (V → V → Bool) → List ((ℤ × ℤ) × V) → List ((ℤ × ℤ) × V) → Type 0
AreCopies eq [] [] = Unit {0}
AreCopies eq [] (f ∷ D) = ⊥
AreCopies eq (e ∷ E) [] = ⊥
AreCopies eq (e ∷ E) (f ∷ D) = (e.0 ≡ f.0) × (eq e.1 f.1 ≡ true) × AreCopies eq E D

module _ {V : Type 0} (eq : V → V → Bool) (whole : ℤ × ℤ) where
  pub list_in : (D : List ((ℤ × ℤ) × V)) (F : ℤ → V → Type 0) → IsEntriesOf eq D F → ((z : ℤ) (v : V) → F z v → IsBetween whole z) → IsEntryListIn whole eq D
  list_in D F d h = record { maximal = d.maximal; within = λ z k. h z k.0 ((d.values z k.0).0 k.1) }

  pub written_in : (E D : List ((ℤ × ℤ) × V)) (p : ℤ × ℤ) (x : V) → IsEntryListIn whole eq E → IsSubset (IsBetween p) (IsBetween whole) → IsEntriesOf eq D (Written eq p x (HasAt eq E)) → IsEntryListIn whole eq D
  written_in E D p x m w d = list_in D (Written eq p x (HasAt eq E)) d (λ z v. ⊎_elim (λ b. w z b.0) (λ c. m.within z (v, c.0)))

  pub outside_in : (E D : List ((ℤ × ℤ) × V)) (p : ℤ × ℤ) → IsEntryListIn whole eq E → IsEntriesOf eq D (Outside p (HasAt eq E)) → IsEntryListIn whole eq D
  outside_in E D p m d = list_in D (Outside p (HasAt eq E)) d (λ z v c. m.within z (v, c.0))

  pub none_in_whole : IsEntryListIn whole eq []
  none_in_whole = record { maximal = tt; within = λ z k. absurd k.1 }

module _ {V : Type 0} (eq : V → V → Bool) (o : IsEquivalence eq) where
  -- no number has two values
  pub one_value : (E : List ((ℤ × ℤ) × V)) (z : ℤ) (v w : V) → IsEntryList eq E → HasAt eq E z v → HasAt eq E z w → eq v w ≡ true
  one_value [] z v w m c d = absurd c
  one_value (e ∷ E) z v w m (inl (b, s)) (inl (b', t)) = sym (o.congr e.1 v w s) ∙ t
  one_value (e ∷ E) z v w m (inl (b, s)) (inr d) = let a = above_past eq e E z w m d in absurd (omega (arith, ints, a, b.1))
  one_value (e ∷ E) z v w m (inr c) (inl (b, t)) = let a = above_past eq e E z v m c in absurd (omega (arith, ints, a, b.1))
  one_value (e ∷ E) z v w m (inr c) (inr d) = one_value E z v w m.2 c d

  -- ---- copies

  pub copies_next : (E D : List ((ℤ × ℤ) × V)) (i : ℕ) (d f : (ℤ × ℤ) × V) → i < length E → f.0 ≡ (get_or E i d).0 → eq (get_or E i d).1 f.1 ≡ true → AreCopies eq (take i E) D → AreCopies eq (take (suc i) E) (D ++ f ∷ [])
  copies_next [] D i d f h p s c = absurd (omega arith)
  copies_next (e ∷ E) [] zero d f h p s c = (sym p, s, tt)
  copies_next (e ∷ E) (g ∷ D) zero d f h p s c = absurd c
  copies_next (e ∷ E) [] (suc i) d f h p s c = absurd c
  copies_next (e ∷ E) (g ∷ D) (suc i) d f h p s c = (c.0, c.1, copies_next E D i d f (omega arith) p s c.2)

  copies_past : (e f : (ℤ × ℤ) × V) (E D : List ((ℤ × ℤ) × V)) → e.0 ≡ f.0 → eq e.1 f.1 ≡ true → AreCopies eq E D → IsPast eq e E → IsPast eq f D
  copies_past e f [] [] p s c m = tt
  copies_past e f [] (k ∷ D) p s c m = absurd c
  copies_past e f (g ∷ E) [] p s c m = tt
  copies_past e f (g ∷ E) (k ∷ D) p s c m =
      let P : ℤ × ℤ → Type 0 = λ r. (r.1 <ℤ g.0.0) × (g.0.0 ≡ r.1 +ℤ pos 1 → eq e.1 g.1 ≡ false) in
      let Q : ℤ × ℤ → Type 0 = λ r. (f.0.1 <ℤ r.0) × (r.0 ≡ f.0.1 +ℤ pos 1 → eq e.1 g.1 ≡ false) in
      let n = subst Q c.0 (subst P p m) in
      (n.0, λ t. differs_left eq o e.1 f.1 k.1 s (differs_right eq o g.1 k.1 e.1 c.1 (n.1 t)))

  pub copies_in_order : (E D : List ((ℤ × ℤ) × V)) → AreCopies eq E D → IsEntryList eq E → IsEntryList eq D
  copies_in_order [] [] c m = tt
  copies_in_order [] (f ∷ D) c m = absurd c
  copies_in_order (e ∷ E) [] c m = tt
  copies_in_order (e ∷ E) (f ∷ D) c m =
      (subst (λ (r : ℤ × ℤ). r.0 ≤ℤ r.1) c.0 m.0, copies_past e f E D c.0 c.1 c.2 m.1, copies_in_order E D c.2 m.2)

  pub copies_have : (E D : List ((ℤ × ℤ) × V)) (z : ℤ) (v : V) → AreCopies eq E D → HasAt eq D z v ↔ HasAt eq E z v
  copies_have [] [] z v c = ((λ n. n), (λ n. n))
  copies_have [] (f ∷ D) z v c = absurd c
  copies_have (e ∷ E) [] z v c = absurd c
  copies_have (e ∷ E) (f ∷ D) z v c =
      let rest = copies_have E D z v c.2 in
      let P : ℤ × ℤ → Type 0 = λ r. IsBetween r z in (
        ⊎_elim (λ b. inl (subst P (sym c.0) b.0, alike_left eq o e.1 f.1 v c.1 b.1)) (λ n. inr (rest.0 n)),
        ⊎_elim (λ b. inl (subst P c.0 b.0, sym (o.congr e.1 f.1 v c.1) ∙ b.1)) (λ n. inr (rest.1 n)),
      )

  pub copied : (E D : List ((ℤ × ℤ) × V)) → AreCopies eq E D → IsEntryList eq E → IsEntriesOf eq D (HasAt eq E)
  copied E D c m = record { maximal = copies_in_order E D c m; values = λ z v. copies_have E D z v c }

-- ---- parts of a map

pub only_same : {V : Type 0} (eq : V → V → Bool) (D : List ((ℤ × ℤ) × V)) (S T : ℤ → Type 0) (F G : ℤ → V → Type 0) → SameMembers S T → ((z : ℤ) (v : V) → T z → F z v ↔ G z v) → IsEntriesOf eq D (OnlyAt S F) → IsEntriesOf eq D (OnlyAt T G)
only_same eq D S T F G h k d = record {
  maximal = d.maximal;
  values = λ z v. (
    (λ c. let (f, s) = (d.values z v).0 c in let t = (h z).0 s in ((k z v t).0 f, t)),
    (λ (f, t). (d.values z v).1 ((k z v t).1 f, (h z).1 t)),
  );
}

pub only_others : {V : Type 0} (eq : V → V → Bool) (D : List ((ℤ × ℤ) × V)) (S T : ℤ → Type 0) (whole : ℤ × ℤ) (F : ℤ → V → Type 0) → SameMembers S (Complement whole T) → ((z : ℤ) (v : V) → F z v → IsBetween whole z) → IsEntriesOf eq D (OnlyAt S F) → IsEntriesOf eq D (NotAt T F)
only_others eq D S T whole F h w d = record {
  maximal = d.maximal;
  values = λ z v. (
    (λ c. let (f, s) = (d.values z v).0 c in (f, ((h z).0 s).1)),
    (λ (f, n). (d.values z v).1 (f, (h z).1 (w z v f, n))),
  );
}
