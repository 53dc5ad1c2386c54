-- How many nodes a search still needs: for the domains, and for the other parts of its cuts.
use Rattle.std.proofs.Common.{◌≡◌, ◌<◌, ◌≤◌, ◌+◌, ◌-◌, ◌*◌, ◌/◌, ◌∙◌, ℕ, zero, suc, ◌⊎◌, inl, inr, sym, subst, arith, refl, List, [], ◌∷◌, ◌++◌, length, max}
use Rattle.ivl_rules.specs.declared.rules.Rule.{Rule}
use Rattle.std.specs.Prelude.{ℤ}
use Rattle.std.proofs.Math.Nat.{mul-le-mul_left, mul-le-mul_right}
use Rattle.ivl_laws.specs.Families.{set_at}
use Rattle.ivl_store.specs.Measure.{total}
use Rattle.ivl_network.specs.Network.{IsCutAt}
use Rattle.ivl_store.specs.Solutions.{LiesWithin}
use Rattle.ivl_network.specs.Trail.{RulesPast}
use Rattle.ivl_search.specs.declared.search.choice.Wanted.{Wanted}
use Rattle.ivl_search.specs.declared.search.steps.Cut.{Cut}
use Rattle.ivl_search.specs.Best.{IsBetter}
use Rattle.ivl_search.specs.Budget.{points_of}
use Rattle.ivl_search.proofs.Budget.{points_le, points_less}

-- the other part of a cut has so many points, and one at least
pub record IsRoom {B : Type 0} (value : B → ℤ) (wanted : Wanted) (whole : ℤ × ℤ) (cut : Cut B) (past : RulesPast) (room : ℕ) : Type 0 where
  pub some : 1 ≤ room
  pub is : (high : List (List (ℤ × ℤ))) → length high ≡ length past.domains
      → IsCutAt cut.variable (λ v. IsBetter wanted v (value cut.value)) (set_at past.domains) (set_at high) → points_of whole high ≡ room

-- the other parts of the cuts need n nodes, where the same members take k at most
abbrev pub HasRoom : {B : Type 0} → (B → ℤ) → Wanted → ℤ × ℤ → ℕ → List (Cut B) → List RulesPast → ℕ → Type 0
HasRoom value wanted whole k [] [] n = n ≡ 0
HasRoom value wanted whole k [] (past ∷ pasts) n = ⊥
HasRoom value wanted whole k (cut ∷ cuts) [] n = ⊥
HasRoom value wanted whole k (cut ∷ cuts) (past ∷ pasts) n =
    (room : ℕ) × (rest : ℕ) × IsRoom value wanted whole cut past room × HasRoom value wanted whole k cuts pasts rest × (n + k ≡ (room * k + room * k) + rest)

-- the domains with so many points, and so many rules to look at, need no more than so many nodes, less two for each k
abbrev pub nodes_here : ℕ → ℕ → ℕ → ℕ
nodes_here k points unsettled = (max 1 points * k + max 1 points * k) + (unsettled / 500 + 1)

-- and so many at the root, less two for each k
abbrev pub nodes_root : ℕ → ℕ → ℕ
nodes_root k points = (max 1 points * k + max 1 points * k) + k

pub one_room : (room k : ℕ) → 1 ≤ room → k ≤ room * k
one_room zero k h = absurd (omega (arith, h))
one_room (suc r) k h = let e : suc r * k ≡ r * k + k = grind arith in omega (arith, e)

-- one more cut
pub room_more : {B : Type 0} (value : B → ℤ) (wanted : Wanted) (whole : ℤ × ℤ) (k : ℕ) (cuts : List (Cut B)) (pasts : List RulesPast) (cut : Cut B) (past : RulesPast) (room n m : ℕ)
    → HasRoom value wanted whole k cuts pasts n → IsRoom value wanted whole cut past room → m + k ≡ (room * k + room * k) + n
    → HasRoom value wanted whole k (cuts ++ cut ∷ []) (pasts ++ past ∷ []) m
room_more value wanted whole k [] [] cut past room n m rooms is e = (room, 0, is, refl, subst (λ n. m + k ≡ (room * k + room * k) + n) rooms e)
room_more value wanted whole k [] (p ∷ pasts) cut past room n m rooms is e = absurd rooms
room_more value wanted whole k (c ∷ cuts) [] cut past room n m rooms is e = absurd rooms
room_more value wanted whole k (c ∷ cuts) (p ∷ pasts) cut past room n m rooms is e =
    let w = one_room room k is.some in
    let h = rooms.4 in
    let rest = ((room * k + room * k) + rooms.1) - k in
    let f : rest + k ≡ (room * k + room * k) + rooms.1 = omega (arith, w) in
    (rooms.0, rest, rooms.2, room_more value wanted whole k cuts pasts cut past room rooms.1 rest rooms.3 is f, last (rooms.0 * k + rooms.0 * k) (room * k + room * k) k m n rooms.1 rest e h f)
  where
    last : (a b k m n r rest : ℕ) → m + k ≡ b + n → n + k ≡ a + r → rest + k ≡ b + r → m + k ≡ a + rest
    last a b k m n r rest e h f = omega arith

-- one cut less
pub record IsRoomPopped {B : Type 0} (value : B → ℤ) (wanted : Wanted) (whole : ℤ × ℤ) (k : ℕ) (cuts : List (Cut B)) (cut : Cut B) (before : List RulesPast) (past : RulesPast) (n : ℕ) : Type 0 where
  pub room : ℕ
  pub rest : ℕ
  pub is : IsRoom value wanted whole cut past room
  pub others : HasRoom value wanted whole k cuts before rest
  pub sum : n + k ≡ (room * k + room * k) + rest

pub room_popped : {B : Type 0} (value : B → ℤ) (wanted : Wanted) (whole : ℤ × ℤ) (k : ℕ) (cuts : List (Cut B)) (cut : Cut B) (before : List RulesPast) (past : RulesPast) (n : ℕ)
    → length cuts ≡ length before → HasRoom value wanted whole k (cuts ++ cut ∷ []) (before ++ past ∷ []) n → IsRoomPopped value wanted whole k cuts cut before past n
room_popped value wanted whole k [] cut [] past n e rooms = record {
  room = rooms.0;
  rest = rooms.1;
  is = rooms.2;
  others = rooms.3;
  sum = rooms.4;
}
room_popped value wanted whole k [] cut (p ∷ before) past n e rooms = absurd (omega (arith, e))
room_popped value wanted whole k (c ∷ cuts) cut [] past n e rooms = absurd (omega (arith, e))
room_popped value wanted whole k (c ∷ cuts) cut (p ∷ before) past n e rooms =
    let popped = room_popped value wanted whole k cuts cut before past rooms.1 (omega (arith, e)) rooms.3 in
    let w = one_room rooms.0 k rooms.2.some in
    let h = rooms.4 in
    let s = popped.sum in
    let rest = ((rooms.0 * k + rooms.0 * k) + popped.rest) - k in
    let f : rest + k ≡ (rooms.0 * k + rooms.0 * k) + popped.rest = omega (arith, w) in
    record {
      room = popped.room;
      rest = rest;
      is = popped.is;
      others = (rooms.0, popped.rest, rooms.2, popped.others, f);
      sum = last (rooms.0 * k + rooms.0 * k) (popped.room * k + popped.room * k) k n rooms.1 popped.rest rest h s f;
    }
  where
    last : (a b k n r q rest : ℕ) → n + k ≡ a + r → r + k ≡ b + q → rest + k ≡ a + q → n + k ≡ b + rest
    last a b k n r q rest e h f = omega arith

scaled : (a b k : ℕ) → a ≤ b → a * k ≤ b * k
scaled a b k le = mul-le-mul_right k le

scaled_more : (a b k : ℕ) → a < b → a * k + k ≤ b * k
scaled_more a b k lt =
    let h : (a + 1) * k ≤ b * k = mul-le-mul_right k (omega (arith, lt)) in
    let e : (a + 1) * k ≡ a * k + k = grind arith in
    omega (arith, h, e)

above_one : (p : ℕ) → 1 ≤ p → max 1 p ≡ p
above_one p h = omega arith

-- narrowing that is not done yet takes a node off
pub unsettled_less : (whole : ℤ × ℤ) (sets less : List (List (ℤ × ℤ))) (m u v : ℕ) → length less ≡ length sets → LiesWithin (set_at less) (set_at sets) → v ≤ m → u ≤ m
    → 500 + (total whole less * (m + 1) + v) ≤ total whole sets * (m + 1) + u → 1 ≤ points_of whole less
    → nodes_here (m / 500 + 1) (points_of whole less) v + 1 ≤ nodes_here (m / 500 + 1) (points_of whole sets) u
unsettled_less whole sets less m u v e w le le' fewer one =
    let a = points_le whole less sets e w in
    let k = m / 500 + 1 in
    let p = points_of whole less in
    let q = points_of whole sets in
    rw (above_one p one, above_one q (omega (arith, one, a)))
    (elim (lt_or_le (total whole less) (total whole sets)) [
      | inl lt ↦ lost (p * k) (q * k) m u v (scaled_more p q k (points_less whole less sets e w lt one)) le
      | inr ge ↦ kept (p * k) (q * k) u v (scaled p q k a) (fewer_left (total whole sets * (m + 1)) (total whole less * (m + 1)) u v (scaled (total whole sets) (total whole less) (m + 1) ge) fewer)
    ])
  where
    lt_or_le : (a b : ℕ) → (a < b) ⊎ (b ≤ a)
    lt_or_le a b = grind arith

    lost : (a b m u v : ℕ) → a + (m / 500 + 1) ≤ b → v ≤ m → ((a + a) + (v / 500 + 1)) + 1 ≤ (b + b) + (u / 500 + 1)
    lost a b m u v h le = omega arith

    kept : (a b u v : ℕ) → a ≤ b → 500 + v ≤ u → ((a + a) + (v / 500 + 1)) + 1 ≤ (b + b) + (u / 500 + 1)
    kept a b u v h le = omega arith

    fewer_left : (a b u v : ℕ) → a ≤ b → 500 + (b + v) ≤ a + u → 500 + v ≤ u
    fewer_left a b u v le h = omega arith

-- a cut takes one off
pub open_less : (m u v all points room rest need need' : ℕ) → v ≤ m → 1 ≤ points → 1 ≤ room → points + room ≤ all → need' + (m / 500 + 1) ≡ (room * (m / 500 + 1) + room * (m / 500 + 1)) + need
    → (need' + nodes_here (m / 500 + 1) points v) + 1 ≤ need + nodes_here (m / 500 + 1) all u
open_less m u v all points room rest need need' le one one' sum e =
    let k = m / 500 + 1 in
    let s : (points + room) * k ≤ all * k = scaled (points + room) all k sum in
    let d : (points + room) * k ≡ points * k + room * k = grind arith in
    rw (above_one points one, above_one all (omega (arith, sum, one))) (last (points * k) (room * k) (all * k) m u v need need' le (subst (λ x. x ≤ all * k) d s) e)
  where
    last : (a b c m u v need need' : ℕ) → v ≤ m → a + b ≤ c → need' + (m / 500 + 1) ≡ (b + b) + need
        → (need' + ((a + a) + (v / 500 + 1))) + 1 ≤ need + ((c + c) + (u / 500 + 1))
    last a b c m u v need need' le h e = omega arith

-- and so does going back to the last cut
pub back_less : (m u v all room rest need : ℕ) → v ≤ m → 1 ≤ room → need + (m / 500 + 1) ≡ (room * (m / 500 + 1) + room * (m / 500 + 1)) + rest
    → (rest + nodes_here (m / 500 + 1) room v) + 1 ≤ need + nodes_here (m / 500 + 1) all u
back_less m u v all room rest need le one e =
    let k = m / 500 + 1 in
    let w = one_room (max 1 all) k (omega arith) in
    rw (above_one room one) (last (room * k) (max 1 all * k) m u v rest need le w e)
  where
    last : (a c m u v rest need : ℕ) → v ≤ m → m / 500 + 1 ≤ c → need + (m / 500 + 1) ≡ (a + a) + rest
        → (rest + ((a + a) + (v / 500 + 1))) + 1 ≤ need + ((c + c) + (u / 500 + 1))
    last a c m u v rest need le h e = omega arith

-- at the root
pub root_room : (m u points : ℕ) → u ≤ m → nodes_here (m / 500 + 1) points u ≤ nodes_root (m / 500 + 1) points
root_room m u points le = last (max 1 points * (m / 500 + 1)) m u le
  where
    last : (a m u : ℕ) → u ≤ m → (a + a) + (u / 500 + 1) ≤ (a + a) + (m / 500 + 1)
    last a m u le = omega arith

less_one : (q k : ℕ) → 1 ≤ q → (2 * q - 1) * k + k ≡ q * k + q * k
less_one zero k h = absurd (omega (arith, h))
less_one (suc q) k h =
    let e : 2 * suc q - 1 ≡ 2 * q + 1 = omega arith in
    rw e (grind arith)

-- what is left never falls below what is needed
pub within_budget : (m points u all nodes left need : ℕ)
    → nodes + (need + nodes_here (m / 500 + 1) points u) ≤ left + nodes_root (m / 500 + 1) all
    → nodes < left + (2 * max 1 all - 1) * (m / 500 + 1)
within_budget m points u all nodes left need h =
    let k = m / 500 + 1 in
    let w = one_room (max 1 points) k (omega arith) in
    let e = less_one (max 1 all) k (omega arith) in
    last (max 1 points * k) (max 1 all * k) ((2 * max 1 all - 1) * k) k u nodes left need w e h
  where
    last : (a b e k u nodes left need : ℕ) → k ≤ a → e + k ≡ b + b → nodes + (need + ((a + a) + (u / 500 + 1))) ≤ left + ((b + b) + k) → nodes < left + e
    last a b e k u nodes left need w s h = omega arith

twice : (q k : ℕ) → 2 * q * k ≡ q * k + q * k
twice q k = grind arith

-- what the search of a half has used leaves enough for the rest
pub half_spent : (k all sets less good new nodes before left after : ℕ) → 1 ≤ k → nodes + 2 * sets * k ≤ before + 2 * max 1 all * k → left + 1 ≡ before
    → left ≤ after + (2 * max 1 good - 1) * k → 1 ≤ good → new + good ≤ less → less ≤ sets → nodes + 2 * new * k ≤ after + 2 * max 1 all * k
half_spent k all sets less good new nodes before left after one h e spent some sum le =
    let a = scaled (new + good) sets k (omega (arith, sum, le)) in
    let d : (new + good) * k ≡ new * k + good * k = grind arith in
    let s = subst (λ q. left ≤ after + (2 * q - 1) * k) (above_one good some) spent in
    let o = less_one good k some in
    let r = twice sets k in
    let t = twice new k in
    last (new * k) (good * k) (sets * k) (2 * max 1 all * k) (2 * sets * k) (2 * new * k) ((2 * good - 1) * k) k nodes before left after one h e s o r t (subst (λ x. x ≤ sets * k) d a)
  where
    last : (a b c q s t o k nodes before left after : ℕ) → 1 ≤ k → nodes + s ≤ before + q → left + 1 ≡ before → left ≤ after + o → o + k ≡ b + b → s ≡ c + c → t ≡ a + a → a + b ≤ c
        → nodes + t ≤ after + q
    last a b c q s t o k nodes before left after one h e f g i j l = omega arith

-- and where it has used all, the limit was too small
pub half_stopped : (k all sets less good nodes before left : ℕ) → 1 ≤ k → nodes + 2 * sets * k ≤ before + 2 * max 1 all * k → left + 1 ≡ before
    → left < (2 * max 1 good - 1) * k → 1 ≤ good → good ≤ less → less ≤ sets → nodes < 2 * max 1 all * k
half_stopped k all sets less good nodes before left one h e stop some sum le =
    let a = scaled good sets k (omega (arith, sum, le)) in
    let s = subst (λ q. left < (2 * q - 1) * k) (above_one good some) stop in
    let o = less_one good k some in
    let r = twice sets k in
    last (good * k) (sets * k) (2 * max 1 all * k) (2 * sets * k) ((2 * good - 1) * k) k nodes before left one h e s o r a
  where
    last : (b c q s o k nodes before left : ℕ) → 1 ≤ k → nodes + s ≤ before + q → left + 1 ≡ before → left < o → o + k ≡ b + b → s ≡ c + c → b ≤ c → nodes < q
    last b c q s o k nodes before left one h e f g i l = omega arith

-- and so where none was left before it
pub none_left : (k all sets nodes : ℕ) → 1 ≤ k → 1 ≤ sets → nodes + 2 * sets * k ≤ 2 * max 1 all * k → nodes < 2 * max 1 all * k
none_left k all sets nodes one some h =
    let w = one_room sets k some in
    let r = twice sets k in
    last (sets * k) (2 * max 1 all * k) (2 * sets * k) k nodes one h r w
  where
    last : (c q s k nodes : ℕ) → 1 ≤ k → nodes + s ≤ q → s ≡ c + c → k ≤ c → nodes < q
    last c q s k nodes one h r w = omega arith

-- at the root
pub best_root : (k points nodes : ℕ) → nodes + 2 * points * k ≤ nodes + 2 * max 1 points * k
best_root k points nodes =
    let a = scaled points (max 1 points) k (omega arith) in
    let r = twice points k in
    let s = twice (max 1 points) k in
    last (points * k) (max 1 points * k) (2 * points * k) (2 * max 1 points * k) nodes a r s
  where
    last : (a b s t nodes : ℕ) → a ≤ b → s ≡ a + a → t ≡ b + b → nodes + s ≤ nodes + t
    last a b s t nodes h r q = omega arith

pub some_for_best : (k points : ℕ) → 1 ≤ k → 0 < 2 * max 1 points * k
some_for_best k points one =
    let w = one_room (max 1 points) k (omega arith) in
    let r = twice (max 1 points) k in
    last (max 1 points * k) (2 * max 1 points * k) k one w r
  where
    last : (b t k : ℕ) → 1 ≤ k → k ≤ b → t ≡ b + b → 0 < t
    last b t k one w r = omega arith

-- more rules need no fewer nodes
pub more_rules : (m n q : ℕ) → m ≤ n → q * (m / 500 + 1) ≤ q * (n / 500 + 1)
more_rules m n q le =
    let d : m / 500 + 1 ≤ n / 500 + 1 = omega (arith, le) in
    mul-le-mul_left q d

-- a node that is spent where one fewer is needed
pub one_spent : (nodes left more root before after : ℕ) → nodes + before ≤ left + root → more + 1 ≡ left → after + 1 ≤ before → nodes + after ≤ more + root
one_spent nodes left more root before after h e less = omega (arith, h, e, less)

pub enough_more : (m n q nodes : ℕ) → m ≤ n → nodes < q * (m / 500 + 1) → nodes < q * (n / 500 + 1)
enough_more m n q nodes le h = let more = more_rules m n q le in omega (arith, h, more)

-- the work that is left, for the same rules
pub same_work : (whole : ℤ × ℤ) (old new : List (List (ℤ × ℤ))) (before after cs : List Rule) (u v : ℕ) → after ≡ before → before ≡ cs
    → 500 + (total whole new * (length after + 1) + v) ≤ total whole old * (length before + 1) + u → 500 + (total whole new * (length cs + 1) + v) ≤ total whole old * (length cs + 1) + u
same_work whole old new before after cs u v e f h =
    subst (λ (k : List Rule). 500 + (total whole new * (length k + 1) + v) ≤ total whole old * (length cs + 1) + u) (e ∙ f)
    (subst (λ (k : List Rule). 500 + (total whole new * (length after + 1) + v) ≤ total whole old * (length k + 1) + u) f h)

-- going back to the last cut
pub record IsSpentBack {B : Type 0} (value : B → ℤ) (wanted : Wanted) (whole : ℤ × ℤ) (m : ℕ) (cuts : List (Cut B)) (before : List RulesPast) (need here unsettled : ℕ) (high : List (List (ℤ × ℤ))) : Type 0 where
  pub rest : ℕ
  pub rooms : HasRoom value wanted whole (m / 500 + 1) cuts before rest
  pub less : (rest + nodes_here (m / 500 + 1) (points_of whole high) unsettled) + 1 ≤ need + here

pub spent_back : {B : Type 0} (value : B → ℤ) (wanted : Wanted) (whole : ℤ × ℤ) (m : ℕ) (all cuts : List (Cut B)) (cut : Cut B) (pasts before : List RulesPast) (past : RulesPast) (need points u v : ℕ) (high : List (List (ℤ × ℤ)))
    → all ≡ cuts ++ cut ∷ [] → pasts ≡ before ++ past ∷ [] → length cuts ≡ length before → HasRoom value wanted whole (m / 500 + 1) all pasts need → v ≤ m
    → length high ≡ length past.domains → IsCutAt cut.variable (λ z. IsBetter wanted z (value cut.value)) (set_at past.domains) (set_at high)
    → IsSpentBack value wanted whole m cuts before need (nodes_here (m / 500 + 1) points u) v high
spent_back value wanted whole m all cuts cut pasts before past need points u v high is split one_each rooms le same other =
    let k = m / 500 + 1 in
    let popped = room_popped value wanted whole k cuts cut before past need one_each
    (subst (λ ps. HasRoom value wanted whole k (cuts ++ cut ∷ []) ps need) split (subst (λ cs. HasRoom value wanted whole k cs pasts need) is rooms)) in
    let less = back_less m u v points popped.room popped.rest need le popped.is.some popped.sum in
    record {
      rest = popped.rest;
      rooms = popped.others;
      less = subst (λ p. (popped.rest + nodes_here k p v) + 1 ≤ need + nodes_here k points u) (sym (popped.is.is high same other)) less;
    }

pub best_more : (m n q nodes : ℕ) → m ≤ n → nodes < q * (m / 500 + 1) + 1 → nodes < q * (n / 500 + 1) + 1
best_more m n q nodes le h = let more = more_rules m n q le in omega (arith, h, more)
