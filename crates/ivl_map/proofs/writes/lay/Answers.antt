use Rattle.std.proofs.Common.{◌≡◌, ◌+◌, ◌-◌, ◌<◌, ⊎_elim, ◌∷◌, ◌++◌, ℤ, List, length, take, drop, get_or, refl, sym, ap, subst, ◌∙◌, arith, Option, Some, None, Result}
use Rattle.std.proofs.lemmas.Bool.{cases_lt}
use Rattle.std.specs.Prelude.{IsSome, OnOk}
use Rattle.std.specs.declared.alloc.AllocError.{AllocError}
use Rattle.std.proofs.lemmas.Result.{on_ok_weaker}
use Rattle.ivl_map.specs.Entries.{LaysBetween}
use Rattle.ivl_map.proofs.Laying.{above_cut, below_cut, kept_length}
use Rattle.ivl_map.proofs.writes.lay.Goals as goal

pub returns-in-None-None-clause-ok : goal.returns-in-None-None-clause-ok
returns-in-None-None-clause-ok g c =
    let eq = g.V.PartialEq.eq in
    let E = c.args.entries.now.items in
    let i = c.args.start in
    let j = c.args.end in
    let D = c.replace.new.entries.items in
    let r : (ℤ × ℤ) × g.row.V.Denot = (c.args.run, c.args.value) in
    on_ok_weaker c.replace.result (λ h d.
    let P : Option (ℤ × ℤ) → Type 0 = λ o. LaysBetween eq E i j o r c.args.above D d in
    let Q : Option (ℤ × ℤ) → Type 0 = λ o. LaysBetween eq E i j None r o D d in
    subst P (sym c.in-None-None.is-0) (subst Q (sym c.in-None-None.is-1) (record { last = (get_or E (j - 1) d).1; is_last = g.met.V.Eq.laws.refl _; list = h }))) c.replace.ensures.ok

pub unwrap-requires : goal.unwrap-requires
unwrap-requires g c =
    let start = c.args.start in
    let end = c.args.end in
    ⊎_elim
    (λ less. c.replace-in-None-Some.ensures.in_place less)
    (λ least.
    let S : Option (ℤ × ℤ) → Type 0 = λ o. IsSome o in
    let some : start < end = c.requires.above (subst S (sym c.in-None-Some.is-1) refl) in
    let room = c.in_ok-make_room-in-None-Some.ensures.room (omega (arith, least, some)) in
    let len = c.keep_first.ensures.len in
    let capacity = c.keep_first.ensures.capacity in
    c.replace-in-None-Some.ensures.succeeds (omega (arith, room, len, capacity)))
    (cases_lt start (end - 1))

pub returns-in_ok-make_room-in-None-Some-clause-ok : goal.returns-in_ok-make_room-in-None-Some-clause-ok
returns-in_ok-make_room-in-None-Some-clause-ok g c = λ d.
    let eq = g.V.PartialEq.eq in
    let E = c.args.entries.now.items in
    let i = c.args.start in
    let j = c.args.end in
    let M = c.keep_first.new.entries.items in
    let D = c.replace-in-None-Some.new.entries.items in
    let r : (ℤ × ℤ) × g.row.V.Denot = (c.args.run, c.args.value) in
    let last = get_or E (j - 1) d in
    let most = c.requires.at_most in
    let S : Option (ℤ × ℤ) → Type 0 = λ o. IsSome o in
    let some : i < j = c.requires.above (subst S (sym c.in-None-Some.is-1) refl) in
    let P : Option (ℤ × ℤ) → Type 0 = λ o. LaysBetween eq E i j o r c.args.above D d in
    let Q : Option (ℤ × ℤ) → Type 0 = λ o. LaysBetween eq E i j None r o D d in
    let R : List ((ℤ × ℤ) × g.row.V.Denot) → Type 0 = λ L. M ≡ take (j - 1) L ++ ((c.in-None-Some.high, (get_or L (j - 1) d).1) ∷ drop j L) in
    let T : Result (Unit {0}) AllocError → Type 0 = λ t. OnOk t (D ≡ take i M ++ (r ∷ drop (j - 1) M)) in
    subst P (sym c.in-None-Some.is-0) (subst Q (sym c.in-None-Some.is-1) (record {
      last = last.1;
      is_last = g.met.V.Eq.laws.refl _;
      list = above_cut E M D ((c.in-None-Some.high, last.1) ∷ drop j E) r i (j - 1) (omega (arith, some)) (omega (arith, some, most)) (subst R c.make_room.ensures.items (c.keep_first.ensures.items d))
          (subst T c.unwrap.ensures c.replace-in-None-Some.ensures.ok);
    }))

pub unwrap-requires-in-Some-None : goal.unwrap-requires-in-Some-None
unwrap-requires-in-Some-None g c =
    let start = c.args.start in
    let end = c.args.end in
    ⊎_elim
    (λ less. c.replace-in-Some-None.ensures.in_place less)
    (λ least.
    let S : Option (ℤ × ℤ) → Type 0 = λ o. IsSome o in
    let some : start < end = c.requires.below (subst S (sym c.in-Some-None.is-0) refl) in
    let room = c.in_ok-make_room-in-Some-None.ensures.room (omega (arith, least, some)) in
    let len = c.keep_first-in-Some-None.ensures.len in
    let capacity = c.keep_first-in-Some-None.ensures.capacity in
    c.replace-in-Some-None.ensures.succeeds (omega (arith, room, len, capacity)))
    (cases_lt (start + 1) end)

pub returns-in_ok-make_room-in-Some-None-clause-ok : goal.returns-in_ok-make_room-in-Some-None-clause-ok
returns-in_ok-make_room-in-Some-None-clause-ok g c = λ d.
    let eq = g.V.PartialEq.eq in
    let E = c.args.entries.now.items in
    let i = c.args.start in
    let j = c.args.end in
    let M = c.keep_first-in-Some-None.new.entries.items in
    let D = c.replace-in-Some-None.new.entries.items in
    let r : (ℤ × ℤ) × g.row.V.Denot = (c.args.run, c.args.value) in
    let most = c.requires.at_most in
    let S : Option (ℤ × ℤ) → Type 0 = λ o. IsSome o in
    let some : i < j = c.requires.below (subst S (sym c.in-Some-None.is-0) refl) in
    let P : Option (ℤ × ℤ) → Type 0 = λ o. LaysBetween eq E i j o r c.args.above D d in
    let Q : Option (ℤ × ℤ) → Type 0 = λ o. LaysBetween eq E i j (Some c.in-Some-None.low) r o D d in
    let R : List ((ℤ × ℤ) × g.row.V.Denot) → Type 0 = λ L. M ≡ take i L ++ ((c.in-Some-None.low, (get_or L i d).1) ∷ drop (i + 1) L) in
    let T : Result (Unit {0}) AllocError → Type 0 = λ t. OnOk t (D ≡ take (i + 1) M ++ (r ∷ drop j M)) in
    subst P (sym c.in-Some-None.is-0) (subst Q (sym c.in-Some-None.is-1) (record {
      last = (get_or E (j - 1) d).1;
      is_last = g.met.V.Eq.laws.refl _;
      list = below_cut E M D (c.in-Some-None.low, (get_or E i d).1) r i (i + 1) j (omega (arith, some, most)) (omega arith) (omega (arith, some)) (subst R c.make_room-in-Some-None.ensures.items (c.keep_first-in-Some-None.ensures.items d))
          (subst T c.unwrap-in-Some-None.ensures c.replace-in-Some-None.ensures.ok);
    }))

pub replace-requires-in-Some-None-clause-at_most : goal.replace-requires-in-Some-None-clause-at_most
replace-requires-in-Some-None-clause-at_most g c =
    let E = c.args.entries.now.items in
    let i = c.args.start in
    let j = c.args.end in
    let d : (ℤ × ℤ) × g.row.V.Denot = (c.args.run, c.args.value) in
    let M = c.keep_first-in-Some-None.new.entries.items in
    let most = c.requires.at_most in
    let S : Option (ℤ × ℤ) → Type 0 = λ o. IsSome o in
    let some : i < j = c.requires.below (subst S (sym c.in-Some-None.is-0) refl) in
    let R : List ((ℤ × ℤ) × g.row.V.Denot) → Type 0 = λ L. M ≡ take i L ++ ((c.in-Some-None.low, (get_or L i d).1) ∷ drop (i + 1) L) in
    let cut = subst R c.make_room-in-Some-None.ensures.items (c.keep_first-in-Some-None.ensures.items d) in
    let len : length M ≡ length E = ap length cut ∙ kept_length (c.in-Some-None.low, (get_or E i d).1) E i (i + 1) (omega (arith, some, most)) (omega arith) in
    omega (arith, len, most)
