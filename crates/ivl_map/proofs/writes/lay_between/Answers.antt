use Rattle.std.proofs.Common.{◌≡◌, true, ⊎_elim, ℕ, suc, ◌+◌, ◌-◌, ◌<◌, ◌∷◌, ◌++◌, ℤ, List, Result, take, drop, get_or, length, subst, ap, ◌∙◌, arith}
use Rattle.std.proofs.lemmas.Bool.{cases_lt}
use Rattle.std.specs.Prelude.{OnOk}
use Rattle.std.specs.declared.alloc.AllocError.{AllocError}
use Rattle.ivl_laws.proofs.Slices.{same_item}
use Rattle.ivl_map.proofs.Laying.{both_cut, kept_length}
use Rattle.ivl_map.proofs.Leaving.{two_left}
use Rattle.ivl_map.proofs.writes.lay_between.Goals as goal

pub returns-then-end-start-eq1-clause-ok : goal.returns-then-end-start-eq1-clause-ok
returns-then-end-start-eq1-clause-ok g c = λ d.
    let E = c.args.entries.now.items in
    let i = c.args.start in
    let j = c.args.end in
    let one = c.if-end-start-eq1.true in
    let order = c.requires.in_order in
    let most = c.requires.at_most in
    let less : i < length E = omega (arith, order, most) in
    let next : suc i ≡ j = omega (arith, one, order) in
    let e = c.index.result.now in
    let r : (ℤ × ℤ) × g.row.V.Denot = (c.args.run, c.args.value) in
    let copy = c.in_ok-copy.copy in
    let P : (ℤ × ℤ) × g.row.V.Denot → Type 0 = λ f. g.V.PartialEq.eq f.1 copy ≡ true in
    let h : (ℤ × ℤ) × g.row.V.Denot = (c.args.high, copy) in
    let there : e ≡ get_or E (j - 1) d = c.index.ensures ∙ same_item E i e d less ∙ ap (λ (n : ℕ). get_or E n d) (omega (arith, next)) in
    record {
      last = copy;
      is_last = subst P there c.in_ok-copy.ensures;
      list = two_left (λ f. (c.args.low, f.1)) E c.put_two.new.entries.items c.keep_first.new.entries.items (r ∷ h ∷ drop j E) i j d less next
          c.in_ok-put_two.ensures.ok
          (c.keep_first.ensures.items d);
    }

pub unwrap-requires : goal.unwrap-requires
unwrap-requires g c =
    let start = c.args.start in
    let end = c.args.end in
    ⊎_elim
    (λ less. c.replace.ensures.in_place less)
    (λ least.
    let order = c.requires.in_order in
    let other = c.if-end-start-eq1.false in
    let room = c.in_ok-make_room.ensures.room (omega (arith, least, order, other)) in
    let len = c.keep_first-2.ensures.len in
    let capacity = c.keep_first-2.ensures.capacity in
    let len_too = c.keep_first-3.ensures.len in
    let capacity_too = c.keep_first-3.ensures.capacity in
    c.replace.ensures.succeeds (omega (arith, room, len, capacity, len_too, capacity_too)))
    (cases_lt (start + 1) (end - 1))

pub returns-clause-ok : goal.returns-clause-ok
returns-clause-ok g c = λ d.
    let E = c.args.entries.now.items in
    let i = c.args.start in
    let j = c.args.end in
    let order = c.requires.in_order in
    let most = c.requires.at_most in
    let other = c.if-end-start-eq1.false in
    let r : (ℤ × ℤ) × g.row.V.Denot = (c.args.run, c.args.value) in
    let M = c.keep_first-2.new.entries.items in
    let D = c.keep_first-3.new.entries.items in
    let C = c.replace.new.entries.items in
    let last = get_or E (j - 1) d in
    let R : List ((ℤ × ℤ) × g.row.V.Denot) → Type 0 = λ L. M ≡ take (j - 1) L ++ ((c.args.high, (get_or L (j - 1) d).1) ∷ drop j L) in
    let T : Result (Unit {0}) AllocError → Type 0 = λ t. OnOk t (C ≡ take (i + 1) D ++ (r ∷ drop (j - 1) D)) in
    record {
      last = last.1;
      is_last = g.met.V.Eq.laws.refl last.1;
      list = both_cut (λ f. (c.args.low, f.1)) E M D C ((c.args.high, last.1) ∷ drop j E) r i (j - 1) (i + 1) d (omega (arith, order, other)) (omega (arith, order, most)) (omega arith) (omega (arith, order, other))
          (subst R c.make_room.ensures.items (c.keep_first-2.ensures.items d)) (c.keep_first-3.ensures.items d)
          (subst T c.unwrap.ensures c.replace.ensures.ok);
    }

pub replace-requires-clause-at_most : goal.replace-requires-clause-at_most
replace-requires-clause-at_most g c =
    let E = c.args.entries.now.items in
    let i = c.args.start in
    let j = c.args.end in
    let d : (ℤ × ℤ) × g.row.V.Denot = (c.args.run, c.args.value) in
    let M = c.keep_first-2.new.entries.items in
    let D = c.keep_first-3.new.entries.items in
    let order = c.requires.in_order in
    let most = c.requires.at_most in
    let R : List ((ℤ × ℤ) × g.row.V.Denot) → Type 0 = λ L. M ≡ take (j - 1) L ++ ((c.args.high, (get_or L (j - 1) d).1) ∷ drop j L) in
    let cut = subst R c.make_room.ensures.items (c.keep_first-2.ensures.items d) in
    let len : length M ≡ length E = ap length cut ∙ kept_length (c.args.high, (get_or E (j - 1) d).1) E (j - 1) j (omega (arith, order, most)) (omega (arith, order)) in
    let len_too : length D ≡ length M = ap length (c.keep_first-3.ensures.items d) ∙ kept_length (c.args.low, (get_or M i d).1) M i (i + 1) (omega (arith, order, most, len)) (omega arith) in
    omega (arith, len, len_too, most)
