-- What a budget of looks has made, narrowing by narrowing.
use Rattle.std.proofs.Common.{◌≡◌, ◌∙◌, ◌⊎◌, inl, inr, ℕ, ◌+◌, ◌-◌, ◌<◌, ◌≤◌, true, false, refl, sym, subst, arith, List, [], ◌∷◌, ◌++◌, length}
use Rattle.std.specs.Prelude.{ℤ, Err, Ok, OnErr, Result}
use Rattle.std.proofs.lemmas.Bool.{false≢true}
use Rattle.std.proofs.lemmas.List.{length_push}
use Rattle.ivl_laws.specs.Families.{set_at}
use Rattle.ivl_rules.specs.declared.rules.Rule.{Rule}
use Rattle.ivl_network.specs.Costs.{AreRulesCounted}
use Rattle.ivl_network.specs.Network.{AreNarrowedTo, AreRuleNarrowings, RulesState, work_of_rules}
use Rattle.ivl_network.proofs.Costs.{counted_more, counted_none}
use Rattle.ivl_network.specs.Settled.{KeepsSettled}
use Rattle.ivl_network.proofs.Narrowings.{more_narrowings, narrowings_keep, no_narrowings}
use Rattle.ivl_network.proofs.Standing.{kept_more, kept_none}

pub record HasMade (whole : ℤ × ℤ) (budget left : ℕ) (old new : RulesState) : Type 0 where
  pub rules : new.rules ≡ old.rules
  pub kept_count : length new.domains ≡ length old.domains
  pub marked : new.marked ≡ old.marked
  pub were_settled : new.were_settled ≡ old.were_settled
  pub stays : KeepsSettled old.rules (set_at old.domains) (set_at new.domains) old.settled new.settled
  pub by : List Rule
  pub cost : ℕ
  pub counted : AreRulesCounted old.rules by cost old.domains new.domains
  pub spent : cost + left ≡ budget
  pub narrowed : AreRuleNarrowings old.rules (length by) (set_at old.domains) (set_at new.domains)
  pub fewer : length by + work_of_rules whole new ≤ work_of_rules whole old

-- nothing so far
pub made_none : (whole : ℤ × ℤ) (budget : ℕ) (old : RulesState) → HasMade whole budget budget old old
made_none whole budget old = record {
  rules = refl;
  kept_count = refl;
  marked = refl;
  were_settled = refl;
  stays = kept_none old;
  by = [];
  cost = 0;
  counted = counted_none old.rules old.domains;
  spent = omega arith;
  narrowed = no_narrowings old.rules (set_at old.domains);
  fewer = omega arith;
}

-- one more narrowing
pub made_more : (whole : ℤ × ℤ) (budget left left' : ℕ) (old mid new : RulesState) (c : Rule) (cost : ℕ) → HasMade whole budget left old mid
    → new.rules ≡ mid.rules → length new.domains ≡ length mid.domains → new.marked ≡ mid.marked → new.were_settled ≡ mid.were_settled
    → KeepsSettled mid.rules (set_at mid.domains) (set_at new.domains) mid.settled new.settled
    → cost ≤ left → left' ≡ left - cost → AreRulesCounted mid.rules (c ∷ []) cost mid.domains new.domains
    → AreRuleNarrowings mid.rules 1 (set_at mid.domains) (set_at new.domains) → 1 + work_of_rules whole new ≤ work_of_rules whole mid
    → HasMade whole budget left' old new
made_more whole budget left left' old mid new c cost h rules kept_count marked were stays low less counted narrowed fewer = record {
  rules = rules ∙ h.rules;
  kept_count = kept_count ∙ h.kept_count;
  marked = marked ∙ h.marked;
  were_settled = were ∙ h.were_settled;
  stays = kept_more old.rules (set_at old.domains) (set_at mid.domains) (set_at new.domains) old.settled mid.settled new.settled
      (narrowings_keep old.rules (length h.by) old.domains mid.domains h.narrowed).within (narrowings_keep mid.rules 1 mid.domains new.domains narrowed).within
      h.stays (subst (λ cs. KeepsSettled cs (set_at mid.domains) (set_at new.domains) mid.settled new.settled) h.rules stays);
  by = h.by ++ c ∷ [];
  cost = h.cost + cost;
  counted = counted_more old.rules h.by c h.cost cost old.domains mid.domains new.domains h.counted
      (subst (λ cs. AreRulesCounted cs (c ∷ []) cost mid.domains new.domains) h.rules counted);
  spent = (let a = h.spent in omega (arith, a, low, less));
  narrowed = subst (λ n. AreRuleNarrowings old.rules n (set_at old.domains) (set_at new.domains)) (sym (length_push h.by c))
      (more_narrowings old.rules (length h.by) 1 (set_at old.domains) (set_at mid.domains) (set_at new.domains) h.narrowed
      (subst (λ cs. AreRuleNarrowings cs 1 (set_at mid.domains) (set_at new.domains)) h.rules narrowed));
  fewer = (let a = h.fewer in let n = length_push h.by c in omega (arith, a, n, fewer));
}

-- a state that did not change since
pub made_same : (whole : ℤ × ℤ) (budget left : ℕ) (old mid new : RulesState) → new ≡ mid → HasMade whole budget left old mid → HasMade whole budget left old new
made_same whole budget left old mid new e h = subst (λ (s : RulesState). HasMade whole budget left old s) (sym e) h

-- ---- why narrowing stopped: no rule is left, the budget is used up, or what else it stops at

pub spent_or : {E : Type 0} (unsettled count budget : ℕ) → (unsettled ≡ 0) ⊎ ((count ≡ budget) ⊎ E) → (unsettled ≡ 0 → ⊥) → (count ≡ budget) ⊎ E
spent_or unsettled count budget (inl none) some = absurd (some none)
spent_or unsettled count budget (inr stop) some = stop

pub fewer_or : {E : Type 0} (count budget new old : ℕ) → count + new ≤ old → (count ≡ budget) ⊎ E → (budget + new ≤ old) ⊎ E
fewer_or count budget new old less (inl e) = inl (omega (arith, less, e))
fewer_or count budget new old less (inr stop) = inr stop

pub settled_or : {E : Type 0} (rest unsettled count budget old : ℕ) → (unsettled ≡ 0) ⊎ ((count ≡ budget) ⊎ E) → count + (rest + unsettled) ≤ old → old ≤ budget → (unsettled ≡ 0) ⊎ E
settled_or rest unsettled count budget old (inl none) less enough = inl none
settled_or rest unsettled count budget old (inr (inl e)) less enough = inl (omega (arith, less, enough, e))
settled_or rest unsettled count budget old (inr (inr stop)) less enough = inr stop

-- where it stops at nothing else, and where it does
pub without : {P E : Type 0} → P ⊎ ((false ≡ true) × E) → P
without (inl p) = p
without (inr stop) = absurd (false≢true stop.0)

pub with_stop : {P E : Type 0} → P ⊎ ((true ≡ true) × E) → P ⊎ E
with_stop (inl p) = inl p
with_stop (inr stop) = inr stop.1

-- what was made before an error
pub made_before : {T E : Type 0} (result : Result T E) (whole : ℤ × ℤ) (budget : ℕ) (old new : RulesState) → ((count : ℕ) × AreNarrowedTo whole old count new × (count < budget))
    → OnErr result ((count : ℕ) × (count < budget) × AreRuleNarrowings old.rules count (set_at old.domains) (set_at new.domains))
made_before (Ok value) whole budget old new h = tt
made_before (Err error) whole budget old new h = (h.0, h.2, h.1.narrowings)

-- what was made before an error counts for no more than the budget
pub within_before : {T E : Type 0} (result : Result T E) (whole : ℤ × ℤ) (budget left : ℕ) (old new : RulesState) → HasMade whole budget left old new
    → OnErr result ((by : List Rule) × (cost : ℕ) × AreRulesCounted old.rules by cost old.domains new.domains × (cost ≤ budget)
    × (length by + work_of_rules whole new ≤ work_of_rules whole old))
within_before (Ok value) whole budget left old new h = tt
within_before (Err error) whole budget left old new h = (h.by, h.cost, h.counted, (let s = h.spent in omega (arith, s)), h.fewer)
