-- What a line that narrows leaves, by what the network reached, and where it runs out of memory.
use Rattle.std.proofs.Common.{◌≡◌, ◌↔◌, ◌∙◌, ◌+◌, ◌*◌, ◌<◌, ◌≤◌, ℕ, ℤ, Bool, false, true, List, [], ◌∷◌, ◌++◌, ap, append_assoc, append-nil, arith, get_or, inl, inr, length, refl, subst, sym}
use Rattle.std.specs.Prelude.{◌==◌, Contains, HoldsAt}
use Rattle.std.proofs.lemmas.List.{get_or_push, length_push}
use Rattle.std.proofs.lemmas.List.Elements.{All-append, All-cons, All-nil}
use Rattle.ivl_laws.specs.Families.{set_at}
use Rattle.ivl_store.specs.Measure.{total}
use Rattle.ivl_rules.specs.declared.rules.Rule.{Rule}
use Rattle.ivl_network.specs.declared.network.Settled.{Settled}
use Rattle.ivl_network.specs.declared.network.Settled.TheVariants.{All, Unfinished}
use Rattle.ivl_network.specs.Costs.{AreRulesCounted, cost_of_rule}
use Rattle.ivl_network.specs.Families.{IsGreatestUnder, KeepsUnder}
use Rattle.ivl_network.specs.Network.{IsRuleRequired, IsUnsettledIn, IsWaiting, RulesState, work_of_rules}
use Rattle.ivl_network.specs.Queue.{unsettled_count}
use Rattle.ivl_network.specs.Settled.{KeepsSettled}
use Rattle.ivl_network.specs.Trail.{RulesPast}
use Rattle.ivl_store_lines.specs.declared.progress.Progress.{Progress}
use Rattle.ivl_store_lines.specs.declared.progress.Progress.TheVariants.{Complete, Budget}
use Rattle.ivl_store_lines.specs.Solving.{AddsUnset, Settles, domain_range}

pub settles : (limit : ℕ) (old new : RulesState) (progress : Progress) (s : Settled)
    → progress ≡ Complete ↔ s ≡ All → (progress ≡ Budget → s ≡ Unfinished) → new.rules ≡ old.rules → KeepsUnder old.rules old.domains new.domains
    → (s ≡ All → IsGreatestUnder old.rules (set_at old.domains) (set_at new.domains)) → s ≡ All ↔ unsettled_count new.settled ≡ 0
    → KeepsSettled old.rules (set_at old.domains) (set_at new.domains) old.settled new.settled → length new.settled ≡ length new.rules
    → ((by : List Rule) × (cost : ℕ) × AreRulesCounted old.rules by cost old.domains new.domains × (cost ≤ limit)
    × (s ≡ Unfinished → (next : Rule) × IsWaiting new next × (limit < cost + cost_of_rule next new.domains))
    × (length by + work_of_rules domain_range new ≤ work_of_rules domain_range old))
    → Settles limit old.rules old.domains old.settled new.domains new.settled progress
settles limit old new progress s complete used_up same keeps greatest exactly stays each made = record {
  by = made.0;
  cost = made.1;
  counted = made.2;
  within_limit = made.3;
  keeps = keeps;
  complete = (λ e. greatest (complete.0 e));
  one_each = each ∙ ap length same;
  exactly = ((λ e. exactly.0 (complete.0 e)), (λ none. complete.1 (exactly.1 none)));
  used_up = (λ e. let w = made.4 (used_up e) in (w.0, subst (λ rules. IsUnsettledIn rules new.settled w.0) same w.1, w.2));
  stays = stays;
  fewer = subst (λ rules. length made.0 + (total domain_range new.domains * (length rules + 1) + unsettled_count new.settled) ≤ work_of_rules domain_range old) same made.5;
}

-- ---- rules that are new are not settled

pub unset_none : (flags : List Bool) → AddsUnset flags flags
unset_none flags = record { added = []; after = sym (append-nil flags); unset = All-nil (λ (flag : Bool). flag ≡ false) }

pub unset_then : (old now new : List Bool) → AddsUnset old now → AddsUnset now new → AddsUnset old new
unset_then old now new a b = record {
  added = a.added ++ b.added;
  after = b.after ∙ ap (λ (l : List Bool). l ++ b.added) a.after ∙ append_assoc old a.added b.added;
  unset = All-append (λ (flag : Bool). flag ≡ false) a.added b.added a.unset b.unset;
}

-- one rule that is required
pub unset_after : (rule : Rule) (before after : RulesState) → IsRuleRequired rule before.rules after.rules → (Contains before.rules rule → after ≡ before)
    → (¬ (Contains before.rules rule) → after ≡ record { domains = before.domains; rules = before.rules ++ rule ∷ []; settled = before.settled ++ false ∷ []; marked = before.marked; were_settled = before.were_settled })
    → AddsUnset before.settled after.settled
unset_after rule before after required known added = elim required [
  | inl k ↦ subst (λ (n : RulesState). AddsUnset before.settled n.settled) (sym (known k.0)) (unset_none before.settled)
  | inr n ↦ record {
    added = false ∷ [];
    after = ap (λ (n : RulesState). n.settled) (added n.0);
    unset = All-cons (λ (flag : Bool). flag ≡ false) false [] refl (All-nil (λ (flag : Bool). flag ≡ false));
  }
]

-- a mark that was made last
pub below_marked : (marked before : List RulesPast) (now : RulesPast) (mark : ℕ) → marked ≡ before ++ now ∷ [] → mark ≡ length before → mark < length marked
below_marked marked before now mark e at = let n = length_push before now in let l = ap length e in omega (arith, n, l, at)

pub undone_to_mark : (marked before : List RulesPast) (now : RulesPast) (mark : ℕ) (domains : List (List (ℤ × ℤ))) (rules : List Rule)
    → marked ≡ before ++ now ∷ [] → mark ≡ length before → HoldsAt (λ (past : RulesPast). (domains ≡ past.domains) × (rules ≡ past.rules)) marked mark
    → (domains ≡ now.domains) × (rules ≡ now.rules)
undone_to_mark marked before now mark domains rules e at h =
    let is : get_or marked mark now ≡ now = ap (λ ms. get_or ms mark now) e ∙ get_or_push before now now mark (sym at) in
    let u = h now in
    (u.0 ∙ ap (λ (p : RulesPast). p.domains) is, u.1 ∙ ap (λ (p : RulesPast). p.rules) is)

pub all_at_mark : (were before : List Bool) (old : List Bool) (mark after : ℕ) → were ≡ before ++ (unsettled_count old == 0) ∷ [] → mark ≡ length before
    → HoldsAt (λ (flag : Bool). flag ≡ true → after ≡ 0) were mark → unsettled_count old ≡ 0 → after ≡ 0
all_at_mark were before old mark after e at h none =
    let flag = unsettled_count old == 0 in
    h flag (ap (λ ws. get_or ws mark flag) e ∙ get_or_push before flag flag mark (sym at) ∙ ap (λ (n : ℕ). n == 0) none)
