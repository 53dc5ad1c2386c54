-- Rules that stay settled where no variable that they name has lost a member.
use Rattle.std.proofs.Common.{◌≡◌, ◌≢◌, ◌↔◌, ◌∙◌, ◌<◌, ℕ, List, Bool, false, true, get_or, inl, inr, length, refl, set, subst, sym}
use Rattle.std.specs.Prelude.{ℤ}
use Rattle.std.proofs.lemmas.Bool.{cases_eq, false≢true}
use Rattle.std.proofs.lemmas.List.{get_or-set_other, get_or-set_same}
use Rattle.ivl_laws.specs.Families.{set_at}
use Rattle.ivl_laws.specs.Sets.{IsSubset}
use Rattle.ivl_store.specs.declared.store.constraint.Constraint.{Constraint}
use Rattle.ivl_store.specs.declared.store.settled.Lost.{Lost}
use Rattle.ivl_store.specs.Solutions.{LiesWithin}
use Rattle.ivl_rules.specs.declared.rules.Rule.{Rule}
use Rattle.ivl_network.specs.Network.{RulesState}
use Rattle.ivl_network.specs.Settled.{AreClearedRules, AreTold, KeepsSettled}

-- nothing changes
pub kept_none : (state : RulesState) → KeepsSettled state.rules (set_at state.domains) (set_at state.domains) state.settled state.settled
kept_none state = record { stays = (λ k d lt m all. m) }

pub kept_same : (old new : RulesState) → new ≡ old → KeepsSettled old.rules (set_at old.domains) (set_at new.domains) old.settled new.settled
kept_same old new e =
    subst (λ (s : RulesState). KeepsSettled old.rules (set_at old.domains) (set_at s.domains) old.settled s.settled) (sym e) (kept_none old)

-- one change and then another, between the same sets
kept_then : (rules : List Rule) (old new : ℕ → ℤ → Type 0) (m0 m1 m2 : List Bool) → KeepsSettled rules old new m0 m1 → KeepsSettled rules old new m1 m2 → KeepsSettled rules old new m0 m2
kept_then rules old new m0 m1 m2 a b = record { stays = (λ k d lt m all. b.stays k d lt (a.stays k d lt m all) all) }

-- and where the sets lose members twice
pub kept_more : (rules : List Rule) (old mid new : ℕ → ℤ → Type 0) (m0 m1 m2 : List Bool) → LiesWithin mid old → LiesWithin new mid
    → KeepsSettled rules old mid m0 m1 → KeepsSettled rules mid new m1 m2 → KeepsSettled rules old new m0 m2
kept_more rules old mid new m0 m1 m2 w1 w2 a b = record {
  stays = (λ k d lt m all. b.stays k d lt (a.stays k d lt m (λ i named v h. w2 i v (all i named v h))) (λ i named v h. all i named v (w1 i v h)));
}

-- the flags of the rules that name one variable are cleared, if it has lost a member
pub kept_step : (rules : List Rule) (changed alone : Bool) (variable : ℕ) (old new : ℕ → ℤ → Type 0) (before after : List Bool)
    → (changed ≡ true → ¬ (IsSubset (old variable) (new variable))) → AreClearedRules changed true alone rules variable new before after
    → KeepsSettled rules old new before after
kept_step rules true alone variable old new before after lost a = record { stays = (λ k d lt m all. a.others k d lt m (λ named. lost refl (all variable named))) }
kept_step rules false alone variable old new before after lost a = record { stays = (λ k d lt m all. subst (λ ms. get_or ms k false ≡ true) (sym (a.kept refl)) m) }

-- and one is set
kept_set : (rules : List Rule) (old new : ℕ → ℤ → Type 0) (i : ℕ) (flags : List Bool) → i < length flags → KeepsSettled rules old new flags (set flags i true)
kept_set rules old new i flags lt = record {
  stays = (λ k d _ m all. elim (cases_eq k i) [
    | inl e ↦ subst (λ j. get_or (set flags i true) j false ≡ true) (sym e) (get_or-set_same flags i true false lt)
    | inr ne ↦ get_or-set_other flags i k true false ne ∙ m
  ]);
}

-- the flags once rule i was narrowed by
pub kept_moved : (rules : List Rule) (c : Constraint) (lost : Lost) (alone : Bool) (old new : ℕ → ℤ → Type 0) (i : ℕ) (m0 m1 m2 m3 : List Bool) → i < length m3
    → AreTold c lost old new
    → AreClearedRules lost.x true alone rules c.x new m0 m1 → AreClearedRules lost.y true alone rules c.y new m1 m2 → AreClearedRules lost.z true alone rules c.z new m2 m3
    → KeepsSettled rules old new m0 (set m3 i true)
kept_moved rules c lost alone old new i m0 m1 m2 m3 lt told ax ay az =
    kept_then rules old new m0 m1 (set m3 i true) (kept_step rules lost.x alone c.x old new m0 m1 told.at_x ax)
    (kept_then rules old new m1 m2 (set m3 i true) (kept_step rules lost.y alone c.y old new m1 m2 told.at_y ay)
    (kept_then rules old new m2 m3 (set m3 i true) (kept_step rules lost.z alone c.z old new m2 m3 told.at_z az) (kept_set rules old new i m3 lt)))

-- the flags once a domain was cut
pub kept_cut : (rules : List Rule) (lost : Bool) (variable : ℕ) (members : ℤ → Type 0) (old new : List (List (ℤ × ℤ))) (before after : List Bool)
    → AreClearedRules lost true true rules variable (set_at new) before after
    → ((j : ℕ) (v : ℤ) → set_at new j v ↔ (set_at old j v × (j ≡ variable → members v))) → (IsSubset (set_at old variable) members → lost ≡ false)
    → KeepsSettled rules (set_at old) (set_at new) before after
kept_cut rules lost variable members old new before after cleared cut kept =
    kept_step rules lost true variable (set_at old) (set_at new) before after
    (λ t within. false≢true (sym (kept (λ v h. ((cut variable v).0 (within v h)).1 refl)) ∙ t)) cleared
