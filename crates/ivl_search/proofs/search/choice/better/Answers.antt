use Rattle.std.proofs.Common.{◌≡◌, ◌<◌, ℕ, [], List, get_or, length, subst, sym, ◌∙◌}
use Rattle.std.specs.Prelude.{ℤ, ◌↔◌, Bool, false, IsTrue}
use Rattle.std.proofs.lemmas.Bool.{false≢true}
use Rattle.std.proofs.lemmas.List.{get_or_default}
use Rattle.ivl_laws.specs.Families.{set_at}
use Rattle.ivl_laws.specs.Runs.{Covers, IsRunListIn}
use Rattle.ivl_laws.specs.Sets.{HasSome, Only, SameMembers}
use Rattle.ivl_rules.proofs.Differing.{two_members}
use Rattle.ivl_network.specs.Settled.{HasTwo}
use Rattle.ivl_search.proofs.search.choice.better.Goals as goal

-- a domain that is neither empty nor single has two members
two_at : (whole : ℤ × ℤ) (sets : List (List (ℤ × ℤ))) (i : ℕ) (s : List (ℤ × ℤ)) (single : Bool) → i < length sets → s ≡ get_or sets i s → IsRunListIn whole s → HasSome (set_at sets i)
    → (IsTrue single ↔ ((x : ℤ) × SameMembers (Covers s) (Only x))) → single ≡ false → HasTwo (set_at sets i)
two_at whole sets i s single lt is runs some told other =
    let same = is ∙ get_or_default sets i s [] lt in
    subst (λ s. HasTwo (Covers s)) same (two_members whole s runs (subst (λ s. HasSome (Covers s)) (sym same) some) (λ h. false≢true (sym other ∙ told.1 h)))

pub returns-in-None-clause-known : goal.returns-in-None-clause-known
returns-in-None-clause-known g c = (
  c.requires.here,
  two_at g.B.Width.whole c.args.domains.now c.args.i c.index-domains-i.result c.is_singleton.result c.requires.here c.index-domains-i.is c.in_whole.ensures c.requires.filled
      c.is_singleton.ensures c.if-is_singleton.false,
)

pub returns-then-is_cut_before-clause-known : goal.returns-then-is_cut_before-clause-known
returns-then-is_cut_before-clause-known g c = (
  c.requires.here,
  two_at g.B.Width.whole c.args.domains.now c.args.i c.index-domains-i.result c.is_singleton.result c.requires.here c.index-domains-i.is c.in_whole.ensures c.requires.filled
      c.is_singleton.ensures c.if-is_singleton.false,
)
