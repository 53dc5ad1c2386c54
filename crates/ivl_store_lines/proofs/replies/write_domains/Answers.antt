use Rattle.std.proofs.Common.{◌≡◌, ◌++◌, ℕ, List, [], Option, refl, ap, sym, ◌∙◌, subst, append_assoc}
use Rattle.std.specs.Io.KnownBytes.{Appends}
use Rattle.std.proofs.KnownBytes.{Appends-nil, Appends-trans}
use Rattle.std.proofs.lemmas.List.{append-nil}
use Rattle.ivl_store_lines.proofs.replies.write_domains.Goals as goal

-- one more line is written
one_more : (x y z : Option (List ℕ)) (line left rest all : List ℕ) → ((text : List ℕ) × Appends x y text × (text ++ left ≡ all)) → left ≡ line ++ rest → Appends y z line → (text : List ℕ) × Appends x z text × (text ++ rest ≡ all)
one_more x y z line left rest all h e k = (
  h.0 ++ line,
  Appends-trans x y z h.0 line h.1 k,
  append_assoc h.0 line rest ∙ ap (λ (more : List ℕ). h.0 ++ more) (sym e) ∙ h.2,
)

-- no line is left
whole : (x y : Option (List ℕ)) (left all : List ℕ) → ((text : List ℕ) × Appends x y text × (text ++ left ≡ all)) → left ≡ [] → Appends x y all
whole x y left all h e =
    let same : h.0 ≡ all = sym (append-nil h.0) ∙ ap (λ (more : List ℕ). h.0 ++ more) (sym e) ∙ h.2 in
    subst (λ (text : List ℕ). Appends x y text) same h.1

pub loop-name-init : goal.loop-name-init
loop-name-init g c = ([], Appends-nil _, refl)

pub loop-name-preserved : goal.loop-name-preserved
loop-name-preserved g c = one_more _ _ _ _ _ _ _ c.loop-name.invariant c.in-Some.ensures.lines c.in_ok-write_domain.ensures

pub returns : goal.returns
returns g c = whole _ _ _ _ c.loop-name.invariant c.in_default.ensures.none
