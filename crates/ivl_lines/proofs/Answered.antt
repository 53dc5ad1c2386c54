-- Lines that are answered one after another.
use Rattle.std.proofs.Common.{ℕ, List, [], ◌∷◌, ◌++◌, refl, sym, ap, ◌∙◌, subst, append_assoc}
use Rattle.std.proofs.lemmas.List.{append-nil}
use Rattle.ivl_lines.specs.Answered.{IsAnswered}

pub one_line : {S : Type 0} (allowed : S → List ℕ → List ℕ → S → Type 0) (s t : S) (line text : List ℕ) → allowed s line text t → IsAnswered allowed s (line ∷ []) text t
one_line allowed s t line text h = (t, text, [], h, (refl, refl), sym (append-nil text))

pub IsAnswered-append : {S : Type 0} (allowed : S → List ℕ → List ℕ → S → Type 0) (a b c : S) (ls ms : List (List ℕ)) (t u : List ℕ) → IsAnswered allowed a ls t b → IsAnswered allowed b ms u c → IsAnswered allowed a (ls ++ ms) (t ++ u) c
IsAnswered-append {S} allowed a b c [] ms t u h k =
    let P : S → Type 0 = λ s. IsAnswered allowed s ms u c in
    let Q : List ℕ → Type 0 = λ text. IsAnswered allowed a ms (text ++ u) c in
    subst Q (sym h.0) (subst P h.1 k)
IsAnswered-append allowed a b c (l ∷ ls) ms t u h k = (
  h.0,
  h.1,
  h.2 ++ u,
  h.3,
  IsAnswered-append allowed h.0 b c ls ms h.2 u h.4 k,
  ap (λ text. text ++ u) h.5 ∙ append_assoc h.1 h.2 u,
)
