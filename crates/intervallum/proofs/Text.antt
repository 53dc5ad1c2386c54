-- What writing the runs of a set one after the other writes.
use Rattle.std.proofs.Common.{◌≡◌, ℕ, ◌+◌, ◌<◌, ◌≤◌, ℤ, List, [], ◌∷◌, ◌++◌, Some, None, take, take_all, length, get_or, append-nil, refl, sym, ap, ◌∙◌, subst}
use Rattle.std.proofs.lemmas.List.{take_more}
use Rattle.std.proofs.Output.{has_written_append, then_text_assoc}
use Rattle.std.specs.Prelude.{Option, Result, IfSome, IsOk, codes}
use Rattle.std.specs.Fmt.{HasWritten, DisplaysOnOk, IsPlainFormatter, ◌++?◌}
use Rattle.std.specs.declared.fmt.Formatter.{Formatter}
use Rattle.std.specs.declared.fmt.Error.{Error}
use Rattle.intervallum.specs.Text.{runs_text, set_text}

module _ (text : ℤ × ℤ → Option (List ℕ)) where
  nothing_after : (o : Option (List ℕ)) → (o ++? Some []) ≡ (Some [] ++? o)
  nothing_after None = refl
  nothing_after (Some a) = ap {B = Option (List ℕ)} (λ (t : List ℕ). Some t) (append-nil a)

  runs_text-push : (L : List (ℤ × ℤ)) (p : ℤ × ℤ) → runs_text text (L ++ p ∷ []) ≡ (runs_text text L ++? text p)
  runs_text-push [] p = nothing_after (text p)
  runs_text-push (q ∷ L) p = ap (λ t. text q ++? t) (runs_text-push L p) ∙ sym (then_text_assoc (text q) (runs_text text L) (text p))

  whole_text : (L : List (ℤ × ℤ)) → ¬ (length L ≡ 1) → set_text text L ≡ (Some (codes "{") ++? (runs_text text L ++? Some (codes "}")))
  whole_text [] n = refl
  whole_text (p ∷ []) n = absurd (n refl)
  whole_text (p ∷ q ∷ L) n = refl

  module _ {W : Type 0} (took : W → List ℕ → W → Type 0) (f g h : Formatter W) (r : Result (Unit {0}) Error) where
    then_writes : (o p : Option (List ℕ)) → IsOk r → IfSome o (λ bs. HasWritten took f bs g) → DisplaysOnOk took g r p h → IfSome (o ++? p) (λ bs. HasWritten took f bs h)
    then_writes None p ok a b = tt
    then_writes (Some x) None ok a b = tt
    then_writes (Some x) (Some y) ok a b = has_written_append took f x g y h a (b a.plain ok)

    displays_by : (o : Option (List ℕ)) → (IsPlainFormatter f → IsOk r → IfSome o (λ bs. HasWritten took f bs h)) → DisplaysOnOk took f r o h
    displays_by None k = tt
    displays_by (Some x) k = k

    -- one more run
    pub next_run : (o : Option (List ℕ)) (L : List (ℤ × ℤ)) (i : ℕ) (p : ℤ × ℤ) → IsOk r → i < length L → p ≡ get_or L i p →
        IfSome (o ++? runs_text text (take i L)) (λ bs. HasWritten took f bs g) → DisplaysOnOk took g r (text p) h →
        IfSome (o ++? runs_text text (take (i + 1) L)) (λ bs. HasWritten took f bs h)
    next_run o L i p ok lt is a b =
        let longer : take (i + 1) L ≡ take i L ++ p ∷ [] = take_more L i p lt ∙ ap {B = List (ℤ × ℤ)} (λ (t : ℤ × ℤ). take i L ++ t ∷ []) (sym is) in
        let whole : ((o ++? runs_text text (take i L)) ++? text p) ≡ (o ++? runs_text text (take (i + 1) L)) =
        then_text_assoc o (runs_text text (take i L)) (text p) ∙ ap (λ t. o ++? t) (sym (ap (runs_text text) longer ∙ runs_text-push (take i L) p)) in
        subst (λ t. IfSome t (λ bs. HasWritten took f bs h)) whole (then_writes (o ++? runs_text text (take i L)) (text p) ok a b)

    -- the closing brace
    pub closed : (L L' : List (ℤ × ℤ)) (i : ℕ) → L ≡ L' → ¬ (length L ≡ 1) → length L ≤ i →
        (IsPlainFormatter f → IfSome (Some (codes "{") ++? runs_text text (take i L)) (λ bs. HasWritten took f bs g)) → DisplaysOnOk took g r (Some (codes "}")) h →
        DisplaysOnOk took f r (set_text text L') h
    closed L L' i e n le a b =
        let open_text = Some (codes "{") in
        let all : ((open_text ++? runs_text text (take i L)) ++? Some (codes "}")) ≡ set_text text L =
        then_text_assoc open_text (runs_text text (take i L)) (Some (codes "}")) ∙ ap (λ t. open_text ++? (runs_text text t ++? Some (codes "}"))) (take_all i L le) ∙ sym (whole_text L n) in
        subst (λ N. DisplaysOnOk took f r (set_text text N) h) e
        (displays_by (set_text text L) (λ plain ok. subst (λ t. IfSome t (λ bs. HasWritten took f bs h)) all
        (then_writes (open_text ++? runs_text text (take i L)) (Some (codes "}")) ok (a plain) b)))
