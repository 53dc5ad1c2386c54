-- What a list's own iterator gives.
use Rattle.std.proofs.Common.{◌≡◌, ◌∙◌, ◌+◌, suc, List, [], ◌∷◌, length, sym, ap, arith}
use Rattle.std.specs.Iterator.{Drains}
use Rattle.std.specs.Vec.Iter.{into_iter_items, into_iter_len, into_iter_steps}
use Rattle.std.specs.declared.vec.IntoIter.{IntoIter}
use Rattle.std.proofs.lemmas.List.{nil_from_length}

-- what was given until there was no more is the whole list
pub drained_items : {X Z : Type 0} (xs : List X) (s : IntoIter X Z) → into_iter_len s ≡ length (into_iter_items s)
    → Drains (into_iter_steps {X = X} {Z = Z}) s xs → into_iter_items s ≡ xs
drained_items [] s e (u, (t, same, none)) = nil_from_length (into_iter_items s) (sym e ∙ ap into_iter_len same ∙ none.0)
drained_items (x ∷ xs) s e (u, (t, (j, st, ys), none)) =
    let all : length (into_iter_items s) ≡ suc (length (into_iter_items j)) = ap length st.0 in
    let one : into_iter_len j + 1 ≡ into_iter_len s = st.1 in
    let rest : into_iter_len j ≡ length (into_iter_items j) = omega arith in
    st.0 ∙ ap (λ l. x ∷ l) (drained_items xs j rest (u, (t, ys, none)))
