use Rattle.std.proofs.Common.{◌≡◌, ◌∙◌, [], sym, inl, inr, get_or}
use Rattle.std.proofs.lemmas.List.{get_or_default}
use Rattle.std.proofs.lemmas.Bool.{false≢true}
use Rattle.ivl_store.proofs.NarrowedSets.{by_all_three}
use Rattle.ivl_store.proofs.store.narrowed_sets.narrowed_sets.Goals as goal
use Rattle.ivl_store.proofs.store.narrowed_sets.narrowed_sets.Goals.{then-has_x_later, else-has_x_later+in_ok-left_of_x, then-c, else-c+in_ok-left_of_y}

pub returns-then-distinct : goal.returns-then-distinct
returns-then-distinct g c =
    let sets = c.args.domains.now in let k = c.args.c.now in let p = c.requires in
    let ex : c.index-domains-c.result ≡ get_or sets k.x [] = c.index-domains-c.is ∙ get_or_default sets k.x _ [] p.0 in
    let ey : c.index-domains-c-2.result ≡ get_or sets k.y [] = c.index-domains-c-2.is ∙ get_or_default sets k.y _ [] p.1 in
    let ez : c.index-domains-c-3.result ≡ get_or sets k.z [] = c.index-domains-c-3.is ∙ get_or_default sets k.z _ [] p.2 in
    let distinct = c.distinct.ensures.0 c.if-distinct.true in
    by_all_three c.narrowed_by_sum.result _ _ _ _ (λ r at_x at_y at_z. record {
      at_x = (λ _ _. rw (sym ex, sym ey, sym ez) at_x);
      at_y = (λ _. rw (sym ex, sym ey, sym ez) at_y);
      at_z = rw (sym ex, sym ey, sym ez) at_z;
      x_is_later = (λ e. elim e [ inl e ↦ absurd (distinct.0 e) | inr e ↦ absurd (distinct.1 e) ]);
      y_is_later = (λ e. absurd (distinct.2 e));
    }) c.narrowed_by_sum.ensures.at_x c.narrowed_by_sum.ensures.at_y c.narrowed_by_sum.ensures.at_z

pub returns : goal.returns
returns g c =
    let sets = c.args.domains.now in let k = c.args.c.now in let p = c.requires in
    let ex : c.index-domains-c.result ≡ get_or sets k.x [] = c.index-domains-c.is ∙ get_or_default sets k.x _ [] p.0 in
    let ey : c.index-domains-c-2.result ≡ get_or sets k.y [] = c.index-domains-c-2.is ∙ get_or_default sets k.y _ [] p.1 in
    let ez : c.index-domains-c-3.result ≡ get_or sets k.z [] = c.index-domains-c-3.is ∙ get_or_default sets k.z _ [] p.2 in
    record {
      at_x = (λ ny nz. elim c.if-has_x_later.branch [
        | then-has_x_later w ↦ elim (c.has_x_later.ensures.0 w.if-has_x_later.true) [ inl e ↦ absurd (ny e) | inr e ↦ absurd (nz e) ]
        | else-has_x_later+in_ok-left_of_x w ↦ rw (w.left_of_x-is, sym ex, sym ey, sym ez) w.in_ok-left_of_x.ensures
      ]);
      at_y = (λ nz. elim c.if-c.branch [
        | then-c w ↦ absurd (nz w.if-c.true)
        | else-c+in_ok-left_of_y w ↦ rw (w.left_of_y-is, sym ex, sym ey, sym ez) w.in_ok-left_of_y.ensures
      ]);
      at_z = rw (sym ex, sym ey, sym ez) c.in_ok-left_of_z.ensures;
      x_is_later = (λ e. elim c.if-has_x_later.branch [
        | then-has_x_later w ↦ w.left_of_x-is
        | else-has_x_later+in_ok-left_of_x w ↦ absurd (false≢true (sym w.if-has_x_later.false ∙ c.has_x_later.ensures.1 e))
      ]);
      y_is_later = (λ e. elim c.if-c.branch [
        | then-c w ↦ w.left_of_y-is
        | else-c+in_ok-left_of_y w ↦ absurd (w.if-c.false e)
      ]);
    }
