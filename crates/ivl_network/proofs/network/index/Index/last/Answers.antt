use Rattle.std.proofs.Common.{◌∙◌, ℕ, List, ap, get_or, length, subst, sym, true, false}
use Rattle.ivl_network.specs.Queue.{IsLastNamingRule}
use Rattle.ivl_network.proofs.network.index.Index.last.Goals as goal

pub returns-then-singles : goal.returns-then-singles
returns-then-singles c = λ count cs s.
    let i = c.args.variable in
    rw c.if-singles.true (subst (λ p. IsLastNamingRule true cs i (length cs) p) (sym (c.place_at.ensures ∙ ap (λ (l : List ℕ). get_or l i 0) c.deref.ensures.value)) (s.lasts true i))

pub returns-else-singles : goal.returns-else-singles
returns-else-singles c = λ count cs s.
    let i = c.args.variable in
    rw c.if-singles.false
    (subst (λ p. IsLastNamingRule false cs i (length cs) p) (sym (c.place_at-else-singles.ensures ∙ ap (λ (l : List ℕ). get_or l i 0) c.deref-else-singles.ensures.value)) (s.lasts false i))
