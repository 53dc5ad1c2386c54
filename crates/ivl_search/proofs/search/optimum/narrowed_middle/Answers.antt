use Rattle.std.proofs.Common.{◌≡◌, ◌<◌, [], List, get_or, length, subst, sym, ◌∙◌}
use Rattle.std.proofs.lemmas.List.{get_or_default}
use Rattle.std.specs.Prelude.{ℤ, IfSome}
use Rattle.ivl_laws.specs.Runs.{Covers}
use Rattle.ivl_laws.specs.Sets.{HasNone, IsBetween}
use Rattle.ivl_search.specs.Points.{SolvesRules}
use Rattle.ivl_search.specs.Halves.{IsMiddle}
use Rattle.ivl_search.specs.Nodes.{AreFilled}
use Rattle.ivl_search.proofs.Cuts.{in_range}
use Rattle.ivl_search.proofs.Halves.{filled_node, middle_in_range}
use Rattle.ivl_search.proofs.Popping.{empty_solves, if_none, if_some, if_some_always}
use Rattle.ivl_search.proofs.search.optimum.narrowed_middle.Goals as goal

pub returns-in_default : goal.returns-in_default
returns-in_default g c =
    let cs = c.args.network.now.rules in
    let sets = c.advance.new.network.domains in
    let domain = c.index-domains-variable.result in
    let lt : c.args.variable < length sets = subst (λ n. c.args.variable < n) (sym c.advance.ensures.kept_count) c.requires.known in
    let is : domain ≡ get_or sets c.args.variable domain = subst (λ D. domain ≡ get_or D c.args.variable domain) c.domains.ensures.same c.index-domains-variable.is in
    record {
      rules = c.advance.ensures.rules;
      kept_count = c.advance.ensures.kept_count;
      within = c.advance.ensures.within;
      same = c.advance.ensures.same;
      none = if_none c.middle.result (HasNone (Covers domain)) ((point : List ℤ) → SolvesRules cs sets point → ⊥) (λ x. IsMiddle c.args.wanted (Covers domain) (g.B.Width.value x)) c.middle.ensures
          (empty_solves cs sets c.args.variable domain lt is);
      in_range = middle_in_range g.B.Width.value c.args.wanted (Covers domain) (IsBetween g.B.Width.whole) c.middle.result
          (λ z m. in_range g.B.Width.whole sets c.domains.ensures.runs c.args.variable z (subst (λ s. Covers s z) (is ∙ get_or_default sets c.args.variable domain [] lt) m)) c.middle.ensures;
      filled = if_some_always c.middle.result (AreFilled sets) (filled_node g.B.Width.value c.args.wanted g.B.Width.whole sets _ c.in_ok-advance.ensures.node c.in_default.not-Dead);
      middle = subst (λ s. IfSome c.middle.result (λ x. IsMiddle c.args.wanted (Covers s) (g.B.Width.value x))) (is ∙ get_or_default sets c.args.variable domain [] lt)
          (if_some c.middle.result (HasNone (Covers domain)) (λ x. IsMiddle c.args.wanted (Covers domain) (g.B.Width.value x)) c.middle.ensures);
      runs = c.advance.ensures.runs;
    }
