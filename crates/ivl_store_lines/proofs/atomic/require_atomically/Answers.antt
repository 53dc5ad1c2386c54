use Rattle.std.proofs.Common.{◌∙◌, List, ap, length, subst, sym}
use Rattle.std.specs.Prelude.{ℤ}
use Rattle.ivl_store.proofs.Steps.{on_err}
use Rattle.ivl_network.specs.Network.{RulesState}
use Rattle.ivl_store_lines.specs.Solving.{AddsUnset, Settles}
use Rattle.ivl_store_lines.proofs.Settling.{all_at_mark, below_marked, undone_to_mark}
use Rattle.ivl_store_lines.proofs.atomic.require_atomically.Goals as goal

pub settle_to-requires : goal.settle_to-requires
settle_to-requires c =
    below_marked c.require_each.new.network.marked c.args.network.now.marked _ c.in_ok-mark.mark (c.require_each.ensures.marked ∙ ap (λ (n : RulesState). n.marked) c.in_ok-mark.ensures.marked)
    c.in_ok-mark.ensures.index

pub returns-in_err-progress-in-Ok-clause-refused : goal.returns-in_err-progress-in-Ok-clause-refused
returns-in_err-progress-in-Ok-clause-refused c = on_err _ _
    (undone_to_mark c.require_each.new.network.marked c.args.network.now.marked _ c.in_ok-mark.mark _ _ (c.require_each.ensures.marked ∙ ap (λ (n : RulesState). n.marked) c.in_ok-mark.ensures.marked)
    c.in_ok-mark.ensures.index c.in_err-progress-in-Ok.ensures.undone)

pub returns-in-Err-clause-refused : goal.returns-in-Err-clause-refused
returns-in-Err-clause-refused c =
    let marked = c.require_each.ensures.marked ∙ ap (λ (n : RulesState). n.marked) c.in_ok-mark.ensures.marked in
    undone_to_mark c.require_each.new.network.marked c.args.network.now.marked _ c.in_ok-mark.mark _ _ marked c.in_ok-mark.ensures.index
    c.taken_back.ensures.undone

pub taken_back-requires : goal.taken_back-requires
taken_back-requires c =
    below_marked c.require_each.new.network.marked c.args.network.now.marked _ c.in_ok-mark.mark (c.require_each.ensures.marked ∙ ap (λ (n : RulesState). n.marked) c.in_ok-mark.ensures.marked)
    c.in_ok-mark.ensures.index

pub returns-in_ok-progress-in-Ok-clause-kept_count : goal.returns-in_ok-progress-in-Ok-clause-kept_count
returns-in_ok-progress-in-Ok-clause-kept_count c =
    c.in_ok-progress-in-Ok.ensures.kept_count ∙ ap (λ (ds : List (List (ℤ × ℤ))). length ds) (c.require_each.ensures.domains ∙ ap (λ (n : RulesState). n.domains) c.in_ok-mark.ensures.marked)

pub returns-in_err-progress-in-Ok-clause-all : goal.returns-in_err-progress-in-Ok-clause-all
returns-in_err-progress-in-Ok-clause-all c = on_err _ _
    (all_at_mark c.require_each.new.network.were_settled c.args.network.now.were_settled c.args.network.now.settled c.in_ok-mark.mark _
    (c.require_each.ensures.were_settled ∙ ap (λ (n : RulesState). n.were_settled) c.in_ok-mark.ensures.marked) c.in_ok-mark.ensures.index_of_flag c.in_err-progress-in-Ok.ensures.all)

pub returns-in-Err-clause-all : goal.returns-in-Err-clause-all
returns-in-Err-clause-all c =
    all_at_mark c.require_each.new.network.were_settled c.args.network.now.were_settled c.args.network.now.settled c.in_ok-mark.mark _
    (c.require_each.ensures.were_settled ∙ ap (λ (n : RulesState). n.were_settled) c.in_ok-mark.ensures.marked) c.in_ok-mark.ensures.index_of_flag c.taken_back.ensures.all

pub returns-in_ok-progress-in-Ok-clause-settled : goal.returns-in_ok-progress-in-Ok-clause-settled
returns-in_ok-progress-in-Ok-clause-settled c =
    let marked = c.in_ok-mark.ensures.marked in
    let now = c.require_each.new.network in
    let new = c.settle_to.new.network in (
      now.settled,
      subst (λ (n : RulesState). AddsUnset n.settled now.settled) marked c.in-Ok.ensures.unset,
      subst (λ rules. Settles c.args.limit rules c.args.network.now.domains now.settled new.domains new.settled c.in_ok-progress-in-Ok.progress) (sym c.in_ok-progress-in-Ok.ensures.rules)
          (subst (λ domains. Settles c.args.limit now.rules domains now.settled new.domains new.settled c.in_ok-progress-in-Ok.progress)
          (c.require_each.ensures.domains ∙ ap (λ (n : RulesState). n.domains) marked) c.in_ok-progress-in-Ok.ensures.settled),
    )
