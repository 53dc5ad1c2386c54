use Rattle.std.proofs.Common.{◌∙◌, ap, length, subst}
use Rattle.ivl_laws.specs.Families.{set_at}
use Rattle.ivl_laws.specs.Runs.{Covers}
use Rattle.ivl_network.specs.Network.{IsCutAt, RulesState}
use Rattle.ivl_network.specs.Settled.{KeepsSettled}
use Rattle.ivl_store.proofs.Steps.{on_err}
use Rattle.ivl_store_lines.specs.Solving.{Settles}
use Rattle.ivl_store_lines.proofs.Settling.{all_at_mark, below_marked, undone_to_mark}
use Rattle.ivl_store_lines.proofs.atomic.restrict_atomically.Goals as goal

pub settle_to-requires : goal.settle_to-requires
settle_to-requires c =
    below_marked c.restrict.new.self.marked c.args.network.now.marked _ c.in_ok-mark.mark (c.restrict.ensures.marked ∙ ap (λ (n : RulesState). n.marked) c.in_ok-mark.ensures.marked)
    c.in_ok-mark.ensures.index

pub returns-in_err-progress-in-Ok-clause-refused : goal.returns-in_err-progress-in-Ok-clause-refused
returns-in_err-progress-in-Ok-clause-refused c = on_err _ _
    (undone_to_mark c.restrict.new.self.marked c.args.network.now.marked _ c.in_ok-mark.mark _ _ (c.restrict.ensures.marked ∙ ap (λ (n : RulesState). n.marked) c.in_ok-mark.ensures.marked)
    c.in_ok-mark.ensures.index c.in_err-progress-in-Ok.ensures.undone)

pub returns-in_ok-progress-in-Ok-clause-cut : goal.returns-in_ok-progress-in-Ok-clause-cut
returns-in_ok-progress-in-Ok-clause-cut c =
    let marked = c.in_ok-mark.ensures.marked in (
      c.restrict.new.self.domains,
      subst (λ (n : RulesState). IsCutAt c.args.variable (Covers c.args.allowed.now) (set_at n.domains) (set_at c.restrict.new.self.domains)) marked c.in-Ok.ensures.cut,
      c.restrict.new.self.settled,
      subst (λ (n : RulesState). KeepsSettled n.rules (set_at n.domains) (set_at c.restrict.new.self.domains) n.settled c.restrict.new.self.settled) marked c.restrict.ensures.stays,
      subst (λ rules. Settles c.args.limit rules c.restrict.new.self.domains c.restrict.new.self.settled c.settle_to.new.network.domains c.settle_to.new.network.settled c.in_ok-progress-in-Ok.progress)
          (c.restrict.ensures.rules ∙ ap (λ (n : RulesState). n.rules) marked) c.in_ok-progress-in-Ok.ensures.settled,
    )

pub returns-in_ok-progress-in-Ok-clause-kept_count : goal.returns-in_ok-progress-in-Ok-clause-kept_count
returns-in_ok-progress-in-Ok-clause-kept_count c =
    c.in_ok-progress-in-Ok.ensures.kept_count ∙ c.restrict.ensures.kept_count ∙ ap (λ (n : RulesState). length n.domains) c.in_ok-mark.ensures.marked

pub returns-in_err-progress-in-Ok-clause-all : goal.returns-in_err-progress-in-Ok-clause-all
returns-in_err-progress-in-Ok-clause-all c = on_err _ _
    (all_at_mark c.restrict.new.self.were_settled c.args.network.now.were_settled c.args.network.now.settled c.in_ok-mark.mark _
    (c.restrict.ensures.were_settled ∙ ap (λ (n : RulesState). n.were_settled) c.in_ok-mark.ensures.marked) c.in_ok-mark.ensures.index_of_flag c.in_err-progress-in-Ok.ensures.all)
