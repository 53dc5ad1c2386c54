use Rattle.std.proofs.Common.{◌≡◌, ◌∙◌, ◌<◌, Bool, List, ap, get_or, length, subst, sym, true}
use Rattle.ivl_network.specs.Network.{RulesState}
use Rattle.ivl_network.specs.Queue.{unsettled_count}
use Rattle.ivl_store_lines.specs.Solving.{Settles}
use Rattle.ivl_store_lines.proofs.Settling.{settles}
use Rattle.ivl_store_lines.proofs.atomic.settle_to.Goals as goal

pub returns-in-Ok-clause-settled : goal.returns-in-Ok-clause-settled
returns-in-Ok-clause-settled c =
    let old = c.args.network.now in
    subst (λ (n : RulesState). Settles c.args.limit old.rules old.domains old.settled n.domains n.settled c.progress_of.result) (sym c.drop_marks.ensures)
    (settles c.args.limit old c.settle_within.new.self c.progress_of.result c.in-Ok.reached c.progress_of.ensures.complete c.progress_of.ensures.used_up
    c.settle_within.ensures.rules c.settle_within.ensures.keeps c.in-Ok.ensures.greatest c.in-Ok.ensures.exactly c.settle_within.ensures.stays
    (subst (λ (n : RulesState). length n.settled ≡ length n.rules) c.drop_marks.ensures c.rules.ensures.one_each) c.in-Ok.ensures.made)

pub returns-in-Err-clause-undone : goal.returns-in-Err-clause-undone
returns-in-Err-clause-undone c = λ d.
    let kept = c.settle_within.ensures.marked in
    let new = c.taken_back.new.network in
    subst (λ ms. (new.domains ≡ (get_or ms c.args.mark d).domains) × (new.rules ≡ (get_or ms c.args.mark d).rules)) kept
    (c.taken_back.ensures.undone d)

pub returns-in-Err-clause-all : goal.returns-in-Err-clause-all
returns-in-Err-clause-all c = λ d.
    subst (λ (ws : List Bool). get_or ws c.args.mark d ≡ true → unsettled_count c.taken_back.new.network.settled ≡ 0) c.settle_within.ensures.were_settled
    (c.taken_back.ensures.all d)

pub returns-in-Ok-clause-kept_count : goal.returns-in-Ok-clause-kept_count
returns-in-Ok-clause-kept_count c = ap (λ (n : RulesState). length n.domains) c.drop_marks.ensures ∙ c.settle_within.ensures.kept_count

pub taken_back-requires : goal.taken_back-requires
taken_back-requires c = subst (λ ms. c.args.mark < length ms) (sym c.settle_within.ensures.marked) c.requires
