use Rattle.std.proofs.Common.{◌∙◌, Bool, List, ap, set, true}
use Rattle.std.proofs.lemmas.List.{length-set}
use Rattle.ivl_store.proofs.Settled.{flags_moved, only_one_moved}
use Rattle.ivl_store.proofs.store.settled.settle_after.Goals as goal

pub returns-clause-settled : goal.returns-clause-settled
returns-clause-settled c = flags_moved c.args.constraints.now c.args.i _ c.args.lost c.args.settled.now.items c.unsettle.new.settled.items c.unsettle-2.new.settled.items
    c.unsettle-3.new.settled.items c.is_settled_after.result c.requires.in_list c.unsettle.ensures c.unsettle-2.ensures c.unsettle-3.ensures c.is_settled_after.ensures.may

pub returns-clause-count : goal.returns-clause-count
returns-clause-count c =
    length-set c.unsettle-3.new.settled.items c.args.i c.is_settled_after.result ∙ c.unsettle-3.ensures.same_count ∙ c.unsettle-2.ensures.same_count
    ∙ c.unsettle.ensures.same_count ∙ c.requires.one_each

pub returns-clause-alone : goal.returns-clause-alone
returns-clause-alone c = λ none.
    ap (λ b. set c.unsettle-3.new.settled.items c.args.i b) (c.is_settled_after.ensures.none none)
    ∙ ap (λ (flags : List Bool). set flags c.args.i true)
    (only_one_moved c.args.constraints.now _ c.args.lost c.args.settled.now.items c.unsettle.new.settled.items c.unsettle-2.new.settled.items c.unsettle-3.new.settled.items
    c.unsettle.ensures c.unsettle-2.ensures c.unsettle-3.ensures none)
