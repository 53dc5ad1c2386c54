use Rattle.std.proofs.Common.{◌∙◌, ◌++◌, ◌∷◌, [], ◌-◌, ap, arith}
use Rattle.ivl_paged.proofs.Bounding.{pushed_behind, pushed_in_last}
use Rattle.ivl_paged.proofs.longests.Longests.push.Goals as goal

pub returns-then-index-lt-FIRST_PAGES-clause-ok : goal.returns-then-index-lt-FIRST_PAGES-clause-ok
returns-then-index-lt-FIRST_PAGES-clause-ok g c =
    pushed_in_last g.B.Output.SizeNumber.size c.self.inside.counts.items c.self.inside.mosts.items c.args.self.now c.self.invariant c.self.view_is (c.len-groups.result - 1) (g.B.Output.SizeNumber.size c.args.most) c.index_mut.result.now c.index-then-index-lt-FIRST_PAGES.result.now c.greater.result (omega arith) c.index_mut.ensures.value c.index-then-index-lt-FIRST_PAGES.ensures
    c.greater.ensures.at_least_x c.greater.ensures.at_least_y

pub returns-clause-ok : goal.returns-clause-ok
returns-clause-ok g c =
    pushed_behind g.B.Output.SizeNumber.size c.self.inside.counts.items c.self.inside.mosts.items c.args.self.now c.self.invariant c.self.view_is c.push.new.self.items c.push_reserved.new.self.items c.args.most c.in_ok-push.ensures.items (c.push_reserved.ensures.items ∙ ap (λ M. M ++ c.args.most ∷ []) c.reserve.ensures.items)
