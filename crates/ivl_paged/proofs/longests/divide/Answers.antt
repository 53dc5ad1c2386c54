use Rattle.std.proofs.Common.{◌∙◌, ◌++◌, ◌∷◌, ◌+◌, ◌-◌, ◌/◌, ap, take, drop, arith}
use Rattle.ivl_paged.proofs.Bounding.{divided_in_two}
use Rattle.ivl_paged.proofs.longests.divide.Goals as goal

pub returns-clause-bounds : goal.returns-clause-bounds
returns-clause-bounds g c =
    let i = c.args.group in
    let n = c.index-count.result.now in
    divided_in_two g.N.SizeNumber.size c.args.counts.now.items c.insert.new.self.items c.args.mosts.now.items c.insert-2.new.self.items i n c.requires.same c.requires.less c.index-count.ensures
    (n / 2) (n - n / 2) c.index-most.result.now c.index-most.ensures (omega arith) c.in_ok-insert.ensures.items
    ((rw c.unwrap.ensures at c.insert-2.ensures.items) ∙ ap (λ M. take (i + 1) M ++ c.index-most.result.now ∷ drop (i + 1) M) c.reserve.ensures.items)
