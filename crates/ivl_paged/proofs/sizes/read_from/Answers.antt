use Rattle.std.proofs.Common.{refl, ℕ, length, ap, arith, ◌∙◌}
use Rattle.std.specs.Prelude.{min}
use Rattle.std.proofs.lemmas.List.{length-set}
use Rattle.ivl_paged.proofs.Totals.{group_end, group_start, kept_before, read_all, read_more}
use Rattle.ivl_paged.proofs.sizes.read_from.Goals as goal

pub loop-group-init : goal.loop-group-init
loop-group-init g c =
    let (P, h, e) = c.requires.kept in
    (refl, kept_before c.args.sizes.now.items P c.args.pages.now c.args.place h e)

pub loop-group-preserved : goal.loop-group-preserved
loop-group-preserved g c =
    let S = c.loop-group.sizes.items in
    let P = c.args.pages.now in
    let i = c.loop-group.group in
    let same = length-set S i c.total_of.result in
    let start = group_start (length P) i c.min-start.result (omega arith) (c.min-start.ensures ∙ ap (λ (n : ℕ). min n (length P)) c.saturating_mul.ensures) in (
      omega (arith, same, c.loop-group.invariant.0),
      read_more S P i c.min-start.result c.min-end.result c.total_of.result (omega (arith, c.loop-group.invariant.0)) (omega arith) start
          (group_end (length P) i c.min-start.result c.min-end.result (omega arith) start (c.min-end.ensures ∙ ap (λ (n : ℕ). min n (length P)) c.saturating_add.ensures)) c.total_of.ensures c.loop-group.invariant.1,
    )

pub returns : goal.returns
returns g c = read_all c.loop-group.sizes.items c.args.pages.now c.loop-group.group (omega (arith, c.loop-group.invariant.0)) (omega (arith, c.loop-group.invariant.0)) c.loop-group.invariant.1
