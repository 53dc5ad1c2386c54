use Rattle.ivl_laws.specs.Runs.{Covers}
use Rattle.ivl_laws.proofs.Adding.{untrue}
use Rattle.ivl_laws.proofs.Intervals.{not_crossed}
use Rattle.ivl_images.proofs.Halves.{hulls_fit, none_of_none, none_with_none, results_within}
use Rattle.intervallum.proofs.sweep.united.has_results.Goals as goal
use Rattle.intervallum.proofs.sweep.united.has_results.Goals.{then-is_empty-via-then-is_empty, then-is_empty-via-else-is_empty+then-is_empty-2}

pub returns-then-is_empty : goal.returns-then-is_empty
returns-then-is_empty g c t z r =
    let S = Covers c.args.left.now in
    let T = Covers c.args.right.now in
    elim c.then-is_empty.branch [
      | then-is_empty-via-then-is_empty w ↦
          absurd (none_of_none c.args.op S T (λ x s. c.is_empty.ensures.members.0 w.if-is_empty.true x (c.hull_of_runs-first.ensures.holds x s)) z r)
      | then-is_empty-via-else-is_empty+then-is_empty-2 w ↦
          absurd (none_with_none c.args.op S T (λ x s. w.is_empty-else-is_empty.ensures.members.0 w.if-is_empty-2.true x (c.hull_of_runs-second.ensures.holds x s)) z r)
    ]

pub image-requires-clause-left : goal.image-requires-clause-left
image-requires-clause-left g c = not_crossed c.hull_of_runs-first.result (untrue _ c.if-is_empty.false c.is_empty.ensures.crossed)

pub image-requires-clause-right : goal.image-requires-clause-right
image-requires-clause-right g c = not_crossed c.hull_of_runs-second.result (untrue _ c.if-is_empty-2.false c.is_empty-else-is_empty.ensures.crossed)

pub image-requires-clause-fits : goal.image-requires-clause-fits
image-requires-clause-fits g c =
    hulls_fit c.args.op (Covers c.args.left.now) (Covers c.args.right.now) c.hull_of_runs-first.result c.hull_of_runs-second.result g.B.Width.whole
    c.hull_of_runs-first.ensures c.hull_of_runs-second.ensures c.requires.fits

pub returns : goal.returns
returns g c t z r =
    let p = c.hull_of_runs-first.result in
    let q = c.hull_of_runs-second.result in
    c.includes.ensures.0 t z
    (rw c.image.ensures (results_within c.args.op (Covers c.args.left.now) (Covers c.args.right.now) p q c.hull_of_runs-first.ensures.holds c.hull_of_runs-second.ensures.holds z r))
