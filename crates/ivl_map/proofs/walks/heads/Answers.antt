use Rattle.std.proofs.Common.{ap, arith, ◌<◌, length, ℤ}
use Rattle.ivl_laws.proofs.Slices.{same_item}
use Rattle.ivl_map.proofs.walks.heads.Goals as goal

pub returns : goal.returns
returns g c =
    let E = c.args.entries.now in
    let i = c.args.i in
    let less : i < length E = omega arith in
    let less_too : c.args.j < length c.args.runs.now = omega arith in
    (less, less_too, (λ d. ap (λ (e : (ℤ × ℤ) × g.row.V.Denot). e.0) (same_item E i c.index-entries-i.result d less)), c.index-runs-j.is)
