use Rattle.std.proofs.lemmas.Result.{on_ok_weaker}
use Rattle.ivl_map.proofs.Overlaps.{written_alike}
use Rattle.ivl_map.proofs.walks.push_part.Goals as goal

pub returns : goal.returns
returns g c =
    on_ok_weaker c.push_entry.result (λ h. written_alike g.V.PartialEq.eq g.met.V.Eq.laws c.args.entries.now.items c.push_entry.new.entries.items c.args.part c.args.value.now c.in_ok-copy.copy c.in_ok-copy.ensures h) c.push_entry.ensures.ok
