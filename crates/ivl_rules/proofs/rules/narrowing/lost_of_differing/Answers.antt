use Rattle.std.proofs.Common.{◌≡◌, ◌∙◌, [], arith, get_or, of_z, sym, to_z}
use Rattle.std.specs.Int.{w128}
use Rattle.std.proofs.lemmas.Int.{ints}
use Rattle.std.proofs.lemmas.List.{get_or_default}
use Rattle.std.specs.Prelude.{pos, ◌-ℤ◌}
use Rattle.ivl_laws.specs.Families.{set_at}
use Rattle.ivl_laws.specs.Runs.{Covers}
use Rattle.ivl_rules.specs.NarrowedSets.{IsForbidden}
use Rattle.ivl_rules.proofs.Differing.{takes_first, takes_second}
use Rattle.ivl_rules.proofs.rules.narrowing.lost_of_differing.Goals as goal

pub returns-in-Some : goal.returns-in-Some
returns-in-Some g c =
    let sets = c.args.domains.now in
    let x = c.args.x in let y = c.args.y in let v = g.B.Width.value c.in-Some.value in
    let ex : c.index-domains-x.result ≡ get_or sets x [] = c.index-domains-x.is ∙ get_or_default sets x _ [] c.requires.present.0 in
    let ey : c.index-domains-y.result ≡ get_or sets y [] = c.index-domains-y.is ∙ get_or_default sets y _ [] c.requires.present.1 in
    let back = to_z w128 (of_z w128 c.shift_back_of.result) in
    let low = c.shift_back_of.ensures.small.0 in let high = c.shift_back_of.ensures.small.1 in let is = c.shift_back_of.ensures.value in
    let is_back : back ≡ (pos 0 -ℤ c.args.by.now) = omega (arith, ints) in
    let h : IsForbidden back (Covers (get_or sets x [])) (Covers (get_or sets y [])) v = rw (sym ex, sym ey) c.in-Some.ensures in
    takes_first x y c.args.by.now back (set_at sets) v c.requires.different is_back h

pub returns-in-Some-forbidden : goal.returns-in-Some-forbidden
returns-in-Some-forbidden g c =
    let sets = c.args.domains.now in
    let x = c.args.x in let y = c.args.y in let v = g.B.Width.value c.in-Some-forbidden.value in
    let ex : c.index-domains-x-2.result ≡ get_or sets x [] = c.index-domains-x-2.is ∙ get_or_default sets x _ [] c.requires.present.0 in
    let ey : c.index-domains-y-2.result ≡ get_or sets y [] = c.index-domains-y-2.is ∙ get_or_default sets y _ [] c.requires.present.1 in
    let by = to_z w128 (of_z w128 c.shift_of.result) in
    let low = c.shift_of.ensures.small.0 in let high = c.shift_of.ensures.small.1 in let is = c.shift_of.ensures.value in
    let is_by : by ≡ c.args.by.now = omega (arith, ints) in
    let h : IsForbidden by (Covers (get_or sets y [])) (Covers (get_or sets x [])) v = rw (sym ex, sym ey) c.in-Some-forbidden.ensures in
    takes_second x y c.args.by.now by (set_at sets) v c.requires.different is_by h
