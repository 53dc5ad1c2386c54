use Rattle.std.proofs.Common.{◌∙◌, ◌+◌, ◌-◌, ◌≡◌, arith, length, refl, sym}
use Rattle.std.proofs.lemmas.List.{get_or_default}
use Rattle.ivl_network.proofs.Indexes.{HasFourMore, four_fewer, index_popped, known_popped, no_rule_left, put_others, put_singles}
use Rattle.ivl_network.proofs.network.index.Index.pop_rule.Goals as goal

pub returns-then-count-lt4 : goal.returns-then-count-lt4
returns-then-count-lt4 c = λ count cs s.
    absurd (no_rule_left count c.len-count.result cs c.args.rule.now c.args.self.now (let e = c.len-count.ensures in let o = c.args.self.now.links.ok.0 in omega (arith, e, o)) c.if-count-lt4.true s)

pub returns-then-needs_single_numbers : goal.returns-then-needs_single_numbers
returns-then-needs_single_numbers c = λ count cs s.
    let p = c.places-c.result in let index = c.args.self.now in let links = index.links.items in let start = c.len-count.result - 4 in
    let x = c.index-x.result.now in let y = c.index-y.result.now in let z = c.index-z.result.now in
    let index' = record index { single_lasts = c.put_places.new.lasts; links = c.truncate.new.self; leaves = c.pop.new.self; hashes = c.pop-2.new.self } in
    let n : start + 4 ≡ length links = (let e = c.len-count.ensures in let o = index.links.ok.0 in let f = c.if-count-lt4.false in omega (arith, e, o, f)) in
    let four : HasFourMore c.truncate.new.self.items links x y z = four_fewer links c.truncate.new.self.items start x y z n c.truncate.ensures.items
    (c.index-x.ensures ∙ get_or_default links (start + 1) _ 0 (omega (arith, n))) (c.index-y.ensures ∙ get_or_default links (start + 2) _ 0 (omega (arith, n)))
    (c.index-z.ensures ∙ get_or_default links (start + 3) _ 0 (omega (arith, n))) in
    index_popped count cs c.args.rule.now p _ index index' x y z c.places-c.ensures (sym c.needs_single_numbers.ensures ∙ c.if-needs_single_numbers.true) c.requires.present four
    (put_singles p x y z index index' c.put_places.ensures refl) (known_popped cs c.args.rule.now index.hashes c.pop-2.new.self c.pop-2.ensures.lists c.pop-2.ensures.left) s

pub returns-else-needs_single_numbers : goal.returns-else-needs_single_numbers
returns-else-needs_single_numbers c = λ count cs s.
    let p = c.places-c.result in let index = c.args.self.now in let links = index.links.items in let start = c.len-count.result - 4 in
    let x = c.index-x.result.now in let y = c.index-y.result.now in let z = c.index-z.result.now in
    let index' = record index { lasts = c.put_places-else-needs_single_numbers.new.lasts; links = c.truncate.new.self; leaves = c.pop.new.self; hashes = c.pop-2.new.self } in
    let n : start + 4 ≡ length links = (let e = c.len-count.ensures in let o = index.links.ok.0 in let f = c.if-count-lt4.false in omega (arith, e, o, f)) in
    let four : HasFourMore c.truncate.new.self.items links x y z = four_fewer links c.truncate.new.self.items start x y z n c.truncate.ensures.items
    (c.index-x.ensures ∙ get_or_default links (start + 1) _ 0 (omega (arith, n))) (c.index-y.ensures ∙ get_or_default links (start + 2) _ 0 (omega (arith, n)))
    (c.index-z.ensures ∙ get_or_default links (start + 3) _ 0 (omega (arith, n))) in
    index_popped count cs c.args.rule.now p _ index index' x y z c.places-c.ensures (sym c.needs_single_numbers.ensures ∙ c.if-needs_single_numbers.false) c.requires.present four
    (put_others p x y z index index' c.put_places-else-needs_single_numbers.ensures refl) (known_popped cs c.args.rule.now index.hashes c.pop-2.new.self c.pop-2.ensures.lists c.pop-2.ensures.left) s
