use Rattle.std.proofs.Common.{◌∙◌, ◌+◌, ◌∷◌, ◌++◌, [], ℕ, List, ap, arith, get_or, refl, sym}
use Rattle.ivl_network.proofs.Indexes.{index_pushed, known_pushed, put_others, put_singles}
use Rattle.ivl_network.proofs.network.index.Index.push_rule.Goals as goal

pub returns-then-needs_single_numbers : goal.returns-then-needs_single_numbers
returns-then-needs_single_numbers c = λ count cs s.
    let p = c.places-c.result in let start = c.len-start.result in let index = c.args.self.now in
    let index' = record index { single_lasts = c.put_places.new.lasts; links = c.push_places.new.links; hashes = c.push.new.self } in
    let read : List ℕ → List ℕ = (λ l. index.links.items ++ 0 ∷ get_or l p.x 0 ∷ get_or l p.y 0 ∷ get_or l p.z 0 ∷ []) in
    index_pushed count cs c.args.rule.now p _ index index' start c.places-c.ensures (sym c.needs_single_numbers.ensures ∙ c.if-needs_single_numbers.true) c.requires.present
    (let e = c.len-start.ensures in let n = index.links.ok.0 in omega (arith, e, n)) (c.push_places.ensures ∙ ap read c.deref.ensures.value)
    (put_singles p (start + 1) (start + 2) (start + 3) index index' c.put_places.ensures refl) (known_pushed cs c.args.rule.now c.hash_of.result index.hashes c.push.new.self c.push.ensures.lists c.push.ensures.added c.hash_of.ensures) s

pub returns-else-needs_single_numbers : goal.returns-else-needs_single_numbers
returns-else-needs_single_numbers c = λ count cs s.
    let p = c.places-c.result in let start = c.len-start.result in let index = c.args.self.now in
    let index' = record index { lasts = c.put_places-else-needs_single_numbers.new.lasts; links = c.push_places-else-needs_single_numbers.new.links; hashes = c.push.new.self } in
    let read : List ℕ → List ℕ = (λ l. index.links.items ++ 0 ∷ get_or l p.x 0 ∷ get_or l p.y 0 ∷ get_or l p.z 0 ∷ []) in
    index_pushed count cs c.args.rule.now p _ index index' start c.places-c.ensures (sym c.needs_single_numbers.ensures ∙ c.if-needs_single_numbers.false) c.requires.present
    (let e = c.len-start.ensures in let n = index.links.ok.0 in omega (arith, e, n)) (c.push_places-else-needs_single_numbers.ensures ∙ ap read c.deref-else-needs_single_numbers.ensures.value)
    (put_others p (start + 1) (start + 2) (start + 3) index index' c.put_places-else-needs_single_numbers.ensures refl) (known_pushed cs c.args.rule.now c.hash_of.result index.hashes c.push.new.self c.push.ensures.lists c.push.ensures.added c.hash_of.ensures) s
