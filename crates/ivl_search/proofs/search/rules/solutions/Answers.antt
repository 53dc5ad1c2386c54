use Rattle.std.proofs.Common.{◌≡◌, [], arith, ◌<◌, ◌+◌, ◌-◌, ◌*◌, ◌/◌, ◌++◌, List, length, map, max}
use Rattle.std.specs.Prelude.{ℤ, All, Contains}
use Rattle.std.proofs.lemmas.List.{length-map}
use Rattle.ivl_search.specs.Budget.{points_of}
use Rattle.ivl_search.specs.Points.{SolvesRules}
use Rattle.ivl_search.proofs.Rooms.{enough_more}
use Rattle.std.proofs.Common.{ap, refl, subst, sym, ◌∙◌}
use Rattle.ivl_search.proofs.search.rules.solutions.Goals as goal

pub returns-clause-sound : goal.returns-clause-sound
returns-clause-sound g c =
    let f = c.in_ok-end.ensures.finds in
    let net = c.in_ok-network.network in
    let solved = λ (point : List ℤ) (s : SolvesRules net.rules net.domains point). (c.in_ok-network.ensures.solutions point).1 (subst (λ D. SolvesRules net.rules D point) c.in_ok-network.ensures.domains s) in
    subst (All (SolvesRules c.args.rules.now c.args.domains.now)) (sym (f.2 refl ∙ ap (λ xs. map (λ p. map g.B.Width.value p.items) xs ++ f.0) c.new-points.ensures.items))
    (λ k d lt. solved _ (f.1.sound k d lt))

pub returns-clause-complete : goal.returns-clause-complete
returns-clause-complete g c = λ e point s.
    let f = c.in_ok-end.ensures.finds in
    let net = c.in_ok-network.network in
    let solved : SolvesRules net.rules net.domains point = subst (λ D. SolvesRules net.rules D point) (sym c.in_ok-network.ensures.domains) ((c.in_ok-network.ensures.solutions point).0 s) in
    subst (λ points. Contains points point) (sym (f.2 refl ∙ ap (λ xs. map (λ p. map g.B.Width.value p.items) xs ++ f.0) c.new-points.ensures.items)) (f.1.complete e point solved)

pub returns-clause-enough : goal.returns-clause-enough
returns-clause-enough g c = λ e.
    let net = c.in_ok-network.network in
    let points = λ (D : List (List (ℤ × ℤ))). 2 * max 1 (points_of g.B.Width.whole D) - 1 in
    enough_more (length net.rules) (length c.args.rules.now) (points c.args.domains.now) c.args.limits.nodes c.in_ok-network.ensures.no_more
    (subst (λ D. c.args.limits.nodes < points D * (length net.rules / 500 + 1)) c.in_ok-network.ensures.domains (c.in_ok-end.ensures.enough e).1)

-- as many points are kept as were found
kept_count : {A B : Type 0} (f : A → B) (items start : List A) (more : List B) → map f items ≡ map f start ++ more → start ≡ [] → length items ≡ length more
kept_count f items start more e none = sym (length-map items f) ∙ ap length (e ∙ ap (λ xs. map f xs ++ more) none)

pub returns-clause-bounded : goal.returns-clause-bounded
returns-clause-bounded g c =
    let f = c.in_ok-end.ensures.finds in
    let count = f.3 in
    let kept = kept_count _ _ _ f.0 (f.2 refl) c.new-points.ensures.items in
    omega (arith, kept, count)

pub returns-clause-full : goal.returns-clause-full
returns-clause-full g c = λ e.
    let f = c.in_ok-end.ensures.finds in
    let count = f.3 in
    let kept = kept_count _ _ _ f.0 (f.2 refl) c.new-points.ensures.items in
    let none = c.in_ok-end.ensures.full e in
    omega (arith, kept, count, none)

pub returns-clause-visited : goal.returns-clause-visited
returns-clause-visited g c =
    let f = c.in_ok-end.ensures.finds in
    let count = f.3 in
    let kept = kept_count _ _ _ f.0 (f.2 refl) c.new-points.ensures.items in
    let visited = c.in_ok-end.ensures.visited in
    omega (arith, kept, count, visited)
