use Rattle.std.proofs.Common.{◌≡◌, ◌+◌, ◌*◌, ◌-◌, ◌/◌, ℕ, ℤ, List, length, take, drop, ap, sym, true≢false, ◌∙◌, arith}
use Rattle.ivl_laws.proofs.Adding.{untrue}
use Rattle.ivl_laws.proofs.Places.{IsMaximal-drop, IsMaximal-take}
use Rattle.ivl_images.proofs.EqualRuns.{same_part, same_rest}
use Rattle.ivl_laws.proofs.Slices.{from_place}
use Rattle.intervallum.proofs.interval_set.run_lists.are_the_same.Goals as goal

pub all_are_the_same-requires-clause-left : goal.all_are_the_same-requires-clause-left
all_are_the_same-requires-clause-left g c = let n = c.loop-i.i * 4 in IsMaximal-take (drop n c.args.a.now) (n + 4 - n) (IsMaximal-drop c.args.a.now n c.requires.left)

pub all_are_the_same-requires-clause-right : goal.all_are_the_same-requires-clause-right
all_are_the_same-requires-clause-right g c = let n = c.loop-i.i * 4 in IsMaximal-take (drop n c.args.b.now) (n + 4 - n) (IsMaximal-drop c.args.b.now n c.requires.right)

pub all_are_the_same-requires-2-clause-left : goal.all_are_the_same-requires-2-clause-left
all_are_the_same-requires-2-clause-left g c =
    let n = length c.args.a.now / 4 * 4 in IsMaximal-take (drop n c.args.a.now) (length c.args.a.now - n) (IsMaximal-drop c.args.a.now n c.requires.left)

pub all_are_the_same-requires-2-clause-right : goal.all_are_the_same-requires-2-clause-right
all_are_the_same-requires-2-clause-right g c =
    let n = length c.args.a.now / 4 * 4 in IsMaximal-take (drop n c.args.b.now) (length c.args.b.now - n) (IsMaximal-drop c.args.b.now n c.requires.right)

pub loop-i-preserved : goal.loop-i-preserved
loop-i-preserved g c =
    let n = c.loop-i.i * 4 in
    same_part c.args.a.now c.args.b.now n (n + 4 - n) ((c.loop-i.i + 1) * 4) (omega arith) c.loop-i.invariant (c.all_are_the_same.ensures.0 c.if-not-all_are_the_same.false)

pub returns-then-not-all_are_the_same : goal.returns-then-not-all_are_the_same
returns-then-not-all_are_the_same g c =
    let n = c.loop-i.i * 4 in
    let other = untrue _ c.if-not-all_are_the_same.true c.all_are_the_same.ensures in
    ((λ t. absurd (true≢false (sym t))), (λ e. absurd (other (ap (λ (L : List (ℤ × ℤ)). take (n + 4 - n) (drop n L)) e))))

pub returns : goal.returns
returns g c =
    let L = c.args.a.now in
    let M = c.args.b.now in
    let groups : c.loop-i.i ≡ length L / 4 = let past = c.loop-i-test.false in let most = c.loop-i.auto.i-end in omega arith in
    let n = length L / 4 * 4 in
    let before : take n L ≡ take n M = ap (λ (k : ℕ). take (k * 4) L) (sym groups) ∙ c.loop-i.invariant ∙ ap (λ (k : ℕ). take (k * 4) M) groups in (
      (λ t. same_rest L M n before (sym (from_place L n) ∙ c.all_are_the_same-2.ensures.0 t ∙ from_place M n)),
      (λ e. c.all_are_the_same-2.ensures.1 (from_place L n ∙ ap (λ (N : List (ℤ × ℤ)). drop n N) e ∙ sym (from_place M n))),
    )
