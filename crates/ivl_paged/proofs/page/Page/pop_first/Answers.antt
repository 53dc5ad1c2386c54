use Rattle.std.proofs.Common.{◌≤ℤ◌, List, ℤ, subst, sym}
use Rattle.std.specs.Prelude.{IfSome}
use Rattle.ivl_laws.specs.Runs.{Covers, IsRunsOf}
use Rattle.ivl_laws.specs.Sets.{HasSome, Only, Without}
use Rattle.ivl_places.specs.Neighbours.{IsLeast}
use Rattle.ivl_paged.proofs.Longest.{kept_part, none_longer, without_popped}
use Rattle.ivl_paged.proofs.page.Page.pop_first.Goals as goal

pub lower-self-inside-requires : goal.lower-self-inside-requires
lower-self-inside-requires g c =
    let v = g.B.Width.value c.unwrap-least.result in
    let least = subst (λ o. IfSome o (λ x. (z : ℤ) → Covers c.self.inside.set z → g.B.Width.value x ≤ℤ z)) c.unwrap-least.ensures c.pop_first.ensures.least in
    let member = subst (λ o. IfSome o (λ x. Covers c.self.inside.set (g.B.Width.value x))) c.unwrap-least.ensures c.pop_first.ensures.member in
    let made = subst (λ o. IfSome o (λ x. IsRunsOf c.pop_first.new.self (Without (Covers c.self.inside.set) (Only (g.B.Width.value x))))) c.unwrap-least.ensures c.pop_first.ensures.others in
    let some = subst (λ (L : List (ℤ × ℤ)). (x : ℤ) → IsLeast x (Covers L) → HasSome (Without (Covers L) (Only x))) (sym c.self.view_is) c.requires in
    let (z, s) = some v (member, least) in
    (z, (made.members z).1 s)

pub longest_after-self-inside-requires-clause-most : goal.longest_after-self-inside-requires-clause-most
longest_after-self-inside-requires-clause-most g c = none_longer c.self.inside.longest c.singleton.result (Covers c.self.inside.set) (Covers c.pop_first.new.self) c.self.invariant.1
    (without_popped g.B.Width.value (Covers c.self.inside.set) c.pop_first.new.self c.pop_first.result c.unwrap-least.result c.singleton.result c.unwrap-least.ensures c.pop_first.ensures.others c.singleton.ensures.members)

pub longest_after-self-inside-requires-clause-kept : goal.longest_after-self-inside-requires-clause-kept
longest_after-self-inside-requires-clause-kept g c = kept_part c.self.inside.longest c.singleton.result (Covers c.self.inside.set) (Covers c.pop_first.new.self) c.self.invariant.1
    (without_popped g.B.Width.value (Covers c.self.inside.set) c.pop_first.new.self c.pop_first.result c.unwrap-least.result c.singleton.result c.unwrap-least.ensures c.pop_first.ensures.others c.singleton.ensures.members)
