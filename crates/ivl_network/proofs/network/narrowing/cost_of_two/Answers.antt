use Rattle.std.proofs.Common.{◌≡◌, ◌∙◌, List, [], ap, get_or, length, refl, sym}
use Rattle.std.specs.Prelude.{ℤ}
use Rattle.ivl_within.proofs.Lists.{entry_seen}
use Rattle.ivl_network.proofs.network.narrowing.cost_of_two.Goals as goal

pub returns : goal.returns
returns g c =
    let sets = c.args.store.now in
    let x : c.interval_count-of_x.result ≡ length (get_or sets c.args.x []) = c.interval_count-of_x.ensures.count ∙ ap (λ (L : List (ℤ × ℤ)). length L) (entry_seen _ _ _ _ c.domains.ensures.same c.requires.0 c.index-domains-x.is) in
    let y : c.interval_count-of_y.result ≡ length (get_or sets c.args.y []) = c.interval_count-of_y.ensures.count ∙ ap (λ (L : List (ℤ × ℤ)). length L) (entry_seen _ _ _ _ c.domains-2.ensures.same c.requires.1 c.index-domains-y.is) in
    rw (sym x, sym y, sym c.saturating_add.ensures) refl
