use Rattle.std.proofs.Common.{◌≡◌, ◌<◌, ◌≤◌, ℤ, List, length, get_or, subst, sym, ◌∙◌}
use Rattle.std.specs.Prelude.{MatchOption}
use Rattle.ivl_map.specs.Entries.{HasAt, HasValue, IsEntryList}
use Rattle.ivl_map.specs.Lookups.{IsFirstRunOf}
use Rattle.ivl_map.proofs.Lookups.{first_is, none_in, option_weaker}
use Rattle.ivl_map.proofs.interval_map.IntervalMap.first.Goals as goal

pub returns-clause-least : goal.returns-clause-least
returns-clause-least g c =
    let eq = g.V.PartialEq.eq in
    let o = g.met.V.Eq.laws in
    let E = c.args.self.now in
    let r = c.entry_at.result in
    let same = c.as_slice.ensures.value ∙ c.self.view_is in
    let m = subst (IsEntryList eq) c.self.view_is c.self.invariant.maximal in
    let P : List ((ℤ × ℤ) × g.row.V.Denot) → Type 0 = λ L. MatchOption r (length L ≤ 0) (λ e. (0 < length L) × ((e.0, e.1.now) ≡ get_or L 0 (e.0, e.1.now))) in
    let Q : (ℤ × ℤ) × g.row.V.Denot → Type 0 = λ f. IsFirstRunOf eq (HasValue (HasAt eq E)) (HasAt eq E) f in
    option_weaker (λ e. (0 < length E) × ((e.0, e.1.now) ≡ get_or E 0 (e.0, e.1.now))) (λ e. Q (e.0, e.1.now)) r
    (λ h. none_in eq E h) (λ e h. subst Q (sym h.1) (first_is eq o E (e.0, e.1.now) m h.0)) (subst P same c.entry_at.ensures)
