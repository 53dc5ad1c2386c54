use Rattle.std.proofs.Common.{◌≡◌, ◌<◌, ◌≤◌, ℤ, List, length, get_or, take, drop, subst, sym, ◌∙◌}
use Rattle.std.specs.Prelude.{MatchOption}
use Rattle.ivl_laws.specs.Sets.{AtLeast}
use Rattle.ivl_laws.specs.Counts.{IsIn}
use Rattle.ivl_map.specs.Entries.{HasAt, HasValue, IsEntryList, AllEndBelow, FirstEndsFrom}
use Rattle.ivl_map.specs.Lookups.{IsFirstRunOf}
use Rattle.ivl_laws.proofs.Places.{in_at}
use Rattle.ivl_map.proofs.Lookups.{next_is, none_next, option_weaker}
use Rattle.ivl_map.proofs.interval_map.IntervalMap.next_from.Goals as goal

pub returns-clause-least : goal.returns-clause-least
returns-clause-least g c =
    let eq = g.V.PartialEq.eq in
    let o = g.met.V.Eq.laws in
    let v = g.B.Width.value c.args.v in
    let E = c.args.self.now in
    let r = c.entry_at.result in
    let j = c.ends_below-place.result in
    let same = c.as_slice-entries.ensures.value ∙ c.self.view_is in
    let m = subst (IsEntryList eq) c.self.view_is c.self.invariant.maximal in
    let below = subst (λ (L : List ((ℤ × ℤ) × g.row.V.Denot)). AllEndBelow v (take j L)) same c.ends_below-place.ensures.below in
    let from = subst (λ (L : List ((ℤ × ℤ) × g.row.V.Denot)). FirstEndsFrom v (drop j L)) same c.ends_below-place.ensures.from in
    let P : List ((ℤ × ℤ) × g.row.V.Denot) → Type 0 = λ L. MatchOption r (length L ≤ j) (λ e. (j < length L) × ((e.0, e.1.now) ≡ get_or L j (e.0, e.1.now))) in
    let Q : (ℤ × ℤ) × g.row.V.Denot → Type 0 = λ f. IsFirstRunOf eq (AtLeast v (HasValue (HasAt eq E))) (HasAt eq E) f in
    option_weaker (λ e. (j < length E) × ((e.0, e.1.now) ≡ get_or E j (e.0, e.1.now))) (λ e. Q (e.0, e.1.now)) r
    (λ h. none_next eq v E j h below) (λ e h. subst Q (sym h.1) (next_is eq o v E j (e.0, e.1.now) m h.0 below from)) (subst P same c.entry_at.ensures)

pub returns-clause-stored : goal.returns-clause-stored
returns-clause-stored g c =
    let E = c.args.self.now in
    let r = c.entry_at.result in
    let j = c.ends_below-place.result in
    let same = c.as_slice-entries.ensures.value ∙ c.self.view_is in
    let P : List ((ℤ × ℤ) × g.row.V.Denot) → Type 0 = λ L. MatchOption r (length L ≤ j) (λ e. (j < length L) × ((e.0, e.1.now) ≡ get_or L j (e.0, e.1.now))) in
    let Q : (ℤ × ℤ) × g.row.V.Denot → Type 0 = λ f. IsIn E f in
    option_weaker (λ e. (j < length E) × ((e.0, e.1.now) ≡ get_or E j (e.0, e.1.now))) (λ e. Q (e.0, e.1.now)) r
    (λ h. _) (λ e h. subst Q (sym h.1) (in_at E j (e.0, e.1.now) h.0)) (subst P same c.entry_at.ensures)
