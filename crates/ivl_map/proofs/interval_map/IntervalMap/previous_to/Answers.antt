use Rattle.std.proofs.Common.{◌≡◌, ℕ, suc, ◌<◌, ℤ, List, length, get_or, take, drop, subst, sym, ◌∙◌}
use Rattle.std.specs.Prelude.{MatchOption}
use Rattle.ivl_laws.specs.Sets.{AtMost}
use Rattle.ivl_laws.specs.Counts.{IsIn}
use Rattle.ivl_map.specs.Entries.{HasAt, HasValue, IsEntryList, FirstStartsAbove, AllStartBy}
use Rattle.ivl_map.specs.Lookups.{IsLastRunOf}
use Rattle.ivl_laws.proofs.Places.{in_at}
use Rattle.ivl_map.proofs.Lookups.{option_weaker, none_previous, previous_is}
use Rattle.ivl_map.proofs.interval_map.IntervalMap.previous_to.Goals as goal

pub returns-clause-greatest : goal.returns-clause-greatest
returns-clause-greatest g c =
    let eq = g.V.PartialEq.eq in
    let o = g.met.V.Eq.laws in
    let E = c.args.self.now in
    let r = c.entry_before.result in
    let same = c.as_slice-entries.ensures.value ∙ c.self.view_is in
    let m = subst (IsEntryList eq) c.self.view_is c.self.invariant.maximal in
    let v = g.B.Width.value c.args.v in
    let starts = subst (λ (L : List ((ℤ × ℤ) × g.row.V.Denot)). AllStartBy v (take c.starts_up_to-place.result L)) same c.starts_up_to-place.ensures.starts in
    let above = subst (λ (L : List ((ℤ × ℤ) × g.row.V.Denot)). FirstStartsAbove v (drop c.starts_up_to-place.result L)) same c.starts_up_to-place.ensures.above in
    let j = c.starts_up_to-place.result in
    let P : List ((ℤ × ℤ) × g.row.V.Denot) → Type 0 = λ L. MatchOption r (j ≡ 0) (λ e. (k : ℕ) × (j ≡ suc k) × (k < length L) × ((e.0, e.1.now) ≡ get_or L k (e.0, e.1.now))) in
    let Q : (ℤ × ℤ) × g.row.V.Denot → Type 0 = λ f. IsLastRunOf eq (AtMost v (HasValue (HasAt eq E))) (HasAt eq E) f in
    option_weaker (λ e. (k : ℕ) × (j ≡ suc k) × (k < length E) × ((e.0, e.1.now) ≡ get_or E k (e.0, e.1.now))) (λ e. Q (e.0, e.1.now)) r
    (λ h. none_previous eq v E j h m above) (λ e h. subst Q (sym h.3) (previous_is eq o v E j h.0 (e.0, e.1.now) m h.1 h.2 starts above)) (subst P same c.entry_before.ensures)

pub returns-clause-stored : goal.returns-clause-stored
returns-clause-stored g c =
    let E = c.args.self.now in
    let r = c.entry_before.result in
    let same = c.as_slice-entries.ensures.value ∙ c.self.view_is in
    let j = c.starts_up_to-place.result in
    let P : List ((ℤ × ℤ) × g.row.V.Denot) → Type 0 = λ L. MatchOption r (j ≡ 0) (λ e. (k : ℕ) × (j ≡ suc k) × (k < length L) × ((e.0, e.1.now) ≡ get_or L k (e.0, e.1.now))) in
    let Q : (ℤ × ℤ) × g.row.V.Denot → Type 0 = λ f. IsIn E f in
    option_weaker (λ e. (k : ℕ) × (j ≡ suc k) × (k < length E) × ((e.0, e.1.now) ≡ get_or E k (e.0, e.1.now))) (λ e. Q (e.0, e.1.now)) r
    (λ h. _) (λ e h. subst Q (sym h.3) (in_at E h.0 (e.0, e.1.now) h.2)) (subst P same c.entry_before.ensures)
