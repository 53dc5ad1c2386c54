use Rattle.std.proofs.Common.{◌∙◌, ◌<◌, ◌/◌, arith, get_or, length, refl, subst, sym, false}
use Rattle.std.proofs.lemmas.Bool.{false≢true}
use Rattle.std.proofs.lemmas.List.{get_or_default}
use Rattle.ivl_laws.specs.Families.{set_at}
use Rattle.ivl_network.specs.Settled.{StaysBeside}
use Rattle.std.proofs.lemmas.List.Elements.{All-get_or}
use Rattle.ivl_network.specs.Families.{ArePresent}
use Rattle.ivl_network.proofs.Families.{named_present}
use Rattle.ivl_network.proofs.Indexes.{any_rule, listed_there, next_is_lower, next_place}
use Rattle.ivl_network.proofs.Queues.{all_woken, none_woken, one_left, one_woken}
use Rattle.ivl_network.proofs.network.queue.Queue.wake_from.Goals.{then-index+then-not-stays_settled, else-index, else-index-via-then-index+else-not-stays_settled, else-index-via-else-index}
use Rattle.ivl_network.proofs.network.queue.Queue.wake_from.Goals as goal

pub loop-place-init : goal.loop-place-init
loop-place-init g c = (
  c.requires.queue,
  none_woken c.args.singles c.args.rules.now c.args.variable _ c.args.self.now.settled.items c.args.last c.requires.list,
  refl,
)

pub before-place-requires : goal.before-place-requires
before-place-requires g c =
    let t = c.loop-place-test.true in let low = c.loop-place.invariant.1.low (omega (arith, t)) in let four = c.requires.index.1.four_each in omega (arith, low, four)

pub loop-place-smaller : goal.loop-place-smaller
loop-place-smaller g c =
    let so_far = c.loop-place.invariant.1 in let place = c.loop-place.place in let t = c.loop-place-test.true in let some : 0 < place = omega (arith, t) in
    next_is_lower c.args.singles c.args.rules.now c.args.variable place c.before-place.result some
    (next_place c.requires.index.0 c.args.rules.now c.args.index.now c.args.singles c.args.variable place c.before-place.result c.requires.index.1
    so_far.low so_far.names some c.before-place.ensures)

pub loop-place-preserved : goal.loop-place-preserved
loop-place-preserved g c =
    let inv = c.loop-place.invariant in
    let flags = c.args.self.now.settled.items in
    let after = c.loop-place.self.settled.items in
    let rules = c.args.rules.now in
    let place = c.loop-place.place in
    let sets = set_at c.args.store.now in
    let same = inv.1.same_count in let each = c.requires.one_each in let t = c.loop-place-test.true in
    let some : 0 < place = omega (arith, t) in
    let low = inv.1.low some in
    let within : place / 4 < length after = omega (arith, low, same, each) in
    let next = next_place c.requires.index.0 rules c.args.index.now c.args.singles c.args.variable place c.before-place.result c.requires.index.1 inv.1.low inv.1.names some c.before-place.ensures in
    elim c.if-index.branch [
      | then-index+then-not-stays_settled w ↦ rw w.self-is (
        w.clear.ensures.queue,
        rw w.clear.ensures.settled (one_woken c.args.singles rules c.args.variable (StaysBeside c.args.keeps_one c.args.variable sets) flags after place c.before-place.result inv.1 some within next),
        w.clear.ensures.round ∙ inv.2,
      )
      | else-index w ↦ rw w.self-is (
        inv.0,
        one_left c.args.singles rules c.args.variable (StaysBeside c.args.keeps_one c.args.variable sets) flags after place c.before-place.result inv.1 some
            (λ d m. elim w.else-index.branch [
              | else-index-via-then-index+else-not-stays_settled v ↦ subst (StaysBeside c.args.keeps_one c.args.variable sets) (get_or_default rules (place / 4) _ d (omega (arith, low)))
                  (v.stays_settled.ensures v.if-not-stays_settled.false)
              | else-index-via-else-index v ↦ absurd (false≢true (sym v.if-index.false ∙ c.index.ensures ∙ get_or_default after (place / 4) _ false within ∙ m))
            ]) next,
        inv.2,
      )
    ]

pub returns-clause-cleared : goal.returns-clause-cleared
returns-clause-cleared g c =
    all_woken c.args.singles c.args.rules.now c.args.variable _ c.args.self.now.settled.items c.loop-place.self.settled.items c.loop-place.place
    c.loop-place.invariant.1 (let t = c.loop-place-test.false in omega (arith, t))

pub stays_settled-requires-clause-names : goal.stays_settled-requires-clause-names
stays_settled-requires-clause-names g c =
    let t = c.loop-place-test.true in let place = c.loop-place.place in
    (listed_there c.args.singles (place / 4) c.args.variable place _ (c.loop-place.invariant.1.names (place / 4) _ (omega (arith, t)) (omega arith) (omega arith))).0

pub stays_settled-requires-clause-kind : goal.stays_settled-requires-clause-kind
stays_settled-requires-clause-kind g c = λ e.
    let t = c.loop-place-test.true in (c.loop-place.invariant.1.names (c.loop-place.place / 4) _ (omega (arith, t)) (omega arith) (omega arith)).1 ∙ c.requires.kind e

pub clear-requires-clause-settled : goal.clear-requires-clause-settled
clear-requires-clause-settled g c =
    let flags = c.loop-place.self.settled.items in let place = c.loop-place.place in
    let same = c.loop-place.invariant.1.same_count in let each = c.requires.one_each in let t = c.loop-place-test.true in
    let low = c.loop-place.invariant.1.low (omega (arith, t)) in
    get_or_default flags (place / 4) false _ (omega (arith, low, same, each)) ∙ sym c.index.ensures ∙ c.if-index.true

pub has_two-is_late-requires : goal.has_two-is_late-requires
has_two-is_late-requires g c =
    let rules = c.args.rules.now in let place = c.loop-place.place in let t = c.loop-place-test.true in
    let low = c.loop-place.invariant.1.low (omega (arith, t)) in
    named_present (length c.args.store.now) (get_or rules (place / 4) any_rule)
    (All-get_or (ArePresent (length c.args.store.now)) rules (place / 4) any_rule (omega (arith, low)) c.requires.present) c.args.variable
    (listed_there c.args.singles (place / 4) c.args.variable place _ (c.loop-place.invariant.1.names (place / 4) any_rule (omega (arith, t)) (omega arith) (omega arith))).0
