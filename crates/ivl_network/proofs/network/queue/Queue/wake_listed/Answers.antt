use Rattle.std.proofs.Common.{◌∙◌, ◌/◌, ◌<◌, arith, false, length, sym}
use Rattle.std.proofs.lemmas.Bool.{false≢true}
use Rattle.std.proofs.lemmas.List.{get_or_default}
use Rattle.ivl_laws.specs.Families.{set_at}
use Rattle.ivl_network.specs.Settled.{StaysBeside}
use Rattle.ivl_network.proofs.Indexes.{next_place}
use Rattle.ivl_network.proofs.Queues.{all_woken, none_woken, one_left}
use Rattle.ivl_network.proofs.network.queue.Queue.wake_listed.Goals as goal

pub wake_from-requires-clause-list : goal.wake_from-requires-clause-list
wake_from-requires-clause-list g c = c.last-last.ensures c.requires.index.0 c.args.rules.now c.requires.index.1

pub returns-then-last-eq0-clause-cleared : goal.returns-then-last-eq0-clause-cleared
returns-then-last-eq0-clause-cleared g c =
    let flags = c.args.self.now.settled.items in
    all_woken c.args.singles c.args.rules.now c.args.variable (StaysBeside c.args.keeps_one c.args.variable (set_at c.args.store.now)) flags flags c.last-last.result
    (none_woken c.args.singles c.args.rules.now c.args.variable _ flags c.last-last.result (c.last-last.ensures c.requires.index.0 c.args.rules.now c.requires.index.1))
    (let t = c.if-last-eq0.true in omega (arith, t))

pub before-requires : goal.before-requires
before-requires g c =
    let f = c.if-last-eq0.false in let low = (c.last-last.ensures c.requires.index.0 c.args.rules.now c.requires.index.1).low (omega (arith, f)) in
    let four = c.requires.index.1.four_each in omega (arith, low, four)

pub index-requires : goal.index-requires
index-requires g c =
    let f = c.if-last-eq0.false in let low = (c.last-last.ensures c.requires.index.0 c.args.rules.now c.requires.index.1).low (omega (arith, f)) in
    let each = c.requires.one_each in let n = c.args.self.now.settled.ok.0 in omega (arith, low, each, n)

-- the one rule that names the variable is not settled
pub returns-then-not-index-clause-cleared : goal.returns-then-not-index-clause-cleared
returns-then-not-index-clause-cleared g c =
    let flags = c.args.self.now.settled.items in let rules = c.args.rules.now in let last = c.last-last.result in
    let f = c.if-last-eq0.false in let first = c.last-last.ensures c.requires.index.0 rules c.requires.index.1 in
    let low = first.low (omega (arith, f)) in let each = c.requires.one_each in
    let within : last / 4 < length flags = omega (arith, low, each) in
    let next = next_place c.requires.index.0 rules c.args.index.now c.args.singles c.args.variable last c.before-2.result c.requires.index.1 first.low first.names (omega (arith, f)) c.before-2.ensures in
    all_woken c.args.singles rules c.args.variable (StaysBeside c.args.keeps_one c.args.variable (set_at c.args.store.now)) flags flags c.before-2.result
    (one_left c.args.singles rules c.args.variable _ flags flags last c.before-2.result (none_woken c.args.singles rules c.args.variable _ flags last first) (omega (arith, f))
    (λ d m. absurd (false≢true (sym c.if-not-index.true ∙ c.index.ensures ∙ get_or_default flags (last / 4) _ false within ∙ m))) next)
    (let t = c.if-before-eq0.true in omega (arith, t))
