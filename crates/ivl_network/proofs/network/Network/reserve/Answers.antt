use Rattle.std.proofs.Common.{subst, sym}
use Rattle.ivl_network.specs.Network.{IsSoundRules}
use Rattle.ivl_network.proofs.network.Network.reserve.Goals as goal

pub invariant_of-self-in_err-reserve-3 : goal.invariant_of-self-in_err-reserve-3
invariant_of-self-in_err-reserve-3 g c =
    let was = c.self.invariant in
    rw c.reserve-3.ensures.items (was.0, was.1, c.reserve-2.ensures.same _ _ was.2, was.3, was.4)

pub invariant_of-self-in_err-reserve-4 : goal.invariant_of-self-in_err-reserve-4
invariant_of-self-in_err-reserve-4 g c =
    let was = c.self.invariant in
    let sound = subst (IsSoundRules c.self.inside.store c.self.inside.rules.items) (sym c.reserve-4.ensures.settled) was.0 in
    rw c.reserve-3.ensures.items (sound, was.1, c.reserve-2.ensures.same _ _ was.2, c.reserve-4.ensures.queue, was.4)

pub invariant_of-self-in_err-reserve-5 : goal.invariant_of-self-in_err-reserve-5
invariant_of-self-in_err-reserve-5 g c =
    let was = c.self.invariant in
    let sound = subst (IsSoundRules c.self.inside.store c.self.inside.rules.items) (sym c.reserve-4.ensures.settled) was.0 in
    rw (c.reserve-3.ensures.items, c.reserve-5.ensures.same) (sound, was.1, c.reserve-2.ensures.same _ _ was.2, c.reserve-4.ensures.queue, was.4)

pub invariant_of-self-2 : goal.invariant_of-self-2
invariant_of-self-2 g c =
    let was = c.self.invariant in
    let sound = subst (IsSoundRules c.self.inside.store c.self.inside.rules.items) (sym c.reserve-4.ensures.settled) was.0 in
    rw (c.reserve-3.ensures.items, c.reserve-5.ensures.same) (sound, was.1, c.reserve-2.ensures.same _ _ was.2, c.reserve-4.ensures.queue, was.4)

pub reserve-requires-2 : goal.reserve-requires-2
reserve-requires-2 g c = c.self.invariant.2.known.0
