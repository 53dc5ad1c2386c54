use Rattle.std.proofs.Common.{◌≡◌, ◌∙◌, ap, arith, length, subst, ◌∷◌, ◌++◌, [], Bool, List}
use Rattle.std.specs.Prelude.{◌==◌}
use Rattle.ivl_laws.specs.Families.{set_at}
use Rattle.std.proofs.lemmas.List.{length-map}
use Rattle.ivl_network.specs.Network.{RulesState}
use Rattle.ivl_network.specs.Trail.{rules_past_at}
use Rattle.ivl_network.proofs.Logging.{more_marks, one_more_past, state_is}
use Rattle.ivl_network.specs.Queue.{unsettled_count}
use Rattle.ivl_network.proofs.Marks.{none_left, one_more_mark}
use Rattle.ivl_network.proofs.Narrowings.{all_fixed}
use Rattle.ivl_network.proofs.network.Network.mark.Goals as goal

pub invariant_of-self-in_err-reserve_changes : goal.invariant_of-self-in_err-reserve_changes
invariant_of-self-in_err-reserve_changes g c =
    rw c.reserve_changes.ensures.same c.self.invariant

pub invariant_of-self-in_err-reserve : goal.invariant_of-self-in_err-reserve
invariant_of-self-in_err-reserve g c =
    rw (c.reserve_changes.ensures.same, c.reserve.ensures.items) c.self.invariant

pub invariant_of-self-in_err-push : goal.invariant_of-self-in_err-push
invariant_of-self-in_err-push g c =
    rw (c.reserve_changes.ensures.same, c.reserve.ensures.items, c.in_err-push.ensures.items) c.self.invariant

pub invariant_of-self-2 : goal.invariant_of-self-2
invariant_of-self-2 g c =
    let i = c.self.inside in
    let n : c.len.result ≡ length i.trail.items = (let e = c.len.ensures in let o = c.reserve_changes.new.trail.ok.0 in let s = ap length c.reserve_changes.ensures.same in omega (arith, e, o, s)) in
    rw c.reserve_changes.ensures.same (
      c.self.invariant.0,
      more_marks i.marks.items c.push.new.self.items i.trail.items _ c.len.result c.self.invariant.1 c.self.invariant.0.present n c.in_ok-push.ensures.items,
      c.self.invariant.2,
      c.self.invariant.3,
      rw (c.push_reserved.ensures.items, c.reserve.ensures.items) (one_more_mark i.settled_at_marks.items _ _ c.is_empty.result _ c.self.invariant.4
          (one_more_past i.marks.items c.push.new.self.items i.trail.items _ c.len.result n c.in_ok-push.ensures.items)
          (λ empty. all_fixed i.rules.items i.queue.settled.items (set_at i.store) c.self.invariant.0.settled (c.is_empty.ensures.all empty))),
    )

pub returns-clause-marked : goal.returns-clause-marked
returns-clause-marked g c =
    let i = c.self.inside in
    let n : c.len.result ≡ length i.trail.items = (let e = c.len.ensures in let o = c.reserve_changes.new.trail.ok.0 in let s = ap length c.reserve_changes.ensures.same in omega (arith, e, o, s)) in
    rw c.reserve_changes.ensures.same (
    state_is _ _ _ _ _ _ _ _ _ _ (ap (λ (s : RulesState). s.domains) c.self.view_is) (ap (λ (s : RulesState). s.rules) c.self.view_is)
    (ap (λ (s : RulesState). s.settled) c.self.view_is)
    (one_more_past i.marks.items c.push.new.self.items i.trail.items _ c.len.result n c.in_ok-push.ensures.items
    ∙ ap (λ (s : RulesState). s.marked ++ (record { domains = s.domains; rules = s.rules }) ∷ []) c.self.view_is)
    (c.push_reserved.ensures.items ∙ ap (λ (l : List Bool). l ++ c.is_empty.result ∷ []) c.reserve.ensures.items
    ∙ ap (λ (b : Bool). i.settled_at_marks.items ++ b ∷ []) (none_left c.is_empty.result (unsettled_count i.queue.settled.items) c.is_empty.ensures.exactly)
    ∙ ap (λ (s : RulesState). s.were_settled ++ (unsettled_count s.settled == 0) ∷ []) c.self.view_is)
    )

pub returns-clause-index_of_flag : goal.returns-clause-index_of_flag
returns-clause-index_of_flag g c =
    let i = c.self.inside in
    subst (λ (s : RulesState). c.len-mark.result ≡ length s.were_settled) c.self.view_is
    (let e = c.len-mark.ensures in let o = c.self.invariant.4.one_each in let m = length-map i.marks.items (rules_past_at i.trail.items (record { domains = i.store; rules = i.rules.items })) in omega (arith, e, o, m))
