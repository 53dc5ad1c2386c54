use Rattle.std.proofs.Common.{◌≡◌, ◌∙◌, [], List, false, get_or, set, subst, sym, true}
use Rattle.std.proofs.lemmas.Bool.{false≢true}
use Rattle.std.proofs.lemmas.Result.{on_ok_weaker}
use Rattle.std.specs.Prelude.{ℤ}
use Rattle.ivl_laws.specs.Families.{set_at}
use Rattle.ivl_within.proofs.Lists.{entry_seen}
use Rattle.ivl_network.proofs.Logging.{keeps_replaced, on_ok_always, taken_one}
use Rattle.ivl_network.proofs.network.trail.take_out_logged.Goals as goal

pub returns-then-not-is_unkept-clause-taken : goal.returns-then-not-is_unkept-clause-taken
returns-then-not-is_unkept-clause-taken g c =
    on_ok_weaker c.take_out.result
    (taken_one c.singleton-single.result (g.B.Width.value c.args.value) c.args.variable (set_at c.args.store.now) (set_at c.take_out.new.self) c.singleton-single.ensures.members)
    c.take_out.ensures.taken

pub returns-then-not-is_unkept-clause-past : goal.returns-then-not-is_unkept-clause-past
returns-then-not-is_unkept-clause-past g c =
    on_ok_always c.take_out.result (λ rules.
    keeps_replaced c.args.marks.now c.args.trail.now.items c.args.variable (get_or c.args.store.now c.args.variable []) c.args.store.now c.take_out.new.self rules false c.take_out.ensures.back
    (λ _. rw c.deref.ensures.value at c.is_unkept.ensures.kept c.if-not-is_unkept.true))

pub returns-clause-taken : goal.returns-clause-taken
returns-clause-taken g c =
    taken_one c.singleton-single.result (g.B.Width.value c.args.value) c.args.variable (set_at c.args.store.now) (set_at c.take_out-2.new.self) c.singleton-single.ensures.members
    c.in_ok-take_out.ensures.taken

pub returns-clause-past : goal.returns-clause-past
returns-clause-past g c = λ rules.
    let old = c.args.store.now in
    let new = c.take_out-2.new.self in
    let read : c.index-domains-variable.result ≡ get_or old c.args.variable [] = entry_seen _ _ _ _ c.domains.ensures.same c.requires.known c.index-domains-variable.is in
    let is : c.in_ok-old.old ≡ get_or old c.args.variable [] = c.in_ok-old.ensures ∙ read in
    rw c.write_down.ensures.written
    (keeps_replaced c.args.marks.now c.args.trail.now.items c.args.variable c.in_ok-old.old old new rules true
    (subst (λ (L : List (ℤ × ℤ)). set new c.args.variable L ≡ old) (sym is) c.take_out-2.ensures.back)
    (λ f. absurd (false≢true (sym f))))
