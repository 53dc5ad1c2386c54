use Rattle.std.proofs.Common.{◌≡◌, Result, Ok, Err, ap, subst, rules}
use Rattle.std.specs.Prelude.{IsErrAnd}
use Rattle.std.proofs.lemmas.Bool.{false≢true}
use Rattle.ivl_lines.specs.Words.{words_between}
use Rattle.ivl_ranges.specs.declared.reply.Fault.{Fault}
use Rattle.ivl_ranges.specs.declared.reply.Fault.TheVariants.{Memory}
use Rattle.ivl_ranges.specs.declared.reply.Reply.{Reply}
use Rattle.ivl_ranges.specs.declared.reply.Reply.TheVariants.{SafeFor}
use Rattle.ivl_ranges.specs.Answering.{Checks, State}
use Rattle.ivl_ranges.proofs.state.Access.check.Goals as goal

is_memory : (r : Result Reply Fault) → IsErrAnd r (λ fault. fault ≡ Memory) → r ≡ Err Memory
is_memory (Ok reply) memory = absurd memory
is_memory (Err fault) memory = ap (λ (f : Fault). Err f) memory

pub returns-in_err-safe_indexes : goal.returns-in_err-safe_indexes
returns-in_err-safe_indexes c =
    rw (is_memory c.from_residual.result c.from_residual.ensures.1) (
    subst (λ (s : State). Checks s (words_between c.args.words.now) (Err Memory)) c.self.view_is (
      search rules,
      ((λ e. false≢true (c.if-is_empty.ensures.none.1 e)), (λ e. false≢true (c.if-is_empty-2.ensures.none.1 e))),
      (λ safe. false≢true (c.if-is_safe.ensures.1 safe)),
    )
    )

pub returns : goal.returns
returns c =
    subst (λ (s : State). Checks s (words_between c.args.words.now) (Ok (SafeFor c.in_ok-safe_indexes.field-0))) c.self.view_is (
      search rules,
      ((λ e. false≢true (c.if-is_empty.ensures.none.1 e)), (λ e. false≢true (c.if-is_empty-2.ensures.none.1 e))),
      (λ safe. false≢true (c.if-is_safe.ensures.1 safe)),
      c.in_ok-safe_indexes.ensures,
    )
