use Rattle.std.proofs.Common.{ℤ, inl, refl, subst, sym}
use Rattle.std.specs.Prelude.{codes}
use Rattle.std.proofs.lemmas.Result.{on_ok_weaker}
use Rattle.ivl_laws.specs.Runs.{Covers}
use Rattle.ivl_laws.specs.Sets.{IsBetween, IsSubset}
use Rattle.ivl_lines.specs.Lines.{with_newline}
use Rattle.ivl_allocator.proofs.answers.take_at.Goals as goal

pub returns-else-includes-clause-answer : goal.returns-else-includes-clause-answer
returns-else-includes-clause-answer g c =
    on_ok_weaker c.write_all.result
    (λ written. (
      with_newline (codes "none"),
      inl (
        (λ sub.
            let yes = c.includes.ensures.1 (subst (λ (r : ℤ × ℤ). IsSubset (IsBetween r) (Covers c.args.free.now)) (sym c.new-run.ensures.value) sub) in
            let no = c.if-includes.false in
            cc),
        (refl, refl),
      ),
      written,
    ))
    c.write_all.ensures.bytes
