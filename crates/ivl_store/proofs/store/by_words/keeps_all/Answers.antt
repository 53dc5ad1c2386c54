use Rattle.std.proofs.Common.{arith, refl}
use Rattle.std.proofs.lemmas.Bool.{false≢true}
use Rattle.std.proofs.lemmas.Int.{ints}
use Rattle.ivl_laws.specs.Runs.{Covers}
use Rattle.ivl_store.proofs.Words.{above_base, keeps_all, same_word}
use Rattle.ivl_store.proofs.store.by_words.keeps_all.Goals as goal
use Rattle.ivl_store.proofs.store.by_words.keeps_all.Goals.{then-left-had-via-then-left-had, then-left-had-via-else-left-had+then-is_below}

pub returns-then-left-had : goal.returns-then-left-had
returns-then-left-had g c = (
  (λ t. absurd (false≢true t)),
  (λ sub. elim c.then-left-had.branch [
    | then-left-had-via-then-left-had w ↦ absurd (w.if-left-had.true (same_word (Covers c.args.set.now) c.args.base c.args.had c.args.left c.ranges.had.fits c.ranges.left.fits c.requires.had c.requires.kept sub))
    | then-left-had-via-else-left-had+then-is_below w ↦
        (let low = (above_base (Covers c.args.set.now) c.args.base c.args.had c.args.left c.ranges.had.fits c.ranges.left.fits c.requires.had c.requires.kept _ (sub _ w.lower.ensures.member)).0 in
        let t = w.is_below.ensures.below w.if-is_below.true in absurd (omega (arith, ints)))
  ]),
)

pub returns-then-is_past : goal.returns-then-is_past
returns-then-is_past g c = (
  (λ t. absurd (false≢true t)),
  (λ sub. let t = c.is_past.ensures.past c.if-is_past.true in
      let high = (above_base (Covers c.args.set.now) c.args.base c.args.had c.args.left c.ranges.had.fits c.ranges.left.fits c.requires.had c.requires.kept _ (sub _ c.upper.ensures.member)).1 in absurd (omega (arith, ints))),
)

pub returns : goal.returns
returns g c = (
  (λ t. keeps_all (Covers c.args.set.now) c.args.base c.args.had c.args.left c.ranges.had.fits c.ranges.left.fits c.requires.had c.requires.kept c.if-left-had.false
      (λ v m. let least = c.lower.ensures.least v m in let most = c.upper.ensures.greatest v m in
      let low = c.is_below.ensures.from c.if-is_below.false in let high = c.is_past.ensures.within c.if-is_past.false in (omega (arith, ints), omega (arith, ints)))),
  (λ sub. refl),
)
