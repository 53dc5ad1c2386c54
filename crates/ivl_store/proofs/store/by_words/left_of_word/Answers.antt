use Rattle.std.proofs.Common.{subst, sym, refl}
use Rattle.std.proofs.lemmas.Bool.{false≢true}
use Rattle.std.proofs.lemmas.Int.{to_z-of_z}
use Rattle.std.specs.Prelude.{◌+ℤ◌, pos}
use Rattle.ivl_laws.specs.Sets.{IsBetween, IsSubset}
use Rattle.ivl_laws.specs.Runs.{Covers, IsRunsOf}
use Rattle.ivl_store.specs.Words.{InWord}
use Rattle.ivl_store.proofs.Words.{place_fits, some_left}
use Rattle.ivl_store.proofs.store.by_words.left_of_word.Goals as goal

pub returns-then-keeps_all : goal.returns-then-keeps_all
returns-then-keeps_all g c =
    (c.in_whole.ensures, subst (λ base. IsSubset (Covers c.args.set.now) (InWord base c.args.left)) (to_z-of_z _ c.args.base c.ranges.base) (c.if-keeps_all.ensures.0 refl))

pub set_of_word-requires-clause-in_range : goal.set_of_word-requires-clause-in_range
set_of_word-requires-clause-in_range g c = λ p h.
    subst (λ base. IsBetween g.B.Width.whole (base +ℤ pos p)) (sym (to_z-of_z _ c.args.base c.ranges.base))
    (c.in_whole.ensures.within _ ((c.requires.had p (place_fits c.args.left p c.ranges.left.fits h)).0 (c.requires.kept p h)))

pub returns : goal.returns
returns g c =
    let made = subst (λ base. IsRunsOf c.in_ok-set_of_word.field-0 (InWord base c.args.left)) (to_z-of_z _ c.args.base c.ranges.base) c.in_ok-set_of_word.ensures in
    let lost = λ (sub : IsSubset (Covers c.args.set.now) (InWord c.args.base c.args.left)).
    false≢true (c.if-keeps_all.ensures.1 (subst (λ base. IsSubset (Covers c.args.set.now) (InWord base c.args.left)) (sym (to_z-of_z _ c.args.base c.ranges.base)) sub)) in
    some_left (Covers c.args.set.now) c.args.base c.args.had c.args.left c.ranges.had.fits c.ranges.left.fits c.requires.had c.requires.kept g.B.Width.whole c.args.set.now c.in_ok-set_of_word.field-0
    (λ v. ((λ h. h), (λ h. h))) c.in_whole.ensures made lost
