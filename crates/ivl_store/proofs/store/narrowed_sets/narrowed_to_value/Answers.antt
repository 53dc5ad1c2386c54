use Rattle.std.proofs.Common.{◌∙◌, subst, sym}
use Rattle.std.proofs.lemmas.Bool.{false≢true}
use Rattle.ivl_laws.specs.Sets.{Only}
use Rattle.ivl_laws.specs.Runs.{Covers}
use Rattle.ivl_store.proofs.NarrowedSets.{part_left}
use Rattle.ivl_store.proofs.store.narrowed_sets.narrowed_to_value.Goals as goal

pub returns : goal.returns
returns g c =
    let m = c.in_ok-set_of_run.ensures in
    let value = g.B.Width.value c.args.value in
    part_left g.B.Width.whole c.args.set.now c.in_ok-set_of_run.field-0 (Only value) c.in_whole.ensures
    (λ z f. subst (Covers c.args.set.now) (sym f) c.requires.member)
    record {
      maximal = m.maximal;
      members = λ z. ((λ k. (c.singleton.ensures.members z).0 ((m.members z).0 k)), (λ f. (m.members z).1 ((c.singleton.ensures.members z).1 f)));
    }
    (λ same. false≢true (sym c.if-is_singleton.false ∙ c.is_singleton.ensures.1 (value, λ z. ((same z).1, (same z).0))))
