use Rattle.std.proofs.Common.{◌≡◌, ◌↔◌, ◌∙◌, ℕ, [], length, refl, sym}
use Rattle.std.proofs.lemmas.Bool.{eqb-true, eq-eqb, false≢true}
use Rattle.std.specs.Prelude.{ℤ, List}
use Rattle.ivl_laws.specs.Families.{set_at}
use Rattle.ivl_linear.proofs.Collecting.{no_domain, no_rest, none_left, put_all, put_more, put_none, put_present, some_lost}
use Rattle.ivl_linear.proofs.Narrowings.{points_left}
use Rattle.ivl_linear.proofs.linear.narrowing.narrow.Goals as goal

pub returns-then-is_empty-clause-narrowed : goal.returns-then-is_empty-clause-narrowed
returns-then-is_empty-clause-narrowed g c = λ i v.
    let h : length c.args.domains.now ≡ 0 = eqb-true (length c.args.domains.now) 0 (sym c.is_empty.ensures ∙ c.if-is_empty.true) in (
      (λ m. absurd (no_domain c.args.domains.now i v h m)),
      (λ n. n.kept),
    )

pub returns-then-is_empty-clause-exact : goal.returns-then-is_empty-clause-exact
returns-then-is_empty-clause-exact g c = λ i named v.
    let h : length c.args.domains.now ≡ 0 = eqb-true (length c.args.domains.now) 0 (sym c.is_empty.ensures ∙ c.if-is_empty.true) in (
      (λ m. absurd (no_domain c.args.domains.now i v h m)),
      (λ s. absurd (no_domain c.args.domains.now i (s.point i) h (s.is_point.inside i named))),
    )

pub put_rest-requires : goal.put_rest-requires
put_rest-requires g c =
    put_present c.args.terms.now c.args.relation c.args.domains.now c.rests.rests.items c.pop.new.self.items c.in-Some.rest c.rests.domains c.in-Some.ensures.items c.rests.invariant

pub rests-init : goal.rests-init
rests-init g c = put_none c.args.terms.now c.args.relation c.args.domains.now c.in_ok-rests.rests.items c.in_ok-rests.ensures

pub rests-preserved : goal.rests-preserved
rests-preserved g c =
    rw c.put_rest.ensures (put_more c.args.terms.now c.args.relation c.args.domains.now c.rests.rests.items c.pop.new.self.items c.in-Some.rest c.rests.domains c.in-Some.ensures.items c.rests.invariant)

pub returns-then-is_empty-2-clause-narrowed : goal.returns-then-is_empty-2-clause-narrowed
returns-then-is_empty-2-clause-narrowed g c =
    none_left c.args.terms.now c.args.relation c.args.domains.now c.in_ok-rests.rests.items (sym c.in_ok-rests.rests.ok.0 ∙ eqb-true c.in_ok-rests.rests.len 0 (sym c.is_empty-2.ensures ∙ c.if-is_empty-2.true)) c.in_ok-rests.ensures

pub returns-then-is_empty-2-clause-exact : goal.returns-then-is_empty-2-clause-exact
returns-then-is_empty-2-clause-exact g c =
    points_left c.args.terms.now c.args.relation (set_at c.args.domains.now) (set_at c.args.domains.now)
    (none_left c.args.terms.now c.args.relation c.args.domains.now c.in_ok-rests.rests.items (sym c.in_ok-rests.rests.ok.0 ∙ eqb-true c.in_ok-rests.rests.len 0 (sym c.is_empty-2.ensures ∙ c.if-is_empty-2.true)) c.in_ok-rests.ensures)

pub returns-clause-kept_count : goal.returns-clause-kept_count
returns-clause-kept_count g c = c.rests.invariant.count

pub returns-clause-narrowed : goal.returns-clause-narrowed
returns-clause-narrowed g c =
    put_all c.args.terms.now c.args.relation c.args.domains.now c.rests.rests.items c.rests.domains (no_rest c.rests.rests.items (sym c.rests.rests.ok.0 ∙ c.in_default.ensures.cases.0)) c.rests.invariant

pub returns-clause-exact : goal.returns-clause-exact
returns-clause-exact g c =
    points_left c.args.terms.now c.args.relation (set_at c.args.domains.now) (set_at c.rests.domains)
    (put_all c.args.terms.now c.args.relation c.args.domains.now c.rests.rests.items c.rests.domains (no_rest c.rests.rests.items (sym c.rests.rests.ok.0 ∙ c.in_default.ensures.cases.0)) c.rests.invariant)

pub returns-clause-kept : goal.returns-clause-kept
returns-clause-kept g c =
    let none : length c.in_ok-rests.rests.items ≡ 0 → ⊥ = (λ e. false≢true (sym c.if-is_empty-2.false ∙ c.is_empty-2.ensures ∙ eq-eqb c.in_ok-rests.rests.len 0 (c.in_ok-rests.rests.ok.0 ∙ e))) in (
      (λ e. absurd (false≢true (sym e))),
      (λ kept. absurd (none (some_lost c.args.terms.now c.args.relation c.args.domains.now (set_at c.rests.domains) c.in_ok-rests.rests.items c.in_ok-rests.ensures
          (put_all c.args.terms.now c.args.relation c.args.domains.now c.rests.rests.items c.rests.domains (no_rest c.rests.rests.items (sym c.rests.rests.ok.0 ∙ c.in_default.ensures.cases.0)) c.rests.invariant) kept))),
    )
