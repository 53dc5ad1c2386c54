use Rattle.ivl_search.proofs.Faults.{answered, passed}
use Rattle.ivl_search.proofs.search.try_solutions.Goals as goal

pub returns-in-Ok-clause-unknown : goal.returns-in-Ok-clause-unknown
returns-in-Ok-clause-unknown g c = λ i.
    let told = c.solutions.ensures.unknown i in
    let same = answered c.solutions.result _ _ _ c.in-Ok.is in
    ((λ e. (c.all_distinct.ensures.0 c.if-all_distinct.true, told.0 (same.1 e))), (λ h. same.0 (told.1 h.1)))

pub returns-in-Err-clause-unknown : goal.returns-in-Err-clause-unknown
returns-in-Err-clause-unknown g c = λ i.
    let told = c.solutions.ensures.unknown i in
    let same = passed c.solutions.result _ _ c.in-Err.is in
    ((λ e. (c.all_distinct.ensures.0 c.if-all_distinct.true, told.0 (same.1 e))), (λ h. same.0 (told.1 h.1)))
