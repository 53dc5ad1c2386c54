use Rattle.std.proofs.Common.{◌≡◌, ◌⊎◌, ◌<◌, ℕ, ℤ, List, subst, rules}
use Rattle.std.specs.Prelude.{All}
use Rattle.ivl_laws.specs.Runs.{Covers}
use Rattle.ivl_paged.specs.Longests.{HasLong, NoneLonger}
use Rattle.ivl_paged.proofs.LongestRun.{longest_has_some, longest_seen, lowest_seen, run_seen}
use Rattle.ivl_paged.proofs.paged_set.PagedSet.longest_run.Goals as goal

pub first_fit-requires : goal.first_fit-requires
first_fit-requires g c =
    let P = c.self.inside.pages in
    let n = g.B.Output.SizeNumber.size c.longest_of.result in
    let all = subst (λ (Q : List (List (ℤ × ℤ))). All (λ L. NoneLonger n (Covers L)) Q) c.as_slice.ensures.value c.longest_of.ensures.most in
    let has = subst (λ (Q : List (List (ℤ × ℤ))). (n ≡ 0) ⊎ ((k : ℕ) × HasLong n Q k)) c.as_slice.ensures.value c.longest_of.ensures.has in
    longest_has_some P n (g.B.Width.value c.head.result) all (search rules) c.head.ensures.0

pub returns-clause-run : goal.returns-clause-run
returns-clause-run g c =
    let P = c.self.inside.pages in
    let n = g.B.Output.SizeNumber.size c.longest_of.result in
    let all = subst (λ (Q : List (List (ℤ × ℤ))). All (λ L. NoneLonger n (Covers L)) Q) c.as_slice.ensures.value c.longest_of.ensures.most in
    let has = subst (λ (Q : List (List (ℤ × ℤ))). (n ≡ 0) ⊎ ((k : ℕ) × HasLong n Q k)) c.as_slice.ensures.value c.longest_of.ensures.has in
    let some : 0 < n = longest_has_some P n (g.B.Width.value c.head.result) all (search rules) c.head.ensures.0 in
    run_seen P c.args.self.now n c.self.view_is c.self.invariant.maximal some all has c.first_fit.result c.first_fit.ensures

pub returns-clause-longest : goal.returns-clause-longest
returns-clause-longest g c =
    let P = c.self.inside.pages in
    let n = g.B.Output.SizeNumber.size c.longest_of.result in
    let all = subst (λ (Q : List (List (ℤ × ℤ))). All (λ L. NoneLonger n (Covers L)) Q) c.as_slice.ensures.value c.longest_of.ensures.most in
    let has = subst (λ (Q : List (List (ℤ × ℤ))). (n ≡ 0) ⊎ ((k : ℕ) × HasLong n Q k)) c.as_slice.ensures.value c.longest_of.ensures.has in
    let some : 0 < n = longest_has_some P n (g.B.Width.value c.head.result) all (search rules) c.head.ensures.0 in
    longest_seen P c.args.self.now n c.self.view_is c.self.invariant.maximal some all has c.first_fit.result c.first_fit.ensures

pub returns-clause-lowest : goal.returns-clause-lowest
returns-clause-lowest g c =
    let P = c.self.inside.pages in
    let n = g.B.Output.SizeNumber.size c.longest_of.result in
    let all = subst (λ (Q : List (List (ℤ × ℤ))). All (λ L. NoneLonger n (Covers L)) Q) c.as_slice.ensures.value c.longest_of.ensures.most in
    let has = subst (λ (Q : List (List (ℤ × ℤ))). (n ≡ 0) ⊎ ((k : ℕ) × HasLong n Q k)) c.as_slice.ensures.value c.longest_of.ensures.has in
    let some : 0 < n = longest_has_some P n (g.B.Width.value c.head.result) all (search rules) c.head.ensures.0 in
    lowest_seen P c.args.self.now n c.self.view_is c.self.invariant.maximal some all has c.first_fit.result c.first_fit.ensures
