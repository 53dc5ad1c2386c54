use Rattle.ivl_laws.specs.Runs.{Covers}
use Rattle.ivl_laws.specs.Sets.{Complement, Intersection, Union}
use Rattle.ivl_laws.proofs.Counts.{IsCountOf-same, count_is_monotone, count_is_unique, count_of_complement, same_count_same_members, union_and_intersection}
use Rattle.ivl_set_laws.proofs.sizes.counts_of_runs.Goals as goal

pub returns-clause-unique : goal.returns-clause-unique
returns-clause-unique c = λ L. count_is_unique (Covers L)

pub returns-clause-at_most : goal.returns-clause-at_most
returns-clause-at_most c = λ L M. count_is_monotone (Covers L) (Covers M)

pub returns-clause-all : goal.returns-clause-all
returns-clause-all c = λ L M. same_count_same_members (Covers L) (Covers M)

pub returns-clause-together : goal.returns-clause-together
returns-clause-together c = λ L M U I a b m n union common x y v w. union_and_intersection (Covers L) (Covers M) a b m n x y
    (IsCountOf-same (Covers U) (Union (Covers L) (Covers M)) m union.members v)
    (IsCountOf-same (Covers I) (Intersection (Covers L) (Covers M)) n common.members w)

pub returns-clause-complement : goal.returns-clause-complement
returns-clause-complement c = λ whole L R a b m within rest x y z. count_of_complement whole (Covers L) a b m within x
    (IsCountOf-same (Covers R) (Complement whole (Covers L)) b rest.members y) z
