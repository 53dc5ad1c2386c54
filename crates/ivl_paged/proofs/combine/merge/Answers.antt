use Rattle.std.proofs.Common.{◌∙◌, refl}
use Rattle.ivl_laws.specs.Sets.{Intersection, SymmetricDifference, Union, Without}
use Rattle.ivl_places.proofs.Merged.{list_of_pairs, merged_runs, no_pairs}
use Rattle.ivl_paged.proofs.combine.merge.Goals as goal

pub union-requires-clause-first : goal.union-requires-clause-first
union-requires-clause-first g c = list_of_pairs g.B.Width.whole c.args.first.now c.args.first.now refl c.requires.first

pub union-requires-clause-second : goal.union-requires-clause-second
union-requires-clause-second g c = list_of_pairs g.B.Width.whole c.args.second.now c.args.second.now refl c.requires.second

pub returns-in-Either : goal.returns-in-Either
returns-in-Either g c = rw c.in-Either.is (merged_runs Union c.args.first.now c.args.second.now c.args.first.now c.args.second.now c.union.new.out.items _ refl refl c.union.ensures)

pub union-requires-clause-empty : goal.union-requires-clause-empty
union-requires-clause-empty g c = no_pairs c.reserve.new.self.items (c.reserve.ensures.items ∙ c.clear.ensures.items)

pub intersection-requires-clause-first : goal.intersection-requires-clause-first
intersection-requires-clause-first g c = list_of_pairs g.B.Width.whole c.args.first.now c.args.first.now refl c.requires.first

pub intersection-requires-clause-second : goal.intersection-requires-clause-second
intersection-requires-clause-second g c = list_of_pairs g.B.Width.whole c.args.second.now c.args.second.now refl c.requires.second

pub returns-in-Both : goal.returns-in-Both
returns-in-Both g c = rw c.in-Both.is (merged_runs Intersection c.args.first.now c.args.second.now c.args.first.now c.args.second.now c.intersection.new.out.items _ refl refl c.intersection.ensures)

pub intersection-requires-clause-empty : goal.intersection-requires-clause-empty
intersection-requires-clause-empty g c = no_pairs c.reserve.new.self.items (c.reserve.ensures.items ∙ c.clear.ensures.items)

pub difference-requires-clause-first : goal.difference-requires-clause-first
difference-requires-clause-first g c = list_of_pairs g.B.Width.whole c.args.first.now c.args.first.now refl c.requires.first

pub difference-requires-clause-second : goal.difference-requires-clause-second
difference-requires-clause-second g c = list_of_pairs g.B.Width.whole c.args.second.now c.args.second.now refl c.requires.second

pub returns-in-FirstAlone : goal.returns-in-FirstAlone
returns-in-FirstAlone g c = rw c.in-FirstAlone.is (merged_runs Without c.args.first.now c.args.second.now c.args.first.now c.args.second.now c.difference.new.out.items _ refl refl c.difference.ensures)

pub difference-requires-clause-empty : goal.difference-requires-clause-empty
difference-requires-clause-empty g c = no_pairs c.reserve.new.self.items (c.reserve.ensures.items ∙ c.clear.ensures.items)

pub symmetric_difference-requires-clause-first : goal.symmetric_difference-requires-clause-first
symmetric_difference-requires-clause-first g c = list_of_pairs g.B.Width.whole c.args.first.now c.args.first.now refl c.requires.first

pub symmetric_difference-requires-clause-second : goal.symmetric_difference-requires-clause-second
symmetric_difference-requires-clause-second g c = list_of_pairs g.B.Width.whole c.args.second.now c.args.second.now refl c.requires.second

pub returns-in-OneAlone : goal.returns-in-OneAlone
returns-in-OneAlone g c = rw c.in-OneAlone.is (merged_runs SymmetricDifference c.args.first.now c.args.second.now c.args.first.now c.args.second.now c.symmetric_difference.new.out.items _ refl refl c.symmetric_difference.ensures)
