use Rattle.std.proofs.Common.{rules}
use Rattle.std.proofs.lemmas.List.Sorted.{IsNonDecreasingBy-from_sort, answers_always}
use Rattle.interconnection.specs.Shape.{rank}
use Rattle.interconnection.proofs.labels.sort_labels.Goals as goal

pub returns-clause-sorted : goal.returns-clause-sorted
returns-clause-sorted c = IsNonDecreasingBy-from_sort rank _ (c.sort_unstable_by_key.ensures.sorted rank (answers_always _ _ _ (λ f a r g h. search rules)))
