use Rattle.std.proofs.Common.{rules, length, subst}
use Rattle.std.specs.Cmp.Lexicographic.{slice_cmp}
use Rattle.std.specs.Ordering.{nat_cmp}
use Rattle.std.specs.List.Sorted.{IsSearchInRange}
use Rattle.std.proofs.lemmas.Fn.{always_returns_same}
use Rattle.waitfor_check.proofs.Searches.{search_decides}
use Rattle.waitfor_check.proofs.numbers.has_numbers.Goals as goal

pub returns : goal.returns
returns c =
    let found = c.binary_search_by.ensures.position (λ y. slice_cmp nat_cmp y c.args.numbers.now) (always_returns_same _ _ _ (λ a r f h. search rules)) in
    rw c.is_ok.ensures.value (search_decides c.args.lists.now c.args.numbers.now c.binary_search_by.result c.requires (λ i is. subst (λ r. IsSearchInRange r (length c.args.lists.now)) is c.binary_search_by.ensures.bound) found)
