use Rattle.std.proofs.Common.{◌≡◌, map, take}
use Rattle.waitfor_check.specs.inside.ShapeKeys.{star_key}
use Rattle.waitfor_check.proofs.shape_index.keys_of.Given as goal

abbrev pub invariant-loop-star : goal.invariant-loop-star
invariant-loop-star l = l.keys.items ≡ map star_key (take l.star-index l.stars)
