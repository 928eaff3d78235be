use Rattle.std.proofs.Common.{◌<◌, ◌≤◌, length, arith, ap}
use Rattle.firing_words.proofs.spaces.make_space.Goals as goal

pub returns : goal.returns
returns c =
    let known = c.in_ok-known.ensures in
    let star = c.in_ok-star.ensures.capacity in
    let owed = c.in_ok-owed.ensures in
    let each = c.requires.each in
    record {
      space = λ k lt. let few = each k lt in (omega (arith, few, star), omega (arith, few, owed.capacity));
      keeps = (omega arith, omega (arith, known.capacity), omega (arith, ap length known.items), λ k lt. let few = each k lt in omega (arith, few));
      nothing = known.items;
      ready = owed.items;
    }
