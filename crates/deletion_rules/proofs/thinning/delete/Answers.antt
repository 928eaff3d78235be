use Rattle.std.proofs.Common.{◌<◌, length, refl, ◌∙◌, arith, length-set, false, slice_set}
use Rattle.deletion_rules.proofs.ThinningLaws.{cursors_still, nodes_push, thinned_without}
use Rattle.deletion_rules.proofs.thinning.delete.Goals as goal

pub returns-in_ok-push : goal.returns-in_ok-push
returns-in_ok-push c =
    let t = c.args.t.now in
    let k = c.tell_rules.ensures in
    let th = c.args.thinning.now in
    let n = c.args.arrow.node in
    let small = c.requires.arrow.1.0.2.node in
    let lt : n < length th.lives.items = (let long = c.requires.thinning.long_lives in omega (arith, small, long)) in
    let thinned = thinned_without t k (c.tableau_is_graph.ensures t k) (c.tableau_covers.ensures t k) th.lives.items c.args.arrow lt c.requires.arrow in
    record {
      thinning = record { long_lives = length-set th.lives.items n false ∙ c.requires.thinning.long_lives; long_lost = c.requires.thinning.long_lost; cursors = cursors_still (length t.ors) t.children th.lives.items (slice_set th.lives.items n false) th.cursors.items thinned.within c.requires.thinning.cursors };
      thinned = thinned;
      kept = refl;
      nodes = nodes_push t n c.args.nodes.now.items c.push.new.self.items small c.in_ok-push.ensures.items;
    }
