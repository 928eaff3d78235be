use Rattle.std.proofs.Common.{ℕ, ◌≡◌, List, ◌∙◌, ap}
use Rattle.std.specs.Prelude.{slice_index_or}
use Rattle.pair_structure.specs.Role.{RoleParts}
use Rattle.pair_structure.specs.Parts.{role_at}
use Rattle.conjunctive_compose.specs.System.{role_a, role_b}
use Rattle.conjunctive_compose.proofs.making.skeleton_of.Goals as goal

pub returns : goal.returns
returns c =
    let net = c.args.network.now in
    let kind = c.args.kind in
    let a : c.role_at-a.result.now ≡ role_a net kind = c.role_at-a.ensures ∙ ap {B = RoleParts} (λ (ends : List (ℕ × ℕ)). role_at net.roles (slice_index_or ends kind (0, 0)).0) c.ends.ensures.ends in
    let b : c.role_at-b.result.now ≡ role_b net kind = c.role_at-b.ensures ∙ ap {B = RoleParts} (λ (ends : List (ℕ × ℕ)). role_at net.roles (slice_index_or ends kind (0, 0)).1) c.ends.ensures.ends in
    rw (← a, ← b) c.in_ok-skeleton.ensures
