use Rattle.std.proofs.Common.{ℕ, ◌≡◌, ◌<◌, [], List, length, subst}
use Rattle.std.specs.Prelude.{IfNone, IfSome}
use Rattle.skeleton_extract.specs.declared.command.Command.{Command}
use Rattle.skeleton_extract.specs.Permission.{picked}
use Rattle.conjunctive_compose.proofs.NextPairs.{permitted_at-read}
use Rattle.conjunctive_compose.proofs.system.System.next_value.Goals as goal

pub returns-clause-none : goal.returns-clause-none
returns-clause-none c =
    let read = permitted_at-read c.args.self.now c.args.wish c.args.b.now c.args.state c.structure_on-structure.result.now c.skeleton.result.now c.local_of-other.result c.ordinal-x.result
    c.structure_on-structure.ensures.structure c.skeleton.ensures.lists (rw (c.opposite.ensures, c.states.ensures.states) at c.local_of-other.ensures) c.ordinal-x.ensures in
    subst (λ (l : List Command). IfNone c.choose.result (l ≡ [])) read c.choose.ensures.none

pub returns-clause-some : goal.returns-clause-some
returns-clause-some c =
    let read = permitted_at-read c.args.self.now c.args.wish c.args.b.now c.args.state c.structure_on-structure.result.now c.skeleton.result.now c.local_of-other.result c.ordinal-x.result
    c.structure_on-structure.ensures.structure c.skeleton.ensures.lists (rw (c.opposite.ensures, c.states.ensures.states) at c.local_of-other.ensures) c.ordinal-x.ensures in
    subst (λ (l : List Command). IfSome c.choose.result (λ (set : ℕ). (0 < length l) × (set ≡ (picked l c.args.wish.pick).set))) read c.choose.ensures.some
