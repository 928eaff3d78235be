use Rattle.std.proofs.Common.{◌≡◌, ◌-◌, arith, length, take, drop}
use Rattle.std.proofs.lemmas.List.{take_all, length-drop}
use Rattle.skeleton_extract.proofs.Places.{IsRising-drop, take_is_permitted}
use Rattle.skeleton_extract.proofs.permission.permitted_of.Goals as goal

pub returns : goal.returns
returns c =
    let commands = c.args.commands.now in
    let begin = c.count_before.result in
    let whole : take (length commands - begin) (drop begin commands) ≡ drop begin commands = take_all _ _ (omega (arith, length-drop begin commands)) in
    rw whole (take_is_permitted commands c.args.other c.args.x begin c.count_by.result c.count_before.ensures.point (rw whole at c.count_by.ensures.point) (rw whole at c.count_by.ensures.bound))

pub count_by-requires : goal.count_by-requires
count_by-requires c =
    let commands = c.args.commands.now in
    let begin = c.count_before.result in
    let whole : take (length commands - begin) (drop begin commands) ≡ drop begin commands = take_all _ _ (omega (arith, length-drop begin commands)) in
    rw whole (IsRising-drop commands begin c.requires)
