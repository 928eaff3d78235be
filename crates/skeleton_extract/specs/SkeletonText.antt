-- The text of the skeletons of a kind.
use Rattle.std.specs.Prelude.{ℕ, List, ◌++◌, codes, decimal}
use Rattle.std.specs.List.{flat_map, zip}
use Rattle.pair_structure.specs.declared.side.LocalArc.{LocalArc}
pub use Rattle.pair_structure.specs.Parts.{Names, name_at}
use Rattle.pair_structure.specs.Role.{RoleParts}
use Rattle.skeleton_extract.specs.declared.command.Command.{Command}
use Rattle.skeleton_extract.specs.Commands.{Lists}

abbrev pub arc_line : Names → LocalArc → List ℕ
arc_line own arc = codes "arc " ++ name_at own arc.from ++ codes " " ++ name_at own arc.to ++ codes "\n"

abbrev pub command_line : Names → Command → List ℕ
command_line other c = codes "command " ++ name_at other c.other ++ codes " " ++ decimal c.x ++ codes " " ++ decimal c.set ++ codes "\n"

-- an arc, then its commands
abbrev pub arc_text : Names → Names → LocalArc × List Command → List ℕ
arc_text own other listed = arc_line own listed.0 ++ flat_map (command_line other) listed.1

-- the arcs of a side in their order; `own` has the names of its local states, and `other` those of the other side
abbrev pub arcs_text : Names → Names → List LocalArc → List (List Command) → List ℕ
arcs_text own other arcs lists = flat_map (arc_text own other) (zip arcs lists)

-- side a, then side b
abbrev pub skeleton_text : List ℕ → RoleParts → RoleParts → Lists → List ℕ
skeleton_text kind a b lists =
    codes "kind " ++ kind ++ codes "\nside a\n" ++ arcs_text a.locals b.locals a.arcs lists.a ++ codes "side b\n" ++ arcs_text b.locals a.locals b.arcs lists.b ++ codes "end\n"
