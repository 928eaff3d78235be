-- What the program's values say, without where they lie in memory.
use Rattle.std.specs.Prelude.{}
use Rattle.solution_text.specs.declared.item.Item.{Item}
use Rattle.solution_text.specs.declared.item.Item.TheVariants.{Head, Kind, State, Step, End, Done}
use Rattle.solution_text.specs.declared.reader.Place.{Place}
use Rattle.solution_text.specs.declared.reader.Place.TheVariants.{BeforeHead, AmongKinds, InKind, AfterDone}
use Rattle.solution_text.specs.declared.reader.Reader.{Reader}
use Rattle.solution_text.specs.Item.{Said, head_line, kind_line, state_line, move_line, end_line, done_line}
use Rattle.solution_text.specs.State.{Group, before_head, among_kinds, in_kind, after_done, State as TextState}

abbrev pub said : Item → Said
said Head = head_line
said (Kind name) = kind_line name.now
said (State a b) = state_line a.now b.now
said (Step move) = move_line move
said End = end_line
said Done = done_line

abbrev pub group_of : Place → Group
group_of BeforeHead = before_head
group_of AmongKinds = among_kinds
group_of (InKind a b states moves) = in_kind a.now b.now states.items moves.items
group_of AfterDone = after_done

abbrev pub state_of : Reader → TextState
state_of r = record { made = r.made.items; left = r.left.now; group = group_of r.place }
