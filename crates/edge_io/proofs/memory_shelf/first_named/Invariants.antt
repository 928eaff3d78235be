use Rattle.std.proofs.Common.{◌≡◌, drop}
use Rattle.edge_io.specs.MemoryShelf.{files_of}
use Rattle.edge_io.specs.Told.{file_named}
use Rattle.edge_io.proofs.memory_shelf.first_named.Given as goal

-- no file so far has the name
abbrev pub invariant-loop-known : goal.invariant-loop-known
invariant-loop-known l = file_named (files_of l.files) l.name ≡ file_named (files_of (drop l.known-index l.files)) l.name
