-- What a text makes, as a value.
use Rattle.std.specs.Prelude.{◌≡◌}
use Rattle.ctl_text.specs.declared.read.Made.{Made}
use Rattle.ctl_text.specs.Normals.{AreNormals}
use Rattle.ctl_text.specs.Value.{SpecParts, kind_ends}

abbrev pub value_of : Made → SpecParts
value_of made = record { roles = made.network.roles; kinds = made.kinds.items; processes = made.network.processes; edges = made.network.edges }

-- the network has the ends of these kinds, and each kind its normal form
pub record IsWhole (made : Made) : Type 0 where
  pub ends : made.network.ends ≡ kind_ends made.kinds.items
  pub normals : AreNormals made.network.roles made.kinds.items made.normals.items
