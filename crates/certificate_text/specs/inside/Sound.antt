-- What a reader has so far fits the system.
use Rattle.conjunctive_compose.specs.System.{SystemParts}
use Rattle.waitfor_check.specs.Fitting.{Fits, StarFits}
use Rattle.certificate_text.specs.State.{Group, in_star, State, with_ended}

-- the stars that are whole fit, also where the open one ends
abbrev pub IsSound : SystemParts → State → Type 0
IsSound sys s = Fits sys (with_ended s.made s.group)

-- the open star fits
abbrev pub GroupFits : SystemParts → Group → Type 0
GroupFits sys (in_star shape members) = StarFits sys (record { shape = shape; members = members })
GroupFits sys group = Unit {0}
