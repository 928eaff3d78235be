use Rattle.std.proofs.Common.{◌-◌, ◌≡◌, ◌<◌, ◌≤◌, [], ℕ, length, get_or}
use Rattle.waitfor_check.proofs.Searches.{IsNarrowed}
use Rattle.waitfor_check.proofs.members.Members.has.Given as goal

abbrev pub invariant-loop-low : goal.invariant-loop-low
invariant-loop-low l = IsNarrowed l.self l.states l.low l.high

abbrev pub decreases-loop-low : goal.decreases-loop-low
decreases-loop-low l = l.high - l.low
