use mathlib.Core.Path.{◌≡◌}
use mathlib.Core.List.{◌++◌}
use lib.ListN.{drop}
use Rattle.events.specs.Lists.{events_at}
use Rattle.events.proofs.list.Given as goal

-- the places below i have their events, those from i on are as they were
abbrev pub invariant-loop-i : goal.invariant-loop-i
invariant-loop-i l = l.events ≡ events_at l.i l.s ++ drop l.i l.initial.events
