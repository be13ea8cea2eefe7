use mathlib.Core.Path.{◌≡◌}
use mathlib.Core.List.{◌++◌, map}
use lib.ListN.{take, drop}
use Rattle.numbers.specs.Numbers.{segment_numbers}
use Rattle.numbers.proofs.LinkFromModelLink.from.Given as goal

-- the places below i are filled, those from i on are as they were
abbrev pub invariant-loop-i : goal.invariant-loop-i
invariant-loop-i l = l.slots ≡ map segment_numbers (take l.i l.fn.l.slots) ++ drop l.i l.initial.slots
