use Rattle.std.proofs.Common.{◌≡◌}
use Rattle.checksum.specs.Sum.{carried}
use Rattle.checksum.proofs.carry.Given as goal

-- what is left carries to the same
abbrev pub invariant-loop-left : goal.invariant-loop-left
invariant-loop-left l = carried l.left ≡ carried l.n

abbrev pub decreases-loop-left : goal.decreases-loop-left
decreases-loop-left l = l.left
