use Rattle.std.proofs.Common.{◌≡◌, ◌+◌, take}
use Rattle.std.specs.Int.{from_be_bytes, w16}
use Rattle.std.specs.List.{sum_by}
use Rattle.checksum.specs.Sum.{carried}
use Rattle.checksum.proofs.add_words.Given as goal

-- the sum of the words so far
abbrev pub invariant-loop-high : goal.invariant-loop-high
invariant-loop-high l = l.sum ≡ carried (l.start + sum_by (from_be_bytes w16) (take l.high-index l.pairs))
