use lib.ListN.{length}
use Rattle.datagram.specs.Promises.{box_of}
use Rattle.datagram.proofs.Turns.{Halfway}
use Rattle.datagram.proofs.answers.Given as goal

abbrev pub invariant-loop-datagram : goal.invariant-loop-datagram
invariant-loop-datagram l = Halfway l.input l.initial.out l.out (box_of l.listener) l.rest l.done

abbrev pub decreases-loop-datagram : goal.decreases-loop-datagram
decreases-loop-datagram l = length l.rest
