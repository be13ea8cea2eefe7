use Rattle.std.proofs.lemmas.List.{take_rest}
use Rattle.datagram.proofs.Turns.{finished, fits, onward}
use Rattle.datagram.proofs.answers.Goals as goal

pub write_sent-done-requires-clause-sent_in_bounds : goal.write_sent-done-requires-clause-sent_in_bounds
write_sent-done-requires-clause-sent_in_bounds c =
    let h = rw (← c.in-Some.ensures) at c.loop-datagram.invariant in
    fits h c.requires.input_in_bounds c.in-Some.datagram.whole _ _ c.heard_in_frame-sent.ensures

pub loop-datagram-preserved : goal.loop-datagram-preserved
loop-datagram-preserved c =
    let h = rw (← c.in-Some.ensures) at c.loop-datagram.invariant in
    let after = onward h c.requires.input_in_bounds c.in-Some.datagram.whole _ _ c.heard_in_frame-sent.ensures _ _ c.write_sent-done.ensures in
    rw (c.total_size.ensures, take_rest, ← c.in-Some.ensures) after

pub returns : goal.returns
returns c = finished c.loop-datagram.invariant c.requires.input_in_bounds c.in_default.ensures
