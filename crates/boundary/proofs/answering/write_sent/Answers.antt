use mathlib.Core.Path.{◌∙◌}
use Rattle.datagram.proofs.Parts.{header_written}
use Rattle.boundary.proofs.answering.write_sent.Goals as goal

pub returns-in-Some : goal.returns-in-Some
returns-in-Some c =
    let one = c.in-Some.is in
    let pre = rw one at c.requires in
    simp one (c.write.ensures.output ∙ header_written _ _ _ _ pre.replies pre.in_bounds)
