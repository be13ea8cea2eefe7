use mathlib.Core.Path.{sym, ap, ◌∙◌}
use lib.ListN.{length}
use lib.Seq.{length-take-le}
use native.Mathlib.Omega.{arith}
use Rattle.datagram.proofs.Parts.{both_written}
use Rattle.datagram.proofs.layout.write.Goals as goal

pub copy_from_slice-requires : goal.copy_from_slice-requires
copy_from_slice-requires c =
    length-take-le 20 c.args.out.now (omega arith) ∙ sym (ap length c.header_with.ensures)

pub returns : goal.returns
returns c =
    both_written c.args.g c.args.out.now _ _ c.requires.fin_value c.requires.in_bounds
    (rw (c.copy_from_slice.ensures.after, c.header_with.ensures, c.header_checksum.ensures))
    c.write.ensures.output
