use Rattle.std.proofs.Common.{subst, rules}
use Rattle.std.specs.Io.KnownBytes.{Consumes}
use Rattle.std.proofs.KnownBytes.{Consumes-trans}
use Rattle.barn.proofs.Filled.{filled}
use Rattle.barn.proofs.read_full.Goals as goal

pub loop-done-preserved : goal.loop-done-preserved
loop-done-preserved g c =
    let was = c.loop-done.invariant in
    let read = c.in_ok-n.ensures in
    let joined = filled c.loop-done.done _ c.in_ok-n.n c.loop-done.octets c.read.new.buf was.within read.bound.0 in
    record {
      size = search rules;
      within = search rules;
      read = subst (Consumes _ _) joined (Consumes-trans _ _ _ _ _ was.read read.bytes.0);
    }
