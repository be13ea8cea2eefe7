use Prim.Native.Nat.{◌-◌}
use mathlib.Core.Path.{ap}
use mathlib.Core.List.{List}
use native.Mathlib.Omega.{arith}
use Rattle.segment.specs.declared.Segment.{Segment}
use Rattle.model.specs.Links.{removed, blank}
use Rattle.model.proofs.Shift.{moved_up}
use Rattle.model.proofs.Link.removed.Goals as goal

pub returns : goal.returns
unfolding removed
returns c =
    let a = c.args in
    rw (c.copy_within.ensures.after, c.blank.ensures)
    (ap (λ (xs : List Segment). record { slots = xs; count = a.self.count - 1 }) (moved_up a.n 31 a.self.slots blank (omega arith) (omega (arith, c.well_formed))))
