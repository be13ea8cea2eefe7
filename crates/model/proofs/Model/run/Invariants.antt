use mathlib.Core.Path.{◌≡◌}
use lib.ListN.{drop}
use Rattle.model.specs.Play.{run, begun}
use Rattle.model.proofs.Runs.{at, Within}
use Rattle.model.proofs.Model.run.Given as goal

-- The loop's invariant, by the work that is left: the events from this one on lead from here to where all lead from the beginning.
abbrev pub invariant-loop-e : goal.invariant-loop-e
invariant-loop-e l =
    Within l.totals l.e-index × (run (at l.self l.totals) (drop l.e-index l.events) ≡ run (begun l.initial.self) l.events)
