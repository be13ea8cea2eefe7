-- Every event is tests and a step, and so are octets that arrive. Assumes nothing.
use Prim.Native.Nat.{ℕ}
use mathlib.Core.Path.{◌≡◌}
use mathlib.Core.Bool.{true, not}
use mathlib.Core.List.{List, [], ◌∷◌, ◌++◌}
use borrow.Author.Tests.{not-false}
use Rattle.std.proofs.Common.{rules}
use Rattle.segment.specs.Refusals.{given, Test, refuse◌when◌, first_of}
use Rattle.segment.specs.Read.{segment_at, field_tests}
use Rattle.segment.proofs.Tests.{AllOff, all_off}
use Rattle.station.specs.Forms.{is, formed, closed_of, listen_of}
use Rattle.station.specs.Outcomes.{Step, quiet}
use Rattle.station.specs.Calls.{bad_record, may_open, open_step, open_said, listen_said, abort_step, abort_said, may_resend, resend_step, resend_said, power_cut_said}
use Rattle.station.specs.Arrival.{arrival_at, endpoint_tests, arrive_said, octets_said}
use Rattle.station.specs.Events.{event_said}
use Rattle.station.specs.declared.State.TheVariants.{Closed}
use Rattle.station.specs.declared.Station.{Station}
use Rattle.station.specs.declared.Event.{Event}

-- the tests behind the record's
abbrev pub event_tests : Station → Event → List Test
event_tests s (Event.Open n) = refuse 7 when not (may_open s) ∷ []
event_tests s Event.Listen = refuse 7 when not (is Closed s) ∷ []
event_tests s Event.Abort = refuse 8 when is Closed s ∷ []
event_tests s Event.Resend = refuse 8 when not (may_resend s) ∷ []
event_tests s Event.PowerCut = []
event_tests s (Event.Arrive g fresh) = endpoint_tests s g

abbrev pub event_step : Station → Event → Step
event_step s (Event.Open n) = open_step s n
event_step s Event.Listen = quiet (listen_of s)
event_step s Event.Abort = abort_step s
event_step s Event.Resend = resend_step s
event_step s Event.PowerCut = quiet (closed_of s)
event_step s (Event.Arrive g fresh) = arrival_at s.state s g fresh

pub event_first : (s : Station) (e : Event) → event_said s e ≡ first_of (bad_record s ∷ event_tests s e) (event_step s e)
unfolding event_said open_said listen_said abort_said resend_said power_cut_said arrive_said
event_first s e = search rules

-- what is given past the tests of a record
pub past : (s : Station) (ts : List Test) (x step : Step) → first_of (bad_record s ∷ ts) x ≡ given step → (formed s ≡ true) × (x ≡ step)
unfolding AllOff
past s ts x step e =
    let o = all_off (bad_record s ∷ ts) x step e in
    (not-false (formed s) o.0.0, o.1)

pub event_past : (s : Station) (e : Event) (step : Step) → event_said s e ≡ given step → (formed s ≡ true) × (event_step s e ≡ step)
event_past s e step g = past s (event_tests s e) (event_step s e) step (rw event_first at g)

pub octets_past : (s : Station) (src dst : ℕ) (octets : List ℕ) (fresh : ℕ) (step : Step) → octets_said s src dst octets fresh ≡ given step
    → (formed s ≡ true) × (event_step s (Event.Arrive (segment_at src dst octets) fresh) ≡ step)
unfolding octets_said
octets_past s src dst octets fresh step g =
    past s (field_tests src dst octets ++ endpoint_tests s (segment_at src dst octets)) (arrival_at s.state s (segment_at src dst octets) fresh) step g
