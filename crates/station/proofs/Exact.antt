-- Refusals are given exactly when the table says. Assumes nothing.
use Prim.Native.Nat.{ℕ}
use mathlib.Core.Path.{◌≡◌}
use mathlib.Core.Bool.{true, not}
use mathlib.Core.List.{List, ◌∷◌, ◌++◌}
use mathlib.Core.Logic.{◌↔◌}
use Rattle.std.proofs.Common.{rules}
use Rattle.segment.specs.Read.{segment_at, field_tests}
use Rattle.segment.specs.Theorems.{field_rows}
use Rattle.segment.proofs.Tests.{Agree, exact}
use Rattle.station.specs.Forms.{is, formed, form_at, zeroed, opening, acknowledged, synchronized}
use Rattle.station.specs.Calls.{bad_record, may_open, may_resend}
use Rattle.station.specs.Arrival.{arrival_at, ours, endpoint_tests, octets_said}
use Rattle.station.specs.Theorems.{Zeroed, FormAt, record_row, endpoint_rows, event_rows, RefusalsExact}
use Rattle.station.specs.declared.State.{State}
use Rattle.station.specs.declared.Station.{Station}
use Rattle.station.specs.declared.Event.{Event}
use Rattle.station.proofs.Uniform.{event_tests, event_step, event_first}

pub is_state : (t : State) (s : Station) → (is t s ≡ true) ↔ (s.state ≡ t)
is_state t s = search rules

pub record_agrees : (s : Station) → (not (formed s) ≡ true) ↔ (record_row s).cause
unfolding formed form_at FormAt zeroed Zeroed opening acknowledged synchronized
record_agrees s = search rules

events_agree : (s : Station) (e : Event) → Agree (bad_record s ∷ event_tests s e) (event_rows s e)
unfolding Agree event_rows may_open may_resend endpoint_tests endpoint_rows ours
events_agree s (Event.Arrive g fresh) = search (rules, record_agrees)
events_agree s e = search (rules, record_agrees, is_state)

octets_agree : (s : Station) (src dst : ℕ) (octets : List ℕ)
    → Agree (bad_record s ∷ field_tests src dst octets ++ endpoint_tests s (segment_at src dst octets))
    (record_row s ∷ field_rows src dst octets ++ endpoint_rows s (segment_at src dst octets))
unfolding Agree field_tests field_rows endpoint_tests endpoint_rows ours
octets_agree s src dst octets = search (rules, record_agrees)

pub refusals_exact : RefusalsExact
unfolding octets_said
refusals_exact = record {
  event = λ s e n. rw event_first (exact (bad_record s ∷ event_tests s e) (event_rows s e) (events_agree s e) (event_step s e) n);
  octets = λ s src dst octets fresh n.
      exact _ _ (octets_agree s src dst octets) (arrival_at s.state s (segment_at src dst octets) fresh) n;
  unchanged = λ s e n r. rw r;
  untouched = λ s src dst octets fresh n r. rw r;
}
