-- The theorems of one station (01, "A station's record", its table of refusals, "How far a contract must go").
use Rattle.std.specs.Prelude.{ℕ, ◌<◌, ◌≡◌, true, false, List, [], ◌∷◌, ◌++◌, ◌⊎◌, ◌↔◌, Result}
use Rattle.seq.specs.Seq.{plus}
use Rattle.segment.specs.declared.Segment.{Segment}
use Rattle.segment.specs.declared.Refusal.{Refusal}
use Rattle.segment.specs.Refusals.{Said, refused, given, Row, row◌given_when◌, ByRows}
use Rattle.segment.specs.Read.{segment_at}
use Rattle.segment.specs.Theorems.{field_rows}
use Rattle.station.specs.Forms.{formed}
use Rattle.station.specs.Sent.{has_ack, has_rst, has_syn}
use Rattle.station.specs.Outcomes.{Step, said, record_after}
use Rattle.station.specs.Arrival.{octets_said}
use Rattle.station.specs.Events.{event_said}
use Rattle.station.specs.declared.State.{State}
use Rattle.station.specs.declared.State.TheVariants.{Closed, Listen, SynSent, SynReceived, Established}
use Rattle.station.specs.declared.Station.{Station}
use Rattle.station.specs.declared.Done.{Done}
use Rattle.station.specs.declared.Event.{Event}

-- a record of the forms stays one, after every call and arrival that is taken
pub record KeepsForms : Type 0 where
  pub event : (s : Station) (e : Event) (step : Step) → event_said s e ≡ given step → formed step.next ≡ true
  pub octets : (s : Station) (src dst : ℕ) (octets : List ℕ) (fresh : ℕ) (step : Step) → octets_said s src dst octets fresh ≡ given step → formed step.next ≡ true

-- "the five numbers are zero", as facts
unfoldable pub Zeroed : Station → Type 0
Zeroed s = (s.iss ≡ 0) × (s.una ≡ 0) × (s.nxt ≡ 0) × (s.irs ≡ 0) × (s.rcvnxt ≡ 0)

-- "The only forms", as facts
unfoldable pub FormAt : State → Station → Type 0
FormAt Closed s = Zeroed s × (s.passive ≡ false)
FormAt Listen s = Zeroed s × (s.passive ≡ true)
FormAt SynSent s = (s.una ≡ s.iss) × (s.nxt ≡ plus s.iss 1) × (s.irs ≡ 0) × (s.rcvnxt ≡ 0) × (s.passive ≡ false)
FormAt SynReceived s = (s.una ≡ s.iss) × (s.nxt ≡ plus s.iss 1) × (s.rcvnxt ≡ plus s.irs 1)
FormAt Established s = (s.una ≡ s.nxt) × (s.nxt ≡ plus s.iss 1) × (s.rcvnxt ≡ plus s.irs 1)

-- the table's row 1
abbrev pub record_row : Station → Row
record_row s = row 1 given_when ((FormAt s.state s × (0 < s.rcvwnd)) → ⊥)

-- the table's rows 5 and 6
unfoldable pub endpoint_rows : Station → Segment → List Row
endpoint_rows s g =
    row 5 given_when (((g.src ≡ s.peer) × (g.dst ≡ s.own) × (g.header.source ≡ s.peerport) × (g.header.destination ≡ s.ownport)) → ⊥)
    ∷ row 6 given_when ((g.header.control.fin ≡ true) ⊎ (0 < g.text))
    ∷ []

-- "a station's own calls 1, 7, 8"; a segment 1, 5, 6
unfoldable pub event_rows : Station → Event → List Row
event_rows s (Event.Open n) = record_row s ∷ row 7 given_when (((s.state ≡ Closed) ⊎ (s.state ≡ Listen)) → ⊥) ∷ []
event_rows s Event.Listen = record_row s ∷ row 7 given_when (s.state ≡ Closed → ⊥) ∷ []
event_rows s Event.Abort = record_row s ∷ row 8 given_when (s.state ≡ Closed) ∷ []
event_rows s Event.Resend = record_row s ∷ row 8 given_when (((s.state ≡ SynSent) ⊎ (s.state ≡ SynReceived)) → ⊥) ∷ []
event_rows s Event.PowerCut = record_row s ∷ []
event_rows s (Event.Arrive g fresh) = record_row s ∷ endpoint_rows s g

-- each refusal is given exactly when the table says, "None is given elsewhere or for another cause", and then the record is unchanged
pub record RefusalsExact : Type 0 where
  pub event : (s : Station) (e : Event) (n : ℕ) → (event_said s e ≡ refused n) ↔ ByRows (event_rows s e) n
  pub octets : (s : Station) (src dst : ℕ) (octets : List ℕ) (fresh n : ℕ)
      → (octets_said s src dst octets fresh ≡ refused n)
      ↔ ByRows (record_row s ∷ field_rows src dst octets ++ endpoint_rows s (segment_at src dst octets)) n
  -- "and then the record .. [is] unchanged" (the request's demand 1): after an event, and after octets arriving
  pub unchanged : (s : Station) (e : Event) (n : ℕ) → event_said s e ≡ refused n → record_after s (event_said s e) ≡ s
  pub untouched : (s : Station) (src dst : ℕ) (octets : List ℕ) (fresh n : ℕ)
      → octets_said s src dst octets fresh ≡ refused n → record_after s (octets_said s src dst octets fresh) ≡ s

-- the promises leave one outcome: one answer says what is defined
pub record OneOutcome : Type 0 where
  pub answers : (x : Said Step) (r r' : Result Done Refusal) → said r ≡ x → said r' ≡ x → r ≡ r'

-- "only by an open that is taken and by a LISTEN that takes a SYN" (01, "Two stations and their links")
unfoldable pub Draws : Station → Event → Type 0
Draws s (Event.Open n) = Unit
Draws s Event.Listen = ⊥
Draws s Event.Abort = ⊥
Draws s Event.Resend = ⊥
Draws s Event.PowerCut = ⊥
Draws s (Event.Arrive g fresh) = (s.state ≡ Listen) × (has_rst g ≡ false) × (has_ack g ≡ false) × (has_syn g ≡ true)

-- the number that an event offers
unfoldable pub Offers : Event → ℕ → Type 0
Offers (Event.Open n) m = n ≡ m
Offers Event.Listen m = ⊥
Offers Event.Abort m = ⊥
Offers Event.Resend m = ⊥
Offers Event.PowerCut m = ⊥
Offers (Event.Arrive g fresh) m = fresh ≡ m

-- a number is drawn exactly there, and then it is the ISS
pub record DrawsExactly : Type 0 where
  pub event : (s : Station) (e : Event) (step : Step) → event_said s e ≡ given step → (step.drawn ≡ true) ↔ Draws s e
  pub iss : (s : Station) (e : Event) (step : Step) → event_said s e ≡ given step → step.drawn ≡ true → Offers e step.next.iss
  pub octets : (s : Station) (src dst : ℕ) (octets : List ℕ) (fresh : ℕ) (step : Step) → octets_said s src dst octets fresh ≡ given step
      → (step.drawn ≡ true) ↔ Draws s (Event.Arrive (segment_at src dst octets) fresh)
  pub octets_iss : (s : Station) (src dst : ℕ) (octets : List ℕ) (fresh : ℕ) (step : Step) → octets_said s src dst octets fresh ≡ given step
      → step.drawn ≡ true → fresh ≡ step.next.iss
