-- Histories: what was played, drawn and recorded (the request, demand 3; 01, "Two stations and their links").
use Rattle.std.specs.Prelude.{ℕ, ◌≤◌, ◌<◌, ◌^◌, ◌≡◌, ◌⊎◌, Bool, true, false, List, [], ◌∷◌, ◌++◌, length, if◌then◌else◌}
use Rattle.seq.specs.Seq.{minus}
use Rattle.segment.specs.Refusals.{Said, refused, given}
use Rattle.station.specs.declared.State.TheVariants.{Closed, SynReceived, Established}
use Rattle.station.specs.declared.Station.{Station}
use Rattle.model.specs.Step.{station_of, sound, Moved, step_said, model_after}
use Rattle.model.specs.Play.{Run, play_said, model_played}
use Rattle.model.specs.declared.Side.{Side}
use Rattle.model.specs.declared.Side.TheVariants.{A, B}
use Rattle.model.specs.declared.Model.{Model}
use Rattle.model.specs.declared.Event.{Event}
use Rattle.model.specs.declared.Event.TheVariants.{Open, Listen, Abort, Resend, PowerCut, Deliver, Copy, Lose}

-- "Take two closed stations, empty links": any windows of 1 to 65,535, any mirrored endpoints (`sound`), any junk in unused slots
pub record Start (m : Model) : Type 0 where
  pub sound : sound m ≡ true
  pub closed : (x : Side) → (station_of x m).state ≡ Closed
  pub emptya : m.toa.count ≡ 0
  pub emptyb : m.tob.count ≡ 0
  -- a window has 16 bits and a link 32 slots, as their types say
  pub windows : (x : Side) → (station_of x m).rcvwnd ≤ 65535
  pub slotsa : length m.toa.slots ≡ 32
  pub slotsb : length m.tob.slots ≡ 32

-- "Several lists may be played one after another": by the player, so that a list which 1 or 12 refuses changes nothing
unfoldable pub played_all : Model → List (List Event) → Model
played_all m [] = m
played_all m (es ∷ lists) = played_all (model_played m (play_said m (length es) es)) lists

-- the events of a list, none where it is refused
abbrev pub unless_refused : Said Run → List Event → List Event
unless_refused (refused n) es = []
unless_refused (given p) es = es

-- the events of all lists that are not refused, one after another
unfoldable pub events_of : Model → List (List Event) → List Event
events_of m [] = []
events_of m (es ∷ lists) = unless_refused (play_said m (length es) es) es ++ events_of (model_played m (play_said m (length es) es)) lists

-- the model after one event
abbrev pub next : Model → Event → Model
next m e = model_after m (step_said m e)

-- the station that an event is at, or whose incoming link it is on
abbrev pub side_of : Event → Side
side_of (Open x n) = x
side_of (Listen x) = x
side_of (Abort x) = x
side_of (Resend x) = x
side_of (PowerCut x) = x
side_of (Deliver x n fresh) = x
side_of (Copy x n) = x
side_of (Lose x n) = x

-- whether two sides are one
abbrev pub same_side : Side → Side → Bool
same_side A A = true
same_side A B = false
same_side B A = false
same_side B B = true

-- whether an event drew the number that it offered
abbrev pub drew : Said Moved → Bool
drew (refused n) = false
drew (given x) = x.drawn

-- the number that x draws at an event, if any: it is then x's ISS
unfoldable pub drawn_at : Side → Model → Event → List ℕ
drawn_at x m e =
    if same_side x (side_of e) then (if drew (step_said m e) then (station_of x (next m e)).iss ∷ [] else []) else
    []

-- the numbers that x draws along a run, in order
unfoldable pub draws : Side → Model → List Event → List ℕ
draws x m [] = []
draws x m (e ∷ es) = drawn_at x m e ++ draws x (next m e) es

-- a record with an ISS and an IRS: in SYN-SENT the IRS is zero and records nothing
abbrev pub Records : Station → ℕ → ℕ → Type 0
Records s iss irs = ((s.state ≡ SynReceived) ⊎ (s.state ≡ Established)) × (s.iss ≡ iss) × (s.irs ≡ irs)

-- "had recorded": at some moment of the run x's record had them
unfoldable pub Recorded : Side → Model → List Event → ℕ → ℕ → Type 0
Recorded x m [] iss irs = Records (station_of x m) iss irs
Recorded x m (e ∷ es) iss irs = Records (station_of x m) iss irs ⊎ Recorded x (next m e) es iss irs

-- "either way round the circle of 2^32": at least γ apart, counted forwards and counted backwards
abbrev pub ApartBy : ℕ → ℕ → ℕ → Type 0
ApartBy γ m n = (γ ≤ minus m n) × (γ ≤ minus n m)

-- what holds of all in a list
abbrev pub All : {S : Type 0} → (S → Type 0) → List S → Type 0
All P [] = Unit
All P (x ∷ l) = P x × All P l

-- "Any two starting numbers drawn by one station": numbers of 32 bits, each apart from all that follow it
abbrev pub SpacedBy : ℕ → List ℕ → Type 0
SpacedBy γ [] = Unit
SpacedBy γ (n ∷ ns) = (n < 2 ^ 32) × All (ApartBy γ n) ns × SpacedBy γ ns

-- "at least 65,536 apart"
abbrev pub spacing : ℕ
spacing = 65536

-- numbers that keep the spacing
abbrev pub Spaced : List ℕ → Type 0
Spaced ns = SpacedBy spacing ns
