-- The theorems of the model (01, "Two stations and their links", its table of refusals, "How far a contract must go").
use Rattle.std.specs.Prelude.{ℕ, ◌+◌, ◌≤◌, ◌<◌, ◌≡◌, true, false, List, [], ◌∷◌, ◌++◌, ◌⊎◌, ◌↔◌, length, get_or, take, drop, Result, Err}
use Rattle.segment.specs.declared.Segment.{Segment}
use Rattle.segment.specs.declared.Refusal.{Refusal}
use Rattle.segment.specs.Refusals.{refused, given, Row, row◌given_when◌, ByRows}
use Rattle.station.specs.Theorems.{record_row, endpoint_rows, event_rows, Draws as Call-as-Draws}
use Rattle.station.specs.declared.Event.{Event as Call}
use Rattle.model.specs.Links.{held, blank, full, at_place, pushed, removed}
use Rattle.model.specs.Step.{station_of, toward, sound, Moved, step_said, Steps}
use Rattle.model.specs.Play.{Run, play_said, Plays}
use Rattle.model.specs.declared.Side.{Side}
use Rattle.model.specs.declared.Link.{Link}
use Rattle.model.specs.declared.Model.{Model}
use Rattle.model.specs.declared.Event.{Event}
use Rattle.model.specs.declared.Event.TheVariants.{Open, Listen, Abort, Resend, PowerCut, Deliver, Copy, Lose}
use Rattle.model.specs.declared.Told.{Told}
use Rattle.model.specs.declared.Totals.{Totals}

-- "the two stations' endpoints .. mirror each other", as facts
unfoldable pub Mirrored : Model → Type 0
Mirrored m =
    (m.a.own ≡ m.b.peer) × (m.a.ownport ≡ m.b.peerport)
    × (m.a.peer ≡ m.b.own) × (m.a.peerport ≡ m.b.ownport)

-- the table's row 1: "record not of the forms above; a link count above 32; the two stations' endpoints do not mirror each other"
abbrev pub model_row : Model → Row
model_row m =
    row 1 given_when ((record_row m.a).cause ⊎ (record_row m.b).cause ⊎ (32 < m.toa.count) ⊎ (32 < m.tob.count) ⊎ (Mirrored m → ⊥))

-- the rows behind the first
abbrev pub behind : List Row → List Row
behind [] = []
behind (r ∷ rows) = rows

-- the rows of a station's call, with the model's row 1 for its own
abbrev pub call_rows : Model → Side → Call → List Row
call_rows m x call = model_row m ∷ behind (event_rows (station_of x m) call)

-- 9: "no such place on the link"
abbrev pub place_row : Side → Model → ℕ → Row
place_row x m n = row 9 given_when ((toward x m).count ≤ n)

-- "a model event offered alone tests 1 first"; "a station's own calls .. 7, 8; a model delivery 9, then 5, then 6; other link events 9, 11"
unfoldable pub model_rows : Model → Event → List Row
model_rows m (Open x n) = call_rows m x (Call.Open n)
model_rows m (Listen x) = call_rows m x Call.Listen
model_rows m (Abort x) = call_rows m x Call.Abort
model_rows m (Resend x) = call_rows m x Call.Resend
model_rows m (PowerCut x) = call_rows m x Call.PowerCut
model_rows m (Deliver x n fresh) = model_row m ∷ place_row x m n ∷ endpoint_rows (station_of x m) (at_place (toward x m) n)
model_rows m (Copy x n) = model_row m ∷ place_row x m n ∷ row 11 given_when (32 ≤ (toward x m).count) ∷ []
model_rows m (Lose x n) = model_row m ∷ place_row x m n ∷ []

-- each refusal is given exactly when the table says, "None is given elsewhere or for another cause", and then the model is unchanged
pub record RefusalsExact : Type 0 where
  pub event : (m : Model) (e : Event) (n : ℕ) → (step_said m e ≡ refused n) ↔ ByRows (model_rows m e) n
  -- "A refused event changes nothing": the model that comes with its answer is the one before it
  pub unchanged : (m : Model) (e : Event) (after : Model) (why : Refusal) → Steps m e after (Err why) → after ≡ m
  -- "a whole list 1, 12": "nothing is played"
  pub whole : (m : Model) (n : ℕ) (es : List Event) (k : ℕ) → (play_said m n es ≡ refused k) ↔ ByRows (model_row m ∷ row 12 given_when (4096 < n) ∷ []) k
  pub unplayed : (m : Model) (n : ℕ) (es : List Event) (after : Model) (why : Refusal) → Plays m n es after (Err why) → after ≡ m

-- "A number is drawn only by an open that is taken and by a LISTEN that takes a SYN": by a call or a delivery where its station draws
unfoldable pub Draws : Model → Event → Type 0
Draws m (Open x n) = Call-as-Draws (station_of x m) (Call.Open n)
Draws m (Listen x) = ⊥
Draws m (Abort x) = ⊥
Draws m (Resend x) = ⊥
Draws m (PowerCut x) = ⊥
Draws m (Deliver x n fresh) = Call-as-Draws (station_of x m) (Call.Arrive (at_place (toward x m) n) fresh)
Draws m (Copy x n) = ⊥
Draws m (Lose x n) = ⊥

-- the number that an event offers is the ISS that its station has in a model
unfoldable pub Holds : Model → Event → Type 0
Holds m (Open x n) = n ≡ (station_of x m).iss
Holds m (Listen x) = ⊥
Holds m (Abort x) = ⊥
Holds m (Resend x) = ⊥
Holds m (PowerCut x) = ⊥
Holds m (Deliver x n fresh) = fresh ≡ (station_of x m).iss
Holds m (Copy x n) = ⊥
Holds m (Lose x n) = ⊥

-- a number is drawn exactly there, "other numbers offered do not count", and then it is the station's ISS
pub record DrawsExactly : Type 0 where
  pub event : (m : Model) (e : Event) (x : Moved) → step_said m e ≡ given x → (x.drawn ≡ true) ↔ Draws m e
  pub iss : (m : Model) (e : Event) (x : Moved) → step_said m e ≡ given x → x.drawn ≡ true → Holds x.model e

-- the promises leave one outcome (01, "How far a contract must go")
pub record OneOutcome : Type 0 where
  pub event : (m : Model) (e : Event) (k k' : Model) (r r' : Result Told Refusal) → Steps m e k r → Steps m e k' r' → (r ≡ r') × (k ≡ k')
  pub whole : (m : Model) (n : ℕ) (es : List Event) (k k' : Model) (r r' : Result Totals Refusal) → Plays m n es k r → Plays m n es k' r' → (r ≡ r') × (k ≡ k')

-- a model that 1 does not refuse stays one, after every event that is taken and every list that is played
pub record KeepsForms : Type 0 where
  pub event : (m : Model) (e : Event) (x : Moved) → step_said m e ≡ given x → sound x.model ≡ true
  pub whole : (m : Model) (n : ℕ) (es : List Event) (p : Run) → play_said m n es ≡ given p → sound p.model ≡ true

-- "up to 32 segments in the order sent": what the slots and the count mean, as a list
pub record LinksMean : Type 0 where
  -- 32 slots stay 32
  pub slots : (l : Link) (g : Segment) (n : ℕ) → length l.slots ≡ 32 → n < 32 → (length (pushed l g).slots ≡ 32) × (length (removed l n).slots ≡ 32)
  -- one segment more, at the end
  pub pushed : (l : Link) (g : Segment) → length l.slots ≡ 32 → full l ≡ false → held (pushed l g) ≡ held l ++ (g ∷ [])
  -- place n "leaves the link, those behind move up"
  pub removed : (l : Link) (n : ℕ) → length l.slots ≡ 32 → l.count ≤ 32 → n < l.count → held (removed l n) ≡ take n (held l) ++ drop (n + 1) (held l)
  -- "places counted from 0"
  pub place : (l : Link) (n : ℕ) → length l.slots ≡ 32 → l.count ≤ 32 → n < l.count → at_place l n ≡ get_or (held l) n blank
