-- A case for each event on two stations and their links (01, "Two stations and their links"): A at 10.1.0.9 port 5001, B at 10.2.0.4
-- port 4007; the refusals 1, 5, 6, 9, 11, 12 (01's table).
use Rattle.std.specs.Prelude.{ℕ, ◌-◌, ◌≡◌, Bool, true, false, List, [], ◌∷◌, ◌++◌, length, replicate}
use Rattle.segment.specs.declared.Control.{Control}
use Rattle.segment.specs.declared.Segment.{Segment}
use Rattle.segment.specs.Refusals.{Said, refused, given}
use Rattle.station.specs.declared.State.{State}
use Rattle.station.specs.declared.State.TheVariants.{Closed, Listen, SynSent, SynReceived}
use Rattle.station.specs.declared.Station.{Station}
use Rattle.model.specs.declared.Side.TheVariants.{A, B}
use Rattle.model.specs.declared.Link.{Link}
use Rattle.model.specs.declared.Model.{Model}
use Rattle.model.specs.declared.Event.{Event}
use Rattle.model.specs.Step.{Moved, step_said}
use Rattle.model.specs.Play.{Run, play_said}
use Rattle.examples.specs.Spelled.{Ends, bits, SYN, SYN_ACK, ACK, RST, RST_ACK, record_at, sent_from, AllHold}
use Rattle.cases.specs.Station.{here, at, marked, unmarked, closed, syn_sent, received}

-- B's endpoints, with a window of 2,000
abbrev pub there : Ends
there = record { address = 0x0a020004; port = 4007; peer = 0x0a010009; peerport = 5001; window = 2000 }

-- B's record: state, mark, ISS, SND.UNA, SND.NXT, IRS, RCV.NXT
abbrev pub at_b : State → Bool → ℕ → ℕ → ℕ → ℕ → ℕ → Station
at_b = record_at there

-- B in CLOSED
abbrev pub closed_b : Station
closed_b = at_b Closed unmarked 0 0 0 0 0

-- B in LISTEN
abbrev pub listening_b : Station
listening_b = at_b Listen marked 0 0 0 0 0

-- from A to B: bits, sequence, acknowledgment, window
abbrev pub from_a : Control → ℕ → ℕ → ℕ → Segment
from_a = sent_from here

-- from B to A
abbrev pub from_b : Control → ℕ → ℕ → ℕ → Segment
from_b = sent_from there

-- a slot without a segment
abbrev pub nothing : Segment
nothing = record {
  header = record {
    source = 0;
    destination = 0;
    seq = 0;
    ack = 0;
    control = bits false false false false false false false false;
    window = 0;
    urgent = 0;
  };
  src = 0;
  dst = 0;
  text = 0;
}

-- a link with these segments, its other slots cleared
abbrev pub link : List Segment → Link
link gs = record { slots = gs ++ replicate (32 - length gs) nothing; count = length gs }

-- A and B, the link towards A, the link towards B
abbrev pub model : Station → Station → List Segment → List Segment → Model
model a b toa tob = record { a = a; b = b; toa = link toa; tob = link tob }

infix 3 ◌upon◌gives◌
-- one line of a table: an event in a model, and what it gives
abbrev pub ◌upon◌gives◌ : Event → Model → Said Moved → Type 0
e upon m gives x = step_said m e ≡ x

-- an event that is taken: the next model, the segments sent, whether a number was drawn, whether a segment was turned away
abbrev pub moved : Model → List Segment → Bool → Bool → Said Moved
moved m sent drawn away = given (record { model = m; sent = sent; drawn = drawn; turned = away })

-- three segments of different openings, from A
abbrev pub s₁ : Segment
s₁ = from_a SYN 100 0 1000

-- the second
abbrev pub s₂ : Segment
s₂ = from_a ACK 201 7 1000

-- the third
abbrev pub s₃ : Segment
s₃ = from_a RST 300 0 0

-- a station's calls: what is sent goes to the end of the link towards its peer, and the other station stays
abbrev pub calls : List (Type 0)
calls =
    (Event.Open A 7000 upon model closed closed_b [] (s₁ ∷ []) gives moved (model syn_sent closed_b [] (s₁ ∷ from_a SYN 7000 0 1000 ∷ [])) (from_a SYN 7000 0 1000 ∷ []) true false)
    ∷ (Event.Open B 9000 upon model closed closed_b [] (s₁ ∷ []) gives moved (model closed (at_b SynSent unmarked 9000 9000 9001 0 0) (from_b SYN 9000 0 2000 ∷ []) (s₁ ∷ [])) (from_b SYN 9000 0 2000 ∷ []) true false)
    ∷ (Event.Listen B upon model closed closed_b [] [] gives moved (model closed listening_b [] []) [] false false)
    ∷ (Event.Abort A upon model (received marked) closed_b [] [] gives moved (model closed closed_b [] (from_a RST 7001 0 0 ∷ [])) (from_a RST 7001 0 0 ∷ []) false false)
    ∷ (Event.Resend A upon model syn_sent closed_b [] [] gives moved (model syn_sent closed_b [] (from_a SYN 7000 0 1000 ∷ [])) (from_a SYN 7000 0 1000 ∷ []) false false)
    ∷ (Event.PowerCut A upon model (received marked) listening_b [] (s₁ ∷ []) gives moved (model closed listening_b [] (s₁ ∷ [])) [] false false)
    ∷ (Event.Open A 7000 upon model syn_sent closed_b [] [] gives refused 7)
    ∷ (Event.Resend B upon model syn_sent closed_b [] [] gives refused 8)
    ∷ []

-- "deliver place n (it leaves the link, those behind move up)"; "A delivery that is dropped counts as taken"
abbrev pub deliveries : List (Type 0)
deliveries =
    (Event.Deliver B 0 9000 upon model closed listening_b [] (s₁ ∷ s₂ ∷ [])
    gives moved (model closed (at_b SynReceived marked 9000 9000 9001 100 101) (from_b SYN_ACK 9000 101 2000 ∷ []) (s₂ ∷ [])) (from_b SYN_ACK 9000 101 2000 ∷ []) true false)
    ∷ (Event.Deliver B 1 9000 upon model closed listening_b [] (s₁ ∷ s₂ ∷ s₃ ∷ [])
    gives moved (model closed listening_b (from_b RST 7 0 0 ∷ []) (s₁ ∷ s₃ ∷ [])) (from_b RST 7 0 0 ∷ []) false false)
    ∷ (Event.Deliver B 2 9000 upon model closed listening_b [] (s₁ ∷ s₂ ∷ s₃ ∷ []) gives moved (model closed listening_b [] (s₁ ∷ s₂ ∷ [])) [] false false)
    ∷ (Event.Deliver A 0 9000 upon model closed closed_b (from_b SYN 50 0 2000 ∷ []) (s₁ ∷ [])
    gives moved (model closed closed_b [] (s₁ ∷ from_a RST_ACK 0 51 0 ∷ [])) (from_a RST_ACK 0 51 0 ∷ []) false false)
    ∷ []

-- a segment on the link towards B that is foreign to it
abbrev pub foreign : Segment
foreign = record {
  header = record { source = 5002; destination = 4007; seq = 1; ack = 2; control = bits false false false true false false false true; window = 3; urgent = 0 };
  src = 0x0a010009;
  dst = 0x0a020004;
  text = 9;
}

-- one of its own with FIN on
abbrev pub fin : Segment
fin = from_a (bits false false false true false false false true) 1 2 3

-- "a model delivery 9, then 5, then 6"; "one that is refused stays on its link"
abbrev pub refused_deliveries : List (Type 0)
refused_deliveries =
    (Event.Deliver B 0 9000 upon model closed listening_b (from_b SYN 50 0 2000 ∷ []) [] gives refused 9)
    ∷ (Event.Deliver B 2 9000 upon model closed listening_b [] (s₁ ∷ s₂ ∷ []) gives refused 9)
    ∷ (Event.Deliver B 1 9000 upon model closed listening_b [] (foreign ∷ []) gives refused 9)
    ∷ (Event.Deliver B 0 9000 upon model closed listening_b [] (foreign ∷ []) gives refused 5)
    ∷ (Event.Deliver B 0 9000 upon model closed listening_b [] (fin ∷ []) gives refused 6)
    ∷ []

-- "copy place n to the end", "lose place n"
abbrev pub copies_and_losses : List (Type 0)
copies_and_losses =
    (Event.Copy B 1 upon model closed closed_b [] (s₁ ∷ s₂ ∷ s₃ ∷ []) gives moved (model closed closed_b [] (s₁ ∷ s₂ ∷ s₃ ∷ s₂ ∷ [])) [] false false)
    ∷ (Event.Copy A 0 upon model closed closed_b (s₃ ∷ []) (s₁ ∷ []) gives moved (model closed closed_b (s₃ ∷ s₃ ∷ []) (s₁ ∷ [])) [] false false)
    ∷ (Event.Copy B 0 upon model closed closed_b [] (replicate 31 s₁) gives moved (model closed closed_b [] (replicate 32 s₁)) [] false false)
    ∷ (Event.Copy B 31 upon model closed closed_b [] (replicate 32 s₁) gives refused 11)
    ∷ (Event.Copy B 32 upon model closed closed_b [] (replicate 32 s₁) gives refused 9)
    ∷ (Event.Copy B 3 upon model closed closed_b [] (s₁ ∷ s₂ ∷ s₃ ∷ []) gives refused 9)
    ∷ (Event.Lose B 0 upon model closed closed_b [] (s₁ ∷ s₂ ∷ s₃ ∷ []) gives moved (model closed closed_b [] (s₂ ∷ s₃ ∷ [])) [] false false)
    ∷ (Event.Lose B 1 upon model closed closed_b [] (s₁ ∷ s₂ ∷ s₃ ∷ []) gives moved (model closed closed_b [] (s₁ ∷ s₃ ∷ [])) [] false false)
    ∷ (Event.Lose A 0 upon model closed closed_b (s₃ ∷ []) (s₁ ∷ []) gives moved (model closed closed_b [] (s₁ ∷ [])) [] false false)
    ∷ (Event.Lose B 3 upon model closed closed_b [] (s₁ ∷ s₂ ∷ s₃ ∷ []) gives refused 9)
    ∷ []

-- "A segment sent into a full link is turned away": the record goes on, the link stays
abbrev pub turned_away : List (Type 0)
turned_away =
    (Event.Open A 7000 upon model closed closed_b [] (replicate 32 s₁) gives moved (model syn_sent closed_b [] (replicate 32 s₁)) (from_a SYN 7000 0 1000 ∷ []) true true)
    ∷ (Event.Open A 7000 upon model closed closed_b (replicate 32 s₁) (replicate 31 s₁)
    gives moved (model syn_sent closed_b (replicate 32 s₁) (replicate 31 s₁ ++ (from_a SYN 7000 0 1000 ∷ []))) (from_a SYN 7000 0 1000 ∷ []) true false)
    ∷ (Event.Deliver B 31 9000 upon model closed closed_b (replicate 32 s₃) (replicate 31 s₁ ++ (s₂ ∷ []))
    gives moved (model closed closed_b (replicate 32 s₃) (replicate 31 s₁)) (from_b RST 7 0 0 ∷ []) false true)
    ∷ []

-- B with other endpoints: its address, its port, its peer's address, its peer's port
abbrev pub elsewhere : ℕ → ℕ → ℕ → ℕ → Station
elsewhere address port peer peerport =
    record_at (record { address = address; port = port; peer = peer; peerport = peerport; window = 2000 }) Closed unmarked 0 0 0 0 0

-- a link whose count is above 32
abbrev pub over : Link
over = record { slots = replicate 32 s₁; count = 33 }

-- 1: "record not of the forms above; a link count above 32; the two stations' endpoints do not mirror each other", before all others
abbrev pub faulty : List (Type 0)
faulty =
    (Event.Copy B 9 upon model (at Closed marked 0 0 0 0 0) closed_b [] [] gives refused 1)
    ∷ (Event.Copy B 9 upon model closed (at_b Closed marked 0 0 0 0 0) [] [] gives refused 1)
    ∷ (Event.Copy B 9 upon record { a = closed; b = closed_b; toa = over; tob = link [] } gives refused 1)
    ∷ (Event.Copy B 9 upon record { a = closed; b = closed_b; toa = link []; tob = over } gives refused 1)
    ∷ (Event.Copy B 9 upon model closed (elsewhere 0x0a020005 4007 0x0a010009 5001) [] [] gives refused 1)
    ∷ (Event.Copy B 9 upon model closed (elsewhere 0x0a020004 4008 0x0a010009 5001) [] [] gives refused 1)
    ∷ (Event.Copy B 9 upon model closed (elsewhere 0x0a020004 4007 0x0a010008 5001) [] [] gives refused 1)
    ∷ (Event.Copy B 9 upon model closed (elsewhere 0x0a020004 4007 0x0a010009 5000) [] [] gives refused 1)
    ∷ (Event.Copy B 9 upon model closed closed_b [] [] gives refused 9)
    ∷ []

-- a list that is played: the model after it, events taken, events refused, segments turned away
abbrev pub played : Model → ℕ → ℕ → ℕ → Said Run
played m taken not away = given (record { model = m; totals = record { taken = taken; refused = not; turned = away } })

-- four events: taken and turned away, refused, taken, taken and turned away
abbrev pub four : List Event
four = Event.Open A 7000 ∷ Event.Listen A ∷ Event.Listen B ∷ Event.Resend A ∷ []

-- "A refused event changes nothing and the next is tried"; 12: "more than 4,096 events (after 1; nothing is played)"
abbrev pub lists : List (Type 0)
lists =
    (play_said (model closed closed_b [] (replicate 32 s₁)) 4 four ≡ played (model syn_sent listening_b [] (replicate 32 s₁)) 3 1 2)
    ∷ (play_said (model closed closed_b [] []) 4 four
    ≡ played (model syn_sent listening_b [] (from_a SYN 7000 0 1000 ∷ from_a SYN 7000 0 1000 ∷ [])) 3 1 0)
    ∷ (play_said (model closed closed_b [] []) 0 [] ≡ played (model closed closed_b [] []) 0 0 0)
    ∷ (play_said (model closed closed_b [] []) 4096 [] ≡ played (model closed closed_b [] []) 0 0 0)
    ∷ (play_said (model closed closed_b [] []) 4097 four ≡ refused 12)
    ∷ (play_said (model (at Closed marked 0 0 0 0 0) closed_b [] []) 4097 four ≡ refused 1)
    ∷ []

-- events in the model, and lists of them
abbrev pub Links : Type 0
Links =
    AllHold calls × AllHold deliveries × AllHold refused_deliveries × AllHold copies_and_losses
    × AllHold turned_away × AllHold faulty × AllHold lists
