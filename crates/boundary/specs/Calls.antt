-- A station's calls and arrivals in numbers (01, "Calls and power", "Arrival, check by check"; docs/DECISIONS.md, "The boundary in numbers").
use Rattle.std.specs.Prelude.{ℕ, ◌≡◌, not, List, [], ◌∷◌, ◌++◌, length, drop, ltb, if◌then◌else◌}
use Rattle.segment.specs.declared.Segment.{Segment as SegmentSegment}
use Rattle.segment.specs.Refusals.{Said, refused, given}
use Rattle.segment.specs.Write.{made}
use Rattle.station.specs.Outcomes.{Step}
use Rattle.station.specs.Arrival.{octets_said}
use Rattle.station.specs.Events.{event_said}
use Rattle.station.specs.declared.Event.{Event}
use Rattle.numbers.specs.Numbers.{known, station_of}
use Rattle.numbers.specs.declared.Record.{Record}
use Rattle.telling.specs.declared.Told.{Told}
use Rattle.telling.specs.Told.{told_of}

-- "record not of the forms above" (01's table, 1), where a state or mark number names none
abbrev pub if_known : Record → Said Step → Said Step
if_known c x = if not (known c) then refused 1 else x

-- what is told of an event of a station
abbrev pub event_told : Record → Event → Told
event_told c e = told_of c (if_known c (event_said (station_of c) e))

-- "output below 20 octets" (01's table, 10), after what the octets are refused for
abbrev pub if_room : List ℕ → Said Step → Said Step
if_room out (refused n) = refused n
if_room out (given step) = if ltb (length out) 20 then refused 10 else given step

-- octets that arrive, with an output for the answer
abbrev pub octets_answered : Record → ℕ → ℕ → List ℕ → ℕ → List ℕ → Said Step
octets_answered c src dst octets fresh out = if_room out (if_known c (octets_said (station_of c) src dst octets fresh))

-- "A write fills the first 20 octets and no others": what is sent, at the output's start
abbrev pub written : List SegmentSegment → List ℕ → List ℕ
written [] out = out
written (g ∷ gs) out = made g.src g.dst g.header ++ drop 20 out

-- the output at exit: after a refusal as it was (the request's demand 1)
abbrev pub answer_leaves : Said Step → List ℕ → List ℕ
answer_leaves (refused n) out = out
answer_leaves (given step) out = written step.sent out

-- the promise where an answer is written, too: what is told, and the output at exit
pub record Answers (c : Record) (x : Said Step) (before after : List ℕ) (r : Told) : Type 0 where
  pub told : r ≡ told_of c x
  pub output : after ≡ answer_leaves x before

-- the promise of octets that arrive
abbrev pub Arrives : Record → ℕ → ℕ → List ℕ → ℕ → List ℕ → List ℕ → Told → Type 0
Arrives c src dst octets fresh before after r = Answers c (octets_answered c src dst octets fresh before) before after r
