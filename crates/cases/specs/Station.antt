-- The station of the cases (01, "A station's record"), with numbers that no example of 01 has: 10.1.0.9 port 5001, peer 10.2.0.4 port
-- 4007, window 1,000; ISS 7,000, IRS 90,000.
use Rattle.std.specs.Prelude.{ℕ, ◌≡◌, Bool, true, false}
use Rattle.segment.specs.declared.Control.{Control}
use Rattle.segment.specs.declared.Segment.{Segment}
use Rattle.segment.specs.Refusals.{Said}
use Rattle.station.specs.declared.State.{State}
use Rattle.station.specs.declared.State.TheVariants.{Closed, Listen, SynSent, SynReceived, Established}
use Rattle.station.specs.declared.Station.{Station}
use Rattle.station.specs.declared.Event.{Event}
use Rattle.station.specs.Outcomes.{Step}
use Rattle.station.specs.Events.{event_said}
use Rattle.examples.specs.Spelled.{Ends, record_at, sent_from}

-- its endpoints and window
abbrev pub here : Ends
here = record { address = 0x0a010009; port = 5001; peer = 0x0a020004; peerport = 4007; window = 1000 }

-- a record with these: state, mark, ISS, SND.UNA, SND.NXT, IRS, RCV.NXT
abbrev pub at : State → Bool → ℕ → ℕ → ℕ → ℕ → ℕ → Station
at = record_at here

-- the mark for "opened passively"
abbrev pub marked : Bool
marked = true

-- no mark
abbrev pub unmarked : Bool
unmarked = false

-- CLOSED
abbrev pub closed : Station
closed = at Closed unmarked 0 0 0 0 0

-- LISTEN
abbrev pub listening : Station
listening = at Listen marked 0 0 0 0 0

-- SYN-SENT
abbrev pub syn_sent : Station
syn_sent = at SynSent unmarked 7000 7000 7001 0 0

-- SYN-RECEIVED, with a mark
abbrev pub received : Bool → Station
received mark = at SynReceived mark 7000 7000 7001 90000 90001

-- ESTABLISHED, with a mark
abbrev pub established : Bool → Station
established mark = at Established mark 7000 7001 7001 90000 90001

-- a segment from the peer, whose window is 333 and whose urgent pointer is 44: bits, sequence, acknowledgment
abbrev pub heard : Control → ℕ → ℕ → Segment
heard control seq ack = record {
  header = record { source = 4007; destination = 5001; seq = seq; ack = ack; control = control; window = 333; urgent = 44 };
  src = 0x0a020004;
  dst = 0x0a010009;
  text = 0;
}

-- a segment to the peer: bits, sequence, acknowledgment, window
abbrev pub says : Control → ℕ → ℕ → ℕ → Segment
says = sent_from here

infix 3 ◌on◌gives◌
-- one line of a table: an event on a record, and what it gives
abbrev pub ◌on◌gives◌ : Event → Station → Said Step → Type 0
e on s gives x = event_said s e ≡ x

-- a segment arrives, and the number offered is 555
abbrev pub arrives : Segment → Event
arrives g = Event.Arrive g 555
