-- Records, headers and segments as structs of numbers (docs/DECISIONS.md, "The boundary in numbers").
use Rattle.std.specs.Prelude.{ℕ, Bool, ◌&&◌, eqb, ltb}
use Rattle.segment.specs.declared.Header.{Header as SegmentHeader}
use Rattle.segment.specs.declared.Segment.{Segment as SegmentSegment}
use Rattle.segment.specs.Octets.{control_at, control_octet}
use Rattle.station.specs.declared.State.{State}
use Rattle.station.specs.declared.State.TheVariants.{Closed, Listen, SynSent, SynReceived, Established}
use Rattle.station.specs.declared.Station.{Station}
use Rattle.station.specs.Forms.{if◌then◌else◌, place}
use Rattle.numbers.specs.declared.Record.{Record}
use Rattle.numbers.specs.declared.Header.{Header}
use Rattle.numbers.specs.declared.Segment.{Segment}

-- a mark as a number
abbrev pub bit_of : Bool → ℕ
bit_of b = if b then 1 else 0

-- the state of a number: `place` has the number of each (01, "States: CLOSED, LISTEN, ..")
unfoldable pub state_of : ℕ → State
state_of n =
    if eqb n 0 then Closed else
    if eqb n 1 then Listen else
    if eqb n 2 then SynSent else
    if eqb n 3 then SynReceived else
    Established

-- whether a record's state and mark are numbers that name one
unfoldable pub known : Record → Bool
known c = ltb c.state 5 && ltb c.passive 2

-- the station of a record in numbers
unfoldable pub station_of : Record → Station
station_of c = record {
  state = state_of c.state;
  passive = eqb c.passive 1;
  iss = c.iss;
  una = c.una;
  nxt = c.nxt;
  irs = c.irs;
  rcvnxt = c.rcvnxt;
  rcvwnd = c.rcvwnd;
  own = c.own;
  ownport = c.ownport;
  peer = c.peer;
  peerport = c.peerport;
}

-- a station's record in numbers
unfoldable pub record_of : Station → Record
record_of s = record {
  iss = s.iss;
  una = s.una;
  nxt = s.nxt;
  irs = s.irs;
  rcvnxt = s.rcvnxt;
  own = s.own;
  peer = s.peer;
  rcvwnd = s.rcvwnd;
  ownport = s.ownport;
  peerport = s.peerport;
  state = place s.state;
  passive = bit_of s.passive;
}

-- the fields of a header in numbers: the control bits are those of the octet (01, "Octets of a segment")
unfoldable pub header_of : Header → SegmentHeader
header_of c = record {
  source = c.source;
  destination = c.destination;
  seq = c.seq;
  ack = c.ack;
  control = control_at c.control;
  window = c.window;
  urgent = c.urgent;
}

-- a header's fields in numbers
unfoldable pub header_numbers : SegmentHeader → Header
header_numbers h = record {
  seq = h.seq;
  ack = h.ack;
  source = h.source;
  destination = h.destination;
  window = h.window;
  urgent = h.urgent;
  control = control_octet h.control;
}

-- the segment of one in numbers
unfoldable pub segment_of : Segment → SegmentSegment
segment_of c = record { header = header_of c.header; src = c.src; dst = c.dst; text = c.text }

-- a segment in numbers
unfoldable pub segment_numbers : SegmentSegment → Segment
segment_numbers g = record { header = header_numbers g.header; src = g.src; dst = g.dst; text = g.text }
