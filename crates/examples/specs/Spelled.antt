-- What examples are made of (01, "Octets of a segment", "A station's record", "Calls and power"): every field spelled out here, and nothing
-- taken from the rules, so that an example says by itself what a rule must give.
use Rattle.std.specs.Prelude.{ℕ, Bool, true, false, List, [], ◌∷◌}
use Rattle.segment.specs.declared.Control.{Control}
use Rattle.segment.specs.declared.Segment.{Segment}
use Rattle.segment.specs.Refusals.{Said, given}
use Rattle.station.specs.declared.State.{State}
use Rattle.station.specs.declared.Station.{Station}
use Rattle.station.specs.Outcomes.{Step}

-- control bits in the octet's order: CWR, ECE, URG, ACK, PSH, RST, SYN, FIN
abbrev pub bits : Bool → Bool → Bool → Bool → Bool → Bool → Bool → Bool → Control
bits cwr ece urg ack psh rst syn fin = record { cwr = cwr; ece = ece; urg = urg; ack = ack; psh = psh; rst = rst; syn = syn; fin = fin }

-- the bits of a SYN
abbrev pub SYN : Control
SYN = bits false false false false false false true false

-- of a SYN,ACK
abbrev pub SYN_ACK : Control
SYN_ACK = bits false false false true false false true false

-- of an ACK
abbrev pub ACK : Control
ACK = bits false false false true false false false false

-- of a RST
abbrev pub RST : Control
RST = bits false false false false false true false false

-- of a RST,ACK
abbrev pub RST_ACK : Control
RST_ACK = bits false false false true false true false false

-- a pair of endpoints and a window, as a station has them: address and port, the peer's address and port, RCV.WND
pub record Ends : Type 0 where
  pub address : ℕ
  pub port : ℕ
  pub peer : ℕ
  pub peerport : ℕ
  pub window : ℕ

-- a record: state, mark, ISS, SND.UNA, SND.NXT, IRS, RCV.NXT
abbrev pub record_at : Ends → State → Bool → ℕ → ℕ → ℕ → ℕ → ℕ → Station
record_at e state passive iss una nxt irs rcvnxt = record {
  state = state;
  passive = passive;
  iss = iss;
  una = una;
  nxt = nxt;
  irs = irs;
  rcvnxt = rcvnxt;
  rcvwnd = e.window;
  own = e.address;
  ownport = e.port;
  peer = e.peer;
  peerport = e.peerport;
}

-- a segment that a station sends: bits, sequence, acknowledgment, window
abbrev pub sent_from : Ends → Control → ℕ → ℕ → ℕ → Segment
sent_from e control seq ack window = record {
  header = record { source = e.port; destination = e.peerport; seq = seq; ack = ack; control = control; window = window; urgent = 0 };
  src = e.address;
  dst = e.peer;
  text = 0;
}

-- the same pair of endpoints, as the peer has them
abbrev pub turned : Ends → Ends
turned e = record { address = e.peer; port = e.peerport; peer = e.address; peerport = e.port; window = e.window }

-- a step that is taken: the next record, the segments sent, whether the number offered was drawn
abbrev pub step : Station → List Segment → Bool → Said Step
step next sent drawn = given (record { next = next; sent = sent; drawn = drawn })

-- every claim of a list
abbrev pub AllHold : List (Type 0) → Type 0
AllHold [] = Unit
AllHold (claim ∷ claims) = claim × AllHold claims
