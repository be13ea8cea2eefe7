-- P1 to P12 (01, "Examples on both sides (P: to be proved)"), at the station of 01's program: 10.0.0.2 port 2000, peer 10.0.0.1 port 1024.
use Rattle.std.specs.Prelude.{ℕ, ◌≡◌, Bool, true, false, List, [], ◌∷◌}
use Rattle.segment.specs.declared.Control.{Control}
use Rattle.segment.specs.declared.Header.{Header}
use Rattle.segment.specs.declared.Segment.{Segment}
use Rattle.segment.specs.Refusals.{given}
use Rattle.segment.specs.Octets.{header_words, reserved}
use Rattle.segment.specs.Read.{read_said}
use Rattle.segment.specs.Write.{made}
use Rattle.station.specs.declared.State.{State}
use Rattle.station.specs.declared.State.TheVariants.{Closed, Listen, SynSent, SynReceived, Established}
use Rattle.station.specs.declared.Station.{Station}
use Rattle.station.specs.Arrival.{arrive_said}
use Rattle.examples.specs.Spelled.{SYN, SYN_ACK, ACK, RST, RST_ACK, Ends, record_at, sent_from, turned, step}

-- the peer's address, 10.0.0.1
abbrev pub one : ℕ
one = 0x0a000001

-- the station's address, 10.0.0.2
abbrev pub two : ℕ
two = 0x0a000002

-- the station's endpoints, with window 4,096
abbrev pub station : Ends
station = record { address = two; port = 2000; peer = one; peerport = 1024; window = 4096 }

-- the station: state, mark, ISS, UNA, NXT, IRS, RCV.NXT
abbrev pub at : State → Bool → ℕ → ℕ → ℕ → ℕ → ℕ → Station
at = record_at station

-- in CLOSED
abbrev pub closed : Station
closed = at Closed false 0 0 0 0 0

-- in LISTEN
abbrev pub listening : Station
listening = at Listen true 0 0 0 0 0

-- in SYN-SENT with an ISS and the number after it
abbrev pub syn_sent : ℕ → ℕ → Station
syn_sent iss nxt = at SynSent false iss iss nxt 0 0

-- a segment from the peer to the station, with a window of 4,096: bits, sequence, acknowledgment
abbrev pub from : Control → ℕ → ℕ → Segment
from control seq ack = sent_from (turned station) control seq ack 4096

-- a segment from the station to its peer: bits, sequence, acknowledgment, window
abbrev pub to : Control → ℕ → ℕ → ℕ → Segment
to = sent_from station

-- what P1 leads to
abbrev pub received : Station
received = at SynReceived true 300 300 301 100 101

-- "P1 LISTEN, SYN 100, fresh 300: SYN-RECEIVED, sends 300 ack 101 SYN,ACK"
abbrev pub P1 : Type 0
P1 = arrive_said listening (from SYN 100 0) 300 ≡ step received (to SYN_ACK 300 101 4096 ∷ []) true

-- "P2 then ACK 101 ack 301: ESTABLISHED"; the number offered, 7, is not drawn
abbrev pub P2 : Type 0
P2 = arrive_said received (from ACK 101 301) 7 ≡ step (at Established true 300 301 301 100 101) [] false

-- "P3 in P2's place, ack 300: RST 300, stays"
abbrev pub P3 : Type 0
P3 = arrive_said received (from ACK 101 300) 7 ≡ step received (to RST 300 0 0 ∷ []) false

-- "P4 ack 302: RST 302"
abbrev pub P4 : Type 0
P4 = arrive_said received (from ACK 101 302) 7 ≡ step received (to RST 302 0 0 ∷ []) false

-- "P5 SYN-SENT 100, SYN,ACK 300 ack 101: ESTABLISHED, sends 101 ack 301 ACK"
abbrev pub P5 : Type 0
P5 = arrive_said (syn_sent 100 101) (from SYN_ACK 300 101) 7 ≡ step (at Established false 100 101 101 300 301) (to ACK 101 301 4096 ∷ []) false

-- "P6 SYN 300 instead: SYN-RECEIVED, sends 100 ack 301 SYN,ACK"
abbrev pub P6 : Type 0
P6 = arrive_said (syn_sent 100 101) (from SYN 300 0) 7 ≡ step (at SynReceived false 100 100 101 300 301) (to SYN_ACK 100 301 4096 ∷ []) false

-- "P7 SYN-SENT 400, ACK 300 ack 101: RST 101, stays"
abbrev pub P7 : Type 0
P7 = arrive_said (syn_sent 400 401) (from ACK 300 101) 7 ≡ step (syn_sent 400 401) (to RST 101 0 0 ∷ []) false

-- "P8 ISS 4,294,967,295, SYN,ACK ack 0: ESTABLISHED, sends sequence 0"; its sequence number is 300
abbrev pub P8 : Type 0
P8 = arrive_said (syn_sent 4294967295 0) (from SYN_ACK 300 0) 7 ≡ step (at Established false 4294967295 0 0 300 301) (to ACK 0 301 4096 ∷ []) false

-- "ESTABLISHED, RCV.NXT 101, window 4,096"
abbrev pub established : Station
established = at Established true 300 301 301 100 101

-- "P9 .. RST 4196 closes; RST 4197 and RST 100 do not"
abbrev pub P9 : Type 0
P9 =
    (arrive_said established (from RST 4196 0) 7 ≡ step closed [] false)
    × (arrive_said established (from RST 4197 0) 7 ≡ step established [] false)
    × (arrive_said established (from RST 100 0) 7 ≡ step established [] false)

-- "P10 CLOSED, SYN 4,294,967,295: RST,ACK 0 ack 0"
abbrev pub P10 : Type 0
P10 = arrive_said closed (from SYN 4294967295 0) 7 ≡ step closed (to RST_ACK 0 0 0 ∷ []) false

-- the TCP part of the program's input, with a window and a checksum of two octets each
abbrev pub octets : ℕ → ℕ → ℕ → ℕ → List ℕ
octets w₁ w₀ c₁ c₀ =
    0x04 ∷ 0x00 ∷ 0x07 ∷ 0xd0 ∷ 0x00 ∷ 0x00 ∷ 0x00 ∷ 0x64 ∷ 0x00 ∷ 0x00 ∷ 0x00 ∷ 0x00 ∷ 0x50 ∷ 0x02
    ∷ w₁ ∷ w₀ ∷ c₁ ∷ c₀ ∷ 0x00 ∷ 0x00 ∷ []

-- its fields with a window
abbrev pub fields : ℕ → Header
fields window = record { source = 1024; destination = 2000; seq = 100; ack = 0; control = SYN; window = window; urgent = 0 }

-- "P11 the input's TCP part above has checksum 7fac"; its header length is 5 words and its reserved bits are 0, so that it is one of those
-- that are written back as they were read
abbrev pub P11 : Type 0
P11 =
    (made one two (fields 4096) ≡ octets 0x10 0x00 0x7f 0xac)
    × (read_said one two (octets 0x10 0x00 0x7f 0xac) ≡ given (fields 4096))
    × (header_words (octets 0x10 0x00 0x7f 0xac) ≡ 5)
    × (reserved (octets 0x10 0x00 0x7f 0xac) ≡ 0)

-- "P12 with window 8fac, 0000 and ffff are both read and 0000 is written"
abbrev pub P12 : Type 0
P12 =
    (read_said one two (octets 0x8f 0xac 0x00 0x00) ≡ given (fields 0x8fac))
    × (read_said one two (octets 0x8f 0xac 0xff 0xff) ≡ given (fields 0x8fac))
    × (made one two (fields 0x8fac) ≡ octets 0x8f 0xac 0x00 0x00)

-- "P1 to P12 are one list with a single theorem about the definitions" (01, "How far a contract must go")
abbrev pub examples : List (Type 0)
examples = P1 ∷ P2 ∷ P3 ∷ P4 ∷ P5 ∷ P6 ∷ P7 ∷ P8 ∷ P9 ∷ P10 ∷ P11 ∷ P12 ∷ []
