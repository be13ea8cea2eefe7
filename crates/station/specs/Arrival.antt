-- A segment arrives (01, "Arrival, check by check"; RFC 9293, 3.10.7).
-- Departs from RFC 9293: check (c) in a marked SYN-RECEIVED, there LISTEN and nothing sent, here CLOSED as document 000 has it and the
-- reset of RFC 793. Not taken: RFC 9293's checks of RFC 5961. Follows RFC 9293 against RFC 793: a SEG.ACK of UNA does not establish.
-- Rules against the drawing of crossing opens (RFC 793; RFC 9293, figure 7): by check (a) the SYN,ACK only draws an ACK, and the ACK establishes.
use Rattle.std.specs.Prelude.{ℕ, Bool, true, false, not, ◌&&◌, List, [], ◌∷◌, ◌++◌, eqb, ltb, if◌then◌else◌}
use Rattle.seq.specs.Seq.{plus, minus, order}
use Rattle.seq.specs.declared.Order.{Order}
use Rattle.seq.specs.declared.Order.TheVariants.{Later, Equal, Earlier}
use Rattle.segment.specs.declared.Segment.{Segment}
use Rattle.segment.specs.Refusals.{Said, Test, refuse◌when◌, first_of}
use Rattle.segment.specs.Read.{fin_or_text, segment_at, field_tests}
use Rattle.station.specs.Forms.{is, closed_of, listen_of, received_of, established_of}
use Rattle.station.specs.Sent.{has_ack, has_rst, has_syn, seg_seq, seg_ack, syn_ack_of, ack_of, reply_reset}
use Rattle.station.specs.Outcomes.{Step, quiet, sending, drawing}
use Rattle.station.specs.Calls.{bad_record}
use Rattle.station.specs.declared.State.{State}
use Rattle.station.specs.declared.State.TheVariants.{Closed, Listen, SynSent, SynReceived, Established}
use Rattle.station.specs.declared.Station.{Station}

-- "CLOSED: RST dropped; otherwise reply reset" (RFC 9293, 3.10.7.1)
unfoldable pub at_closed : Station → Segment → Step
at_closed s g =
    if has_rst g then quiet s else
    sending s (reply_reset s g)

-- "LISTEN: RST dropped; ACK gets reply reset; SYN sets ISS to the fresh number and IRS to SEG.SEQ, sends SYN,ACK, goes to
-- SYN-RECEIVED; otherwise dropped" (3.10.7.2)
unfoldable pub at_listen : Station → Segment → ℕ → Step
at_listen s g fresh =
    if has_rst g then quiet s else
    if has_ack g then sending s (reply_reset s g) else
    if has_syn g then drawing (received_of s true fresh (seg_seq g)) (syn_ack_of (received_of s true fresh (seg_seq g))) else
    quiet s

-- SYN-SENT: "if ACK and SEG.ACK is not ISS + 1" (3.10.7.3)
unfoldable pub wrong_ack : Station → Segment → Bool
wrong_ack s g = has_ack g && not (eqb (seg_ack g) (plus s.iss 1))

-- SYN-SENT: "Then SYN: IRS = SEG.SEQ; with ACK to ESTABLISHED, sending ACK; without to SYN-RECEIVED, sending SYN,ACK"
unfoldable pub syn_at_syn_sent : Station → Segment → Step
syn_at_syn_sent s g =
    if has_ack g then sending (established_of s false s.iss (seg_seq g)) (ack_of (established_of s false s.iss (seg_seq g))) else
    sending (received_of s false s.iss (seg_seq g)) (syn_ack_of (received_of s false s.iss (seg_seq g)))

-- SYN-SENT: a wrong ACK "dropped with RST, otherwise reply reset, record the same. Then RST: with ACK to CLOSED, without dropped.
-- Then SYN .. Otherwise dropped"
unfoldable pub at_syn_sent : Station → Segment → Step
at_syn_sent s g =
    if wrong_ack s g then (if has_rst g then quiet s else sending s (reply_reset s g)) else
    if has_rst g then (if has_ack g then quiet (closed_of s) else quiet s) else
    if has_syn g then syn_at_syn_sent s g else
    quiet s

-- (a) "SEG.SEQ − RCV.NXT must be below RCV.WND" (3.10.7.4)
unfoldable pub in_window : Station → Segment → Bool
in_window s g = ltb (minus (seg_seq g) s.rcvnxt) s.rcvwnd

-- (a) ".. otherwise send ACK, or nothing if RST"
unfoldable pub outside : Station → Segment → Step
outside s g =
    if has_rst g then quiet s else
    sending s (ack_of s)

-- (b) "RST: SYN-RECEIVED with the mark to LISTEN, others to CLOSED"
unfoldable pub reset_to : Station → Station
reset_to s =
    if is SynReceived s && s.passive then listen_of s else
    closed_of s

-- (e) "SYN-RECEIVED: SEG.ACK = ISS + 1 to ESTABLISHED, otherwise reply reset and stay"
unfoldable pub ack_at_syn_received : Station → Segment → Step
ack_at_syn_received s g =
    if eqb (seg_ack g) (plus s.iss 1) then quiet (established_of s s.passive s.iss s.irs) else
    sending s (reply_reset s g)

-- "later" (01, "A station's record")
abbrev pub is_later : Order → Bool
is_later Later = true
is_later Equal = false
is_later Earlier = false

-- (e) "ESTABLISHED: a SEG.ACK later than NXT is met with an ACK; otherwise nothing"
unfoldable pub ack_at_established : Station → Segment → Step
ack_at_established s g =
    if is_later (order (seg_ack g) s.nxt) then sending s (ack_of s) else
    quiet s

-- "SYN-RECEIVED and ESTABLISHED": (a) to (e) in order; (c) "SYN: reply reset, to CLOSED"; (d) "No ACK: dropped"
unfoldable pub at_synchronized : Station → Segment → Step
at_synchronized s g =
    if not (in_window s g) then outside s g else
    if has_rst g then quiet (reset_to s) else
    if has_syn g then sending (closed_of s) (reply_reset s g) else
    if not (has_ack g) then quiet s else
    if is SynReceived s then ack_at_syn_received s g else
    ack_at_established s g

-- the rule of the state
unfoldable pub arrival_at : State → Station → Segment → ℕ → Step
arrival_at Closed s g fresh = at_closed s g
arrival_at Listen s g fresh = at_listen s g fresh
arrival_at SynSent s g fresh = at_syn_sent s g
arrival_at SynReceived s g fresh = at_synchronized s g
arrival_at Established s g fresh = at_synchronized s g

-- 5: "addresses or ports not of this connection"
unfoldable pub ours : Station → Segment → Bool
ours s g =
    eqb g.src s.peer && eqb g.dst s.own
    && eqb g.header.source s.peerport && eqb g.header.destination s.ownport

-- 5, then 6, which octets arriving and a segment share
unfoldable pub endpoint_tests : Station → Segment → List Test
endpoint_tests s g = refuse 5 when not (ours s g) ∷ refuse 6 when fin_or_text g ∷ []

-- a segment arrives: as octets arriving, without the octets
unfoldable pub arrive_said : Station → Segment → ℕ → Said Step
arrive_said s g fresh = first_of (bad_record s ∷ endpoint_tests s g) (arrival_at s.state s g fresh)

-- "octets arriving at a station 1 to 6"
unfoldable pub octets_said : Station → ℕ → ℕ → List ℕ → ℕ → Said Step
octets_said s src dst octets fresh =
    first_of (bad_record s ∷ field_tests src dst octets ++ endpoint_tests s (segment_at src dst octets))
    (arrival_at s.state s (segment_at src dst octets) fresh)
