-- A case for every line of 01, "Arrival, check by check": each state, each test taken and not taken, both marks.
use Rattle.std.specs.Prelude.{ℕ, Bool, true, false, List, [], ◌∷◌}
use Rattle.segment.specs.declared.Control.{Control}
use Rattle.segment.specs.declared.Segment.{Segment}
use Rattle.segment.specs.Refusals.{refused}
use Rattle.station.specs.declared.State.TheVariants.{Closed, SynReceived, Established}
use Rattle.station.specs.declared.Station.{Station}
use Rattle.examples.specs.Spelled.{bits, SYN, SYN_ACK, ACK, RST, RST_ACK, step, AllHold}
use Rattle.cases.specs.Station.{at, marked, unmarked, closed, listening, syn_sent, received, established, heard, says, arrives, ◌on◌gives◌}

-- no bit on
abbrev pub NONE : Control
NONE = bits false false false false false false false false

-- SYN and RST
abbrev pub SYN_RST : Control
SYN_RST = bits false false false false false true true false

-- an ACK with all of CWR, ECE, URG and PSH, which no rule looks at
abbrev pub ACK_OTHERS : Control
ACK_OTHERS = bits true true true true true false false false

-- "CLOSED: RST dropped; otherwise reply reset" (RFC 9293, 3.10.7.1)
abbrev pub in_closed : List (Type 0)
in_closed =
    (arrives (heard RST 90001 0) on closed gives step closed [] false)
    ∷ (arrives (heard RST_ACK 90001 7001) on closed gives step closed [] false)
    ∷ (arrives (heard ACK 90001 7001) on closed gives step closed (says RST 7001 0 0 ∷ []) false)
    ∷ (arrives (heard SYN_ACK 90000 7001) on closed gives step closed (says RST 7001 0 0 ∷ []) false)
    ∷ (arrives (heard SYN 90000 0) on closed gives step closed (says RST_ACK 0 90001 0 ∷ []) false)
    ∷ (arrives (heard SYN 90000 8888) on closed gives step closed (says RST_ACK 0 90001 0 ∷ []) false)
    ∷ (arrives (heard NONE 90000 0) on closed gives step closed (says RST_ACK 0 90000 0 ∷ []) false)
    ∷ []

-- "LISTEN: RST dropped; ACK gets reply reset; SYN sets ISS to the fresh number and IRS to SEG.SEQ, sends SYN,ACK, goes to SYN-RECEIVED;
-- otherwise dropped" (3.10.7.2)
abbrev pub in_listen : List (Type 0)
in_listen =
    (arrives (heard RST 90000 0) on listening gives step listening [] false)
    ∷ (arrives (heard RST_ACK 90000 7001) on listening gives step listening [] false)
    ∷ (arrives (heard SYN_RST 90000 0) on listening gives step listening [] false)
    ∷ (arrives (heard ACK 90000 7001) on listening gives step listening (says RST 7001 0 0 ∷ []) false)
    ∷ (arrives (heard SYN_ACK 90000 7001) on listening gives step listening (says RST 7001 0 0 ∷ []) false)
    ∷ (arrives (heard SYN 90000 0) on listening gives step (at SynReceived marked 555 555 556 90000 90001) (says SYN_ACK 555 90001 1000 ∷ []) true)
    ∷ (arrives (heard NONE 90000 0) on listening gives step listening [] false)
    ∷ []

-- "SYN-SENT: if ACK and SEG.ACK is not ISS + 1: dropped with RST, otherwise reply reset, record the same" (3.10.7.3)
abbrev pub wrong_acks : List (Type 0)
wrong_acks =
    (arrives (heard ACK 90000 7000) on syn_sent gives step syn_sent (says RST 7000 0 0 ∷ []) false)
    ∷ (arrives (heard ACK 90000 7002) on syn_sent gives step syn_sent (says RST 7002 0 0 ∷ []) false)
    ∷ (arrives (heard SYN_ACK 90000 7000) on syn_sent gives step syn_sent (says RST 7000 0 0 ∷ []) false)
    ∷ (arrives (heard RST_ACK 90000 7000) on syn_sent gives step syn_sent [] false)
    ∷ (arrives (heard RST_ACK 90000 7002) on syn_sent gives step syn_sent [] false)
    ∷ []

-- "Then RST: with ACK to CLOSED, without dropped. Then SYN: IRS = SEG.SEQ; with ACK to ESTABLISHED, sending ACK; without to SYN-RECEIVED,
-- sending SYN,ACK. Otherwise dropped"
abbrev pub in_syn_sent : List (Type 0)
in_syn_sent =
    (arrives (heard RST_ACK 90000 7001) on syn_sent gives step closed [] false)
    ∷ (arrives (heard RST 90000 7001) on syn_sent gives step syn_sent [] false)
    ∷ (arrives (heard SYN_RST 90000 0) on syn_sent gives step syn_sent [] false)
    ∷ (arrives (heard SYN_ACK 90000 7001) on syn_sent gives step (established unmarked) (says ACK 7001 90001 1000 ∷ []) false)
    ∷ (arrives (heard SYN 90000 0) on syn_sent gives step (received unmarked) (says SYN_ACK 7000 90001 1000 ∷ []) false)
    ∷ (arrives (heard ACK 90000 7001) on syn_sent gives step syn_sent [] false)
    ∷ (arrives (heard NONE 90000 7001) on syn_sent gives step syn_sent [] false)
    ∷ []

-- (a) "SEG.SEQ − RCV.NXT must be below RCV.WND, otherwise send ACK, or nothing if RST": in a record with NXT 7,001, RCV.NXT 90,001 and a
-- window of 1,000, so from 90,001 to 91,000 (3.10.7.4)
abbrev pub outside_of : Station → List (Type 0)
outside_of s =
    (arrives (heard SYN 90000 0) on s gives step s (says ACK 7001 90001 1000 ∷ []) false)
    ∷ (arrives (heard ACK 91001 7001) on s gives step s (says ACK 7001 90001 1000 ∷ []) false)
    ∷ (arrives (heard NONE 91001 0) on s gives step s (says ACK 7001 90001 1000 ∷ []) false)
    ∷ (arrives (heard RST 90000 0) on s gives step s [] false)
    ∷ (arrives (heard RST_ACK 91001 7001) on s gives step s [] false)
    ∷ []

-- (b) "RST: SYN-RECEIVED with the mark to LISTEN, others to CLOSED"
abbrev pub resets_of : Station → Station → List (Type 0)
resets_of s next =
    (arrives (heard RST 90001 0) on s gives step next [] false)
    ∷ (arrives (heard RST 91000 0) on s gives step next [] false)
    ∷ (arrives (heard RST_ACK 90001 7001) on s gives step next [] false)
    ∷ (arrives (heard SYN_RST 90001 0) on s gives step next [] false)
    ∷ []

-- (c) "SYN: reply reset, to CLOSED"; (d) "No ACK: dropped"
abbrev pub without_ack_of : Station → List (Type 0)
without_ack_of s =
    (arrives (heard SYN 90001 0) on s gives step closed (says RST_ACK 0 90002 0 ∷ []) false)
    ∷ (arrives (heard SYN_ACK 91000 7001) on s gives step closed (says RST 7001 0 0 ∷ []) false)
    ∷ (arrives (heard NONE 90001 7001) on s gives step s [] false)
    ∷ []

-- (e) "SYN-RECEIVED: SEG.ACK = ISS + 1 to ESTABLISHED, otherwise reply reset and stay"; the mark stays
abbrev pub acks_in_received : Bool → List (Type 0)
acks_in_received mark =
    (arrives (heard ACK 90001 7001) on received mark gives step (established mark) [] false)
    ∷ (arrives (heard ACK_OTHERS 91000 7001) on received mark gives step (established mark) [] false)
    ∷ (arrives (heard ACK 90001 7000) on received mark gives step (received mark) (says RST 7000 0 0 ∷ []) false)
    ∷ (arrives (heard ACK 90001 7002) on received mark gives step (received mark) (says RST 7002 0 0 ∷ []) false)
    ∷ []

-- (e) "ESTABLISHED: a SEG.ACK later than NXT is met with an ACK; otherwise nothing": later is 7,002 to 7,001 + 2^31 − 1
abbrev pub acks_in_established : Bool → List (Type 0)
acks_in_established mark =
    (arrives (heard ACK 90001 7002) on established mark gives step (established mark) (says ACK 7001 90001 1000 ∷ []) false)
    ∷ (arrives (heard ACK_OTHERS 91000 2147490648) on established mark gives step (established mark) (says ACK 7001 90001 1000 ∷ []) false)
    ∷ (arrives (heard ACK 90001 2147490649) on established mark gives step (established mark) [] false)
    ∷ (arrives (heard ACK 90001 7001) on established mark gives step (established mark) [] false)
    ∷ (arrives (heard ACK 90001 7000) on established mark gives step (established mark) [] false)
    ∷ []

-- round 0: RCV.NXT 4,294,967,295 and a window of 1,000 end at 998
abbrev pub round_zero : List (Type 0)
round_zero =
    let s = at Established unmarked 4294967295 0 0 4294967294 4294967295 in
    (arrives (heard RST 998 0) on s gives step closed [] false)
    ∷ (arrives (heard RST 999 0) on s gives step s [] false)
    ∷ (arrives (heard ACK 998 1) on s gives step s (says ACK 0 4294967295 1000 ∷ []) false)
    ∷ (arrives (heard ACK 999 0) on s gives step s (says ACK 0 4294967295 1000 ∷ []) false)
    ∷ (arrives (heard ACK 998 4294967295) on s gives step s [] false)
    ∷ []

-- a segment with another source address, destination address, source port, destination port
abbrev pub foreign : ℕ → ℕ → ℕ → ℕ → Control → Segment
foreign src dst source destination control = record {
  header = record { source = source; destination = destination; seq = 90001; ack = 7001; control = control; window = 333; urgent = 44 };
  src = src;
  dst = dst;
  text = 0;
}

-- a segment of this connection, with a length of text
abbrev pub with_text : Control → ℕ → Segment
with_text control text = record {
  header = record { source = 4007; destination = 5001; seq = 90001; ack = 7001; control = control; window = 333; urgent = 44 };
  src = 0x0a020004;
  dst = 0x0a010009;
  text = text;
}

-- ACK and FIN
abbrev pub FIN_ACK : Control
FIN_ACK = bits false false false true false false false true

-- 5: "addresses or ports not of this connection"; 6: "FIN on, or text present"; 1, then 5, then 6
abbrev pub refused_arrivals : List (Type 0)
refused_arrivals =
    (arrives (foreign 0x0a020005 0x0a010009 4007 5001 ACK) on received marked gives refused 5)
    ∷ (arrives (foreign 0x0a020004 0x0a010008 4007 5001 ACK) on received marked gives refused 5)
    ∷ (arrives (foreign 0x0a020004 0x0a010009 4006 5001 ACK) on received marked gives refused 5)
    ∷ (arrives (foreign 0x0a020004 0x0a010009 4007 5002 ACK) on received marked gives refused 5)
    ∷ (arrives (foreign 0x0a010009 0x0a020004 5001 4007 ACK) on received marked gives refused 5)
    ∷ (arrives (foreign 0x0a020005 0x0a010009 4007 5001 FIN_ACK) on received marked gives refused 5)
    ∷ (arrives (foreign 0x0a020004 0x0a010009 4007 5001 FIN_ACK) on received marked gives refused 6)
    ∷ (arrives (with_text ACK 1) on received marked gives refused 6)
    ∷ (arrives (with_text RST 1) on closed gives refused 6)
    ∷ (arrives (with_text ACK 0) on received marked gives step (established marked) [] false)
    ∷ (arrives (foreign 0x0a020005 0x0a010009 4007 5001 FIN_ACK) on at Closed marked 0 0 0 0 0 gives refused 1)
    ∷ []

-- arrival in CLOSED, LISTEN and SYN-SENT, and what is refused
abbrev pub Unsynchronized : Type 0
Unsynchronized = AllHold in_closed × AllHold in_listen × AllHold wrong_acks × AllHold in_syn_sent × AllHold refused_arrivals

-- (a) to (d) in a record, whose reset leads to another
abbrev pub Checked : Station → Station → Type 0
Checked s next = AllHold (outside_of s) × AllHold (resets_of s next) × AllHold (without_ack_of s)

-- arrival in SYN-RECEIVED and ESTABLISHED, with either mark
abbrev pub Synchronized : Type 0
Synchronized =
    Checked (received marked) listening
    × Checked (received unmarked) closed
    × Checked (established marked) closed
    × Checked (established unmarked) closed
    × AllHold (acks_in_received marked) × AllHold (acks_in_received unmarked)
    × AllHold (acks_in_established marked) × AllHold (acks_in_established unmarked)
    × AllHold round_zero
