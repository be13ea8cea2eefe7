-- A station's record and its forms (01, "A station's record").
use Rattle.std.specs.Prelude.{ℕ, Bool, true, false, not, ◌&&◌, eqb, ltb}
use Rattle.seq.specs.Seq.{plus}
use Rattle.station.specs.declared.State.{State}
use Rattle.station.specs.declared.State.TheVariants.{Closed, Listen, SynSent, SynReceived, Established}
use Rattle.station.specs.declared.Station.{Station}

-- the states, in the order of 01 ("States: CLOSED, LISTEN, ..")
abbrev pub place : State → ℕ
place Closed = 0
place Listen = 1
place SynSent = 2
place SynReceived = 3
place Established = 4

-- whether a station is in a state
abbrev pub is : State → Station → Bool
is t s = eqb (place s.state) (place t)

-- "the five numbers are zero"
unfoldable pub zeroed : Station → Bool
zeroed s = eqb s.iss 0 && eqb s.una 0 && eqb s.nxt 0 && eqb s.irs 0 && eqb s.rcvnxt 0

-- "UNA = ISS, NXT = ISS + 1"
unfoldable pub opening : Station → Bool
opening s = eqb s.una s.iss && eqb s.nxt (plus s.iss 1)

-- "UNA = NXT = ISS + 1"
unfoldable pub acknowledged : Station → Bool
acknowledged s = eqb s.una s.nxt && eqb s.nxt (plus s.iss 1)

-- "RCV.NXT = IRS + 1"
unfoldable pub synchronized : Station → Bool
synchronized s = eqb s.rcvnxt (plus s.irs 1)

-- "The only forms": one line each
unfoldable pub form_at : State → Station → Bool
form_at Closed s = zeroed s && not s.passive
form_at Listen s = zeroed s && s.passive
form_at SynSent s = opening s && eqb s.irs 0 && eqb s.rcvnxt 0 && not s.passive
form_at SynReceived s = opening s && synchronized s
form_at Established s = acknowledged s && synchronized s

-- a record of the forms, with "RCV.WND (1 to 65,535)": a number of 16 bits that is not 0
unfoldable pub formed : Station → Bool
formed s = form_at s.state s && ltb 0 s.rcvwnd

-- another state, mark and numbers; endpoints and window stay
unfoldable pub with : Station → State → Bool → ℕ → ℕ → ℕ → ℕ → ℕ → Station
with s state passive iss una nxt irs rcvnxt = record {
  state = state;
  passive = passive;
  iss = iss;
  una = una;
  nxt = nxt;
  irs = irs;
  rcvnxt = rcvnxt;
  rcvwnd = s.rcvwnd;
  own = s.own;
  ownport = s.ownport;
  peer = s.peer;
  peerport = s.peerport;
}

-- the record in CLOSED
unfoldable pub closed_of : Station → Station
closed_of s = with s Closed false 0 0 0 0 0

-- the record in LISTEN
unfoldable pub listen_of : Station → Station
listen_of s = with s Listen true 0 0 0 0 0

-- the record in SYN-SENT, with an ISS
unfoldable pub syn_sent_of : Station → ℕ → Station
syn_sent_of s iss = with s SynSent false iss iss (plus iss 1) 0 0

-- the record in SYN-RECEIVED, with a mark, an ISS and an IRS
unfoldable pub received_of : Station → Bool → ℕ → ℕ → Station
received_of s passive iss irs = with s SynReceived passive iss iss (plus iss 1) irs (plus irs 1)

-- the record in ESTABLISHED, with a mark, an ISS and an IRS
unfoldable pub established_of : Station → Bool → ℕ → ℕ → Station
established_of s passive iss irs = with s Established passive iss (plus iss 1) (plus iss 1) irs (plus irs 1)
