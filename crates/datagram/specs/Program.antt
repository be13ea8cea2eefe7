-- The whole program, octets to octets (01, "The program").
use Rattle.std.specs.Prelude.{ℕ, zero, suc, ◌+◌, ◌*◌, true, not, List, [], ◌∷◌, ◌++◌, length, take, drop, eqb, if◌then◌else◌}
use Rattle.segment.specs.declared.Segment.{Segment}
use Rattle.segment.specs.Refusals.{Said, refused, given}
use Rattle.station.specs.declared.State.TheVariants.{Listen}
use Rattle.station.specs.declared.Station.{Station}
use Rattle.station.specs.Outcomes.{Step}
use Rattle.station.specs.Arrival.{octets_said}
use Rattle.datagram.specs.Layout.{total_size, protocol, source_address, destination_address, carried_by, stops_at, datagram_of}

-- "Station: 10.0.0.2 port 2000, peer 10.0.0.1 port 1024, window 4,096, in LISTEN"
abbrev pub listener : Station
listener = record {
  state = Listen;
  passive = true;
  iss = 0;
  una = 0;
  nxt = 0;
  irs = 0;
  rcvnxt = 0;
  rcvwnd = 4096;
  own = 0x0a000002;
  ownport = 2000;
  peer = 0x0a000001;
  peerport = 1024;
}

-- the station, and how many numbers were drawn
pub record Box : Type 0 where
  pub station : Station
  pub drawn : ℕ

-- what a datagram leads to: the box after it, and the datagrams sent
pub record Heard : Type 0 where
  pub box : Box
  pub sent : List ℕ

-- the datagrams of the segments sent, one after another
unfoldable pub datagrams_of : List Segment → List ℕ
datagrams_of [] = []
datagrams_of (g ∷ gs) = datagram_of g ++ datagrams_of gs

-- "A refused datagram .. is skipped"
unfoldable pub heard_by : Box → Said Step → Heard
heard_by b (refused n) = record { box = b; sent = [] }
heard_by b (given step) = record {
  box = record { station = step.next; drawn = b.drawn + (if step.drawn then 1 else 0) };
  sent = datagrams_of step.sent;
}

-- one datagram, at the start of the octets: "a protocol other than 6, is skipped"; "the k-th number drawn is 65,536 times k"
unfoldable pub heard : Box → List ℕ → Heard
heard b s =
    if not (eqb (protocol s) 6) then record { box = b; sent = [] } else
    heard_by b (octets_said b.station (source_address s) (destination_address s) (carried_by s) (65536 * (b.drawn + 1)))

-- datagrams back to back, so many at most, until it stops
unfoldable pub answers : ℕ → Box → List ℕ → List ℕ
answers zero b s = []
answers (suc most) b s =
    if stops_at s then [] else
    (heard b s).sent ++ answers most (heard b s).box (drop (total_size s) s)

-- "It reads up to 65,535 octets"; each datagram has octets, so there are no more datagrams than octets
unfoldable pub output : List ℕ → List ℕ
output input = answers (length (take 65535 input)) (record { station = listener; drawn = 0 }) (take 65535 input)
