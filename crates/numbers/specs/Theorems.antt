-- The theorems of structs of numbers (docs/DECISIONS.md, "The boundary in numbers").
use Rattle.std.specs.Prelude.{ℕ, ◌<◌, ◌≡◌, Bool, true, false, List, [], ◌∷◌}
use Rattle.segment.specs.declared.Control.{Control}
use Rattle.segment.specs.declared.Segment.{Segment as SegmentSegment}
use Rattle.station.specs.declared.State.{State}
use Rattle.station.specs.declared.State.TheVariants.{Closed, Listen, SynSent, SynReceived, Established}
use Rattle.station.specs.declared.Station.{Station}
use Rattle.model.specs.declared.Link.{Link as ModelLink}
use Rattle.model.specs.declared.Model.{Model as ModelModel}
use Rattle.numbers.specs.Numbers.{known, station_of, record_of, segment_of, segment_numbers}
use Rattle.numbers.specs.Links.{link_of, link_numbers, both_known, model_of, model_numbers}
use Rattle.numbers.specs.declared.Record.{Record}
use Rattle.numbers.specs.declared.Segment.{Segment}
use Rattle.numbers.specs.declared.Link.{Link}
use Rattle.numbers.specs.declared.Model.{Model}

-- the control bits of each segment are an octet, as its type has it
abbrev pub Controls : List Segment → Type 0
Controls [] = Unit
Controls (c ∷ cs) = (c.header.control < 256) × Controls cs

-- what crosses comes back as it was: a station, a segment, a link, a model through numbers, and numbers through each, where they name states and marks
pub record CrossesBack : Type 0 where
  pub station : (s : Station) → (known (record_of s) ≡ true) × (station_of (record_of s) ≡ s)
  pub numbers : (c : Record) → known c ≡ true → record_of (station_of c) ≡ c
  pub segment : (g : SegmentSegment) → segment_of (segment_numbers g) ≡ g
  pub segments : (c : Segment) → c.header.control < 256 → segment_numbers (segment_of c) ≡ c
  pub link : (l : ModelLink) → link_of (link_numbers l) ≡ l
  pub links : (c : Link) → Controls c.slots → link_numbers (link_of c) ≡ c
  pub model : (m : ModelModel) → (both_known (model_numbers m) ≡ true) × (model_of (model_numbers m) ≡ m)
  pub models : (c : Model) → both_known c ≡ true → Controls c.toa.slots → Controls c.tob.slots → model_numbers (model_of c) ≡ c

-- a record with another number in each field, this state and this mark
abbrev pub a_record : ℕ → ℕ → Record
a_record state passive = record {
  iss = 101;
  una = 102;
  nxt = 103;
  irs = 104;
  rcvnxt = 105;
  own = 106;
  peer = 107;
  rcvwnd = 108;
  ownport = 109;
  peerport = 110;
  state = state;
  passive = passive;
}

-- the station it must be
abbrev pub a_station : State → Bool → Station
a_station state passive = record {
  state = state;
  passive = passive;
  iss = 101;
  una = 102;
  nxt = 103;
  irs = 104;
  rcvnxt = 105;
  rcvwnd = 108;
  own = 106;
  ownport = 109;
  peer = 107;
  peerport = 110;
}

-- a segment with another number in each field and this control octet
abbrev pub some_numbers : ℕ → Segment
some_numbers control = record {
  header = record { seq = 201; ack = 202; source = 203; destination = 204; window = 205; urgent = 206; control = control };
  src = 207;
  dst = 208;
  text = 209;
}

-- the segment it must be
abbrev pub some_segment : Control → SegmentSegment
some_segment control = record {
  header = record { source = 203; destination = 204; seq = 201; ack = 202; control = control; window = 205; urgent = 206 };
  src = 207;
  dst = 208;
  text = 209;
}

-- "8 control bits (CWR, ECE, URG, ACK, PSH, RST, SYN, FIN, high to low)" (01, "Octets of a segment")
abbrev pub bits : Bool → Bool → Bool → Bool → Bool → Bool → Bool → Bool → Control
bits cwr ece urg ack psh rst syn fin = record { cwr = cwr; ece = ece; urg = urg; ack = ack; psh = psh; rst = rst; syn = syn; fin = fin }

-- examples by hand: which number is which state, mark, bit and field
pub record Examples : Type 0 where
  pub closed : station_of (a_record 0 0) ≡ a_station Closed false
  pub listen : station_of (a_record 1 1) ≡ a_station Listen true
  pub syn_sent : station_of (a_record 2 0) ≡ a_station SynSent false
  pub syn_received : station_of (a_record 3 1) ≡ a_station SynReceived true
  pub established : station_of (a_record 4 0) ≡ a_station Established false
  -- a sixth state, a third mark
  pub unknown : (known (a_record 5 0) ≡ false) × (known (a_record 4 2) ≡ false)
  -- no two bits are on in the same ones of these octets
  pub f0 : segment_of (some_numbers 0xf0) ≡ some_segment (bits true true true true false false false false)
  pub cc : segment_of (some_numbers 0xcc) ≡ some_segment (bits true true false false true true false false)
  pub aa : segment_of (some_numbers 0xaa) ≡ some_segment (bits true false true false true false true false)
  -- A and B, the link towards each
  pub model : model_of (record { a = a_record 0 0; b = a_record 1 1; toa = record { slots = some_numbers 0xf0 ∷ []; count = 1 }; tob = record { slots = []; count = 2 } })
      ≡ record {
        a = a_station Closed false;
        b = a_station Listen true;
        toa = record { slots = some_segment (bits true true true true false false false false) ∷ []; count = 1 };
        tob = record { slots = []; count = 2 };
      }
