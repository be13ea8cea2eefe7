-- A case for each way that octets are read, refused and written (01, "Octets of a segment"; its table, "a header read 2, 3, 4, 6; a header
-- write 6 (FIN on), then 10; octets arriving at a station 1 to 6"). The checksums were added up apart from the rules, by RFC 1071.
use Rattle.std.specs.Prelude.{ℕ, ◌≡◌, Bool, true, false, List, [], ◌∷◌, ◌++◌, length, get_or, replicate}
use Rattle.segment.specs.declared.Control.{Control}
use Rattle.segment.specs.declared.Header.{Header}
use Rattle.segment.specs.Refusals.{Said, refused, given}
use Rattle.segment.specs.Read.{read_said}
use Rattle.segment.specs.Write.{write_said, write_leaves}
use Rattle.station.specs.declared.State.TheVariants.{Closed, SynReceived}
use Rattle.station.specs.declared.Station.{Station}
use Rattle.station.specs.Outcomes.{Step}
use Rattle.station.specs.Arrival.{octets_said}
use Rattle.examples.specs.Spelled.{bits, SYN, SYN_ACK, step, AllHold}
use Rattle.cases.specs.Station.{at, marked, listening, says}

-- the peer's address, 10.2.0.4
abbrev pub there : ℕ
there = 0x0a020004

-- the station's address, 10.1.0.9
abbrev pub here : ℕ
here = 0x0a010009

-- a header from port 4007 (or 4006) to 5001, sequence 90,000, window 333, urgent pointer 44, and what is behind it: the low octet of the
-- source port, the low octets of the acknowledgment, octet 12, the control octet, the checksum
abbrev pub octets : ℕ → ℕ → ℕ → ℕ → ℕ → ℕ → ℕ → List ℕ → List ℕ
octets port a₁ a₀ twelve control c₁ c₀ rest =
    0x0f ∷ port ∷ 0x13 ∷ 0x89 ∷ 0x00 ∷ 0x01 ∷ 0x5f ∷ 0x90 ∷ 0x00 ∷ 0x00 ∷ a₁ ∷ a₀ ∷ twelve ∷ control
    ∷ 0x01 ∷ 0x4d ∷ c₁ ∷ c₀ ∷ 0x00 ∷ 0x2c ∷ rest

-- its fields: acknowledgment and control bits
abbrev pub fields : ℕ → Control → Header
fields ack control = record { source = 4007; destination = 5001; seq = 90000; ack = ack; control = control; window = 333; urgent = 44 }

-- a SYN
abbrev pub syn : List ℕ
syn = octets 0xa7 0x00 0x00 0x50 0x02 0x17 0x99 []

-- a header read, and what it gives
abbrev pub reads : List ℕ → Said Header → Type 0
reads s x = read_said there here s ≡ x

-- fields as they are laid out; "Reserved bits are ignored when read"; "option octets are skipped"
abbrev pub readings : List (Type 0)
readings =
    reads syn (given (fields 0 SYN))
    ∷ reads (octets 0xa7 0x1b 0x59 0x50 0xfe 0xfb 0x43 []) (given (fields 7001 (bits true true true true true true true false)))
    ∷ reads (octets 0xa7 0x00 0x00 0x5f 0x02 0x08 0x99 []) (given (fields 0 SYN))
    ∷ reads (octets 0xa7 0x00 0x00 0x60 0x02 0xff 0xdc (0x02 ∷ 0x04 ∷ 0x05 ∷ 0xb4 ∷ [])) (given (fields 0 SYN))
    ∷ reads (octets 0xa7 0x00 0x00 0xf0 0x02 0x77 0x70 (replicate 40 0)) (given (fields 0 SYN))
    ∷ []

-- 2: "fewer than 20 or more than 65,515 octets"; 3: "header length below 5 words or beyond the octets"; 4: "checksum wrong"; 6: "FIN on, or
-- text present"; each before the next
abbrev pub read_refusals : List (Type 0)
read_refusals =
    reads [] (refused 2)
    ∷ reads (replicate 19 0) (refused 2)
    ∷ reads (replicate 20 0) (refused 3)
    ∷ reads (octets 0xa7 0x00 0x00 0x40 0x02 0x27 0x99 []) (refused 3)
    ∷ reads (octets 0xa7 0x00 0x00 0x60 0x02 0x07 0x99 []) (refused 3)
    ∷ reads (octets 0xa7 0x00 0x00 0x60 0x02 0x07 0x9a []) (refused 3)
    ∷ reads (octets 0xa7 0x00 0x00 0x50 0x02 0x17 0x9a []) (refused 4)
    ∷ reads (octets 0xa7 0x00 0x00 0x50 0x03 0x17 0x99 []) (refused 4)
    ∷ reads (octets 0xa7 0x00 0x00 0x50 0x03 0x17 0x98 []) (refused 6)
    ∷ reads (octets 0xa7 0x00 0x00 0x50 0x02 0x6c 0x97 (0xab ∷ [])) (refused 6)
    ∷ []

-- 2 at the upper end: no 65,516 octets are read, and 65,515 are looked at
abbrev pub longest : List (Type 0)
longest =
    ((s : List ℕ) → length s ≡ 65516 → reads s (refused 2))
    ∷ ((s : List ℕ) → length s ≡ 65515 → get_or s 12 0 ≡ 0x40 → reads s (refused 3))
    ∷ []

-- octets arriving, and what they give; the number offered is 555
abbrev pub arrive : Station → ℕ → List ℕ → Said Step → Type 0
arrive s src octets x = octets_said s src here octets 555 ≡ x

-- "octets arriving at a station 1 to 6"; each before the next
abbrev pub arrivals : List (Type 0)
arrivals =
    arrive listening there syn (step (at SynReceived marked 555 555 556 90000 90001) (says SYN_ACK 555 90001 1000 ∷ []) true)
    ∷ arrive (at Closed marked 0 0 0 0 0) there (replicate 19 0) (refused 1)
    ∷ arrive listening there (replicate 19 0) (refused 2)
    ∷ arrive listening there (octets 0xa7 0x00 0x00 0x60 0x02 0x07 0x9a []) (refused 3)
    ∷ arrive listening there (octets 0xa6 0x00 0x00 0x50 0x02 0x17 0x99 []) (refused 4)
    ∷ arrive listening there (octets 0xa6 0x00 0x00 0x50 0x02 0x17 0x9a []) (refused 5)
    ∷ arrive listening there (octets 0xa6 0x00 0x00 0x50 0x03 0x17 0x99 []) (refused 5)
    ∷ arrive listening 0x0a020005 (octets 0xa7 0x00 0x00 0x50 0x02 0x17 0x98 []) (refused 5)
    ∷ arrive listening there (octets 0xa7 0x00 0x00 0x50 0x03 0x17 0x98 []) (refused 6)
    ∷ arrive listening there (octets 0xa7 0x00 0x00 0x50 0x02 0x6c 0x97 (0xab ∷ [])) (refused 6)
    ∷ []

-- a header with another number in every octet; whether FIN is on
abbrev pub wanted : Bool → Header
wanted fin = record {
  source = 0x0102;
  destination = 0x0304;
  seq = 0x05060708;
  ack = 0x090a0b0c;
  control = bits true true true true true true true fin;
  window = 0x0d0e;
  urgent = 0x0f10;
}

-- its twenty octets
abbrev pub written : List ℕ
written =
    0x01 ∷ 0x02 ∷ 0x03 ∷ 0x04 ∷ 0x05 ∷ 0x06 ∷ 0x07 ∷ 0x08 ∷ 0x09 ∷ 0x0a ∷ 0x0b ∷ 0x0c ∷ 0x50 ∷ 0xfe
    ∷ 0x0d ∷ 0x0e ∷ 0x5a ∷ 0x8f ∷ 0x0f ∷ 0x10 ∷ []

-- a header write: its answer, and the output at exit
abbrev pub writes : Header → List ℕ → Said Unit → List ℕ → Type 0
writes h out x after = (write_said h out ≡ x) × (write_leaves here there h out ≡ after)

-- "A write fills the first 20 octets and no others"; 6 (FIN on), then 10: "output below 20 octets"
abbrev pub writings : List (Type 0)
writings =
    writes (wanted false) (replicate 20 9) (given tt) written
    ∷ writes (wanted false) (replicate 22 9) (given tt) (written ++ (9 ∷ 9 ∷ []))
    ∷ writes (wanted false) (replicate 19 9) (refused 10) (replicate 19 9)
    ∷ writes (wanted true) (replicate 20 9) (refused 6) (replicate 20 9)
    ∷ writes (wanted true) (replicate 19 9) (refused 6) (replicate 19 9)
    ∷ []

-- octets read
abbrev pub Reading : Type 0
Reading = AllHold readings × AllHold read_refusals × AllHold longest

-- octets arriving
abbrev pub Arriving : Type 0
Arriving = AllHold arrivals

-- headers written
abbrev pub Writing : Type 0
Writing = AllHold writings
