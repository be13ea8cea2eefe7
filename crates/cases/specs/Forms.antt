-- A case for each clause of 01, "The only forms": a record that misses it by one number or by its mark is 1 (01's table), and a power cut
-- takes every other; 1 before 7 and 8.
use Rattle.std.specs.Prelude.{ℕ, false, List, [], ◌∷◌}
use Rattle.segment.specs.Refusals.{refused}
use Rattle.station.specs.declared.State.TheVariants.{Closed, Listen, SynSent, SynReceived, Established}
use Rattle.station.specs.declared.Station.{Station}
use Rattle.station.specs.declared.Event.TheVariants as Event
use Rattle.examples.specs.Spelled.{record_at, SYN, step, AllHold}
use Rattle.cases.specs.Station.{at, marked, unmarked, says, ◌on◌gives◌}

-- a record that 1 refuses
abbrev pub misfit : Station → Type 0
misfit s = Event.PowerCut on s gives refused 1

-- "CLOSED and LISTEN: the five numbers are zero; mark no in CLOSED, yes in LISTEN"
abbrev pub not_closed_or_listen : List (Type 0)
not_closed_or_listen =
    misfit (at Closed unmarked 1 0 0 0 0)
    ∷ misfit (at Closed unmarked 0 1 0 0 0)
    ∷ misfit (at Closed unmarked 0 0 1 0 0)
    ∷ misfit (at Closed unmarked 0 0 0 1 0)
    ∷ misfit (at Closed unmarked 0 0 0 0 1)
    ∷ misfit (at Closed marked 0 0 0 0 0)
    ∷ misfit (at Listen marked 1 0 0 0 0)
    ∷ misfit (at Listen marked 0 1 0 0 0)
    ∷ misfit (at Listen marked 0 0 1 0 0)
    ∷ misfit (at Listen marked 0 0 0 1 0)
    ∷ misfit (at Listen marked 0 0 0 0 1)
    ∷ misfit (at Listen unmarked 0 0 0 0 0)
    ∷ []

-- "SYN-SENT: UNA = ISS, NXT = ISS + 1, IRS and RCV.NXT zero, mark no"
abbrev pub not_syn_sent : List (Type 0)
not_syn_sent =
    misfit (at SynSent unmarked 7000 7001 7001 0 0)
    ∷ misfit (at SynSent unmarked 7000 7000 7000 0 0)
    ∷ misfit (at SynSent unmarked 7000 7000 7001 1 0)
    ∷ misfit (at SynSent unmarked 7000 7000 7001 0 1)
    ∷ misfit (at SynSent marked 7000 7000 7001 0 0)
    ∷ misfit (at SynSent unmarked 4294967295 4294967295 4294967296 0 0)
    ∷ []

-- "SYN-RECEIVED: UNA = ISS, NXT = ISS + 1, RCV.NXT = IRS + 1, either mark"
abbrev pub not_received : List (Type 0)
not_received =
    misfit (at SynReceived marked 7000 7001 7001 90000 90001)
    ∷ misfit (at SynReceived marked 7000 7000 7000 90000 90001)
    ∷ misfit (at SynReceived marked 7000 7000 7001 90000 90000)
    ∷ misfit (at SynReceived unmarked 7000 7000 7001 0 0)
    ∷ []

-- "ESTABLISHED: UNA = NXT = ISS + 1, RCV.NXT = IRS + 1, either mark"
abbrev pub not_established : List (Type 0)
not_established =
    misfit (at Established unmarked 7000 7000 7001 90000 90001)
    ∷ misfit (at Established unmarked 7000 7001 7000 90000 90001)
    ∷ misfit (at Established unmarked 7000 7002 7002 90000 90001)
    ∷ misfit (at Established marked 7000 7001 7001 90000 90002)
    ∷ []

-- a record in CLOSED with a window
abbrev pub window_of : ℕ → Station
window_of window =
    record_at (record { address = 0x0a010009; port = 5001; peer = 0x0a020004; peerport = 4007; window = window }) Closed unmarked 0 0 0 0 0

-- "RCV.WND (1 to 65,535)"
abbrev pub windows : List (Type 0)
windows =
    misfit (window_of 0)
    ∷ (Event.PowerCut on window_of 1 gives step (window_of 1) [] false)
    ∷ (Event.PowerCut on window_of 65535 gives step (window_of 65535) [] false)
    ∷ []

-- "All sequence arithmetic is modulo 2^32": the number after 4,294,967,295 is 0, in ISS and in IRS
abbrev pub round_zero : List (Type 0)
round_zero =
    let s = at SynSent unmarked 4294967295 4294967295 0 0 0 in
    let t = at Established marked 4294967295 0 0 4294967295 0 in
    (Event.Resend on s gives step s (says SYN 4294967295 0 1000 ∷ []) false)
    ∷ (Event.PowerCut on t gives step (at Closed unmarked 0 0 0 0 0) [] false)
    ∷ []

-- 1 is tested before 7 and before 8, in every call
abbrev pub form_first : List (Type 0)
form_first =
    (Event.Open 8000 on at SynSent marked 7000 7000 7001 0 0 gives refused 1)
    ∷ (Event.Listen on at SynSent marked 7000 7000 7001 0 0 gives refused 1)
    ∷ (Event.Abort on at Closed marked 0 0 0 0 0 gives refused 1)
    ∷ (Event.Resend on at Closed marked 0 0 0 0 0 gives refused 1)
    ∷ []

-- the forms of a record
abbrev pub Forms : Type 0
Forms =
    AllHold not_closed_or_listen × AllHold not_syn_sent × AllHold not_received × AllHold not_established
    × AllHold windows × AllHold round_zero × AllHold form_first
