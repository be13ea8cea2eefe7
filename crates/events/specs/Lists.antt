-- Events in octets, ten to an event: kind 1, side 1, place 4, number 4, high octet first (docs/DECISIONS.md, "Events in octets").
use Rattle.std.specs.Prelude.{ℕ, zero, suc, ◌/◌, ◌%◌, Bool, true, ◌&&◌, List, [], ◌∷◌, ◌++◌, length, get_or, drop, replicate, eqb, ltb, if◌then◌else◌}
use Rattle.segment.specs.Octets.{four, at32}
use Rattle.model.specs.declared.Side.{Side}
use Rattle.model.specs.declared.Side.TheVariants.{A, B}
use Rattle.model.specs.declared.Event.{Event}
use Rattle.model.specs.declared.Event.TheVariants.{Open, Listen, Abort, Resend, PowerCut, Deliver, Copy, Lose}

-- the sides: 0 is A, 1 is B
unfoldable pub side_of : ℕ → Side
side_of n = if eqb n 0 then A else B

-- the kinds, 0 to 7 (01, "Calls and power", "Two stations and their links": "Further events")
unfoldable pub event_of : ℕ → Side → ℕ → ℕ → Event
event_of kind side place number =
    if eqb kind 0 then Open side number else
    if eqb kind 1 then Listen side else
    if eqb kind 2 then Abort side else
    if eqb kind 3 then Resend side else
    if eqb kind 4 then PowerCut side else
    if eqb kind 5 then Deliver side place number else
    if eqb kind 6 then Copy side place else
    Lose side place

-- whether kind and side name one
unfoldable pub names_event : List ℕ → Bool
names_event s = ltb (get_or s 0 0) 8 && ltb (get_or s 1 0) 2

-- whether octets are one event
unfoldable pub is_event : List ℕ → Bool
is_event s = eqb (length s) 10 && names_event s

-- the event in ten octets
unfoldable pub event_at : List ℕ → Event
event_at s = event_of (get_or s 0 0) (side_of (get_or s 1 0)) (at32 s 2) (at32 s 6)

-- the number of a side
unfoldable pub side_number : Side → ℕ
side_number A = 0
side_number B = 1

-- ten octets: "kind .., side .., place in four octets, number in four octets, high octet first"
abbrev pub ten : ℕ → ℕ → ℕ → ℕ → List ℕ
ten kind side place number = kind ∷ side ∷ four place ++ four number

-- an event in ten octets: "0 open, 1 listen, 2 abort, 3 resend, 4 power cut, 5 deliver, 6 copy, 7 lose"; what a kind does not use is zero
unfoldable pub octets_of_event : Event → List ℕ
octets_of_event (Open side number) = ten 0 (side_number side) 0 number
octets_of_event (Listen side) = ten 1 (side_number side) 0 0
octets_of_event (Abort side) = ten 2 (side_number side) 0 0
octets_of_event (Resend side) = ten 3 (side_number side) 0 0
octets_of_event (PowerCut side) = ten 4 (side_number side) 0 0
octets_of_event (Deliver side place number) = ten 5 (side_number side) place number
octets_of_event (Copy side place) = ten 6 (side_number side) place 0
octets_of_event (Lose side place) = ten 7 (side_number side) place 0

-- how many events the octets have room for
abbrev pub count_of : List ℕ → ℕ
count_of s = length s / 10

-- whether the first n events' kinds and sides name one
unfoldable pub all_named : ℕ → List ℕ → Bool
all_named zero s = true
all_named (suc n) s = names_event s && all_named n (drop 10 s)

-- whether octets are a list of events
unfoldable pub is_list : List ℕ → Bool
is_list s = eqb (length s % 10) 0 && all_named (count_of s) s

-- the first n events
unfoldable pub events_at : ℕ → List ℕ → List Event
events_at zero s = []
events_at (suc n) s = event_at s ∷ events_at n (drop 10 s)

-- "A list has up to 4,096 events" (01, "Two stations and their links"): a count, or that limit
abbrev pub within : ℕ → ℕ
within n = if ltb 4096 n then 4096 else n

-- the player's array: the events as far as its limit, each place behind them a listen at A
unfoldable pub list_at : List ℕ → List Event
list_at s = events_at (within (count_of s)) s ++ drop (within (count_of s)) (replicate 4096 (Listen A))
