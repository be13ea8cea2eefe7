-- The theorems of events in octets (docs/DECISIONS.md, "Events in octets").
use Rattle.std.specs.Prelude.{ℕ, ◌<◌, ◌^◌, ◌≡◌, true, false, List, [], ◌∷◌, ◌++◌}
use Rattle.segment.specs.Theorems.{Octets}
use Rattle.model.specs.declared.Side.TheVariants.{A, B}
use Rattle.model.specs.declared.Event.{Event}
use Rattle.model.specs.declared.Event.TheVariants.{Open, Listen, Abort, Resend, PowerCut, Deliver, Copy, Lose}
use Rattle.events.specs.Lists.{is_event, event_at, ten, octets_of_event, is_list}

-- an event's place and number have 32 bits
abbrev pub Fits : Event → Type 0
Fits (Open side number) = number < 2 ^ 32
Fits (Listen side) = Unit
Fits (Abort side) = Unit
Fits (Resend side) = Unit
Fits (PowerCut side) = Unit
Fits (Deliver side place number) = (place < 2 ^ 32) × (number < 2 ^ 32)
Fits (Copy side place) = place < 2 ^ 32
Fits (Lose side place) = place < 2 ^ 32

-- what crosses comes back as it was
pub record CrossesBack : Type 0 where
  -- an event through octets
  pub event : (e : Event) → (is_event (octets_of_event e) ≡ true) × (event_at (octets_of_event e) ≡ e)
  -- which are octets where place and number have 32 bits
  pub octets : (e : Event) → Fits e → Octets (octets_of_event e)
  -- octets through an event, where what its kind does not use is zero: of an open the place
  pub opening : (side number : ℕ) → side < 2 → octets_of_event (event_at (ten 0 side 0 number)) ≡ ten 0 side 0 number
  -- of a listen, an abort, a resend and a power cut place and number
  pub bare : (kind side : ℕ) → 0 < kind → kind < 5 → side < 2 → octets_of_event (event_at (ten kind side 0 0)) ≡ ten kind side 0 0
  -- of a delivery nothing
  pub delivery : (side place number : ℕ) → side < 2 → octets_of_event (event_at (ten 5 side place number)) ≡ ten 5 side place number
  -- of a copy and a loss the number
  pub copy : (side place : ℕ) → side < 2 → octets_of_event (event_at (ten 6 side place 0)) ≡ ten 6 side place 0
  pub loss : (side place : ℕ) → side < 2 → octets_of_event (event_at (ten 7 side place 0)) ≡ ten 7 side place 0

-- eight octets: a place and a number, high octet first
abbrev pub rest : List ℕ
rest = 0x11 ∷ 0x12 ∷ 0x13 ∷ 0x14 ∷ 0x21 ∷ 0x22 ∷ 0x23 ∷ 0x24 ∷ []

-- examples by hand: which number is which kind and side, and what is no event and no list of events (255)
pub record Examples : Type 0 where
  pub opens : event_at (0 ∷ 0 ∷ rest) ≡ Open A 0x21222324
  pub listens : event_at (1 ∷ 1 ∷ rest) ≡ Listen B
  pub aborts : event_at (2 ∷ 0 ∷ rest) ≡ Abort A
  pub resends : event_at (3 ∷ 1 ∷ rest) ≡ Resend B
  pub power_cut : event_at (4 ∷ 0 ∷ rest) ≡ PowerCut A
  pub delivers : event_at (5 ∷ 1 ∷ rest) ≡ Deliver B 0x11121314 0x21222324
  pub copies : event_at (6 ∷ 0 ∷ rest) ≡ Copy A 0x11121314
  pub loses : event_at (7 ∷ 1 ∷ rest) ≡ Lose B 0x11121314
  -- a ninth kind, a third side
  pub unnamed : (is_event (8 ∷ 0 ∷ rest) ≡ false) × (is_event (7 ∷ 2 ∷ rest) ≡ false)
  -- nine octets, eleven
  pub sized : (is_event (7 ∷ rest) ≡ false) × (is_event (7 ∷ 1 ∷ 0 ∷ rest) ≡ false)
  -- nothing is a list; so are two events, but not where the second is cut or names none
  pub lists : (is_list [] ≡ true) × (is_list ((7 ∷ 1 ∷ rest) ++ (0 ∷ 0 ∷ rest)) ≡ true)
      × (is_list ((7 ∷ 1 ∷ rest) ++ (0 ∷ rest)) ≡ false) × (is_list ((7 ∷ 1 ∷ rest) ++ (8 ∷ 0 ∷ rest)) ≡ false)
