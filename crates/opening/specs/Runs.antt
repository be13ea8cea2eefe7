-- Runs that are computed: the hypotheses of demand 3 can be met, and its spacing is needed (01, "Errors that look reasonable").
use Rattle.std.specs.Prelude.{ℕ, ◌≡◌, false, List, [], ◌∷◌, ◌++◌, replicate}
use Rattle.station.specs.declared.State.{State}
use Rattle.station.specs.declared.Station.{Station}
use Rattle.model.specs.Links.{blank}
use Rattle.model.specs.declared.Side.TheVariants.{A, B}
use Rattle.model.specs.declared.Link.{Link}
use Rattle.model.specs.declared.Model.{Model}
use Rattle.model.specs.declared.Event.{Event}
use Rattle.model.specs.declared.Event.TheVariants.{Open, Listen, PowerCut, Deliver, Copy}
use Rattle.opening.specs.History.{played_all, events_of, draws}
use Rattle.opening.specs.Statement.{HistoryBy, History, Agree, Ready, nine, Clear}

-- a closed station with a window, its own endpoint and its peer's
abbrev pub closed_with : ℕ → ℕ → ℕ → ℕ → ℕ → Station
closed_with window own ownport peer peerport = record {
  state = State.Closed;
  passive = false;
  iss = 0;
  una = 0;
  nxt = 0;
  irs = 0;
  rcvnxt = 0;
  rcvwnd = window;
  own = own;
  ownport = ownport;
  peer = peer;
  peerport = peerport;
}

-- a link with no segment
abbrev pub empty : Link
empty = record { slots = replicate 32 blank; count = 0 }

-- the two of them: A in the barn, B in the office
abbrev pub barn : ℕ → Model
barn window = record {
  a = closed_with window 0x0a000001 1024 0x0a000002 2000;
  b = closed_with window 0x0a000002 2000 0x0a000001 1024;
  toa = empty;
  tob = empty;
}

-- what a station ends with
pub record End : Type 0 where
  pub state : State
  pub iss : ℕ
  pub irs : ℕ

-- the end of a record
abbrev pub end_of : Station → End
end_of s = record { state = s.state; iss = s.iss; irs = s.irs }

-- established on an ISS, with an IRS
abbrev pub established : ℕ → ℕ → End
established iss irs = record { state = State.Established; iss = iss; irs = irs }

-- lists played from the barn's start: what A and B draw, and what they end with
pub record Shows (window : ℕ) (lists : List (List Event)) (drawsa drawsb : List ℕ) (a b : End) : Type 0 where
  pub drawna : draws A (barn window) (events_of (barn window) lists) ≡ drawsa
  pub drawnb : draws B (barn window) (events_of (barn window) lists) ≡ drawsb
  pub enda : end_of (played_all (barn window) lists).a ≡ a
  pub endb : end_of (played_all (barn window) lists).b ≡ b

-- a plain opening: A listens, B opens
abbrev pub plain : List Event
plain = Listen A ∷ Open B 100 ∷ Deliver A 0 200000 ∷ Deliver B 0 0 ∷ Deliver A 0 0 ∷ []

-- two opens that cross: each SYN, each SYN,ACK, each ACK
abbrev pub crossing : List Event
crossing =
    Open A 100000 ∷ Open B 300000
    ∷ Deliver A 0 0 ∷ Deliver B 0 0
    ∷ Deliver A 0 0 ∷ Deliver B 0 0
    ∷ Deliver A 0 0 ∷ Deliver B 0 0
    ∷ []

-- a power cut at B
abbrev pub cut : List Event
cut = PowerCut B ∷ []

-- the nine steps with two new numbers
abbrev pub recovery : List Event
recovery = nine A 0 0 400000 600000 1 2 3 4 5

-- the plain opening ends with both established
abbrev pub PlainShows : Type 0
PlainShows = Shows 4096 (plain ∷ []) (200000 ∷ []) (100 ∷ []) (established 200000 100) (established 100 200000)

-- the same of the crossing
abbrev pub CrossingShows : Type 0
CrossingShows = Shows 4096 (crossing ∷ []) (100000 ∷ []) (300000 ∷ []) (established 100000 300000) (established 300000 100000)

-- the same of the recovery
abbrev pub RecoveryShows : Type 0
RecoveryShows =
    Shows 4096 (plain ∷ cut ∷ recovery ∷ []) (200000 ∷ 600000 ∷ []) (100 ∷ 400000 ∷ []) (established 600000 400000) (established 400000 600000)

-- a plain opening that leaves 31 old segments on each link, and a power cut at B
abbrev pub crowded : List Event
crowded =
    Listen A ∷ Open B 4294967295 ∷ replicate 31 (Copy A 0)
    ++ (Deliver A 0 65536 ∷ replicate 31 (Copy B 0))
    ++ (Deliver B 0 0 ∷ Deliver A 31 0 ∷ PowerCut B ∷ [])

-- the nine steps with numbers exactly 65,536 from the old ones: B's forwards round the circle, A's backwards
abbrev pub just_far : List Event
just_far = nine A 31 31 65535 0 1 2 3 4 5

-- the same at the edge: windows of 65,535, one place free on each link, and among the numbers the first and the last of the circle
abbrev pub EdgeShows : Type 0
EdgeShows =
    Shows 65535 (crowded ∷ just_far ∷ []) (65536 ∷ 0 ∷ []) (4294967295 ∷ 65535 ∷ []) (established 0 65535) (established 65535 0)

-- the hypotheses of demand 3 can be met, at their edge too
pub record ReachableExists : Type 0 where
  pub plainly : History (barn 4096) (plain ∷ []) × PlainShows
  pub crossed : History (barn 4096) (crossing ∷ []) × CrossingShows
  pub recovered : History (barn 4096) (plain ∷ cut ∷ recovery ∷ []) × RecoveryShows
  -- at the edge, before the nine steps and after them
  pub ready : Ready (barn 65535) (crowded ∷ []) A 65535 0
  pub edge : History (barn 65535) (crowded ∷ just_far ∷ []) × EdgeShows

-- A draws a₁ and a₂, B draws b₁ and b₂: an ACK of the opening from b₁ reaches A in SYN-RECEIVED with IRS b₂, and then one of the
-- opening from a₂ reaches B with IRS a₁
abbrev pub late : ℕ → ℕ → ℕ → ℕ → List Event
late a₁ a₂ b₁ b₂ =
    Open A a₁ ∷ PowerCut A ∷ Open A a₂
    ∷ Listen B ∷ Copy B 1 ∷ Deliver B 1 b₁ ∷ Deliver B 1 0
    ∷ PowerCut B ∷ Open B b₂
    ∷ Copy A 2 ∷ Deliver A 2 0 ∷ Deliver A 1 0
    ∷ Deliver B 0 0 ∷ Deliver A 1 0 ∷ Deliver B 1 0
    ∷ []

-- "Numbers only distinct, not spaced"
abbrev pub near : List Event
near = late 380 400 100 50

-- "an ACK from another opening falls in the window, and both ends can be established on different numbers": B holds 380 where A's
-- number is 400
abbrev pub NearShows : Type 0
NearShows = Shows 4096 (near ∷ []) (380 ∷ 400 ∷ []) (100 ∷ 50 ∷ []) (established 400 50) (established 50 380)

-- numbers 65,534 apart
abbrev pub inside : List Event
inside = late 100000 165534 265534 200000

-- the last number of a window of 65,535: B holds 100,000 where A's number is 165,534
abbrev pub InsideShows : Type 0
InsideShows =
    Shows 65535 (inside ∷ []) (100000 ∷ 165534 ∷ []) (265534 ∷ 200000 ∷ []) (established 165534 200000) (established 200000 100000)

-- the nine steps with B's new number 65,535 past its old one, 100
abbrev pub too_near : List Event
too_near = nine A 0 0 65635 400000 1 2 3 4 5

-- at a window of 65,535 A takes the SYN for one in its window and closes, and so B closes
abbrev pub TooNearShows : Type 0
TooNearShows =
    Shows 65535 (plain ∷ cut ∷ too_near ∷ []) (200000 ∷ []) (100 ∷ 65635 ∷ [])
    (record { state = State.Listen; iss = 0; irs = 0 }) (record { state = State.Closed; iss = 0; irs = 0 })

-- what goes wrong where the numbers lie nearer
pub record SpacingIsNeeded : Type 0 where
  pub distinct : NearShows
  pub disagrees : Agree (barn 4096) (near ∷ []) → ⊥
  -- the bound is sharp for agreement: one less than the window is too near
  pub spaced : HistoryBy 65534 (barn 65535) (inside ∷ []) × InsideShows
  pub breaks : Agree (barn 65535) (inside ∷ []) → ⊥
  -- and for the nine steps: the window, enough for agreement, is too near
  pub sharp : Clear 65535 (barn 65535) (plain ∷ cut ∷ too_near ∷ []) × TooNearShows

-- the story of the request: the barn box A draws 100,000 again after its power cut, and takes the old opening's late SYN,ACK for its own
abbrev pub story : List Event
story =
    Open A 100000 ∷ Copy B 0
    ∷ Listen B ∷ Deliver B 0 200000
    ∷ PowerCut B ∷ Listen B ∷ Deliver B 0 300000
    ∷ Deliver A 1 0
    ∷ PowerCut A ∷ Open A 100000
    ∷ Deliver A 0 0
    ∷ Deliver B 0 0
    ∷ []

-- with that one number repeated both are established, and A holds 200,000 where B's number is 300,000
abbrev pub StoryShows : Type 0
StoryShows = Shows 4096 (story ∷ []) (100000 ∷ 100000 ∷ []) (200000 ∷ 300000 ∷ []) (established 100000 200000) (established 300000 100000)

-- the incident: where the story ends, what `EstablishedAgree` concludes is false
pub record Incident : Type 0 where
  pub ends : StoryShows
  pub disagrees : Agree (barn 4096) (story ∷ []) → ⊥
