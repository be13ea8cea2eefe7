-- Demand 3 (the request, demand 3; 01, "Two stations and their links": "The nine steps").
use Rattle.std.specs.Prelude.{ℕ, ◌<◌, ◌≤◌, ◌≡◌, length}
use mathlib.Core.List.{List, [], ◌∷◌, ◌++◌, Memᴰ}
use Rattle.segment.specs.Refusals.{given}
use Rattle.station.specs.declared.State.TheVariants.{Closed, Established}
use Rattle.model.specs.Links.{held}
use Rattle.model.specs.Step.{peer_of, station_of, toward}
use Rattle.model.specs.Play.{Run, play_said}
use Rattle.model.specs.declared.Side.{Side}
use Rattle.model.specs.declared.Model.{Model}
use Rattle.model.specs.declared.Event.{Event}
use Rattle.model.specs.declared.Event.TheVariants.{Open, Listen, Resend, Deliver}
use Rattle.opening.specs.History.{Start, played_all, events_of, draws, Recorded, SpacedBy, spacing, Spaced}

-- a history: closed stations, empty links, lists played one after another, the numbers of each station at least γ apart
pub record HistoryBy (γ : ℕ) (m : Model) (lists : List (List Event)) : Type 0 where
  pub start : Start m
  pub spaced : (x : Side) → SpacedBy γ (draws x m (events_of m lists))

-- the histories of demand 3: at least 65,536 apart
abbrev pub History : Model → List (List Event) → Type 0
History m lists = HistoryBy spacing m lists

-- what is claimed of the model that a history ends with
pub record Agree (m : Model) (lists : List (List Event)) : Type 0 where
  -- "an established station holds as its peer's number one which that peer drew, and under which the peer had recorded this
  -- station's current number"
  pub one : (x : Side) → let s = station_of x (played_all m lists) in s.state ≡ Established
      → Memᴰ s.irs (draws (peer_of x) m (events_of m lists)) × Recorded (peer_of x) m (events_of m lists) s.irs s.iss
  -- "If both are established, each holds the other's current number"
  pub both : let end = played_all m lists in end.a.state ≡ Established → end.b.state ≡ Established
      → (end.a.irs ≡ end.b.iss) × (end.b.irs ≡ end.a.iss)

-- every history ends in agreement
pub record EstablishedAgree : Type 0 where
  pub agree : (m : Model) (lists : List (List Event)) → History m lists → Agree m lists

-- what the nine steps ask: x is the established end, n the new number of its peer, k that of x
pub record Ready (m : Model) (lists : List (List Event)) (x : Side) (n k : ℕ) : Type 0 where
  -- "From any such state"
  pub history : History m lists
  -- "with one end established"
  pub established : (station_of x (played_all m lists)).state ≡ Established
  -- "the other closed"
  pub closed : (station_of (peer_of x) (played_all m lists)).state ≡ Closed
  -- "and a place free on each link" of 32
  pub room : (y : Side) → length (held (toward y (played_all m lists))) < 32
  -- "two new numbers, provided these keep the spacing": the closed end's
  pub spacedn : Spaced (draws (peer_of x) m (events_of m lists) ++ (n ∷ []))
  -- "these keep the spacing": the established end's too. (Establishing does not need it; the history that goes on does.)
  pub spacedk : Spaced (draws x m (events_of m lists) ++ (k ∷ []))

-- "A established and B closed: B opens; its SYN is delivered; A's ACK is delivered; B's RST is delivered and A is closed; A listens;
-- B resends; SYN, SYN,ACK and ACK are delivered. Each delivery takes the segment just sent": x is in A's part, `to` and `back` are the
-- places of the segments just sent towards x and towards its peer, n and k are the new numbers, and the others are offered in vain
abbrev pub nine : Side → ℕ → ℕ → ℕ → ℕ → ℕ → ℕ → ℕ → ℕ → ℕ → List Event
nine x to back n k f₁ f₂ f₃ f₄ f₅ =
    Open (peer_of x) n
    ∷ Deliver x to f₁
    ∷ Deliver (peer_of x) back f₂
    ∷ Deliver x to f₃
    ∷ Listen x
    ∷ Resend (peer_of x)
    ∷ Deliver x to k
    ∷ Deliver (peer_of x) back f₄
    ∷ Deliver x to f₅
    ∷ []

-- what the nine steps end with: both established on the two new numbers, all nine taken, none refused, none turned away, each link
-- with the segments it had, and one number drawn by each
pub record Anew (x : Side) (n k : ℕ) (m : Model) (es : List Event) (p : Run) : Type 0 where
  pub played : play_said m (length es) es ≡ given p
  pub statex : (station_of x p.model).state ≡ Established
  pub issx : (station_of x p.model).iss ≡ k
  pub irsx : (station_of x p.model).irs ≡ n
  pub statey : (station_of (peer_of x) p.model).state ≡ Established
  pub issy : (station_of (peer_of x) p.model).iss ≡ n
  pub irsy : (station_of (peer_of x) p.model).irs ≡ k
  pub taken : p.totals.taken ≡ 9
  pub refused : p.totals.refused ≡ 0
  pub turned : p.totals.turned ≡ 0
  pub links : (y : Side) → held (toward y p.model) ≡ held (toward y m)
  pub drawnx : draws x m es ≡ k ∷ []
  pub drawny : draws (peer_of x) m es ≡ n ∷ []

-- "the nine steps in the papers establish both on two new numbers", and the history goes on
pub record NineSteps : Type 0 where
  pub establish : (m : Model) (lists : List (List Event)) (x : Side) (n k f₁ f₂ f₃ f₄ f₅ : ℕ) → Ready m lists x n k
      → let end = played_all m lists in
      let es = nine x (length (held (toward x end))) (length (held (toward (peer_of x) end))) n k f₁ f₂ f₃ f₄ f₅ in
      ((p : Run) × Anew x n k end es p) × History m (lists ++ (es ∷ []))

-- ---- beyond the request: how far apart the numbers must be for agreement alone

-- numbers no nearer than the larger window
pub record Clear (γ : ℕ) (m : Model) (lists : List (List Event)) : Type 0 where
  pub history : HistoryBy γ m lists
  pub windows : (x : Side) → (station_of x m).rcvwnd ≤ γ

-- such a history ends in agreement
pub record WindowIsEnough : Type 0 where
  pub agree : (γ : ℕ) (m : Model) (lists : List (List Event)) → Clear γ m lists → Agree m lists
