-- The nine steps establish an established station and a closed one anew. Assumes nothing.
use Prim.Native.Nat.{ℕ, ◌<◌, ◌≤◌}
use mathlib.Core.Path.{◌≡◌, refl}
use mathlib.Core.Bool.{true, false}
use mathlib.Core.List.{List, [], ◌∷◌, append-nil}
use native.Mathlib.Omega.{arith}
use lib.ListN.{length}
use Rattle.seq.specs.Seq.{plus, minus}
use Rattle.segment.specs.declared.Segment.{Segment}
use Rattle.segment.specs.Refusals.{given}
use Rattle.station.specs.Forms.{formed, with, closed_of, listen_of, syn_sent_of, received_of, established_of}
use Rattle.station.specs.Sent.{syn_of, syn_ack_of, ack_of, rst_of}
use Rattle.station.specs.Outcomes.{quiet, sending, drawing}
use Rattle.station.specs.Calls.{open_step}
use Rattle.station.specs.declared.State.TheVariants.{Closed, Established}
use Rattle.station.specs.declared.Station.{Station}
use Rattle.station.specs.Events.{event_said}
use Rattle.station.specs.declared.Event.TheVariants as Station
use Rattle.station.proofs.Keeps.{keeps_forms}
use Rattle.model.specs.Links.{held}
use Rattle.model.specs.Step.{peer_of, station_of, toward, sound, applied}
use Rattle.model.specs.declared.Side.{Side}
use Rattle.model.specs.declared.Model.{Model}
use Rattle.model.specs.declared.Event.{Event}
use Rattle.model.specs.declared.Event.TheVariants.{Open, Listen, Resend, Deliver}
use Rattle.opening.specs.History.{next, draws}
use Rattle.opening.specs.Statement.{nine}
use Rattle.opening.proofs.Links.{Sized}
use Rattle.opening.proofs.Sound.{parts, facing_at}
use Rattle.opening.proofs.Forms.{Facing, facing_turned, window_positive, established_form}
use Rattle.opening.proofs.Runs.{after, AllTaken}
use Rattle.opening.proofs.Answered.{met_open, met_listen, met_resend, met_syn, met_ack, met_reset, met_again, met_synack, met_last}
use Rattle.opening.proofs.Exchange.{Stand, stand_turned, stand_back, none_there, Done, call_done, deliver_done}

-- a model for the nine steps: x established, its peer closed, a place free on each link, and the number of the peer outside the window
-- of x and not the one that x acknowledges
pub record Fit (x : Side) (n : ℕ) (m : Model) : Type 0 where
  pub sound : sound m ≡ true
  pub sized : (z : Side) → Sized (toward z m)
  pub room : (z : Side) → length (held (toward z m)) < 32
  pub established : (station_of x m).state ≡ Established
  pub closed : (station_of (peer_of x) m).state ≡ Closed
  pub far : (station_of x m).rcvwnd ≤ minus n (station_of x m).rcvnxt
  pub other : (station_of x m).rcvnxt ≡ plus n 1 → ⊥

module _ (x : Side) (m : Model) (n k f₁ f₂ f₃ f₄ f₅ : ℕ) (fit : Fit x n m) where
  abbrev y : Side
  y = peer_of x

  abbrev s : Station
  s = station_of x m

  abbrev t : Station
  t = station_of y m

  -- the peer in SYN-SENT, x in SYN-RECEIVED, and the peer in ESTABLISHED
  abbrev t₁ : Station
  t₁ = syn_sent_of t n

  abbrev s₂ : Station
  s₂ = received_of s true k n

  abbrev t₂ : Station
  t₂ = established_of t false n k

  -- what the links towards x and towards its peer hold, before and after
  abbrev is : List Segment
  is = held (toward x m)

  abbrev os : List Segment
  os = held (toward y m)

  room_x : length is < 32
  room_x = fit.room x

  room_y : length os < 32
  room_y = fit.room y

  fs : formed s ≡ true
  fs = (parts m fit.sound).forms x

  st : Facing s t
  st = facing_at x m (parts m fit.sound)

  ts : Facing t s
  ts = facing_turned s t st

  stand : Stand x s t os is m
  stand = record {
    me = refl;
    you = refl;
    out = record { sized = fit.sized y; are = refl };
    inn = record { sized = fit.sized x; are = refl };
  }

  -- "B opens", and so on: x is in A's part, d₁ to d₉ are the steps
  abbrev m₁ : Model
  m₁ = next m (Open y n)

  opens : event_said t (Station.Open n) ≡ given (drawing t₁ (syn_of t₁))
  unfolding open_step
  opens = met_open t n ((parts m fit.sound).forms y) fit.closed

  d₁ : Done y (drawing t₁ (syn_of t₁)) s is os m (Open y n)
  unfolding applied
  d₁ = call_done (Open y n) (Station.Open n) refl refl fit.sound (stand_turned stand) opens room_x (omega arith)

  ft : formed t₁ ≡ true
  ft = keeps_forms.event t (Station.Open n) _ opens

  -- "its SYN is delivered"
  abbrev m₂ : Model
  m₂ = next m₁ (Deliver x (length is) f₁)

  d₂ : Done x (sending s (ack_of s)) t₁ os is m₁ (Deliver x (length is) f₁)
  d₂ =
      deliver_done (syn_of t₁) f₁ d₁.sound (stand_back d₁.stands)
      (met_syn s t n k f₁ fs st fit.established fit.far) room_y (omega arith)

  -- "A's ACK is delivered"
  abbrev m₃ : Model
  m₃ = next m₂ (Deliver y (length os) f₂)

  d₃ : Done y (sending t₁ (rst_of t s.rcvnxt)) s is os m₂ (Deliver y (length os) f₂)
  d₃ = deliver_done (ack_of s) f₂ d₂.sound (stand_turned d₂.stands) (met_ack s t n k f₂ ft ts fit.other) room_x (omega arith)

  -- "B's RST is delivered and A is closed"
  abbrev m₄ : Model
  m₄ = next m₃ (Deliver x (length is) f₃)

  closes : event_said s (Station.Arrive (rst_of t s.rcvnxt) f₃) ≡ given (quiet (closed_of s))
  closes = met_reset s t n k f₃ fs st fit.established (established_form s fs fit.established)

  d₄ : Done x (quiet (closed_of s)) t₁ os is m₃ (Deliver x (length is) f₃)
  d₄ = deliver_done (rst_of t s.rcvnxt) f₃ d₃.sound (stand_back d₃.stands) closes room_y (omega arith)

  -- "A listens"
  abbrev m₅ : Model
  m₅ = next m₄ (Listen x)

  listens : event_said (closed_of s) Station.Listen ≡ given (quiet (listen_of s))
  unfolding listen_of closed_of with
  listens = met_listen (closed_of s) (keeps_forms.event s _ _ closes) refl

  d₅ : Done x (quiet (listen_of s)) t₁ os is m₄ (Listen x)
  unfolding applied
  d₅ = call_done (Listen x) Station.Listen refl refl d₄.sound (rw append-nil at d₄.stands) listens room_y (omega arith)

  -- "B resends"
  abbrev m₆ : Model
  m₆ = next m₅ (Resend y)

  d₆ : Done y (sending t₁ (syn_of t₁)) (listen_of s) is os m₅ (Resend y)
  unfolding applied
  d₆ =
      call_done (Resend y) Station.Resend refl refl d₅.sound (stand_turned (rw append-nil at d₅.stands))
      (met_resend t n ft) room_x (omega arith)

  -- "SYN, SYN,ACK and ACK are delivered"
  abbrev m₇ : Model
  m₇ = next m₆ (Deliver x (length is) k)

  takes : event_said (listen_of s) (Station.Arrive (syn_of t₁) k) ≡ given (drawing s₂ (syn_ack_of s₂))
  takes = met_again s t n k k (keeps_forms.event (closed_of s) _ _ listens) st

  d₇ : Done x (drawing s₂ (syn_ack_of s₂)) t₁ os is m₆ (Deliver x (length is) k)
  d₇ = deliver_done (syn_of t₁) k d₆.sound (stand_back d₆.stands) takes room_y (omega arith)

  abbrev m₈ : Model
  m₈ = next m₇ (Deliver y (length os) f₄)

  d₈ : Done y (sending t₂ (ack_of t₂)) s₂ is os m₇ (Deliver y (length os) f₄)
  d₈ = deliver_done (syn_ack_of s₂) f₄ d₇.sound (stand_turned d₇.stands) (met_synack s t n k f₄ ft ts) room_x (omega arith)

  d₉ : Done x (quiet (established_of s true k n)) t₂ os is m₈ (Deliver x (length is) f₅)
  d₉ =
      deliver_done (ack_of t₂) f₅ d₈.sound (stand_back d₈.stands)
      (met_last s t n k f₅ (keeps_forms.event (listen_of s) _ _ takes) (window_positive s fs) st) room_y (omega arith)

  -- ---- all nine

  abbrev nine_events : List Event
  nine_events = nine x (length is) (length os) n k f₁ f₂ f₃ f₄ f₅

  pub nine_taken : AllTaken m nine_events
  nine_taken = (d₁.taken, (d₂.taken, (d₃.taken, (d₄.taken, (d₅.taken, (d₆.taken, (d₇.taken, (d₈.taken, (d₉.taken, tt)))))))))

  pub nine_end : Stand x (established_of s true k n) t₂ os is (after m nine_events)
  nine_end = rw append-nil at d₉.stands

  pub nine_draws : draws x m nine_events ≡ k ∷ []
  unfolding draws received_of with
  nine_draws = rw (none_there x d₁, d₂.mine, none_there x d₃, d₄.mine, d₅.mine, none_there x d₆, d₇.mine, none_there x d₈, d₉.mine)

  pub nine_peer_draws : draws y m nine_events ≡ n ∷ []
  unfolding draws syn_sent_of with
  nine_peer_draws = rw (d₁.mine, d₂.theirs, d₃.mine, d₄.theirs, d₅.theirs, d₆.mine, d₇.theirs, d₈.mine, d₉.theirs)
