-- An established station is with the opening that it believes it is with. Assumes nothing.
use Prim.Native.Nat.{ℕ, ◌≤◌}
use mathlib.Core.Path.{◌≡◌, subst}
use mathlib.Core.Logic.{◌⊎◌, inl, inr}
use mathlib.Core.List.Memᴰ
use mathlib.Core.List.{List, [], Memᴰ}
use native.Mathlib.Omega.{arith}
use native.Mathlib.Decide.{dec_le}
use lib.ListN.{length}
use Rattle.station.specs.declared.State.TheVariants.{Established}
use Rattle.model.specs.Links.{held}
use Rattle.model.specs.Step.{peer_of, station_of, toward}
use Rattle.model.specs.declared.Side.{Side}
use Rattle.model.specs.declared.Side.TheVariants.{A, B}
use Rattle.model.specs.declared.Link.{Link}
use Rattle.model.specs.declared.Model.{Model}
use Rattle.model.specs.declared.Event.{Event}
use Rattle.opening.specs.History.{Start, played_all, events_of, draws, Recorded, spacing}
use Rattle.opening.specs.Statement.{HistoryBy, Agree, EstablishedAgree, WindowIsEnough}
use Rattle.opening.proofs.Numbers.{spaced_turned, rank, Newest, newest_only}
use Rattle.opening.proofs.Forms.{window_positive}
use Rattle.opening.proofs.Logs.{Log, Held, fresh, Logs, fresh_ok}
use Rattle.opening.proofs.Sound.{parts}
use Rattle.opening.proofs.Moves.{LinkOk, Inv, seen_by}
use Rattle.opening.proofs.Runs.{all_played, logs_after, was_drawn, was_recorded, after_upheld}

-- ---- the start

abbrev no_logs : Side → Log
no_logs x = fresh

empty_ok : (l : Link) → l.count ≡ 0 → length l.slots ≡ 32 → LinkOk fresh l
unfolding held
empty_ok l e size = record { sized = record { size = size; few = omega arith }; segments = rw e tt }

start_inv : (ω : ℕ) (m : Model) → Start m → ((x : Side) → (station_of x m).rcvwnd ≤ ω) → Inv ω no_logs A m
unfolding toward
start_inv ω m h small = record {
  mine = record { window = small A; state = rw (h.closed A) tt; link = empty_ok m.tob h.emptyb h.slotsb };
  theirs = record { window = small B; state = rw (h.closed B) tt; link = empty_ok m.toa h.emptya h.slotsa };
  logs = fresh_ok;
}

-- nothing was in the logs before
since_start : {X S : Type 0} {s : S} → X ⊎ Memᴰ s [] → X
since_start (inl p) = p
since_start (inr p) = absurd (Memᴰ.not-nil p)

-- ---- the end

-- of two established stations each holds the other's number
agreed : {l m : Log} (i r j k : ℕ) → Logs l m
    → Newest l.draws i × Held l i r × Held m r i → Newest m.draws j × Held m j k × Held l k j → (r ≡ j) × (k ≡ i)
agreed {l} {m} i r j k g h h' = (e, g.theirs.once j k i h'.1 (subst (λ (z : ℕ). Held m z i) e h.2))
  where
    go : Dec (rank m.draws j ≤ rank m.draws r) → r ≡ j
    go (yes le) = newest_only m.draws j r h'.0 le
    go (no lt) =
        let c : rank l.draws i ≤ rank l.draws k = g.cross r i k j h.2 h'.2 (omega arith) in
        let e' : k ≡ i = newest_only l.draws i k h.0 c in
        g.mine.once i r j h.1 (subst (λ (z : ℕ). Held l z j) e' h'.2)

    e : r ≡ j
    e = go (dec_le (rank m.draws j) (rank m.draws r))

abbrev pub ends : Model → List (List Event) → Side → Log
ends m lists = logs_after no_logs m (events_of m lists)

-- the windows are at most ω, the numbers at least γ apart
module _ (ω γ : ℕ) (hω : ω ≤ γ) (m : Model) (lists : List (List Event)) (h : HistoryBy γ m lists)
    (small : (x : Side) → (station_of x m).rcvwnd ≤ ω) where
  abbrev es : List Event
  es = events_of m lists

  hγ : 1 ≤ γ
  hγ = omega (arith, small A, window_positive (station_of A m) ((parts m h.start.sound).forms A))

  pub end_inv : (x : Side) → Inv ω (ends m lists) x (played_all m lists)
  end_inv x =
      rw all_played
      (seen_by ω (ends m lists) A x _
      (after_upheld ω γ hγ hω es m no_logs (start_inv ω m h.start small)
      (λ (y : Side). spaced_turned γ (draws y m es) (h.spaced y))))

  drew : (x : Side) (n : ℕ) → Memᴰ n (ends m lists x).draws → Memᴰ n (draws x m (events_of m lists))
  drew x n k = since_start (was_drawn x es m no_logs k)

  recorded : (x : Side) (i r : ℕ) → Held (ends m lists x) i r → Recorded x m (events_of m lists) i r
  recorded x i r k = since_start (was_recorded x es m no_logs i r k)

  one : (x : Side) → (station_of x (played_all m lists)).state ≡ Established
      → Memᴰ (station_of x (played_all m lists)).irs (draws (peer_of x) m (events_of m lists))
      × Recorded (peer_of x) m (events_of m lists) (station_of x (played_all m lists)).irs (station_of x (played_all m lists)).iss
  one x e =
      let b = end_inv x in
      let k = rw e at b.mine.state in
      (drew (peer_of x) _ (b.logs.mine.known _ _ k.1).1, recorded (peer_of x) _ _ k.2)

  agree : Agree m lists
  unfolding station_of
  agree = record {
    one = one;
    both = λ ea eb.
        let b = end_inv A in
        agreed _ _ _ _ b.logs (rw ea at b.mine.state) (rw eb at b.theirs.state);
  }

-- ---- agreement

pub window_is_enough : WindowIsEnough
window_is_enough = record { agree = λ γ m lists h. agree γ γ (omega arith) m lists h.history (λ x. omega (arith, h.windows x)) }

-- 65,536 is more than any window
pub established_agree : EstablishedAgree
established_agree = record {
  agree = λ m lists h.
      window_is_enough.agree spacing m lists
      (record { history = h; windows = λ x. omega (arith, h.start.windows x) });
}
