-- What holds of a station and of a segment, by the logs, and of a station's step. Assumes nothing.
use Rattle.std.specs.Prelude.{if◌then◌else◌}
use Prim.Native.Nat.{ℕ}
use mathlib.Core.Path.{◌≡◌}
use mathlib.Core.Bool.{true, false}
use mathlib.Core.List.Memᴰ
use mathlib.Core.List.{List, [], ◌∷◌, ◌++◌}
use Rattle.seq.specs.Seq.{plus}
use Rattle.segment.specs.declared.Segment.{Segment}
use Rattle.station.specs.Sent.{has_ack, has_rst, has_syn, seg_seq, seg_ack}
use Rattle.station.specs.Outcomes.{Step}
use Rattle.station.specs.declared.State.{State}
use Rattle.station.specs.declared.State.TheVariants.{Closed, Listen, SynSent, SynReceived, Established}
use Rattle.station.specs.declared.Station.{Station}
use Rattle.opening.specs.History.{All}
use Rattle.opening.proofs.Numbers.{each_map, onto, Newest}
use Rattle.opening.proofs.Logs.{Pair, Log, Drew, Held, plus_pair, Logs, again_ok}

-- ---- stations

abbrev StateOk : State → ℕ → ℕ → Log → Log → Type 0
StateOk Closed i r l m = Unit
StateOk Listen i r l m = Unit
StateOk SynSent i r l m = Newest l.draws i × ((b : ℕ) → Held l i b → ⊥)
StateOk SynReceived i r l m = Newest l.draws i × Held l i r
StateOk Established i r l m = Newest l.draws i × Held l i r × Held m r i

-- a station by its own log and the peer's: the ISS is the newest, none or one IRS is with it, and an established peer recorded both
abbrev pub StationOk : Station → Log → Log → Type 0
StationOk s l m = StateOk s.state s.iss s.irs l m

abbrev pub pair_at : State → ℕ → ℕ → List Pair
pair_at Closed i r = []
pair_at Listen i r = []
pair_at SynSent i r = []
pair_at SynReceived i r = (i, r) ∷ []
pair_at Established i r = (i, r) ∷ []

-- the ISS and IRS that a record has
abbrev pub noted : Station → List Pair
noted s = pair_at s.state s.iss s.irs

-- a log after numbers are drawn, and the record is as it is then
abbrev pub grown : List ℕ → Station → Log → Log
grown d s l = record { draws = onto d l.draws; pairs = noted s ++ l.pairs }

-- ---- segments

-- a segment by its sender's log; nothing is asked of a reset
pub record SegmentOk (l : Log) (g : Segment) : Type 0 where
  pub of_syn : has_rst g ≡ false → has_syn g ≡ true → Drew l (seg_seq g)
  pub of_synack : has_rst g ≡ false → has_syn g ≡ true → has_ack g ≡ true → (r : ℕ) × (seg_ack g ≡ plus r 1) × Held l (seg_seq g) r
  pub of_ack : has_rst g ≡ false → has_syn g ≡ false → has_ack g ≡ true
      → (i : ℕ) × (r : ℕ) × (seg_seq g ≡ plus i 1) × (seg_ack g ≡ plus r 1) × Held l i r

-- a log that holds more
pub record More (l l' : Log) : Type 0 where
  pub drew : (i : ℕ) → Drew l i → Drew l' i
  pub held : (i r : ℕ) → Held l i r → Held l' i r

pub segment_more : {l l' : Log} → More l l' → (g : Segment) → SegmentOk l g → SegmentOk l' g
segment_more more g h = record {
  of_syn = λ a b. more.drew _ (h.of_syn a b);
  of_synack = λ a b c. let t = h.of_synack a b c in (t.0, t.1, more.held _ _ t.2);
  of_ack = λ a b c. let t = h.of_ack a b c in (t.0, t.1, t.2, t.3, more.held _ _ t.4);
}

pub station_more : {m m' : Log} (l : Log) (s : Station) → More m m' → StationOk s l m → StationOk s l m'
station_more {m} {m'} l s more = go s.state
  where
    go : (t : State) → StateOk t s.iss s.irs l m → StateOk t s.iss s.irs l m'
    go Closed h = tt
    go Listen h = tt
    go SynSent h = h
    go SynReceived h = h
    go Established h = (h.0, h.1, more.held _ _ h.2)

-- ---- steps

-- the number that a step draws
abbrev pub numbers : Step → List ℕ
numbers o = if o.drawn then o.next.iss ∷ [] else []

-- what holds after a step, by the log as it is then
pub record Upheld (l m : Log) (o : Step) : Type 0 where
  pub logs : Logs (grown (numbers o) o.next l) m
  pub state : StationOk o.next (grown (numbers o) o.next l) m
  pub reply : All (SegmentOk (grown (numbers o) o.next l)) o.sent

-- a step to what the logs allow as they are
pub rest : {l m : Log} (s : Station) (gs : List Segment) → Logs l m → StationOk s l m → All (SegmentOk l) gs
    → Upheld l m (record { next = s; sent = gs; drawn = false })
rest {l} {m} s gs logs h k = let t = go s.state h in record { logs = t.0; state = t.1; reply = t.2 }
  where
    after : State → Log
    after t = record { draws = l.draws; pairs = pair_at t s.iss s.irs ++ l.pairs }

    more : More l (plus_pair s.iss s.irs l)
    more = record { drew = λ _ h. h; held = λ _ _ h. Memᴰ.tail h }

    go : (t : State) → StateOk t s.iss s.irs l m
        → Logs (after t) m × StateOk t s.iss s.irs (after t) m × All (SegmentOk (after t)) gs
    go Closed h = (logs, tt, k)
    go Listen h = (logs, tt, k)
    go SynSent h = (logs, h, k)
    go SynReceived h = (again_ok s.iss s.irs logs h.1, (h.0, Memᴰ.tail h.1), each_map _ _ (segment_more more) gs k)
    go Established h = (again_ok s.iss s.irs logs h.1, (h.0, Memᴰ.tail h.1, h.2), each_map _ _ (segment_more more) gs k)
