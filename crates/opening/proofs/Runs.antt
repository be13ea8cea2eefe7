-- Runs: what the player leaves, and what was drawn and recorded along it. Assumes nothing.
use Prim.Native.Nat.{ℕ, ◌+◌, ◌≤◌}
use mathlib.Core.Path.{◌≡◌, refl, sym, ap, ◌∙◌, subst}
use mathlib.Core.Logic.{◌⊎◌, inl, inr}
use mathlib.Core.Bool.{true, false, not}
use mathlib.Core.List.Memᴰ
use mathlib.Core.List.{List, [], ◌∷◌, ◌++◌, append_assoc, append-nil, Memᴰ}
use native.Mathlib.Omega.{arith}
use lib.Dec.{ltb}
use lib.ListN.{length}
use Rattle.segment.specs.Refusals.{Said, refused, given}
use Rattle.station.specs.declared.State.{State}
use Rattle.station.specs.declared.State.TheVariants.{Closed, Listen, SynSent, SynReceived, Established}
use Rattle.station.specs.declared.Station.{Station}
use Rattle.model.specs.Step.{station_of, sound, Moved, step_said, model_after}
use Rattle.model.specs.Play.{Run, counted, run, begun, play_said, model_played}
use Rattle.model.specs.declared.Side.{Side}
use Rattle.model.specs.declared.Side.TheVariants.{A}
use Rattle.model.specs.declared.Model.{Model}
use Rattle.model.specs.declared.Event.{Event}
use Rattle.opening.specs.History.{played_all, unless_refused, events_of, next, side_of, drawn_at, draws, Records, Recorded, SpacedBy}
use Rattle.station.proofs.Keeps.{by_case}
use Rattle.opening.proofs.Numbers.{onto, onto-append, mem-onto, spaced_before}
use Rattle.opening.proofs.Logs.{Pair, Log, Drew, Held}
use Rattle.opening.proofs.Invariant.{noted, pair_at}
use Rattle.opening.proofs.Moves.{logged, Inv, seen_by, upholds}
use Rattle.opening.proofs.Sound.{next_sound}

-- ---- the model after events

abbrev pub after : Model → List Event → Model
after m [] = m
after m (e ∷ es) = after (next m e) es

after-append : (es fs : List Event) (m : Model) → after m (es ++ fs) ≡ after (after m es) fs
after-append [] fs m = refl
after-append (e ∷ es) fs m = after-append es fs (next m e)

pub after_sound : (es : List Event) (m : Model) → sound m ≡ true → sound (after m es) ≡ true
after_sound [] m h = h
after_sound (e ∷ es) m h = after_sound es (next m e) (next_sound m e h)

counted_model : (p : Run) (v : Said Moved) → (counted p v).model ≡ model_after p.model v
unfolding counted
counted_model p (refused n) = refl
counted_model p (given x) = refl

pub run_model : (es : List Event) (p : Run) → (run p es).model ≡ after p.model es
unfolding run
run_model [] p = refl
run_model (e ∷ es) p = run_model es (counted p (step_said p.model e)) ∙ rw counted_model

played_model : (m : Model) (es : List Event)
    → model_played m (play_said m (length es) es) ≡ after m (unless_refused (play_said m (length es) es) es)
unfolding play_said begun
played_model m es =
    by_case P (not (sound m)) (λ _. refl)
    (λ _. by_case P (ltb 4096 (length es)) (λ _. refl) (λ _. run_model es (begun m)))
  where
    P : Said Run → Type 0
    P v = model_played m v ≡ after m (unless_refused v es)

-- lists played one after another are the events of those that are not refused
pub all_played : (lists : List (List Event)) (m : Model) → played_all m lists ≡ after m (events_of m lists)
unfolding played_all events_of
all_played [] m = refl
all_played (es ∷ lists) m =
    let v = play_said m (length es) es in
    all_played lists (model_played m v)
    ∙ ap (λ (k : Model). after k (events_of (model_played m v) lists)) (played_model m es)
    ∙ sym (after-append (unless_refused v es) (events_of (model_played m v) lists) m)

events_append : (lists : List (List Event)) (es : List Event) (m : Model)
    → events_of m (lists ++ (es ∷ [])) ≡ events_of m lists ++ events_of (played_all m lists) (es ∷ [])
unfolding played_all events_of
events_append [] es m = refl
events_append (fs ∷ lists) es m =
    let v = play_said m (length fs) fs in
    rw (events_append lists es (model_played m v)) (sym (append_assoc (unless_refused v fs) _ _))

draws-append : (x : Side) (es fs : List Event) (m : Model) → draws x m (es ++ fs) ≡ draws x m es ++ draws x (after m es) fs
unfolding draws
draws-append x [] fs m = refl
draws-append x (e ∷ es) fs m = rw (draws-append x es fs (next m e)) (sym (append_assoc (drawn_at x m e) _ _))

-- the numbers where one list more is played
one_played : (m : Model) (es : List Event) (p : Run) → play_said m (length es) es ≡ given p → events_of m (es ∷ []) ≡ es
unfolding events_of
one_played m es p e = rw e (append-nil es)

pub draws_then : (x : Side) (lists : List (List Event)) (es : List Event) (m : Model) (p : Run)
    → play_said (played_all m lists) (length es) es ≡ given p
    → draws x m (events_of m (lists ++ (es ∷ []))) ≡ draws x m (events_of m lists) ++ draws x (played_all m lists) es
draws_then x lists es m p e =
    rw (events_append lists es m, one_played (played_all m lists) es p e, draws-append x (events_of m lists) es m, ← all_played lists m)

-- ---- events that are all taken, no segment turned away

abbrev pub Taken : Model → Event → Type 0
Taken m e = (v : Moved) × (step_said m e ≡ given v) × (v.turned ≡ false)

abbrev pub AllTaken : Model → List Event → Type 0
AllTaken m [] = Unit
AllTaken m (e ∷ es) = Taken m e × AllTaken (next m e) es

counted_totals : (p : Run) (e : Event) → Taken p.model e
    → let t = (counted p (step_said p.model e)).totals in
    (t.taken ≡ p.totals.taken + 1) × (t.refused ≡ p.totals.refused) × (t.turned ≡ p.totals.turned)
unfolding counted
counted_totals p e h = rw (h.1, h.2) (refl, refl, omega arith)

pub run_totals : (es : List Event) (p : Run) → AllTaken p.model es
    → let t = (run p es).totals in
    (t.taken ≡ p.totals.taken + length es) × (t.refused ≡ p.totals.refused) × (t.turned ≡ p.totals.turned)
unfolding run
run_totals [] p h = (omega arith, refl, refl)
run_totals (e ∷ es) p h =
    let c = counted_totals p e h.0 in
    let r = run_totals es (counted p (step_said p.model e)) (rw counted_model h.1) in
    (omega arith, r.1 ∙ c.1, r.2 ∙ c.2)

-- ---- the logs

abbrev pub logs_after : (Side → Log) → Model → List Event → Side → Log
logs_after L m [] = L
logs_after L m (e ∷ es) = logs_after (logged L (side_of e) m (step_said m e)) (next m e) es

-- their numbers are those drawn
logs_draws : (x : Side) (es : List Event) (m : Model) (L : Side → Log) → (logs_after L m es x).draws ≡ onto (draws x m es) (L x).draws
unfolding draws drawn_at
logs_draws x [] m L = refl
logs_draws x (e ∷ es) m L =
    logs_draws x es (next m e) (logged L (side_of e) m (step_said m e))
    ∙ sym (onto-append (drawn_at x m e) (draws x (next m e) es) (L x).draws)

pub was_drawn : (x : Side) (es : List Event) (m : Model) (L : Side → Log) {n : ℕ} → Drew (logs_after L m es x) n
    → Memᴰ n (draws x m es) ⊎ Drew (L x) n
was_drawn x es m L h = mem-onto (draws x m es) (L x).draws (rw logs_draws at h)

-- their pairs are those recorded
noted_records : (s : Station) {i r : ℕ} → Memᴰ {A = Pair} (i, r) (noted s) → Records s i r
noted_records s {i} {r} = go s.state refl
  where
    pair : Memᴰ {A = Pair} (i, r) ((s.iss, s.irs) ∷ []) → (s.iss ≡ i) × (s.irs ≡ r)
    pair h = let e = Memᴰ.eq_of_singleton h in (sym (ap (λ (p : Pair). p.0) e), sym (ap (λ (p : Pair). p.1) e))

    go : (t : State) → s.state ≡ t → Memᴰ {A = Pair} (i, r) (pair_at t s.iss s.irs) → Records s i r
    go Closed e h = absurd (Memᴰ.not-nil h)
    go Listen e h = absurd (Memᴰ.not-nil h)
    go SynSent e h = absurd (Memᴰ.not-nil h)
    go SynReceived e h = let p = pair h in (inl e, p.0, p.1)
    go Established e h = let p = pair h in (inr e, p.0, p.1)

recorded_now : (x : Side) (es : List Event) (m : Model) {i r : ℕ} → Records (station_of x m) i r → Recorded x m es i r
unfolding Recorded
recorded_now x [] m h = h
recorded_now x (e ∷ es) m h = inl h

pub was_recorded : (x : Side) (es : List Event) (m : Model) (L : Side → Log) (i r : ℕ) → Held (logs_after L m es x) i r
    → Recorded x m es i r ⊎ Held (L x) i r
unfolding Recorded
was_recorded x [] m L i r h = inr h
was_recorded x (e ∷ es) m L i r h = go (was_recorded x es (next m e) (logged L (side_of e) m (step_said m e)) i r h)
  where
    here : Memᴰ {A = Pair} (i, r) (noted (station_of x (next m e))) ⊎ Held (L x) i r → Recorded x m (e ∷ es) i r ⊎ Held (L x) i r
    here (inl k) = inl (inr (recorded_now x es (next m e) (noted_records (station_of x (next m e)) k)))
    here (inr k) = inr k

    go : Recorded x (next m e) es i r ⊎ Held (logged L (side_of e) m (step_said m e) x) i r → Recorded x m (e ∷ es) i r ⊎ Held (L x) i r
    go (inl k) = inl (inr k)
    go (inr k) = here (Memᴰ.append_cases (noted (station_of x (next m e))) k)

-- ---- a run upholds the invariant

module _ (ω γ : ℕ) (hγ : 1 ≤ γ) (hω : ω ≤ γ) where
  pub after_upheld : (es : List Event) (m : Model) (L : Side → Log) → Inv ω L A m
      → ((x : Side) → SpacedBy γ (onto (draws x m es) (L x).draws)) → Inv ω (logs_after L m es) A (after m es)
  unfolding draws drawn_at
  after_upheld [] m L h sp = h
  after_upheld (e ∷ es) m L h sp =
      after_upheld es (next m e) L' (seen_by ω L' (side_of e) A (next m e) (upholds ω γ hγ hω L m e (seen_by ω L A (side_of e) m h) now)) later
    where
      L' : Side → Log
      L' = logged L (side_of e) m (step_said m e)

      later : (x : Side) → SpacedBy γ (onto (draws x (next m e) es) (L' x).draws)
      later x = subst (SpacedBy γ) (onto-append (drawn_at x m e) (draws x (next m e) es) (L x).draws) (sp x)

      now : (x : Side) → SpacedBy γ (L' x).draws
      now x = spaced_before γ (draws x (next m e) es) (L' x).draws (later x)
