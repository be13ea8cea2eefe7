-- Refusals are given exactly when the table says. Assumes nothing.
use Rattle.std.specs.Prelude.{if◌then◌else◌}
use Prim.Native.Nat.{ℕ, ◌≤◌}
use mathlib.Core.Path.{◌≡◌, ◌∙◌}
use mathlib.Core.Bool.{Bool, true, false, not}
use mathlib.Core.List.{List, [], ◌∷◌}
use mathlib.Core.Logic.{◌⊎◌, ◌↔◌}
use native.Mathlib.Omega.{arith}
use borrow.Author.Tests.{not-false}
use Rattle.segment.specs.declared.Refusal.{Refusal}
use Rattle.segment.specs.Refusals.{number, Said, refused, given, Row, ByRows}
use Rattle.std.proofs.Common.{rules}
use Rattle.std.proofs.lemmas.Bool.Decides.{nat_tests, Decides-ltb}
use Rattle.station.specs.Forms.{formed}
use Rattle.station.specs.Outcomes.{Step}
use Rattle.station.specs.Events.{event_said}
use Rattle.station.specs.Theorems.{record_row, event_rows}
use Rattle.station.specs.declared.Station.{Station}
use Rattle.station.specs.declared.Event.{Event as Call}
use Rattle.station.proofs.Exact.{record_agrees, refusals_exact as station_refusals_exact}
use Rattle.model.specs.Links.{full, has_place, at_place}
use Rattle.model.specs.Step.{station_of, toward, mirrored, sound, Moved, moved, delivered, copied, lost, applied, step_said, model_after, reply_of}
use Rattle.model.specs.Play.{Run, play_said, model_played, totals_of}
use Rattle.model.specs.Theorems.{Mirrored, model_row, behind, model_rows, RefusalsExact}
use Rattle.model.specs.declared.Side.{Side}
use Rattle.model.specs.declared.Link.{Link}
use Rattle.model.specs.declared.Model.{Model}
use Rattle.model.specs.declared.Event.{Event}
use Rattle.model.specs.declared.Event.TheVariants.{Open, Listen, Abort, Resend, PowerCut, Deliver, Copy, Lose}
use Rattle.model.proofs.Laws.{is_formed}

-- ---- a check in a chain is a row

row_first : {A : Type 0} (b : Bool) (k n : ℕ) (C R : Type 0) (q : Said A) → (b ≡ true) ↔ C → (b ≡ false → (q ≡ refused n) ↔ R)
    → ((if b then refused k else q) ≡ refused n) ↔ (((k ≡ n) × C) ⊎ ((C → ⊥) × R))
row_first b k n C R q c r = grind (arith, nat_tests)

-- values are given by no row
row_none : {A : Type 0} (x : A) (n : ℕ) → (given x ≡ refused n) ↔ ByRows [] n
row_none x n = (λ e. cc, λ h. absurd h)

-- a row whose cause does not hold
row_off : (r : Row) (rows : List Row) (n : ℕ) → (r.cause → ⊥) → ByRows (r ∷ rows) n ↔ ByRows rows n
row_off r rows n off = search rules

-- ---- row 1

model_agrees : (m : Model) → (not (sound m) ≡ true) ↔ (model_row m).cause
unfolding sound mirrored Mirrored
model_agrees m = grind (arith, nat_tests, record_agrees m.a, record_agrees m.b)

row_1 : {A : Type 0} (m : Model) (q : Said A) (n : ℕ) (R : Type 0) → (sound m ≡ true → (q ≡ refused n) ↔ R)
    → ((if not (sound m) then refused 1 else q) ≡ refused n) ↔ (((1 ≡ n) × (model_row m).cause) ⊎ (((model_row m).cause → ⊥) × R))
row_1 m q n R f = row_first (not (sound m)) 1 n (model_row m).cause R q (model_agrees m) (λ e. f (not-false (sound m) e))

-- ---- the station's rows behind its row 1

moved_refused : (x : Side) (m : Model) (y : Said Step) (n : ℕ) → (moved x m y ≡ refused n) ↔ (y ≡ refused n)
unfolding moved
moved_refused x m y n = search rules

form_holds : (s : Station) → formed s ≡ true → (record_row s).cause → ⊥
form_holds s f h = grind (arith, nat_tests, record_agrees s)

behind_1 : (s : Station) (call : Call) (n : ℕ) → formed s ≡ true → ByRows (event_rows s call) n ↔ ByRows (behind (event_rows s call)) n
unfolding event_rows
behind_1 s (Call.Open k) n f = row_off (record_row s) (behind (event_rows s (Call.Open k))) n (form_holds s f)
behind_1 s Call.Listen n f = row_off (record_row s) (behind (event_rows s Call.Listen)) n (form_holds s f)
behind_1 s Call.Abort n f = row_off (record_row s) (behind (event_rows s Call.Abort)) n (form_holds s f)
behind_1 s Call.Resend n f = row_off (record_row s) (behind (event_rows s Call.Resend)) n (form_holds s f)
behind_1 s Call.PowerCut n f = row_off (record_row s) (behind (event_rows s Call.PowerCut)) n (form_holds s f)
behind_1 s (Call.Arrive g fresh) n f = row_off (record_row s) (behind (event_rows s (Call.Arrive g fresh))) n (form_holds s f)

-- what a station refuses of a model that 1 does not refuse
station_exact : (x : Side) (m rest : Model) (call : Call) (n : ℕ) → sound m ≡ true
    → (moved x rest (event_said (station_of x m) call) ≡ refused n) ↔ ByRows (behind (event_rows (station_of x m) call)) n
station_exact x m rest call n s =
    let a = moved_refused x rest (event_said (station_of x m) call) n in
    let b = station_refusals_exact.event (station_of x m) call n in
    let c = behind_1 (station_of x m) call n (is_formed x m s) in
    (λ e. c.0 (b.0 (a.0 e)), λ e. a.1 (b.1 (c.1 e)))

-- ---- the events

no_place : (l : Link) (n : ℕ) → (not (has_place l n) ≡ true) ↔ (l.count ≤ n)
unfolding has_place
no_place l n = grind (arith, nat_tests)

is_full : (l : Link) → (full l ≡ true) ↔ (32 ≤ l.count)
unfolding full
is_full l = grind (arith, nat_tests)

event_exact : (m : Model) (e : Event) (n : ℕ) → (step_said m e ≡ refused n) ↔ ByRows (model_rows m e) n
unfolding step_said applied delivered copied lost model_rows event_rows
event_exact m (Open x k) n = row_1 m _ n _ (station_exact x m m (Call.Open k) n)
event_exact m (Listen x) n = row_1 m _ n _ (station_exact x m m Call.Listen n)
event_exact m (Abort x) n = row_1 m _ n _ (station_exact x m m Call.Abort n)
event_exact m (Resend x) n = row_1 m _ n _ (station_exact x m m Call.Resend n)
event_exact m (PowerCut x) n = row_1 m _ n _ (station_exact x m m Call.PowerCut n)
event_exact m (Deliver x k fresh) n =
    row_1 m _ n _ (λ s. row_first _ 9 n _ _ _ (no_place (toward x m) k) (λ e. station_exact x m _ (Call.Arrive (at_place (toward x m) k) fresh) n s))
event_exact m (Copy x k) n =
    row_1 m _ n _
    (λ s. row_first _ 9 n _ _ _ (no_place (toward x m) k) (λ e. row_first _ 11 n _ _ _ (is_full (toward x m)) (λ e'. row_none _ n)))
event_exact m (Lose x k) n = row_1 m _ n _ (λ s. row_first _ 9 n _ _ _ (no_place (toward x m) k) (λ e. row_none _ n))

-- ---- nothing is changed

-- an answer that is a refusal was given for one
after_refusal : (m : Model) (y : Said Moved) (why : Refusal) → refused (number why) ≡ reply_of y → model_after m y ≡ m
after_refusal m y why e = search rules

played_refusal : (m : Model) (y : Said Run) (why : Refusal) → refused (number why) ≡ totals_of y → model_played m y ≡ m
played_refusal m y why e = search rules

pub refusals_exact : RefusalsExact
unfolding play_said
refusals_exact = record {
  event = event_exact;
  unchanged = λ m e after why t. t.model ∙ after_refusal m (step_said m e) why t.answer;
  whole = λ m n es k. row_1 m _ k _ (λ s. row_first _ 12 k _ _ _ (Decides-ltb 4096 n) (λ e. row_none _ k));
  unplayed = λ m n es after why t. t.model ∙ played_refusal m (play_said m n es) why t.report;
}
