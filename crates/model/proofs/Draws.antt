-- A number is drawn where a station draws it, and is then its ISS. Assumes nothing.
use mathlib.Core.Path.{◌≡◌, refl}
use mathlib.Core.Bool.{Bool, true, false, not}
use mathlib.Core.List.{List}
use mathlib.Core.Logic.{◌↔◌}
use Rattle.segment.specs.declared.Segment.{Segment}
use Rattle.segment.specs.Refusals.{Said, refused, given}
use native.Mathlib.Omega.{arith}
use Rattle.std.proofs.Common.{rules}
use Rattle.std.proofs.lemmas.Bool.Decides.{nat_tests}
use Rattle.station.specs.Outcomes.{Step}
use Rattle.station.specs.Events.{event_said}
use Rattle.station.specs.Theorems.{Draws as Call-as-Draws, Offers}
use Rattle.station.specs.declared.Station.{Station}
use Rattle.station.specs.declared.Event.{Event as Call}
use Rattle.station.proofs.Keeps.{by_case}
use Rattle.station.proofs.Draws.{draws_exactly as call_draws_exactly}
use Rattle.model.specs.Links.{full, has_place, at_place}
use Rattle.model.specs.Step.{station_of, toward, with_station, sound, Moved, posted, moved, delivered, copied, lost, applied, step_said}
use Rattle.model.specs.Theorems.{Draws, Holds, DrawsExactly}
use Rattle.model.specs.declared.Side.{Side}
use Rattle.model.specs.declared.Model.{Model}
use Rattle.model.specs.declared.Event.{Event}
use Rattle.model.specs.declared.Event.TheVariants.{Open, Listen, Abort, Resend, PowerCut, Deliver, Copy, Lose}
use Rattle.model.proofs.Laws.{Gives, gives, refuses, same_station}

-- what is told of a number, where C says when one is drawn and H what it then is
record Tells (C : Type 0) (H : Model → Type 0) (z : Moved) : Type 0 where
  when : (z.drawn ≡ true) ↔ C
  then : z.drawn ≡ true → H z.model

-- ---- what is sent leaves the station and what was drawn

posted_drawn : (x : Side) (m : Model) (gs : List Segment) (drawn : Bool) → (posted x m gs drawn).drawn ≡ drawn
unfolding posted
posted_drawn x m gs drawn = search rules

posted_station : (x : Side) (m : Model) (gs : List Segment) (drawn : Bool) → station_of x (posted x m gs drawn).model ≡ station_of x m
unfolding posted
posted_station x m gs drawn = search (rules, same_station)

put_station : (x : Side) (m : Model) (s : Station) → station_of x (with_station x m s) ≡ s
unfolding station_of with_station
put_station x m s = search rules

-- ---- a station's call, and the other events

-- as the station says it of its call
abbrev ByCall : Side → Station → Call → Moved → Type 0
ByCall x s call = Tells (Call-as-Draws s call) (λ m. Offers call (station_of x m).iss)

said_draws : (x : Side) (rest : Model) (s : Station) (call : Call) (y : Said Step) → event_said s call ≡ y → Gives (ByCall x s call) (moved x rest y)
unfolding moved
said_draws x rest s call (refused n) e = refuses (ByCall x s call) n
said_draws x rest s call (given step) e =
    let m = with_station x rest step.next in
    let told : ByCall x s call (posted x m step.sent step.drawn) = record {
      when = rw (posted_drawn x m step.sent step.drawn) (call_draws_exactly.event s call step e);
      then = rw (posted_drawn x m step.sent step.drawn, posted_station x m step.sent step.drawn, put_station x rest step.next) (call_draws_exactly.iss s call step e);
    } in
    gives (ByCall x s call) (posted x m step.sent step.drawn) told

call_draws : (x : Side) (m rest : Model) (call : Call) → Gives (ByCall x (station_of x m) call) (moved x rest (event_said (station_of x m) call))
call_draws x m rest call = said_draws x rest (station_of x m) call _ refl

-- an event that draws nothing
still : {H : Model → Type 0} (z : Moved) → z.drawn ≡ false → Tells ⊥ H z
still z e = grind (arith, nat_tests)

-- ---- every event

-- as the model says it of its events
abbrev ByEvent : Model → Event → Moved → Type 0
ByEvent m e = Tells (Draws m e) (λ k. Holds k e)

applied_draws : (m : Model) (e : Event) → Gives (ByEvent m e) (applied m e)
unfolding applied delivered copied lost Draws Holds Call-as-Draws Offers
applied_draws m (Open x n) = call_draws x m m (Call.Open n)
applied_draws m (Listen x) = call_draws x m m Call.Listen
applied_draws m (Abort x) = call_draws x m m Call.Abort
applied_draws m (Resend x) = call_draws x m m Call.Resend
applied_draws m (PowerCut x) = call_draws x m m Call.PowerCut
applied_draws m (Deliver x n fresh) =
    by_case (Gives (ByEvent m (Deliver x n fresh))) (not (has_place (toward x m) n)) (λ e. refuses _ 9)
    (λ e. call_draws x m _ (Call.Arrive (at_place (toward x m) n) fresh))
applied_draws m (Copy x n) =
    by_case (Gives (ByEvent m (Copy x n))) (not (has_place (toward x m) n)) (λ e. refuses _ 9)
    (λ e. by_case (Gives (ByEvent m (Copy x n))) (full (toward x m)) (λ f. refuses _ 11) (λ f. gives _ _ (still _ refl)))
applied_draws m (Lose x n) =
    by_case (Gives (ByEvent m (Lose x n))) (not (has_place (toward x m) n)) (λ e. refuses _ 9) (λ e. gives _ _ (still _ refl))

event_draws : (m : Model) (e : Event) → Gives (ByEvent m e) (step_said m e)
unfolding step_said
event_draws m e = by_case (Gives (ByEvent m e)) (not (sound m)) (λ f. refuses _ 1) (λ f. applied_draws m e)

pub draws_exactly : DrawsExactly
draws_exactly = record { event = λ m e x g. (event_draws m e x g).when; iss = λ m e x g. (event_draws m e x g).then }
