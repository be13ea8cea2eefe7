-- Events and lists keep what 1 tests. Assumes nothing.
use Prim.Native.Nat.{ℕ, ◌≤◌, ◌<◌}
use mathlib.Core.Path.{◌≡◌, refl, subst}
use mathlib.Core.Bool.{Bool, true, false, not}
use mathlib.Core.List.{List, [], ◌∷◌}
use native.Mathlib.Omega.{arith}
use lib.Dec.{ltb}
use borrow.Author.Tests.{not-false}
use Rattle.std.proofs.Common.{rules}
use Rattle.std.proofs.lemmas.Bool.Decides.{nat_tests}
use Rattle.segment.specs.declared.Segment.{Segment}
use Rattle.segment.specs.Refusals.{Said, refused, given}
use Rattle.station.specs.Forms.{formed, with, closed_of, listen_of, syn_sent_of, received_of, established_of}
use Rattle.station.specs.Outcomes.{Step}
use Rattle.station.specs.Events.{event_said}
use Rattle.station.specs.declared.Station.{Station}
use Rattle.station.specs.declared.Event.{Event as Call}
use Rattle.station.proofs.Keeps.{by_case, Everywhere, event_has, keeps_forms as station_keeps_forms}
use Rattle.model.specs.Links.{full, has_place, at_place, pushed, removed}
use Rattle.model.specs.Step.{station_of, toward, with_station, with_toward, mirrored, sound, Moved, posted, moved, delivered, copied, lost, applied, step_said, model_after}
use Rattle.model.specs.Play.{Run, counted, run, begun, play_said}
use Rattle.model.specs.Theorems.{KeepsForms}
use Rattle.model.specs.declared.Side.{Side}
use Rattle.model.specs.declared.Link.{Link}
use Rattle.model.specs.declared.Model.{Model}
use Rattle.model.specs.declared.Event.{Event}
use Rattle.model.specs.declared.Event.TheVariants.{Open, Listen, Abort, Resend, PowerCut, Deliver, Copy, Lose}
use Rattle.model.proofs.Laws.{within, Gives, gives, refuses, same_station}

abbrev Ok : Model → Type 0
Ok m = sound m ≡ true

-- ---- another link, another station

link_ok : (x : Side) (m : Model) (l : Link) → Ok m → l.count ≤ 32 → Ok (with_toward x m l)
unfolding with_toward mirrored sound
link_ok x m l s h = search rules

-- "endpoints and window stay"
record Ends (s t : Station) : Type 0 where
  own : t.own ≡ s.own
  ownport : t.ownport ≡ s.ownport
  peer : t.peer ≡ s.peer
  peerport : t.peerport ≡ s.peerport

ends : (s : Station) → Everywhere (Ends s) s
unfolding closed_of listen_of syn_sent_of received_of established_of with
ends s = record {
  stays = search rules;
  closed = search rules;
  listening = search rules;
  syn_sent = λ iss. search rules;
  received = λ passive iss irs. search rules;
  established = λ passive iss irs. search rules;
}

station_ok : (x : Side) (m : Model) (t : Station) → Ok m → formed t ≡ true → Ends (station_of x m) t → Ok (with_station x m t)
unfolding station_of with_station mirrored sound
station_ok x m t s f e = search rules

-- ---- what is sent

pushed_ok : (x : Side) (m : Model) (g : Segment) → Ok m → full (toward x m) ≡ false → Ok (with_toward x m (pushed (toward x m) g))
unfolding pushed full
pushed_ok x m g s f = let h : (toward x m).count < 32 = grind (arith, nat_tests) in link_ok x m _ s (omega arith)

removed_ok : (x : Side) (m : Model) (n : ℕ) → Ok m → Ok (with_toward x m (removed (toward x m) n))
unfolding removed
removed_ok x m n s = let h = within x m s in link_ok x m _ s (omega arith)

posted_ok : (x : Side) (m : Model) (gs : List Segment) (drawn : Bool) → Ok m → Ok (posted x m gs drawn).model
unfolding posted
posted_ok x m gs drawn s = search (rules, pushed_ok)

-- ---- each event

-- every way of an event leaves a model that is ok
abbrev Kept : Moved → Type 0
Kept z = Ok z.model

said_ok : (x : Side) (rest : Model) (y : Said Step) → ((step : Step) → y ≡ given step → Ok (with_station x rest step.next)) → Gives Kept (moved x rest y)
unfolding moved
said_ok x rest (refused n) h = refuses Kept n
said_ok x rest (given step) h = gives Kept _ (posted_ok x _ step.sent step.drawn (h step refl))

moved_ok : (x : Side) (m rest : Model) (call : Call) → Ok rest → station_of x rest ≡ station_of x m → Gives Kept (moved x rest (event_said (station_of x m) call))
moved_ok x m rest call s same =
    said_ok x rest _
    (λ step e. station_ok x rest step.next s (station_keeps_forms.event (station_of x m) call step e)
    (rw same (event_has (Ends (station_of x m)) (station_of x m) call step (λ f. ends (station_of x m)) e)))

applied_ok : (m : Model) (e : Event) → Ok m → Gives Kept (applied m e)
unfolding applied delivered copied lost
applied_ok m (Open x n) s = moved_ok x m m (Call.Open n) s refl
applied_ok m (Listen x) s = moved_ok x m m Call.Listen s refl
applied_ok m (Abort x) s = moved_ok x m m Call.Abort s refl
applied_ok m (Resend x) s = moved_ok x m m Call.Resend s refl
applied_ok m (PowerCut x) s = moved_ok x m m Call.PowerCut s refl
applied_ok m (Deliver x n fresh) s =
    by_case (Gives Kept) (not (has_place (toward x m) n)) (λ e. refuses Kept 9)
    (λ e. moved_ok x m _ (Call.Arrive (at_place (toward x m) n) fresh) (removed_ok x m n s) (same_station x x m _))
applied_ok m (Copy x n) s =
    by_case (Gives Kept) (not (has_place (toward x m) n)) (λ e. refuses Kept 9)
    (λ e. by_case (Gives Kept) (full (toward x m)) (λ f. refuses Kept 11) (λ f. gives Kept _ (pushed_ok x m (at_place (toward x m) n) s f)))
applied_ok m (Lose x n) s =
    by_case (Gives Kept) (not (has_place (toward x m) n)) (λ e. refuses Kept 9) (λ e. gives Kept _ (removed_ok x m n s))

event_ok : (m : Model) (e : Event) → Gives Kept (step_said m e)
unfolding step_said
event_ok m e = by_case (Gives Kept) (not (sound m)) (λ f. refuses Kept 1) (λ f. applied_ok m e (not-false (sound m) f))

-- ---- a list

after_ok : (m : Model) (y : Said Moved) → Ok m → Gives Kept y → Ok (model_after m y)
after_ok m (refused n) s h = s
after_ok m (given x) s h = h x refl

run_ok : (p : Run) (es : List Event) → Ok p.model → Ok (run p es).model
unfolding run counted
run_ok p [] s = s
run_ok p (e ∷ es) s = run_ok (counted p (step_said p.model e)) es (after_ok p.model (step_said p.model e) s (event_ok p.model e))

abbrev Plays : Said Run → Type 0
Plays y = (p : Run) → y ≡ given p → Ok p.model

plays : (q : Run) → Ok q.model → Plays (given q)
plays q s p e = let w : q ≡ p = cc in subst (λ (r : Run). Ok r.model) w s

not_played : (n : ℕ) → Plays (refused n)
not_played n p e = cc

whole_ok : (m : Model) (n : ℕ) (es : List Event) → Plays (play_said m n es)
unfolding play_said begun
whole_ok m n es =
    by_case Plays (not (sound m)) (λ f. not_played 1)
    (λ f. by_case Plays (ltb 4096 n) (λ g. not_played 12) (λ g. plays _ (run_ok _ es (not-false (sound m) f))))

pub keeps_forms : KeepsForms
keeps_forms = record { event = event_ok; whole = whole_ok }
