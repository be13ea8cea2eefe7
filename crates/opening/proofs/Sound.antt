-- A step keeps endpoints and window, and a sound model stays sound. Assumes nothing.
use Prim.Native.Nat.{◌≤◌}
use mathlib.Core.Path.{◌≡◌, refl}
use mathlib.Core.Bool.{true}
use borrow.Author.Tests.{eqb-true, leb-true}
use Rattle.segment.specs.Refusals.{Said, refused, given}
use Rattle.station.specs.Forms.{formed, with, closed_of, listen_of, syn_sent_of, received_of, established_of}
use Rattle.station.specs.Outcomes.{Step}
use Rattle.station.specs.Events.{event_said}
use Rattle.station.specs.declared.Station.{Station}
use Rattle.station.specs.declared.Event as StationEvent
use Rattle.station.proofs.Keeps.{Everywhere, event_has}
use Rattle.model.specs.Step.{peer_of, station_of, toward, mirrored, sound, Moved, step_said, model_after}
use Rattle.model.specs.declared.Side.{Side}
use Rattle.model.specs.declared.Side.TheVariants.{A, B}
use Rattle.model.specs.declared.Model.{Model}
use Rattle.model.specs.declared.Event.{Event}
use Rattle.model.proofs.Keeps.{keeps_forms}
use Rattle.opening.specs.History.{next}
use Rattle.opening.proofs.Checks.{and_l, and_r}
use Rattle.opening.proofs.Forms.{Facing, facing_turned}
use Rattle.opening.proofs.Sides.{by_side}

-- ---- a step keeps endpoints and window: CLOSED has nothing else

kept : (s : Station) → Everywhere (λ (t : Station). closed_of t ≡ closed_of s) s
unfolding closed_of listen_of syn_sent_of received_of established_of with
kept s = record {
  stays = refl;
  closed = refl;
  listening = refl;
  syn_sent = λ iss. refl;
  received = λ passive iss irs. refl;
  established = λ passive iss irs. refl;
}

pub event_kept : (s : Station) (e : StationEvent.Event) (o : Step) → event_said s e ≡ given o → closed_of o.next ≡ closed_of s
event_kept s e o g = event_has (λ (t : Station). closed_of t ≡ closed_of s) s e o (λ f. kept s) g

-- ---- the parts of soundness

pub record Parts (m : Model) : Type 0 where
  pub forms : (x : Side) → formed (station_of x m) ≡ true
  pub few : (x : Side) → (toward x m).count ≤ 32
  pub facing : Facing m.a m.b

pub facing_at : (x : Side) (m : Model) → Parts m → Facing (station_of x m) (station_of (peer_of x) m)
unfolding station_of
facing_at A m p = p.facing
facing_at B m p = facing_turned m.a m.b p.facing

pub parts : (m : Model) → sound m ≡ true → Parts m
unfolding sound mirrored station_of toward
parts m h = record {
  forms = by_side _ (search (and_l, and_r)) (search (and_l, and_r));
  few = by_side _ (search (and_l, and_r, leb-true)) (search (and_l, and_r, leb-true));
  facing = search (and_l, and_r, eqb-true);
}

-- ---- events

pub next_sound : (m : Model) (e : Event) → sound m ≡ true → sound (next m e) ≡ true
next_sound m e h = go (step_said m e) refl
  where
    go : (said : Said Moved) → step_said m e ≡ said → sound (model_after m said) ≡ true
    go (refused n) q = h
    go (given x) q = keeps_forms.event m e x q
