-- A step keeps the forms. Assumes nothing.
use Rattle.std.specs.Prelude.{if◌then◌else◌}
use Prim.Native.Nat.{ℕ}
use mathlib.Core.Path.{◌≡◌, refl, subst}
use mathlib.Core.Bool.{Bool, true, false}
use Rattle.segment.specs.Refusals.{given}
use Rattle.segment.specs.Read.{segment_at}
use Rattle.std.proofs.Common.{rules}
use Rattle.station.specs.Forms.{formed, form_at, zeroed, opening, acknowledged, synchronized, with, closed_of, listen_of, syn_sent_of, received_of, established_of}
use Rattle.station.specs.Outcomes.{Step}
use Rattle.station.specs.Calls.{open_step, abort_step, resend_step}
use Rattle.station.specs.Arrival.{at_closed, at_listen, syn_at_syn_sent, at_syn_sent, outside, reset_to, ack_at_syn_received, ack_at_established, at_synchronized, arrival_at}
use Rattle.station.specs.Events.{event_said}
use Rattle.station.specs.Theorems.{KeepsForms}
use Rattle.station.proofs.Uniform.{event_step, event_past, octets_past}
use Rattle.station.specs.declared.Station.{Station}
use Rattle.station.specs.declared.Event.{Event}

-- a check has what each of its ends has, with what the check tells there
pub by_case : {A : Type 0} (P : A → Type 0) (b : Bool) {x y : A} → (b ≡ true → P x) → (b ≡ false → P y) → P (if b then x else y)
by_case P true f g = f refl
by_case P false f g = g refl

abbrev Formed : Station → Type 0
Formed s = formed s ≡ true

-- what holds of the record and of every form that a step can give it
pub record Everywhere (P : Station → Type 0) (s : Station) : Type 0 where
  pub stays : P s
  pub closed : P (closed_of s)
  pub listening : P (listen_of s)
  pub syn_sent : (iss : ℕ) → P (syn_sent_of s iss)
  pub received : (passive : Bool) (iss irs : ℕ) → P (received_of s passive iss irs)
  pub established : (passive : Bool) (iss irs : ℕ) → P (established_of s passive iss irs)

event_ok : (P : Station → Type 0) (s : Station) → Everywhere P s → (e : Event) → P (event_step s e).next
unfolding open_step abort_step resend_step arrival_at at_closed at_listen at_syn_sent syn_at_syn_sent at_synchronized outside ack_at_syn_received ack_at_established reset_to
event_ok P s h e = search rules

-- an event that is taken leads to what holds everywhere
pub event_has : (P : Station → Type 0) (s : Station) (e : Event) (step : Step) → (formed s ≡ true → Everywhere P s) → event_said s e ≡ given step → P step.next
event_has P s e step h g =
    let p = event_past s e step g in
    subst (λ (x : Step). P x.next) p.1 (event_ok P s (h p.0) e)

-- ---- the forms

all_formed : (s : Station) → formed s ≡ true → Everywhere Formed s
unfolding formed form_at zeroed opening acknowledged synchronized closed_of listen_of syn_sent_of received_of established_of with
all_formed s f = record {
  stays = f;
  closed = search rules;
  listening = search rules;
  syn_sent = λ iss. search rules;
  received = λ passive iss irs. search rules;
  established = λ passive iss irs. search rules;
}

pub keeps_forms : KeepsForms
keeps_forms = record {
  event = λ s e step g. event_has Formed s e step (all_formed s) g;
  octets = λ s src dst octets fresh step g.
      let p = octets_past s src dst octets fresh step g in
      subst (λ (x : Step). Formed x.next) p.1 (event_ok Formed s (all_formed s p.0) (Event.Arrive (segment_at src dst octets) fresh));
}
