-- From any history with one end established and the other closed the nine steps establish both anew. Assumes nothing.
use Prim.Native.Nat.{ℕ, ◌≤◌}
use mathlib.Core.Path.{◌≡◌}
use mathlib.Core.Bool.{true}
use mathlib.Core.List.{List, [], ◌∷◌, ◌++◌}
use native.Mathlib.Omega.{arith}
use lib.ListN.{length}
use Rattle.seq.specs.Seq.{plus, minus}
use Rattle.segment.specs.Refusals.{given}
use Rattle.station.specs.Forms.{with, established_of}
use Rattle.model.specs.Links.{held}
use Rattle.model.specs.Step.{peer_of, station_of, toward, sound}
use Rattle.model.specs.Play.{Run, run, begun, play_said}
use Rattle.model.specs.declared.Side.{Side}
use Rattle.model.specs.declared.Model.{Model}
use Rattle.model.specs.declared.Event.{Event}
use Rattle.opening.specs.History.{played_all, events_of, draws, spacing}
use Rattle.opening.specs.Statement.{History, Ready, nine, Anew, NineSteps}
use Rattle.opening.proofs.Numbers.{last_beyond}
use Rattle.opening.proofs.Sides.{either_side}
use Rattle.opening.proofs.Sound.{parts}
use Rattle.opening.proofs.Forms.{established_form}
use Rattle.opening.proofs.Moves.{Inv}
use Rattle.opening.proofs.Runs.{after_sound, run_model, all_played, draws_then, run_totals}
use Rattle.opening.proofs.Agree.{ends, end_inv, established_agree}
use Rattle.opening.proofs.Nine.{Fit, nine_taken, nine_end, nine_draws, nine_peer_draws}

module _ (m : Model) (lists : List (List Event)) (x : Side) (n k f₁ f₂ f₃ f₄ f₅ : ℕ)
    (ready : Ready m lists x n k) where
  abbrev end : Model
  end = played_all m lists

  abbrev es : List Event
  es = nine x (length (held (toward x end))) (length (held (toward (peer_of x) end))) n k f₁ f₂ f₃ f₄ f₅

  end_sound : sound end ≡ true
  end_sound = rw all_played (after_sound (events_of m lists) m ready.history.start.sound)

  -- no window is above 65,535, one less than the spacing
  inv : (z : Side) → Inv 65535 (ends m lists) z end
  inv = end_inv 65535 spacing (omega arith) m lists ready.history (λ z. omega (arith, ready.history.start.windows z))

  -- the new number is outside the window of the established end, and its ACK is of another
  apart : ((station_of x end).rcvwnd ≤ minus n (station_of x end).rcvnxt) × ((station_of x end).rcvnxt ≡ plus n 1 → ⊥)
  apart =
      rw (established_form (station_of x end) ((parts end end_sound).forms x) ready.established).rcvnxt
      (last_beyond spacing _ (draws (peer_of x) m (events_of m lists)) n _ (omega arith) (omega (arith, (inv x).mine.window)) ready.spacedn
      ((established_agree.agree m lists ready.history).one x ready.established).0)

  fit : Fit x n end
  fit = record {
    sound = end_sound;
    sized = λ z. (inv z).theirs.link.sized;
    room = λ z. omega (arith, ready.room z);
    established = ready.established;
    closed = ready.closed;
    far = apart.0;
    other = apart.1;
  }

  p : Run
  p = run (begun end) es

  played : play_said end (length es) es ≡ given p
  unfolding play_said p
  played = rw end_sound

  anew : Anew x n k end es p
  unfolding p begun established_of with
  anew =
      let stands = nine_end x end n k f₁ f₂ f₃ f₄ f₅ fit in
      let totals = run_totals es (begun end) (nine_taken x end n k f₁ f₂ f₃ f₄ f₅ fit) in
      record {
        played = played;
        statex = rw (run_model es (begun end), stands.me);
        issx = rw (run_model es (begun end), stands.me);
        irsx = rw (run_model es (begun end), stands.me);
        statey = rw (run_model es (begun end), stands.you);
        issy = rw (run_model es (begun end), stands.you);
        irsy = rw (run_model es (begun end), stands.you);
        taken = totals.0;
        refused = totals.1;
        turned = totals.2;
        links = rw (run_model es (begun end)) (either_side _ x stands.inn.are stands.out.are);
        drawnx = nine_draws x end n k f₁ f₂ f₃ f₄ f₅ fit;
        drawny = nine_peer_draws x end n k f₁ f₂ f₃ f₄ f₅ fit;
      }

  history : History m (lists ++ (es ∷ []))
  history = record {
    start = ready.history.start;
    spaced =
        either_side _ x (rw (draws_then x lists es m p played, anew.drawnx) ready.spacedk)
        (rw (draws_then (peer_of x) lists es m p played, anew.drawny) ready.spacedn);
  }

  established_anew : ((q : Run) × Anew x n k end es q) × History m (lists ++ (es ∷ []))
  established_anew = ((p, anew), history)

pub nine_steps : NineSteps
nine_steps = record { establish = established_anew }
