-- What is told of an event and of a list in octets. Assumes nothing.
use Prim.Native.Nat.{ℕ}
use mathlib.Core.Path.{◌≡◌, ◌∙◌}
use native.Mathlib.Omega.{arith}
use Rattle.std.proofs.Common.{rules}
use Rattle.std.proofs.lemmas.Bool.Decides.{nat_tests}
use mathlib.Core.List.{List}
use lib.ListN.{take}
use Rattle.std.specs.Prelude.{Result}
use Rattle.segment.specs.declared.Refusal.{Refusal}
use Rattle.segment.specs.Refusals.{Said}
use Rattle.model.specs.declared.Model.{Model}
use Rattle.model.specs.declared.Event.{Event}
use Rattle.model.specs.declared.Totals.{Totals}
use Rattle.model.specs.declared.Told.{Told}
use Rattle.model.specs.Step.{Moved, Tells}
use Rattle.model.specs.Play.{Run, play_said, Reports, Plays}
use Rattle.events.specs.Lists.{count_of, events_at, list_at}
use Rattle.events.proofs.Listed.{listed_whole}
use Rattle.telling.specs.Told.{report_of, answer_of}

-- a report and the model beside it are the run that is promised
reported : (m : Model) (x : Said Run) (after : Model) (r : Result Totals Refusal) → Reports m x after r → report_of after r ≡ x
reported m x after r h = search rules

-- an answer and the model beside it are the event that is promised
pub answered : (m : Model) (x : Said Moved) (after : Model) (r : Result Told Refusal) → Tells m x after r → answer_of after r ≡ x
answered m x after r h = search rules

-- ---- the player's array

module _ (m : Model) (s : List ℕ) where
  played_there : play_said m (count_of s) (take (count_of s) (list_at s)) ≡ play_said m (count_of s) (events_at (count_of s) s)
  unfolding play_said
  played_there = grind (arith, nat_tests, listed_whole s)

  -- a list past the limit is refused whatever the events, and one within it is there whole
  pub played_whole : (n : ℕ) (es : List Event) (after : Model) (r : Result Totals Refusal) → es ≡ list_at s → n ≡ count_of s → Plays m n (take n es) after r
      → report_of after r ≡ play_said m (count_of s) (events_at (count_of s) s)
  played_whole n es after r e k h =
      reported m (play_said m (count_of s) (take (count_of s) (list_at s))) after r (rw (e, k) at h) ∙ played_there
