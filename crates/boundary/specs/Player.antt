-- The player in numbers (01, "Two stations and their links"; docs/DECISIONS.md, "The boundary in numbers").
use Rattle.std.specs.Prelude.{ℕ, not, List, if◌then◌else◌}
use Rattle.segment.specs.Refusals.{Said, refused}
use Rattle.model.specs.Step.{Moved, step_said}
use Rattle.model.specs.Play.{Run, play_said}
use Rattle.numbers.specs.Links.{both_known, model_of}
use Rattle.events.specs.Lists.{is_event, event_at, is_list, count_of, events_at}
use Rattle.numbers.specs.declared.Model.{Model}
use Rattle.telling.specs.declared.Stepped.{Stepped}
use Rattle.telling.specs.declared.Played.{Played}
use Rattle.telling.specs.Told.{stepped_of, played_of}

-- one event in octets: 255 where it is none, 1 where a state or mark number names none, then 01's
abbrev pub octets_stepped : Model → List ℕ → Said Moved
octets_stepped m s =
    if not (is_event s) then refused 255 else
    if not (both_known m) then refused 1 else
    step_said (model_of m) (event_at s)

-- one event in octets
abbrev pub step_told : Model → List ℕ → Stepped
step_told m s = stepped_of m (octets_stepped m s)

-- a list in octets, played: 255 where it is none, 1 where a state or mark number names none, then 01's
abbrev pub octets_played : Model → List ℕ → Said Run
octets_played m s =
    if not (is_list s) then refused 255 else
    if not (both_known m) then refused 1 else
    play_said (model_of m) (count_of s) (events_at (count_of s) s)

-- the player over events in octets
abbrev pub play_told : Model → List ℕ → Played
play_told m s = played_of m (octets_played m s)
