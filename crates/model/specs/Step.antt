-- One event of the model (01, "Two stations and their links"; its table, "Who meets which").
use Rattle.std.specs.Prelude.{ℕ, ◌≡◌, Bool, true, false, not, ◌&&◌, List, [], ◌∷◌, eqb, leb, if◌then◌else◌, Result}
use Rattle.segment.specs.declared.Segment.{Segment}
use Rattle.segment.specs.declared.Refusal.{Refusal}
use Rattle.segment.specs.Refusals.{Said, refused, given, said_as}
use Rattle.station.specs.declared.Station.{Station}
use Rattle.station.specs.declared.Event.TheVariants as Station
use Rattle.station.specs.Forms.{formed}
use Rattle.station.specs.Outcomes.{Step, segments}
use Rattle.station.specs.Events.{event_said}
use Rattle.model.specs.Links.{full, has_place, at_place, pushed, removed}
use Rattle.model.specs.declared.Side.{Side}
use Rattle.model.specs.declared.Side.TheVariants.{A, B}
use Rattle.model.specs.declared.Link.{Link}
use Rattle.model.specs.declared.Model.{Model}
use Rattle.model.specs.declared.Event.{Event}
use Rattle.model.specs.declared.Event.TheVariants.{Open, Listen, Abort, Resend, PowerCut, Deliver, Copy, Lose}
use Rattle.model.specs.declared.Told.{Told}
use Rattle.model.specs.declared.Next.{Next}

-- the other station
abbrev pub peer_of : Side → Side
peer_of A = B
peer_of B = A

-- the station of a side
unfoldable pub station_of : Side → Model → Station
station_of A m = m.a
station_of B m = m.b

-- the link towards a station
unfoldable pub toward : Side → Model → Link
toward A m = m.toa
toward B m = m.tob

-- the model with another station
unfoldable pub with_station : Side → Model → Station → Model
with_station A m s = record { a = s; b = m.b; toa = m.toa; tob = m.tob }
with_station B m s = record { a = m.a; b = s; toa = m.toa; tob = m.tob }

-- the model with another link towards a station
unfoldable pub with_toward : Side → Model → Link → Model
with_toward A m l = record { a = m.a; b = m.b; toa = l; tob = m.tob }
with_toward B m l = record { a = m.a; b = m.b; toa = m.toa; tob = l }

-- 1: "the two stations' endpoints do not mirror each other"
unfoldable pub mirrored : Model → Bool
mirrored m =
    eqb m.a.own m.b.peer && eqb m.a.ownport m.b.peerport
    && eqb m.a.peer m.b.own && eqb m.a.peerport m.b.ownport

-- not 1: both records of the forms, no "link count above 32", endpoints that mirror
unfoldable pub sound : Model → Bool
sound m = formed m.a && formed m.b && leb m.toa.count 32 && leb m.tob.count 32 && mirrored m

-- an event taken: the next model, the segments that the station sent, whether a number was drawn, whether a segment was turned away
pub record Moved : Type 0 where
  pub model : Model
  pub sent : List Segment
  pub drawn : Bool
  pub turned : Bool

-- the values of an event taken
abbrev pub moved_of : Next → Moved
moved_of x = record { model = x.model; sent = segments x.told.sent; drawn = x.told.drawn; turned = x.told.turned }

-- a link event taken: nothing sent
abbrev pub relinked : Side → Model → Link → Moved
relinked x m l = record { model = with_toward x m l; sent = []; drawn = false; turned = false }

-- what station x sends goes onto the link towards its peer: "A segment sent into a full link is turned away"
unfoldable pub posted : Side → Model → List Segment → Bool → Moved
posted x m [] drawn = record { model = m; sent = []; drawn = drawn; turned = false }
posted x m (g ∷ gs) drawn =
    if full (toward (peer_of x) m) then record { model = m; sent = g ∷ []; drawn = drawn; turned = true } else
    record { model = with_toward (peer_of x) m (pushed (toward (peer_of x) m) g); sent = g ∷ []; drawn = drawn; turned = false }

-- what the rules of station x say, said of the model
unfoldable pub moved : Side → Model → Said Step → Said Moved
moved x m (refused n) = refused n
moved x m (given step) = given (posted x (with_station x m step.next) step.sent step.drawn)

-- "deliver place n": 9, then what the station refuses: 5, 6, and then "one that is refused stays on its link"
unfoldable pub delivered : Side → Model → ℕ → ℕ → Said Moved
delivered x m n fresh =
    if not (has_place (toward x m) n) then refused 9 else
    moved x (with_toward x m (removed (toward x m) n)) (event_said (station_of x m) (Station.Arrive (at_place (toward x m) n) fresh))

-- "copy place n to the end": 9, 11
unfoldable pub copied : Side → Model → ℕ → Said Moved
copied x m n =
    if not (has_place (toward x m) n) then refused 9 else
    if full (toward x m) then refused 11 else
    given (relinked x m (pushed (toward x m) (at_place (toward x m) n)))

-- "lose place n": 9
unfoldable pub lost : Side → Model → ℕ → Said Moved
lost x m n =
    if not (has_place (toward x m) n) then refused 9 else
    given (relinked x m (removed (toward x m) n))

-- an event on a model that 1 does not refuse
unfoldable pub applied : Model → Event → Said Moved
applied m (Open x n) = moved x m (event_said (station_of x m) (Station.Open n))
applied m (Listen x) = moved x m (event_said (station_of x m) Station.Listen)
applied m (Abort x) = moved x m (event_said (station_of x m) Station.Abort)
applied m (Resend x) = moved x m (event_said (station_of x m) Station.Resend)
applied m (PowerCut x) = moved x m (event_said (station_of x m) Station.PowerCut)
applied m (Deliver x n fresh) = delivered x m n fresh
applied m (Copy x n) = copied x m n
applied m (Lose x n) = lost x m n

-- "a model event offered alone tests 1 first"
unfoldable pub step_said : Model → Event → Said Moved
step_said m e =
    if not (sound m) then refused 1 else
    applied m e

-- "A refused event changes nothing"
abbrev pub model_after : Model → Said Moved → Model
model_after m (refused n) = m
model_after m (given x) = x.model

-- what an event that is taken answers, besides the model
pub record Reply : Type 0 where
  pub sent : List Segment
  pub drawn : Bool
  pub turned : Bool

-- the values of an event's answer
abbrev pub told_values : Told → Reply
told_values t = record { sent = segments t.sent; drawn = t.drawn; turned = t.turned }

-- the number and values of each answer
abbrev pub said_answer : Result Told Refusal → Said Reply
said_answer r = said_as told_values r

-- an event's answer, without the model
abbrev pub reply_of : Said Moved → Said Reply
reply_of (refused n) = refused n
reply_of (given x) = given (record { sent = x.sent; drawn = x.drawn; turned = x.turned })

-- what a promise says of an event: the answer, and the model at exit
pub record Tells (before : Model) (x : Said Moved) (after : Model) (r : Result Told Refusal) : Type 0 where
  pub answer : said_answer r ≡ reply_of x
  pub model : after ≡ model_after before x

-- the promise of `step`
abbrev pub Steps : Model → Event → Model → Result Told Refusal → Type 0
Steps m e after r = Tells m (step_said m e) after r
