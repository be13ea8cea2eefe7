-- The lent calls (01, "A station's record": "The station record is lent by its owner and updated there").
use Rattle.std.specs.Prelude.{ℕ, ◌≡◌, Bool, List, Result, Err}
use Rattle.segment.specs.declared.Refusal.{Refusal}
use Rattle.segment.specs.declared.Segment.{Segment}
use Rattle.segment.specs.Refusals.{Said, refused, given, said_as}
use Rattle.station.specs.Outcomes.{Step, segments, record_after}
use Rattle.station.specs.Calls.{open_said, listen_said, abort_said, resend_said, power_cut_said}
use Rattle.station.specs.Arrival.{arrive_said, octets_said}
use Rattle.station.specs.declared.Station.{Station}
use Rattle.lent.specs.declared.Reply.{Reply}

-- what a lent call that is taken answers: what was sent, and whether the number offered was drawn
pub record Replied : Type 0 where
  pub sent : List Segment
  pub drawn : Bool

-- a step's answer, without the record
abbrev pub reply_of : Said Step → Said Replied
reply_of (refused n) = refused n
reply_of (given step) = given (record { sent = step.sent; drawn = step.drawn })

-- the values of a reply
abbrev pub replied : Reply → Replied
replied r = record { sent = segments r.sent; drawn = r.drawn }

-- the promise of a lent call: the answer, and the record at exit, after a refusal the one before it (the request's demand 1)
pub record Lent (before : Station) (x : Said Step) (after : Station) (r : Result Reply Refusal) : Type 0 where
  pub answer : said_as replied r ≡ reply_of x
  pub station : after ≡ record_after before x

-- where a call that says x refuses, the record at exit is the one before
abbrev pub Unchanged : (Station → Said Step) → Type 0
Unchanged x = (before after : Station) (why : Refusal) → Lent before (x before) after (Err why) → after ≡ before

-- each lent call: "Each refusal carries its number from the papers, and then the record .. [is] unchanged" (the request's demand 1)
pub record RefusedUnchanged : Type 0 where
  pub opens : (n : ℕ) → Unchanged (λ s. open_said s n)
  pub listens : Unchanged listen_said
  pub aborts : Unchanged abort_said
  pub resends : Unchanged resend_said
  pub power_cuts : Unchanged power_cut_said
  pub arrives : (g : Segment) (fresh : ℕ) → Unchanged (λ s. arrive_said s g fresh)
  pub octets_arrive : (src dst : ℕ) (octets : List ℕ) (fresh : ℕ) → Unchanged (λ s. octets_said s src dst octets fresh)

-- the promises leave one outcome (01, "How far a contract must go")
pub record OneOutcome : Type 0 where
  pub answers : (before : Station) (x : Said Step) (a a' : Station) (r r' : Result Reply Refusal) → Lent before x a r → Lent before x a' r' → (r ≡ r') × (a ≡ a')
