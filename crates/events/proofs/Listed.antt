-- Events in octets, one after another. Assumes nothing.
use Prim.Native.Nat.{ℕ, zero, suc, ◌+◌, ◌<◌, min}
use mathlib.Core.Path.{◌≡◌, refl, ap}
use mathlib.Core.Bool.{false}
use mathlib.Core.List.{List, [], ◌∷◌, ◌++◌}
use native.Mathlib.Numerals.{add-one}
use native.Mathlib.Omega.{arith}
use lib.ListN.{length, get_or, set, take, drop, replicate}
use lib.Seq.{take_at}
use lib.Dec.{ltb}
use Rattle.std.proofs.lemmas.Bool.Decides.{nat_tests}
use Rattle.std.proofs.lemmas.List.{get_or-take, length-take, length-replicate}
use Rattle.std.specs.List.{list_all}
use Rattle.std.specs.Simd.{first_chunks}
use Rattle.model.specs.declared.Side.TheVariants.{A}
use Rattle.model.specs.declared.Event.{Event}
use Rattle.model.specs.declared.Event.TheVariants.{Listen}
use Rattle.events.specs.Lists.{names_event, event_at, count_of, all_named, events_at, within, list_at}

-- ten octets are enough for an event
named_first : (s : List ℕ) → names_event (take 10 s) ≡ names_event s
unfolding names_event
named_first [] = refl
named_first (a ∷ []) = refl
named_first (a ∷ b ∷ s) = refl

event_first : (s : List ℕ) → event_at (take 10 s) ≡ event_at s
unfolding event_at
event_first s = grind (arith, get_or-take {A = ℕ})

-- all events name one where all chunks do
pub named_chunks : (n : ℕ) (s : List ℕ) → all_named n s ≡ list_all names_event (first_chunks 10 n s)
unfolding all_named
named_chunks zero s = refl
named_chunks (suc n) s = rw (named_first, named_chunks n (drop 10 s))

-- the place behind the events that are filled, filled with the next
pub filled_next : (i m : ℕ) (s : List ℕ) (start : List Event) (d : List ℕ) → i < m → i < length start
    → set (events_at i s ++ drop i start) i (event_at (get_or (first_chunks 10 m s) i d)) ≡ events_at (i + 1) s ++ drop (i + 1) start
unfolding events_at
filled_next i zero s start d h k = absurd (omega arith)
filled_next i (suc m) s [] d h k = absurd (omega arith)
filled_next zero (suc m) s (e ∷ start) d h k = rw event_first
filled_next (suc i) (suc m) s (e ∷ start) d h k =
    rw (add-one (suc i))
    (ap (λ (es : List Event). event_at s ∷ es) (rw add-one at (filled_next i m (drop 10 s) start d (omega arith) (omega arith))))

pub no_events : (s : List ℕ) → events_at 0 s ≡ []
unfolding events_at
no_events s = refl

-- as many as there are, or the limit
limited : (n : ℕ) → min n 4096 ≡ within n
limited n = grind (arith, nat_tests)

pub all_filled : (i : ℕ) (s : List ℕ) → i ≡ min (count_of s) 4096 → events_at i s ++ drop i (replicate 4096 (Listen A)) ≡ list_at s
unfolding list_at
all_filled i s e = rw (← limited, e)

-- what a loop over the chunks needs that fills a place with each chunk's event
pub ruleset filling = (no_events, filled_next, all_filled, get_or-take, length-take, length-replicate)

event_count : (n : ℕ) (s : List ℕ) → length (events_at n s) ≡ n
unfolding events_at
event_count zero s = refl
event_count (suc n) s = ap suc (event_count n (drop 10 s))

-- within the limit every event is there
pub listed_whole : (s : List ℕ) → ltb 4096 (count_of s) ≡ false → take (count_of s) (list_at s) ≡ events_at (count_of s) s
unfolding list_at
listed_whole s t = rw t (take_at (events_at (count_of s) s) _ (count_of s) (event_count (count_of s) s))
