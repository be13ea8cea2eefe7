-- Events to octets and back. Assumes nothing.
use Prim.Native.Nat.{ℕ, zero, suc, ◌+◌, ◌*◌, ◌/◌, ◌%◌, ◌<◌, ◌^◌}
use mathlib.Core.Path.{◌≡◌, refl, ap, ◌∙◌}
use mathlib.Core.Bool.{true}
use native.Mathlib.Omega.{arith}
use lib.Dec.{ltb}
use Rattle.segment.specs.Theorems.{Octets}
use Rattle.model.specs.declared.Side.{Side}
use Rattle.model.specs.declared.Side.TheVariants.{A, B}
use Rattle.model.specs.declared.Event.{Event}
use Rattle.model.specs.declared.Event.TheVariants.{Open, Listen, Abort, Resend, PowerCut, Deliver, Copy, Lose}
use Rattle.events.specs.Lists.{side_of, event_of, names_event, is_event, event_at, side_number, ten, octets_of_event, all_named, is_list}
use Rattle.events.specs.Theorems.{Fits, CrossesBack, Examples}

again32 : (n : ℕ) → (n / 16777216 * 256 + n / 65536 % 256) * 65536 + (n / 256 % 256 * 256 + n % 256) ≡ n
again32 n = omega arith

-- ten octets have their kind, side, place and number
at_ten : (kind side place number : ℕ) → event_at (ten kind side place number) ≡ event_of kind (side_of side) place number
unfolding event_at
at_ten kind side place number = rw (again32 place, again32 number)

-- ---- an event through octets

side_again : (x : Side) → side_of (side_number x) ≡ x
unfolding side_of side_number
side_again A = refl
side_again B = refl

side_named : (x : Side) → ltb (side_number x) 2 ≡ true
unfolding side_number
side_named A = refl
side_named B = refl

module _ (kind : ℕ) (side : Side) (place number : ℕ) where
  named : ltb kind 8 ≡ true → is_event (ten kind (side_number side) place number) ≡ true
  unfolding is_event names_event
  named h = rw (h, side_named side)

  through : event_at (ten kind (side_number side) place number) ≡ event_of kind side place number
  through = at_ten kind (side_number side) place number ∙ ap (λ (x : Side). event_of kind x place number) (side_again side)

event_again : (e : Event) → (is_event (octets_of_event e) ≡ true) × (event_at (octets_of_event e) ≡ e)
unfolding octets_of_event event_of
event_again (Open side number) = (named _ side 0 number refl, through _ side 0 number)
event_again (Listen side) = (named _ side 0 0 refl, through _ side 0 0)
event_again (Abort side) = (named _ side 0 0 refl, through _ side 0 0)
event_again (Resend side) = (named _ side 0 0 refl, through _ side 0 0)
event_again (PowerCut side) = (named _ side 0 0 refl, through _ side 0 0)
event_again (Deliver side place number) = (named _ side place number refl, through _ side place number)
event_again (Copy side place) = (named _ side place 0 refl, through _ side place 0)
event_again (Lose side place) = (named _ side place 0 refl, through _ side place 0)

-- ---- these are octets

module _ (kind : ℕ) (side : Side) (place number : ℕ) (hk : kind < 8) (hp : place < 2 ^ 32) (hn : number < 2 ^ 32) where
  side_octet : (x : Side) → side_number x < 256
  unfolding side_number
  side_octet A = omega arith
  side_octet B = omega arith

  ten_octets : Octets (ten kind (side_number side) place number)
  ten_octets zero = omega arith
  ten_octets (suc zero) = side_octet side
  ten_octets (suc (suc zero)) = omega arith
  ten_octets (suc (suc (suc zero))) = omega arith
  ten_octets (suc (suc (suc (suc zero)))) = omega arith
  ten_octets (suc (suc (suc (suc (suc zero))))) = omega arith
  ten_octets (suc (suc (suc (suc (suc (suc zero)))))) = omega arith
  ten_octets (suc (suc (suc (suc (suc (suc (suc zero))))))) = omega arith
  ten_octets (suc (suc (suc (suc (suc (suc (suc (suc zero)))))))) = omega arith
  ten_octets (suc (suc (suc (suc (suc (suc (suc (suc (suc zero))))))))) = omega arith
  ten_octets (suc (suc (suc (suc (suc (suc (suc (suc (suc (suc i)))))))))) = omega arith

event_octets : (e : Event) → Fits e → Octets (octets_of_event e)
unfolding octets_of_event
event_octets (Open x n) h = ten_octets _ x 0 n (omega arith) (omega arith) h
event_octets (Listen x) h = ten_octets _ x 0 0 (omega arith) (omega arith) (omega arith)
event_octets (Abort x) h = ten_octets _ x 0 0 (omega arith) (omega arith) (omega arith)
event_octets (Resend x) h = ten_octets _ x 0 0 (omega arith) (omega arith) (omega arith)
event_octets (PowerCut x) h = ten_octets _ x 0 0 (omega arith) (omega arith) (omega arith)
event_octets (Deliver x p n) h = ten_octets _ x p n (omega arith) h.0 h.1
event_octets (Copy x p) h = ten_octets _ x p 0 (omega arith) h (omega arith)
event_octets (Lose x p) h = ten_octets _ x p 0 (omega arith) h (omega arith)

-- ---- octets through an event

number_again : (n : ℕ) → n < 2 → side_number (side_of n) ≡ n
unfolding side_of side_number
number_again zero h = refl
number_again (suc zero) h = refl
number_again (suc (suc n)) h = omega arith

back : (kind side place number : ℕ) → octets_of_event (event_of kind (side_of side) place number) ≡ ten kind (side_number (side_of side)) place number
    → side < 2 → octets_of_event (event_at (ten kind side place number)) ≡ ten kind side place number
back kind side place number e h =
    ap octets_of_event (at_ten kind side place number) ∙ e ∙ ap (λ (x : ℕ). ten kind x place number) (number_again side h)

bare : (kind side : ℕ) → 0 < kind → kind < 5 → side < 2 → octets_of_event (event_at (ten kind side 0 0)) ≡ ten kind side 0 0
unfolding octets_of_event event_of
bare zero x l h = absurd (omega arith)
bare (suc zero) x l h = back 1 x 0 0 refl
bare (suc (suc zero)) x l h = back 2 x 0 0 refl
bare (suc (suc (suc zero))) x l h = back 3 x 0 0 refl
bare (suc (suc (suc (suc zero)))) x l h = back 4 x 0 0 refl
bare (suc (suc (suc (suc (suc k))))) x l h = absurd (omega arith)

pub crosses_back : CrossesBack
unfolding octets_of_event event_of
crosses_back = record {
  event = event_again;
  octets = event_octets;
  opening = λ side number. back 0 side 0 number refl;
  bare = bare;
  delivery = λ side place number. back 5 side place number refl;
  copy = λ side place. back 6 side place 0 refl;
  loss = λ side place. back 7 side place 0 refl;
}

-- ---- examples, computed

pub examples : Examples
unfolding side_of event_of names_event is_event event_at all_named is_list
examples = record {
  opens = refl;
  listens = refl;
  aborts = refl;
  resends = refl;
  power_cut = refl;
  delivers = refl;
  copies = refl;
  loses = refl;
  unnamed = (refl, refl);
  sized = (refl, refl);
  lists = (refl, refl, refl, refl);
}
