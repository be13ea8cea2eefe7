-- An array filled from place 0 on with what a function makes of another's places. Assumes nothing.
use Prim.Native.Nat.{ℕ, zero, suc, ◌+◌, ◌<◌, ◌≤◌}
use mathlib.Core.Path.{◌≡◌, refl, ap}
use mathlib.Core.List.{List, [], ◌∷◌, ◌++◌, map}
use native.Mathlib.Numerals.{add-one}
use native.Mathlib.Omega.{arith}
use lib.ListN.{length, get_or, set, take, drop}
use Rattle.std.proofs.lemmas.List.{take_all, drop_all, append-nil}

module _ {A B : Type 0} (f : A → B) where
  -- the place behind those that are filled, filled with the next
  pub filled_next : (i : ℕ) (xs : List A) (start : List B) (d : A) → i < length xs → i < length start
      → set (map f (take i xs) ++ drop i start) i (f (get_or xs i d)) ≡ map f (take (i + 1) xs) ++ drop (i + 1) start
  filled_next i [] start d h k = absurd (omega arith)
  filled_next i (x ∷ xs) [] d h k = absurd (omega arith)
  filled_next zero (x ∷ xs) (y ∷ start) d h k = refl
  filled_next (suc i) (x ∷ xs) (y ∷ start) d h k =
      rw (add-one (suc i)) (ap (λ (ys : List B). f x ∷ ys) (rw add-one at (filled_next i xs start d (omega arith) (omega arith))))

  -- every place is filled
  pub all_filled : (i : ℕ) (xs : List A) (start : List B) → length xs ≤ i → length start ≤ i → map f (take i xs) ++ drop i start ≡ map f xs
  all_filled i xs start h k = rw (take_all i xs h, drop_all i start k) (append-nil (map f xs))

-- what a loop needs that fills an array with segments of the other kind
pub ruleset filling = (filled_next, all_filled)
