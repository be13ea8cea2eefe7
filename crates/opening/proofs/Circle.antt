-- Arithmetic round the circle of 2^32. Assumes nothing.
use Prim.Native.Nat.{ℕ, ◌+◌, ◌-◌, ◌%◌, ◌<◌, ◌≤◌, ◌^◌}
use mathlib.Core.Path.{◌≡◌, ap, ◌∙◌}
use mathlib.Core.Logic.{◌⊎◌, inl, inr}
use native.Mathlib.Omega.{arith}
use native.Mathlib.Decide.{dec_lt, dec_le}
use Rattle.seq.specs.Seq.{plus, minus}

pub one_more : (a b : ℕ) → a < 2 ^ 32 → b < 2 ^ 32 → plus a 1 ≡ plus b 1 → a ≡ b
one_more a b h k e = omega arith

pub minus_self : (a : ℕ) → a < 2 ^ 32 → minus a a ≡ 0
minus_self a h = omega arith

pub next_in_window : (a w : ℕ) → 1 ≤ w → minus (plus a 1) (plus a 1) < w
next_in_window a w h = omega (arith, minus_self (plus a 1) (omega arith))

minus_ge : (a b : ℕ) → a < 2 ^ 32 → b ≤ a → minus a b ≡ a - b
minus_ge a b h k = omega arith

minus_lt : (a b : ℕ) → b < 2 ^ 32 → a < b → minus a b ≡ a + 2 ^ 32 - b
minus_lt a b h k = omega arith

-- a' is one more than a: as a sum, or round the circle
OneMore : ℕ → ℕ → Type 0
OneMore a a' = ((a' ≡ a + 1) × (a + 1 < 2 ^ 32)) ⊎ ((a' ≡ 0) × (a + 1 ≡ 2 ^ 32))

plus_cases : (a : ℕ) → a < 2 ^ 32 → OneMore a (plus a 1)
unfolding OneMore
plus_cases a h = go (dec_lt (a + 1) (2 ^ 32))
  where
    go : Dec (a + 1 < 2 ^ 32) → OneMore a (plus a 1)
    go (yes k) = inl (omega arith)
    go (no k) = inr (omega arith)

shifted : (a b a' b' : ℕ) → a < 2 ^ 32 → b < 2 ^ 32 → OneMore a a' → OneMore b b' → Dec (b ≤ a) → minus a' b' ≡ minus a b
unfolding OneMore
shifted a b a' b' ha hb (inl p) (inl q) (yes k) = omega (arith, minus_ge a b ha k, minus_ge a' b' (omega arith) (omega arith))
shifted a b a' b' ha hb (inl p) (inl q) (no k) = omega (arith, minus_lt a b hb (omega arith), minus_lt a' b' (omega arith) (omega arith))
shifted a b a' b' ha hb (inl p) (inr q) (yes k) = omega arith
shifted a b a' b' ha hb (inl p) (inr q) (no k) = omega (arith, minus_lt a b hb (omega arith), minus_ge a' b' (omega arith) (omega arith))
shifted a b a' b' ha hb (inr p) (inl q) (yes k) = omega (arith, minus_ge a b ha k, minus_lt a' b' (omega arith) (omega arith))
shifted a b a' b' ha hb (inr p) (inl q) (no k) = omega arith
shifted a b a' b' ha hb (inr p) (inr q) k = ap (λ (x : ℕ). (x + (2 ^ 32 - b')) % 2 ^ 32) p.0 ∙ omega arith

-- the distance of two numbers is that of the next ones
pub minus_next : (a b : ℕ) → a < 2 ^ 32 → b < 2 ^ 32 → minus (plus a 1) (plus b 1) ≡ minus a b
minus_next a b ha hb = shifted a b (plus a 1) (plus b 1) ha hb (plus_cases a ha) (plus_cases b hb) (dec_le b a)

-- what is γ ahead of b is at least γ - 1 ahead of the next
pub beyond_next : (γ a b : ℕ) → 1 ≤ γ → a < 2 ^ 32 → b < 2 ^ 32 → γ ≤ minus a b → γ ≤ minus a (plus b 1) + 1
unfolding OneMore
beyond_next γ a b hγ ha hb h = go (plus b 1) (plus_cases b hb) (dec_le b a)
  where
    go : (b' : ℕ) → OneMore b b' → Dec (b ≤ a) → γ ≤ minus a b' + 1
    go b' (inl q) (yes k) = omega (arith, minus_ge a b ha k, minus_ge a b' ha (omega (arith, minus_ge a b ha k)))
    go b' (inl q) (no k) = omega (arith, minus_lt a b hb (omega arith), minus_lt a b' (omega arith) (omega arith))
    go b' (inr q) (yes k) = omega arith
    go b' (inr q) (no k) = omega (arith, minus_lt a b hb (omega arith), minus_ge a b' ha (omega arith))
