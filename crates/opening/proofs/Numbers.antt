-- Lists of numbers drawn, newest first: their spacing, and how old a number is. Assumes nothing.
use Prim.Native.Nat.{ℕ, suc, ◌<◌, ◌≤◌, ◌^◌}
use mathlib.Core.Path.{◌≡◌, refl, sym, ◌∙◌, subst}
use mathlib.Core.Logic.{◌⊎◌, inl, inr}
use mathlib.Core.Bool.{Bool, true, false, cond}
use mathlib.Core.List.Memᴰ
use mathlib.Core.List.{List, [], ◌∷◌, ◌++◌, Memᴰ}
use native.Mathlib.Omega.{arith}
use lib.Dec.{eqb}
use lib.ListN.{length}
use borrow.Author.Tests.{eqb-true, eq-eqb, ne_eqb}
use Rattle.seq.specs.Seq.{plus, minus}
use Rattle.opening.specs.History.{ApartBy, All, SpacedBy}
use Rattle.opening.proofs.Circle.{one_more, minus_self, beyond_next}

-- ---- every element

module _ {S : Type 0} (P : S → Type 0) where
  pub each_append : (l k : List S) → All P l → All P k → All P (l ++ k)
  each_append [] k h h' = h'
  each_append (x ∷ l) k h h' = (h.0, each_append l k h.1 h')

  pub each_map : (Q : S → Type 0) → ((s : S) → P s → Q s) → (l : List S) → All P l → All Q l
  each_map Q f [] h = tt
  each_map Q f (x ∷ l) h = (f x h.0, each_map Q f l h.1)

  each_at : {s : S} {l : List S} → All P l → Memᴰ s l → P s
  each_at h (Memᴰ.head e) = subst P (sym e) h.0
  each_at h (Memᴰ.tail m) = each_at h.1 m

-- ---- spacing by γ

pub spaced_lt : (γ : ℕ) (ns : List ℕ) {n : ℕ} → SpacedBy γ ns → Memᴰ n ns → n < 2 ^ 32
spaced_lt γ [] sp m = absurd (Memᴰ.not-nil m)
spaced_lt γ (k ∷ ns) sp (Memᴰ.head e) = rw e sp.0
spaced_lt γ (k ∷ ns) sp (Memᴰ.tail m) = spaced_lt γ ns sp.2 m

-- two numbers of a spaced list that are near are one
pub spaced_near : (γ : ℕ) (ns : List ℕ) (x y : ℕ) → SpacedBy γ ns → Memᴰ x ns → Memᴰ y ns → minus x y < γ → x ≡ y
spaced_near γ [] x y sp m k h = absurd (Memᴰ.not-nil m)
spaced_near γ (z ∷ ns) x y sp m k h =
    go (λ (a : Memᴰ x ns) (b : Memᴰ y ns). spaced_near γ ns x y sp.2 a b h) (Memᴰ.cases_cons m) (Memᴰ.cases_cons k)
  where
    go : (Memᴰ x ns → Memᴰ y ns → x ≡ y) → (x ≡ z) ⊎ Memᴰ x ns → (y ≡ z) ⊎ Memᴰ y ns → x ≡ y
    go below (inl e) (inl e') = e ∙ sym e'
    go below (inl e) (inr b) = absurd (omega (arith, each_at (λ (v : ℕ). ApartBy γ x v) (rw (← e) at sp.1) b))
    go below (inr a) (inl e') = absurd (omega (arith, each_at (λ (v : ℕ). ApartBy γ y v) (rw (← e') at sp.1) a))
    go below (inr a) (inr b) = below a b

-- a new number is none of those before it
pub spaced_new : (γ : ℕ) (ns : List ℕ) (n : ℕ) → 1 ≤ γ → SpacedBy γ (n ∷ ns) → Memᴰ n ns → ⊥
spaced_new γ ns n hγ sp m = omega (arith, minus_self n sp.0, each_at (ApartBy γ n) sp.1 m)

-- a number drawn last is apart from those before it, and so from a window behind any of them
spaced_last : (γ : ℕ) (ns : List ℕ) (n r : ℕ) → SpacedBy γ (ns ++ (n ∷ [])) → Memᴰ r ns → ApartBy γ r n
spaced_last γ [] n r sp m = absurd (Memᴰ.not-nil m)
spaced_last γ (z ∷ ns) n r sp (Memᴰ.head e) =
    subst (λ (v : ℕ). ApartBy γ v n) (sym e) (each_at (ApartBy γ z) sp.1 (Memᴰ.append_right ns (Memᴰ.head refl)))
spaced_last γ (z ∷ ns) n r sp (Memᴰ.tail m) = spaced_last γ ns n r sp.2 m

pub last_beyond : (γ w : ℕ) (ns : List ℕ) (n r : ℕ) → 1 ≤ γ → w < γ → SpacedBy γ (ns ++ (n ∷ [])) → Memᴰ r ns
    → (w ≤ minus n (plus r 1)) × (plus r 1 ≡ plus n 1 → ⊥)
last_beyond γ w ns n r hγ hw sp m =
    let a = spaced_last γ ns n r sp m in
    let n-lt = spaced_lt γ (ns ++ (n ∷ [])) sp (Memᴰ.append_right ns (Memᴰ.head refl)) in
    let r_lt = spaced_lt γ (ns ++ (n ∷ [])) sp (Memᴰ.append_left (n ∷ []) m) in
    (omega (arith, beyond_next γ n r hγ n-lt r_lt a.1), λ e. omega (arith, minus_self n n-lt, rw (one_more r n r_lt n-lt e) at a.0))

-- ---- from first drawn to newest first

abbrev pub onto : List ℕ → List ℕ → List ℕ
onto [] d = d
onto (x ∷ f) d = onto f (x ∷ d)

pub onto-append : (f g d : List ℕ) → onto (f ++ g) d ≡ onto g (onto f d)
onto-append [] g d = refl
onto-append (x ∷ f) g d = onto-append f g (x ∷ d)

pub mem-onto : (f d : List ℕ) {x : ℕ} → Memᴰ x (onto f d) → Memᴰ x f ⊎ Memᴰ x d
mem-onto [] d h = inr h
mem-onto (y ∷ f) d {x} h = go (mem-onto f (y ∷ d) h)
  where
    last : (x ≡ y) ⊎ Memᴰ x d → Memᴰ x (y ∷ f) ⊎ Memᴰ x d
    last (inl e) = inl (Memᴰ.head e)
    last (inr k) = inr k

    go : Memᴰ x f ⊎ Memᴰ x (y ∷ d) → Memᴰ x (y ∷ f) ⊎ Memᴰ x d
    go (inl k) = inl (Memᴰ.tail k)
    go (inr k) = last (Memᴰ.cases_cons k)

module _ (γ : ℕ) where
  pub spaced_before : (f d : List ℕ) → SpacedBy γ (onto f d) → SpacedBy γ d
  spaced_before [] d h = h
  spaced_before (x ∷ f) d h = (spaced_before f (x ∷ d) h).2

  spaced_onto : (f d : List ℕ) → SpacedBy γ f → SpacedBy γ d → All (λ (x : ℕ). All (ApartBy γ x) d) f → SpacedBy γ (onto f d)
  spaced_onto [] d hf hd h = hd
  spaced_onto (x ∷ f) d hf hd h = spaced_onto f (x ∷ d) hf.2 (hf.0, h.0, hd) (both f hf.1 h.1)
    where
      both : (g : List ℕ) → All (ApartBy γ x) g → All (λ (z : ℕ). All (ApartBy γ z) d) g → All (λ (z : ℕ). All (ApartBy γ z) (x ∷ d)) g
      both [] p q = tt
      both (z ∷ g) p q = (((p.0.1, p.0.0), q.0), both g p.1 q.1)

  pub spaced_turned : (f : List ℕ) → SpacedBy γ f → SpacedBy γ (onto f [])
  spaced_turned f h = spaced_onto f [] h tt (none f)
    where
      none : (g : List ℕ) → All (λ (x : ℕ). Unit) g
      none [] = tt
      none (x ∷ g) = (tt, none g)

-- ---- age

-- the place of a number, newest first: the oldest has 1, one that is not there 0
abbrev pub rank : List ℕ → ℕ → ℕ
rank [] x = 0
rank (y ∷ d) x = cond (eqb x y) (suc (length d)) (rank d x)

abbrev pub Newest : List ℕ → ℕ → Type 0
Newest [] i = ⊥
Newest (x ∷ d) i = i ≡ x

rank_le : (d : List ℕ) (x : ℕ) → rank d x ≤ length d
rank_le [] x = omega arith
rank_le (y ∷ d) x = go (eqb x y) (rank_le d x)
  where
    go : (b : Bool) → rank d x ≤ length d → cond b (suc (length d)) (rank d x) ≤ suc (length d)
    go true h = omega arith
    go false h = omega arith

pub rank_newest : (d : List ℕ) (i x : ℕ) → Newest d i → rank d x ≤ rank d i
rank_newest [] i x h = absurd h
rank_newest (y ∷ d) i x h = rw (eq-eqb i y h) (rank_le (y ∷ d) x)

pub newest_only : (d : List ℕ) (i x : ℕ) → Newest d i → rank d i ≤ rank d x → x ≡ i
newest_only [] i x h k = absurd h
newest_only (y ∷ d) i x h k = go (eqb x y) refl (rw (eq-eqb i y h) at k)
  where
    go : (b : Bool) → eqb x y ≡ b → suc (length d) ≤ cond b (suc (length d)) (rank d x) → x ≡ i
    go true e k' = eqb-true x y e ∙ sym h
    go false e k' = absurd (omega (arith, rank_le d x))

-- a new number leaves the others' ages as they are
pub rank_kept : (γ : ℕ) → 1 ≤ γ → (d : List ℕ) (n x : ℕ) → SpacedBy γ (n ∷ d) → Memᴰ x d → rank (n ∷ d) x ≡ rank d x
rank_kept γ hγ d n x sp m = rw (ne_eqb x n (λ (e : x ≡ n). spaced_new γ d n hγ sp (subst (λ (z : ℕ). Memᴰ z d) e m)))
