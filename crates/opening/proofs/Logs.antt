-- What a station drew and which pairs of ISS and IRS it held, and what holds of two such logs. Assumes nothing.
use Prim.Native.Nat.{ℕ, ◌<◌, ◌≤◌}
use mathlib.Core.Path.{◌≡◌, sym, ap, ◌∙◌, subst}
use mathlib.Core.Logic.{◌⊎◌, inl, inr}
use mathlib.Core.List.Memᴰ
use mathlib.Core.List.{List, [], ◌∷◌, Memᴰ}
use native.Mathlib.Omega.{arith}
use native.Mathlib.Decide.{dec_le}
use Rattle.opening.specs.History.{SpacedBy}
use Rattle.opening.proofs.Numbers.{rank, Newest, rank_newest, rank_kept}

abbrev pub Pair : Type 0
Pair = ℕ × ℕ

-- newest first; below, l is a station's log and m its peer's
pub record Log : Type 0 where
  pub draws : List ℕ
  pub pairs : List Pair

abbrev pub Drew : Log → ℕ → Type 0
Drew l i = Memᴰ i l.draws

abbrev pub Held : Log → ℕ → ℕ → Type 0
Held l i r = Memᴰ {A = Pair} (i, r) l.pairs

abbrev pub fresh : Log
fresh = record { draws = []; pairs = [] }

abbrev pub plus_draw : ℕ → Log → Log
plus_draw n l = record { draws = n ∷ l.draws; pairs = l.pairs }

abbrev pub plus_pair : ℕ → ℕ → Log → Log
plus_pair i r l = record { draws = l.draws; pairs = (i, r) ∷ l.pairs }

-- a pair is of numbers drawn, and each ISS has one IRS
pub record LogOk (l m : Log) : Type 0 where
  pub known : (i r : ℕ) → Held l i r → Drew l i × Drew m r
  pub once : (i r r' : ℕ) → Held l i r → Held l i r' → r ≡ r'

-- no crossing: of two pairs, one held by each, the first is not the older at one end and the newer at the other
abbrev pub NoCross : Log → Log → Type 0
NoCross l m = (j i i₂ j₂ : ℕ) → Held m j i → Held l i₂ j₂ → rank m.draws j < rank m.draws j₂ → rank l.draws i ≤ rank l.draws i₂

pub record Logs (l m : Log) : Type 0 where
  pub mine : LogOk l m
  pub theirs : LogOk m l
  pub cross : NoCross l m

pub fresh_ok : Logs fresh fresh
fresh_ok = record { mine = none; theirs = none; cross = λ j i i₂ j₂ h k lt. absurd (Memᴰ.not-nil h) }
  where
    none : LogOk fresh fresh
    none = record { known = λ i r h. absurd (Memᴰ.not-nil h); once = λ i r r' h k. absurd (Memᴰ.not-nil h) }

pub flipped : {l m : Log} → Logs l m → Logs m l
flipped {l} {m} g = record { mine = g.theirs; theirs = g.mine; cross = cross }
  where
    cross : NoCross m l
    cross j i i₂ j₂ h k lt = go (dec_le (rank m.draws i) (rank m.draws i₂))
      where
        go : Dec (rank m.draws i ≤ rank m.draws i₂) → rank m.draws i ≤ rank m.draws i₂
        go (yes p) = p
        go (no p) = absurd (omega (arith, g.cross i₂ j₂ j i k h (omega arith)))

pub newest_drew : (l : Log) (i : ℕ) → Newest l.draws i → Drew l i
newest_drew l i = go l.draws
  where
    go : (d : List ℕ) → Newest d i → Memᴰ i d
    go [] h = absurd h
    go (x ∷ d) h = Memᴰ.head h

-- ---- a number more

pub drawn_ok : (γ : ℕ) → 1 ≤ γ → {l m : Log} (n : ℕ) → Logs l m → SpacedBy γ (n ∷ l.draws) → Logs (plus_draw n l) m
drawn_ok γ hγ {l} {m} n g sp = record {
  mine = record { known = λ i r h. (Memᴰ.tail (g.mine.known i r h).0, (g.mine.known i r h).1); once = g.mine.once };
  theirs = record { known = λ j i h. ((g.theirs.known j i h).0, Memᴰ.tail (g.theirs.known j i h).1); once = g.theirs.once };
  cross = λ j i i₂ j₂ h k lt.
      let e = rank_kept γ hγ l.draws n i sp (g.theirs.known j i h).1 in
      let e₂ = rank_kept γ hγ l.draws n i₂ sp (g.mine.known i₂ j₂ k).0 in
      omega (arith, g.cross j i i₂ j₂ h k lt);
}

-- ---- a pair more

held_cases : (l : Log) {i r a b : ℕ} → Held (plus_pair i r l) a b → ((a ≡ i) × (b ≡ r)) ⊎ Held l a b
held_cases l {i} {r} {a} {b} h = go (Memᴰ.cases_cons h)
  where
    go : (◌≡◌ {A = Pair} (a, b) (i, r)) ⊎ Held l a b → ((a ≡ i) × (b ≡ r)) ⊎ Held l a b
    go (inl e) = inl (ap (λ (p : Pair). p.0) e, ap (λ (p : Pair). p.1) e)
    go (inr k) = inr k

-- of the newest number, which had none, and a number that the peer drew
module _ {l m : Log} (i r : ℕ) (g : Logs l m) (top : Newest l.draws i) (unused : (b : ℕ) → Held l i b → ⊥) (drew : Drew m r) where
  known' : (a b : ℕ) → ((a ≡ i) × (b ≡ r)) ⊎ Held l a b → Drew l a × Drew m b
  known' a b (inl e) = (Memᴰ.cast e.0 (newest_drew l i top), Memᴰ.cast e.1 drew)
  known' a b (inr h) = g.mine.known a b h

  once' : (a b b' : ℕ) → ((a ≡ i) × (b ≡ r)) ⊎ Held l a b → ((a ≡ i) × (b' ≡ r)) ⊎ Held l a b' → b ≡ b'
  once' a b b' (inl e) (inl e') = e.1 ∙ sym e'.1
  once' a b b' (inl e) (inr h') = absurd (unused b' (subst (λ (z : ℕ). Held l z b') e.0 h'))
  once' a b b' (inr h) (inl e') = absurd (unused b (subst (λ (z : ℕ). Held l z b) e'.0 h))
  once' a b b' (inr h) (inr h') = g.mine.once a b b' h h'

  cross' : (j a a₂ j₂ : ℕ) → Held m j a → ((a₂ ≡ i) × (j₂ ≡ r)) ⊎ Held l a₂ j₂ → rank m.draws j < rank m.draws j₂
      → rank l.draws a ≤ rank l.draws a₂
  cross' j a a₂ j₂ h (inl e) lt = rw e.0 (rank_newest l.draws i a top)
  cross' j a a₂ j₂ h (inr k) lt = g.cross j a a₂ j₂ h k lt

  pub paired_ok : Logs (plus_pair i r l) m
  paired_ok = record {
    mine = record { known = λ a b h. known' a b (held_cases l h); once = λ a b b' h h'. once' a b b' (held_cases l h) (held_cases l h') };
    theirs = record { known = g.theirs.known; once = g.theirs.once };
    cross = λ j a a₂ j₂ h k lt. cross' j a a₂ j₂ h (held_cases l k) lt;
  }

-- that is held already
pub again_ok : {l m : Log} (i r : ℕ) → Logs l m → Held l i r → Logs (plus_pair i r l) m
again_ok {l} {m} i r g k = record {
  mine = record { known = λ a b h. g.mine.known a b (again h); once = λ a b b' h h'. g.mine.once a b b' (again h) (again h') };
  theirs = record { known = g.theirs.known; once = g.theirs.once };
  cross = λ j a a₂ j₂ h h' lt. g.cross j a a₂ j₂ h (again h') lt;
}
  where
    again : {a b : ℕ} → Held (plus_pair i r l) a b → Held l a b
    again {a} {b} h = go (Memᴰ.cases_cons h)
      where
        go : (◌≡◌ {A = Pair} (a, b) (i, r)) ⊎ Held l a b → Held l a b
        go (inl e) = Memᴰ.cast e k
        go (inr h') = h'
