-- Whole runs: how long, cut anywhere, and one outcome. Assumes nothing.
use Prim.Native.Nat.{ℕ, zero, suc, ◌-◌, ◌≤◌}
use mathlib.Core.Path.{◌≡◌, sym, ap, ◌∙◌}
use mathlib.Core.Bool.{true, false}
use mathlib.Core.List.{List, ◌++◌, append_assoc}
use mathlib.Core.Logic.{⊎_elim}
use native.Mathlib.Omega.{arith}
use lib.ListN.{length, take, drop, length-append, length-take, length-drop}
use lib.Seq.{take-take, take_all}
use Rattle.std.proofs.lemmas.Bool.{cases_lt}
use Rattle.datagram.specs.Layout.{total_size, stops_at}
use Rattle.datagram.specs.Program.{Box, heard, answers, output}
use Rattle.datagram.specs.Theorems.{NeverOutgrows, CutShort, OneOutcome}
use Rattle.datagram.proofs.Reading.{Whole, whole, goes_on, total_same, whole_same, heard_same, between}
use Rattle.datagram.specs.Promises.{start}
use Rattle.datagram.proofs.Turns.{by_bool, heard_size, all_of, stopped, turn}

-- ---- length

all_size : (most : ℕ) (b : Box) (s : List ℕ) → length (answers most b s) ≤ length s
unfolding answers
all_size zero b s = omega arith
all_size (suc most) b s =
    by_bool (stops_at s)
    (λ e. rw e (omega arith))
    (λ e.
    let w = whole s e in
    rw (e, length-append)
    (omega (arith, heard_size b s w, all_size most (heard b s).box (drop (total_size s) s), length-drop (total_size s) s)))

pub never_outgrows : NeverOutgrows
unfolding output
never_outgrows = record { within = λ s. all_size (length (take 65535 s)) start (take 65535 s) }

-- ---- beginnings

-- l is a beginning of m
abbrev Begins : List ℕ → List ℕ → Type 0
Begins l m = (rest : List ℕ) × (m ≡ l ++ rest)

module _ (n : ℕ) (b : Box) (s : List ℕ) (e : stops_at (take n s) ≡ false) where
  first_whole : Whole (take n s)
  first_whole = whole (take n s) e

  -- a datagram that is whole in what is cut is whole, and the same, in all
  same : take (total_size (take n s)) s ≡ take (total_size (take n s)) (take n s)
  same = sym (take-take (total_size (take n s)) n s (omega (arith, first_whole.there, length-take n s)))

  size : total_size s ≡ total_size (take n s)
  size = total_same (take n s) s first_whole same

  rest_cut : drop (total_size (take n s)) (take n s) ≡ take (n - total_size s) (drop (total_size s) s)
  rest_cut =
      rw (← size)
      (between (total_size s) n s (omega (arith, size, first_whole.there, length-take n s)))

  -- so the answer to it is the same
  cut_all : all_of b (take n s) ≡ (heard b s).sent ++ all_of (heard b s).box (take (n - total_size s) (drop (total_size s) s))
  cut_all = turn b (take n s) e ∙ rw (rest_cut, ← heard_same (take n s) s first_whole same b)

  cut_turn : Begins (all_of (heard b s).box (take (n - total_size s) (drop (total_size s) s))) (all_of (heard b s).box (drop (total_size s) s))
      → Begins (all_of b (take n s)) (all_of b s)
  cut_turn f = (
    f.0,
    turn b s (goes_on s (whole_same (take n s) s first_whole same))
        ∙ ap (λ (x : List ℕ). (heard b s).sent ++ x) f.1
        ∙ sym (append_assoc (heard b s).sent _ f.0)
        ∙ ap (λ (x : List ℕ). x ++ f.0) (sym cut_all),
  )

-- where what is cut stops at once, all is the rest
cut_stops : (n : ℕ) (b : Box) (s : List ℕ) → stops_at (take n s) ≡ true → Begins (all_of b (take n s)) (all_of b s)
cut_stops n b s e = (all_of b s, ap (λ (x : List ℕ). x ++ all_of b s) (sym (stopped (length (take n s)) b (take n s) e)))

cut : (most n : ℕ) (b : Box) (s : List ℕ) → length s ≤ most → Begins (all_of b (take n s)) (all_of b s)
cut zero n b s h =
    by_bool (stops_at (take n s)) (cut_stops n b s) (λ e. absurd (omega (arith, first_whole n b s e, length-take n s)))
cut (suc most) n b s h =
    by_bool (stops_at (take n s)) (cut_stops n b s)
    (λ e.
    let w = first_whole n b s e in
    cut_turn n b s e (cut most (n - total_size s) (heard b s).box (drop (total_size s) s) (omega (arith, size n b s e, length-drop (total_size s) s))))

take_swap : (m n : ℕ) (s : List ℕ) → take m (take n s) ≡ take n (take m s)
take_swap m n s =
    ⊎_elim
    (λ h. take_all m (take n s) (omega (arith, length-take n s)) ∙ sym (take-take n m s (omega arith)))
    (λ h. take-take m n s h ∙ sym (take_all n (take m s) (omega (arith, length-take m s))))
    (cases_lt n m)

pub cut_short : CutShort
unfolding output
cut_short = record {
  begins = λ s n.
      let f = cut (length (take 65535 s)) n start (take 65535 s) (omega arith) in
      (f.0, f.1 ∙ ap (λ (x : List ℕ). all_of start x ++ f.0) (take_swap n 65535 s));
}

-- ---- one outcome

pub one_outcome : OneOutcome
one_outcome = record {
  running = λ input before after after' r r' w w'. (w.count ∙ sym w'.count, w.left ∙ sym w'.left);
}
