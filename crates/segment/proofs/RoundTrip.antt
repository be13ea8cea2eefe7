-- Reading what was written, and writing what was read. Assumes nothing.
use Prim.Native.Nat.{ℕ, ◌*◌, ◌≤◌}
use mathlib.Core.Path.{◌≡◌, sym, ap, ◌∙◌}
use mathlib.Core.Bool.{false}
use mathlib.Core.List.{List, ◌++◌}
use mathlib.Core.Logic.{⊎_elim, inl}
use native.Mathlib.Omega.{arith}
use lib.ListN.{length, get_or, take, drop}
use Rattle.std.proofs.lemmas.Bool.Decides.{nat_tests}
use Rattle.checksum.specs.Sum.{sum_of, checksum_of, at16, unchecked}
use Rattle.checksum.proofs.Sums.{laws}
use Rattle.segment.specs.declared.Header.{Header}
use Rattle.segment.specs.declared.Segment.{Segment}
use Rattle.segment.specs.Refusals.{given}
use Rattle.segment.specs.Octets.{octets_of, fields_at, header_words, reserved}
use Rattle.segment.specs.Read.{fin_or_text, field_tests, read_tests, fields_said, read_said}
use Rattle.segment.specs.Write.{made, write_tests, write_said, write_leaves}
use Rattle.segment.specs.Theorems.{Octets, ReadsBack, WritesBack}
use Rattle.segment.proofs.Places.{fields_again, by_places, octets_again}

-- a header read of arriving octets that have neither FIN nor text
read_fields : (src dst : ℕ) (s : List ℕ) (g : Segment) → given g ≡ fields_said src dst s → fin_or_text g ≡ false → given g.header ≡ read_said src dst s
unfolding fields_said read_said read_tests field_tests
read_fields src dst s g e f = grind (arith, nat_tests)

-- a write that is answered by values found FIN off and room
writable : (h : Header) (out : List ℕ) → write_said h out ≡ given tt → (h.control.fin ≡ false) × (20 ≤ length out)
unfolding write_said write_tests
writable h out e = grind (arith, nat_tests)

-- and where FIN is off and there is room, it is answered by values and leaves the octets made
writes : (src dst : ℕ) (h : Header) (out : List ℕ) → h.control.fin ≡ false → 20 ≤ length out
    → (write_said h out ≡ given tt) × (write_leaves src dst h out ≡ made src dst h ++ drop 20 out)
unfolding write_said write_tests write_leaves
writes src dst h out f r = grind (arith, nat_tests)

sum-made : (src dst : ℕ) (h : Header) → sum_of src dst (made src dst h) ≡ 65535
unfolding made unchecked
sum-made src dst h =
    let k = checksum_of src dst (octets_of h 0) in
    let e : at16 (octets_of h k) 16 ≡ k = omega arith in
    (laws.accepted src dst (octets_of h k) (omega arith) (omega (arith, laws.written src dst (octets_of h 0)))).1 (inl e)

made_arrives : (src dst : ℕ) (h : Header) → fields_said src dst (made src dst h) ≡ given (record { header = h; src = src; dst = dst; text = 0 })
unfolding made fields_said field_tests
made_arrives src dst h = grind (arith, nat_tests, sum-made src dst h, fields_again h (checksum_of src dst (octets_of h 0)))

-- what was written stands in front of what the output had
written_first : (src dst : ℕ) (h : Header) (out : List ℕ) → write_said h out ≡ given tt → take 20 (write_leaves src dst h out) ≡ made src dst h
unfolding write_said write_tests write_leaves made
written_first src dst h out e = grind (arith, nat_tests)

pub reads_back : ReadsBack
reads_back = record {
  read = λ src dst h out e.
      rw (written_first src dst h out e)
      (sym (read_fields src dst (made src dst h) _ (sym (made_arrives src dst h)) (rw (writable h out e).0)));
  arrives = λ src dst h out e. rw (written_first src dst h out e) (made_arrives src dst h);
}

-- ---- the other way

-- what a header read that gives fields says of the octets
record Was (src dst : ℕ) (s : List ℕ) (h : Header) : Type 0 where
  below : header_words s * 4 ≤ length s
  no_text : length s ≤ header_words s * 4
  sum : sum_of src dst s ≡ 65535
  no_fin : h.control.fin ≡ false
  fields : fields_at s ≡ h

was : (src dst : ℕ) (s : List ℕ) (h : Header) → read_said src dst s ≡ given h → Was src dst s h
unfolding read_said read_tests field_tests
was src dst s h e = grind (arith, nat_tests)

made_again : (src dst : ℕ) (s : List ℕ) (h : Header) → Octets s → read_said src dst s ≡ given h
    → header_words s ≡ 5 → reserved s ≡ 0 → (at16 s 16 ≡ 65535 → ⊥) → made src dst h ≡ s
unfolding made unchecked
made_again src dst s h o e five z n =
    let w = was src dst s h e in
    let size : length s ≡ 20 = omega (arith, w.below, w.no_text) in
    let octet12 : get_or s 12 0 ≡ 80 = omega arith in
    let blank : octets_of (fields_at s) 0 ≡ unchecked s = octets_again s 0 o octet12 ∙ sym (ap unchecked (by_places s size)) in
    let same : at16 s 16 ≡ checksum_of src dst (unchecked s) =
    ⊎_elim (λ x. x) (λ x. absurd (n x.1)) ((laws.accepted src dst s (omega arith) (omega (arith, o 16, o 17))).0 w.sum) in
    rw (← w.fields, blank, ← same) (octets_again s (at16 s 16) o octet12 ∙ grind (arith, by_places s size, o 17))

pub writes_back : WritesBack
writes_back = record {
  writes = λ src dst s h out o e five z n room.
      let w = writes src dst h out (was src dst s h e).no_fin room in
      (w.0, w.1 ∙ ap (λ (x : List ℕ). x ++ drop 20 out) (made_again src dst s h o e five z n));
}
