-- The theorem of the boundary (01, "How far a contract must go"; docs/DECISIONS.md, "Contracts that leave more than one outcome").
use Rattle.std.specs.Prelude.{ℕ, ◌≡◌, List}
use Rattle.checksum.specs.Sum.{checksum_of}
use Rattle.station.specs.declared.Event.{Event}
use Rattle.datagram.specs.Program.{output}
use Rattle.datagram.specs.Promises.{Writes}
use Rattle.numbers.specs.declared.Record.{Record}
use Rattle.numbers.specs.declared.Header.{Header}
use Rattle.numbers.specs.declared.Model.{Model}
use Rattle.boundary.specs.Calls.{event_told, Arrives}
use Rattle.boundary.specs.Headers.{read_told, Written}
use Rattle.boundary.specs.Player.{step_told, play_told}
use Rattle.telling.specs.declared.Told.{Told}
use Rattle.telling.specs.declared.Reading.{Reading}
use Rattle.telling.specs.declared.Stepped.{Stepped}
use Rattle.telling.specs.declared.Played.{Played}

-- the promises leave one outcome: two answers that keep one are the same, and so is the output at exit
pub record OneOutcome : Type 0 where
  -- `tabor_open`, `tabor_listen`, `tabor_abort`, `tabor_resend`, `tabor_power_cut`, `tabor_arrive`
  pub event : (c : Record) (e : Event) (r r' : Told) → r ≡ event_told c e → r' ≡ event_told c e → r ≡ r'
  -- `tabor_arrive_octets`
  pub arriving : (c : Record) (src dst : ℕ) (s : List ℕ) (fresh : ℕ) (out o o' : List ℕ) (r r' : Told)
      → Arrives c src dst s fresh out o r → Arrives c src dst s fresh out o' r' → (r ≡ r') × (o ≡ o')
  -- `tabor_read`
  pub reading : (src dst : ℕ) (s : List ℕ) (r r' : Reading) → r ≡ read_told src dst s → r' ≡ read_told src dst s → r ≡ r'
  -- `tabor_write`
  pub writing : (src dst : ℕ) (c : Header) (out o o' : List ℕ) (r r' : ℕ)
      → Written src dst c out o r → Written src dst c out o' r' → (r ≡ r') × (o ≡ o')
  -- `tabor_checksum`
  pub summing : (src dst : ℕ) (s : List ℕ) (r r' : ℕ) → r ≡ checksum_of src dst s → r' ≡ checksum_of src dst s → r ≡ r'
  -- `tabor_step`
  pub stepping : (c : Model) (s : List ℕ) (r r' : Stepped) → r ≡ step_told c s → r' ≡ step_told c s → r ≡ r'
  -- `tabor_play`
  pub playing : (c : Model) (s : List ℕ) (r r' : Played) → r ≡ play_told c s → r' ≡ play_told c s → r ≡ r'
  -- `tabor_run`
  pub running : (input out o o' : List ℕ) (r r' : ℕ)
      → Writes (output input) out o r → Writes (output input) out o' r' → (r ≡ r') × (o ≡ o')
