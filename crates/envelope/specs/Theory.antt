-- What is proved of streams and envelopes, one field for each promise.
use Rattle.std.specs.Prelude.{◌≡◌, true, List, ◌↔◌, ℕ, ◌≤◌, ◌<◌, ℤ}
use Rattle.envelope.specs.declared.Envelope.{Envelope}
use Rattle.envelope.specs.Stream.{Stream, Position, Within, Lies, Has, not_bits, on_bits}
use Rattle.envelope.specs.Envelope.{Normal, Limits, Room, Taken, result_of, normal_of, not_of, on_of}
use Rattle.envelope.specs.Word.{ones_in, word_bit, word_of, LegalWord}
use Rattle.envelope.specs.Made.{Fields}
use Rattle.envelope.specs.Inner.Tests.{is_taken}

-- "p(j) is the position of the 1 that has j 1s before it": every j has one, and one only
pub record Positions : Type 0 where
  pub there : (s : Stream) (j : ℕ) → (t : ℕ) × Position s.bit j t
  pub one : (s : Stream) (j t u : ℕ) → Position s.bit j t → Position s.bit j u → t ≡ u

-- "K - k >= n - 1. The last says that some stream lies in it."
pub record Inhabited : Type 0 where
  pub some : (e : Envelope) → Taken e → (s : Stream) × Lies s e
  pub none : (e : Envelope) → 1 ≤ e.n → Normal e → ¬ Room e → (s : Stream) → ¬ Lies s e

-- what each rule gives holds every stream that it stands for; and what it stands for is a stream
pub record Holds : Type 0 where
  -- every result, raised or not: no stream is lost or gained
  pub result : (k K : ℤ) (l n : ℕ) (s : Stream) → Within s.bit k K l n ↔ Lies s (result_of k K l n)
  -- declared: made normal without losing or gaining a stream
  pub declared : (k K : ℤ) (l n : ℕ) → 1 ≤ n → (s : Stream) → Within s.bit k K l n ↔ Lies s (normal_of k K l n)
  pub not : (e : Envelope) → e.n < e.l → (a s : Stream) → Lies a e → Has s (not_bits a.bit) → Lies s (not_of e)
  pub not_is_stream : (e : Envelope) → e.n < e.l → (a : Stream) → Lies a e → (s : Stream) × Has s (not_bits a.bit)
  pub on : (e f : Envelope) → Taken e → Taken f → (a b s : Stream) → Lies a e → Lies b f → Has s (on_bits a.bit b.bit) → Lies s (on_of e f)
  pub on_is_stream : (a b : Stream) → (s : Stream) × Has s (on_bits a.bit b.bit)
  pub word : (u v : List ℕ) → 1 ≤ ones_in v → (s : Stream) → Has s (word_bit u v) → Lies s (word_of u v)
  pub word_is_stream : (u v : List ℕ) → 1 ≤ ones_in v → (s : Stream) × Has s (word_bit u v)

-- which results are taken and normal, and with nothing else to test
pub record Accepted : Type 0 where
  pub declared : (k K : ℤ) (l n : ℕ) → Fields k K l n → Room (normal_of k K l n) → Taken (normal_of k K l n)
  pub not : (e : Envelope) → Taken e → e.n < e.l → Limits (not_of e) → Taken (not_of e)
  pub on : (e f : Envelope) → Taken e → Taken f → Limits (on_of e f) → Taken (on_of e f)
  pub word : (u v : List ℕ) → LegalWord u v → Taken (word_of u v)
  -- the test of any four numbers is right
  pub taken : (e : Envelope) → (is_taken e ≡ true) ↔ Taken e
