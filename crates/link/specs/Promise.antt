-- What is proved of an accepted link: its buffer never runs empty under a read, and never holds more than its size.
use Rattle.std.specs.Prelude.{◌≡◌, ℕ, ◌+◌, ◌≤◌, pos}
use Rattle.envelope.specs.declared.Envelope.{Envelope}
use Rattle.envelope.specs.Stream.{Stream, ones, Lies}
use Rattle.envelope.specs.Envelope.{Taken}
use Rattle.link.specs.declared.Verdict.TheVariants.{Accepted}
use Rattle.link.specs.Link.{size_of, verdict_of}

-- "after any number of instants, reads never exceed writes, and writes minus reads never exceed the size given": a writes, b reads
pub record Serves (a b : Stream) (size : ℕ) : Type 0 where
  pub reads : (i : ℕ) → ones b.bit i ≤ ones a.bit i
  pub fill : (i : ℕ) → ones a.bit i ≤ ones b.bit i + size

pub record Links : Type 0 where
  -- "for every accepted link": any two streams in the two envelopes
  pub serves : (e f : Envelope) → Taken e → Taken f → (size : ℕ) → verdict_of e f ≡ Accepted size → (a b : Stream) → Lies a e → Lies b f → Serves a b size
  -- the size "is never below 0": the number that is carried is the size itself
  pub size : (e f : Envelope) → Taken e → Taken f → (size : ℕ) → verdict_of e f ≡ Accepted size → pos size ≡ size_of e f
