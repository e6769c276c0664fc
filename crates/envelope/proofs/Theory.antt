-- The theory of streams and envelopes holds.
-- Assumes nothing.
use native.Mathlib.Nat.{mul-pos}
use Rattle.envelope.specs.Theory.{Positions, Inhabited, Holds, Accepted}
use Rattle.envelope.specs.Envelope.{not_of, on_of}
use Rattle.envelope.specs.Word.{word_of}
use Rattle.envelope.proofs.Streams.{position, position_only, has_lies}
use Rattle.envelope.proofs.Some.{none_lies}
use Rattle.envelope.proofs.Result.{result_keeps, keeps_result}
use Rattle.envelope.proofs.Normal.{normal_keeps, keeps_normal}
use Rattle.envelope.proofs.Not.{not_stream, not_keeps}
use Rattle.envelope.proofs.On.{on_stream, on_keeps}
use Rattle.envelope.proofs.Word.{word_stream, word_keeps}
use Rattle.envelope.proofs.Taken.{taken_stream, declared_taken, not_taken, on_taken, word_taken}
use Rattle.envelope.proofs.Tests.{is_taken_lem, taken_is}

pub positions : Positions
positions = record { there = position; one = λ s. position_only s.bit }

pub inhabited : Inhabited
inhabited = record { some = taken_stream; none = λ e h m r s p. none_lies s e h m r p }

pub holds : Holds
holds =
    record {
      result = λ k K l n s. (result_keeps k K l n s.bit, keeps_result k K l n s.bit);
      declared = λ k K l n h s. (normal_keeps k K l n h s.bit, keeps_normal k K l n h s.bit);
      not = λ e h a s p b. has_lies s _ (not_of e) b (not_keeps a e h p);
      not_is_stream = λ e h a p. not_stream a e h p;
      on = λ e f s t a b c p q h. has_lies c _ (on_of e f) h (on_keeps a.bit b.bit e f (mul-pos s.n_least t.n_least) p q);
      on_is_stream = on_stream;
      word = λ u v h s b. has_lies s _ (word_of u v) b (word_keeps u v h);
      word_is_stream = word_stream;
    }

pub accepted : Accepted
accepted =
    record {
      declared = declared_taken;
      not = not_taken;
      on = on_taken;
      word = word_taken;
      taken = λ e. (is_taken_lem e, taken_is e);
    }
