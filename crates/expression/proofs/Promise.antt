-- The promises on expressions are kept. Assumes nothing.
use mathlib.Core.List.{List}
use Prim.Native.Nat.{ℕ, ◌≤◌}
use lib.ListN.{length}
use Rattle.field.specs.Spelling.{AllBytes}
use Rattle.field.proofs.Promise.{one_answer as one_read}
use Rattle.envelope.specs.declared.Node.{Node}
use Rattle.expression.specs.Expression.{Word, Clock}
use Rattle.expression.specs.Evaluate.{Worked}
use Rattle.expression.specs.Inner.Nodes.{AllTaken}
use Rattle.expression.specs.Spelled.{indexes}
use Rattle.expression.specs.Promise.{AllLegal, Meaning, Reading, OneValue}
use Rattle.expression.proofs.Evaluated.{evaluate_taken}
use Rattle.expression.proofs.Sound.{clocks_taken, part_taken, sound, clock_sound}
use Rattle.expression.proofs.Exists.{clock_some, stands_some}
use Rattle.expression.proofs.Reader.{reads, spelled_read}
use Rattle.expression.proofs.Free.{spell_free}
use Rattle.expression.proofs.Blame.{fault_read}

pub meaning : (words : List Word) (clocks : List Clock) (xs : List Node) → Worked words clocks xs → AllLegal words → Meaning words clocks xs
meaning words clocks xs w legal =
    record {
      clock_taken = clocks_taken words clocks xs w legal;
      taken = part_taken words clocks xs w legal;
      sound = λ j x a s h p. sound words clocks xs w legal p j a h;
      clock_sound = λ i a s h p. clock_sound words clocks xs w legal p a h;
      some_stream = stands_some words clocks xs w legal;
      clock_some = clock_some words clocks xs w legal;
    }

pub reading : (s : List ℕ) (ws cs : List Node) → AllBytes s → AllTaken ws → AllTaken cs → length ws ≤ indexes → length cs ≤ indexes → Reading s ws cs
reading s ws cs bytes tw tc hw hc =
    record {
      accepted_is_spelled = reads s bytes ws cs;
      spelled_is_accepted = spelled_read s ws cs hw hc;
      accepted_is_taken = λ d a y c h. evaluate_taken ws cs tw tc y.expr y.node (reads s bytes ws cs d a y c h).value;
      one_value = λ a x y c d. spell_free x y a c d;
      refusal = λ d a x number c. fault_read s ws cs hw hc x d a number c;
    }

pub one_answer : OneValue
one_answer r q e = one_read.one_answer r q e
