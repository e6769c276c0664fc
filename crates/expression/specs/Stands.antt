-- What a clock can stand for.
use Rattle.std.specs.Prelude.{◌≡◌, List, ℕ, ℤ}
use Rattle.std.proofs.Math.Option.{some}
use Rattle.std.proofs.Math.ListN.{get_elem?}
use Rattle.envelope.specs.Stream.{Stream, Within, Has, not_bits, on_bits}
use Rattle.envelope.specs.Word.{word_bit}
use Rattle.expression.specs.Expression.{Word, Expr, Clock}

-- Among the words and clocks of a sheet: "a word is itself; a declared node any stream in it, chosen anew at each use; an earlier clock anything that
-- clock can stand for, likewise anew; not exchanges 0 and 1; a on b reads b one element at each 1 of a, and gives 0 at each 0 of a."
-- A stream has endlessly many 1s, what not gives too.
pub data Stands (words : List Word) (clocks : List Clock) : Expr → Stream → Type 0 where
  word : {i : ℕ} {w : Word} {s : Stream} → get_elem? words i ≡ some w → Has s (word_bit w.prefix w.period) → Stands words clocks (Expr.word i) s
  declared : {k K : ℤ} {l n : ℕ} {s : Stream} → Within s.bit k K l n → Stands words clocks (Expr.declared k K l n) s
  negated : {x : Expr} {a s : Stream} → Stands words clocks x a → Has s (not_bits a.bit) → Stands words clocks (Expr.negated x) s
  on : {x y : Expr} {a b s : Stream} → Stands words clocks x a → Stands words clocks y b → Has s (on_bits a.bit b.bit) → Stands words clocks (Expr.on x y) s
  clock : {i : ℕ} {c : Clock} {s : Stream} → get_elem? clocks i ≡ some c → Stands words clocks c.expr s → Stands words clocks (Expr.clock i) s
