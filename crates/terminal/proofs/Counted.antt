-- What lies within a list counts bytes at its start.
use Rattle.std.proofs.Common.{ℕ, ◌≤◌, List, length, sym, length-take-le}
use Rattle.terminal.specs.Counts.{Counts}

pub counted : (n : ℕ) (xs : List ℕ) → n ≤ length xs → Counts n xs
counted n xs h = (h, sym (length-take-le n xs h))
