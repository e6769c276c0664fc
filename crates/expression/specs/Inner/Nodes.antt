-- Nodes as the reader's tables hold them.
use Rattle.std.specs.Prelude.{◌≡◌, List, ℕ}
use Rattle.std.proofs.Math.Option.{some}
use Rattle.std.proofs.Math.ListN.{get_elem?}
use Rattle.envelope.specs.declared.Node.{Node}
use Rattle.envelope.specs.Envelope.{Taken}

-- every one is taken
abbrev pub AllTaken : List Node → Type 0
AllTaken xs = (i : ℕ) (x : Node) → get_elem? xs i ≡ some x → Taken x.envelope
