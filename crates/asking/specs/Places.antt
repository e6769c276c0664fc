-- Where the arguments go on behind an envelope.
use Rattle.std.specs.Prelude.{ℕ}
use Rattle.asking.specs.declared.naming.Naming.{Naming}
use Rattle.asking.specs.declared.naming.Naming.TheVariants.{Numbers, Clock}

-- behind k, K, l and n, or behind FILE and CLOCK
abbrev pub next_of : Naming → ℕ
next_of Numbers = 5
next_of Clock = 3
