-- Which bit may follow a place: "With i bits behind and j of them 1".
use Rattle.std.specs.Prelude.{ℕ, suc, ◌*◌, Bool, ◌&&◌, pos, ◌+ℤ◌}
use Rattle.std.specs.Int.Signed.{le_z}
use Rattle.envelope.specs.declared.Envelope.{Envelope}

-- l*j + k <= n*i
unfoldable pub low : Envelope → ℕ → ℕ → Bool
low e i j = le_z (pos (e.l * j) +ℤ e.k) (pos (e.n * i))

-- n*i <= l*j + K
unfoldable pub high : Envelope → ℕ → ℕ → Bool
high e i j = le_z (pos (e.n * i)) (pos (e.l * j) +ℤ e.K)

-- "a 1 may follow when l*j + k <= n*i <= l*j + K"
unfoldable pub one_may : Envelope → ℕ → ℕ → Bool
one_may e i j = low e i j && high e i j

-- "a 0 when n*(i + 1) <= l*j + K"
unfoldable pub zero_may : Envelope → ℕ → ℕ → Bool
zero_may e i j = high e (suc i) j
