-- Links: the two tests, the size, and a link's row. "A link goes from producer 1 to consumer 2": here from e to f.
use Rattle.std.specs.Prelude.{◌≡◌, Bool, cond, ◌&&◌, ℕ, ◌-◌, eqb, ℤ, pos, nat_abs, ◌-ℤ◌, ◌≤ℤ◌}
use Rattle.std.specs.Int.Signed.{lt_z}
use Rattle.whole.specs.Rounding.{ceil_div}
use Rattle.envelope.specs.declared.Envelope.{Envelope}
use Rattle.link.specs.declared.Verdict.{Verdict}
use Rattle.link.specs.declared.Verdict.TheVariants.{Accepted, Rates, Early}
use Rattle.link.specs.declared.Row.{Row}

-- "Second: K1 - k2 > n - 1"
unfoldable pub early_of : Envelope → Envelope → Bool
early_of e f = lt_z (pos (e.n - 1)) (e.K -ℤ f.k)

-- "size (K2 - (n - 1) - k1)/l rounded up"
unfoldable pub size_of : Envelope → Envelope → ℤ
size_of e f = ceil_div ((f.K -ℤ pos (e.n - 1)) -ℤ e.k) e.l

-- "First test: l or n differs, verdict rates. Second: .. verdict early. Otherwise accepted, size .., which is never below 0."
unfoldable pub verdict_of : Envelope → Envelope → Verdict
verdict_of e f =
    cond (eqb e.l f.l && eqb e.n f.n) (cond (early_of e f) Early (Accepted (nat_abs (size_of e f)))) Rates

-- neither test turns the link down
pub record Passes (e f : Envelope) : Type 0 where
  pub same_l : e.l ≡ f.l
  pub same_n : e.n ≡ f.n
  pub in_time : (e.K -ℤ f.k) ≤ℤ pos (e.n - 1)

-- "verdict (0 accepted, 1 rates, 2 early)"
abbrev pub verdict_number : Verdict → ℕ
verdict_number (Accepted size) = 0
verdict_number Rates = 1
verdict_number Early = 2

-- "an accepted verdict carries its size, the others carry none, and their size is 0 in the result slice and in print"
abbrev pub size_in : Verdict → ℕ
size_in (Accepted size) = size
size_in Rates = 0
size_in Early = 0

-- "A link is closed when its producer or its consumer is marked closed": 0 open, 1 closed
abbrev pub state_of : ℕ → ℕ → ℕ
state_of producer consumer = cond (eqb producer 1) 1 (cond (eqb consumer 1) 1 0)

-- what a link adds to the open room: "the sum of sizes over accepted open links"
abbrev pub open_size_of : Row → ℕ
open_size_of r = cond (eqb r.state 1) 0 (size_in r.verdict)
