-- What a node's rule makes of its parts: an envelope, or the reason why there is none, with document 01's number for it.
use Rattle.std.specs.Prelude.{cond, ℕ, ◌≤◌, ℤ, eqb, Result, Ok, Err}
use Rattle.envelope.specs.declared.Envelope.{Envelope}
use Rattle.envelope.specs.declared.Node.{Node}
use Rattle.envelope.specs.declared.Flaw.{Flaw}
use Rattle.envelope.specs.declared.Flaw.TheVariants.{Empty, FullRate, Outgrown}
use Rattle.envelope.specs.Envelope.{numbers, Limits, within_limits, has_room, normal_of, not_of, on_of}

-- what a rule makes: a node, or the reason why there is none
abbrev pub Made : Type 0
Made = Result Node Flaw

-- document 01's number for each reason
abbrev pub number_of : Flaw → ℕ
number_of Empty = 7
number_of FullRate = 8
number_of Outgrown = 9

abbrev pub node_of : Envelope → Node
node_of e = record { envelope = e }

-- the fields of a declared node, each within its limit
pub record Fields (k K : ℤ) (l n : ℕ) : Type 0 where
  pub limits : Limits (numbers k K l n)
  pub n_least : 1 ≤ n
  pub n_most : n ≤ l

-- "a declared envelope, made normal, with K - k < n - 1" is refused
unfoldable pub declared_of : ℤ → ℤ → ℕ → ℕ → Made
declared_of k K l n = cond (has_room (normal_of k K l n)) (Ok (node_of (normal_of k K l n))) (Err Empty)

-- "not or on gives l, k or K beyond the limits" is refused
unfoldable pub limited : Envelope → Made
limited e = cond (within_limits e) (Ok (node_of e)) (Err Outgrown)

-- "not where l = n" is refused, "8 before 9"
unfoldable pub negated_of : Envelope → Made
negated_of e = cond (eqb e.l e.n) (Err FullRate) (limited (not_of e))

unfoldable pub on_within_limits : Envelope → Envelope → Made
on_within_limits e f = limited (on_of e f)
