-- A fixed reply. The contracts of the entry points are records in their own crates: WorksOut (sheet), Closes, Quotes, RepliesTo (register),
-- ListsInto (report), Checks, Firsts, Nexts (pattern); src/lib.rt cites each.
use Rattle.std.specs.Prelude.{◌≡◌}

-- there is a reply that satisfies the contract, and no second one does
pub record Fixed {A : Type 0} (Contract : A → Type 0) : Type 0 where
  pub reply : A
  pub satisfies : Contract reply
  pub no_second : (other : A) → Contract other → other ≡ reply
