-- `quote` meets its contract. Assumes nothing.
use mathlib.Core.Path.{refl}
use native.Mathlib.Omega.{arith}
use borrow.Author.Rules.{rules}
use Rattle.register.proofs.Finds.{quotes_by, quotes_none, quote_there, quote_within}
use Rattle.register.proofs.quote.Goals as goal

pub overflow_add-result : goal.overflow_add-result
overflow_add-result c = record { fits = omega (arith, quote_within _ c.args.clock (λ j. (c.type_inv.sheet j).fits) _ _ c.in-Ok.ensures) }

pub slice_bounds-result-count : goal.slice_bounds-result-count
slice_bounds-result-count c = (quote_within _ c.args.clock (λ j. (c.type_inv.sheet j).fits) _ _ c.in-Ok.ensures).0

pub slice_bounds-result-start : goal.slice_bounds-result-start
slice_bounds-result-start c = (quote_within _ c.args.clock (λ j. (c.type_inv.sheet j).fits) _ _ c.in-Ok.ensures).0

pub slice_bounds-result-end : goal.slice_bounds-result-end
slice_bounds-result-end c = (quote_within _ c.args.clock (λ j. (c.type_inv.sheet j).fits) _ _ c.in-Ok.ensures).1

pub returns-in-Ok : goal.returns-in-Ok
returns-in-Ok c = quotes_by (quote_there _ _ (λ j. (c.type_inv.sheet j).fits) _ _ c.in-Ok.ensures) refl refl (search rules)

pub returns-in-Err : goal.returns-in-Err
returns-in-Err c = quotes_none _ _ _ c.in-Err.ensures _
