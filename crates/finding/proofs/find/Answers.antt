-- `find` meets its contract. Assumes nothing.
use mathlib.Core.Path.{◌≡◌, sym}
use native.Mathlib.Omega.{arith}
use Rattle.reply.proofs.Refusals.{passed_on}
use Rattle.field.proofs.Spelling.{end}
use Rattle.sheet.specs.Locating.{clock_place}
use Rattle.finding.proofs.Finds.{Chosen, find_refused, find_absent, find_chosen, before_it, behind_state, find_there}
use Rattle.finding.proofs.find.Goals as goal
use Rattle.finding.proofs.find.Goals.{After-locate-at}

-- clock i is there
chosen : (c : After-locate-at) → Chosen c.args.s.now c.in_ok-found.found.clockrows c.args.i
chosen c = find_chosen c.args.s.now (λ j. (c.type_inv.s j).fits) c.in_ok-found.found (sym c.in_ok-found.ensures.found) c.args.i c.if-found-i.false

begins : (c : After-locate-at) → c.locate-at.result ≡ clock_place (chosen c).opened.sheet c.args.i
begins c = c.locate-at.ensures (chosen c).opened.sheet (before_it (chosen c))

pub returns-in_err-found : goal.returns-in_err-found
returns-in_err-found c = rw (passed_on _ _ c.from_residual.ensures) (find_refused c.args.s.now _ (sym c.in_err-found.ensures.found) c.args.i)

pub returns-then-found-i : goal.returns-then-found-i
returns-then-found-i c = rw c.at.ensures (find_absent c.args.s.now (λ j. (c.type_inv.s j).fits) c.in_ok-found.found (sym c.in_ok-found.ensures.found) c.args.i c.if-found-i.true)

pub locate-at-requires : goal.locate-at-requires
locate-at-requires c = (_, before_it (find_chosen c.args.s.now (λ j. (c.type_inv.s j).fits) c.in_ok-found.found (sym c.in_ok-found.ensures.found) c.args.i c.if-found-i.false))

pub overflow_add-at : goal.overflow_add-at
overflow_add-at c = let k = (goal.at.overflow_add-at c).After-locate-at in
    record { fits = omega (arith, end (behind_state (chosen k) c.locate-at.result (begins k)).bytes) }

pub past-end-requires : goal.past-end-requires
past-end-requires c = let k = (goal.at.past-end-requires c).After-locate-at in
    (_, behind_state (chosen k) c.locate-at.result (begins k))

pub returns : goal.returns
returns c = let k = (goal.at.returns c).After-locate-at in
    find_there (chosen k) c.locate-at.result c.past-end.result (begins k) (c.past-end.ensures _ (behind_state (chosen k) c.locate-at.result (begins k)))
