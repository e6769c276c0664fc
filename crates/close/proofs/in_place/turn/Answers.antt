-- `turn` meets its contract: the byte that is turned stands within the sheet.
use Rattle.std.proofs.Common.{rules, arith}
use Rattle.field.specs.Spelling.{AllBytes}
use Rattle.close.proofs.Turned.{turned_within}
use Rattle.close.proofs.in_place.turn.Goals as goal

pub bounds-sheet-place : goal.bounds-sheet-place
bounds-sheet-place c =
    let bytes : AllBytes c.args.sheet.now = search rules in
    let w = turned_within _ _ _ _ bytes c.in_ok-place.ensures in
    omega (arith, w.0, w.1)

pub returns-clause-within : goal.returns-clause-within
returns-clause-within c =
    let bytes : AllBytes c.args.sheet.now = search rules in
    (turned_within _ _ _ _ bytes c.in_ok-place.ensures).0
