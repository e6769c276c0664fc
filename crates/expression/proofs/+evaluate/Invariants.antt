-- `evaluate` calls itself with one level less, so its measure is the levels left.
use Rattle.expression.proofs.+evaluate.Given as goal

abbrev pub decreases-evaluate : goal.decreases-evaluate
decreases-evaluate l = l.depth
