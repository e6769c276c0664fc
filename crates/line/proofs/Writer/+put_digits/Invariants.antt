-- It ends, since each call of its own has the tenth of x.
use Rattle.line.proofs.Writer.+put_digits.Given as goal

abbrev pub decreases-put_digits : goal.decreases-put_digits
decreases-put_digits l = l.x
