-- Numbers read from text: figures, zeros before them allowed, and a minus sign before a negative one.
use Rattle.std.specs.Prelude.{◌≡◌, true, cond, List, [], ◌∷◌, ℕ, zero, suc, ◌^◌, ◌<◌, ℤ, ltb, eqb, pos, negsuc, length, Result, Ok, Err}
use Rattle.line.specs.Text.{minus}
use Rattle.line.specs.Promise.{all_figures, decimal_value}
use Rattle.numeral.specs.declared.NumberError.{NumberError}
use Rattle.numeral.specs.declared.NumberError.TheVariants.{NotANumber, TooLarge}

-- a number, where it fits an unsigned word
abbrev pub fitted : ℕ → Result ℕ NumberError
fitted v = cond (ltb v (2 ^ 64)) (Ok v) (Err TooLarge)

-- the number that a text spells, where it is all figures
abbrev pub numeral_of : List ℕ → Result ℕ NumberError
numeral_of t = cond (all_figures t) (fitted (decimal_value t)) (Err NotANumber)

-- an empty text spells none
unfoldable pub natural_of : List ℕ → Result ℕ NumberError
natural_of [] = Err NotANumber
natural_of (b ∷ t) = numeral_of (b ∷ t)

-- the number with no sign, where it fits a signed word
abbrev pub positive : Result ℕ NumberError → Result ℤ NumberError
positive (Ok v) = cond (ltb v (2 ^ 63)) (Ok (pos v)) (Err TooLarge)
positive (Err e) = Err e

-- the number with a minus sign: the least is one further from 0 than the largest
abbrev pub negative : Result ℕ NumberError → Result ℤ NumberError
negative (Ok zero) = Ok (pos 0)
negative (Ok (suc v)) = cond (ltb v (2 ^ 63)) (Ok (negsuc v)) (Err TooLarge)
negative (Err e) = Err e

unfoldable pub whole_of : List ℕ → Result ℤ NumberError
whole_of [] = Err NotANumber
whole_of (b ∷ t) = cond (eqb b minus) (negative (natural_of t)) (positive (natural_of (b ∷ t)))

-- ---- figures, one at least
abbrev pub HasFigures : List ℕ → Type 0
HasFigures t = (0 < length t) × (all_figures t ≡ true)

-- a text without the minus sign before it
abbrev pub unsigned : List ℕ → List ℕ
unsigned [] = []
unsigned (b ∷ t) = cond (eqb b minus) t (b ∷ t)
