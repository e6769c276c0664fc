-- What is proved of the text: numbers are spelled in decimal and in no second way, and a text that is put changes nothing else.
use Rattle.std.specs.Prelude.{◌≡◌, Bool, true, false, cond, List, [], ◌∷◌, ◌++◌, ℕ, ◌+◌, ◌-◌, ◌*◌, ◌≤◌, ◌<◌, ℤ, leb, ltb, length, get_or, take, drop}
use Rattle.line.specs.Text.{Put, top, figure, digits, decimal}

-- "0" to "9"
abbrev pub is_figure : ℕ → Bool
is_figure b = cond (ltb b (figure 0)) false (leb b (figure 9))

-- every byte is a figure
unfoldable pub all_figures : List ℕ → Bool
all_figures [] = true
all_figures (b ∷ t) = cond (is_figure b) (all_figures t) false

-- the number that figures spell, read from the first on, where those before them spell v
unfoldable pub read_on : ℕ → List ℕ → ℕ
read_on v [] = v
read_on v (d ∷ t) = read_on (v * 10 + (d - figure 0)) t

abbrev pub decimal_value : List ℕ → ℕ
decimal_value t = read_on 0 t

-- a decimal number as it is to be written: figures, one at least, and "0" first only where it stands alone
pub record Numeral (t : List ℕ) : Type 0 where
  pub some : 0 < length t
  pub figures : all_figures t ≡ true
  pub first : 1 < length t → figure 0 < get_or t 0 0

pub record NumbersPromise : Type 0 where
  -- the digits of a number are a numeral, and read back they are the number
  pub numeral : (n : ℕ) → Numeral (digits n)
  pub value : (n : ℕ) → decimal_value (digits n) ≡ n
  -- no other numeral is read as that number
  pub spelled : (t : List ℕ) → Numeral t → t ≡ digits (decimal_value t)
  -- so two numbers with the same text are equal, whatever their signs
  pub same_digits : (m n : ℕ) → digits m ≡ digits n → m ≡ n
  pub same_decimal : (x y : ℤ) → decimal x ≡ decimal y → x ≡ y

-- a text stands at its place, and all before and after it is as it was
pub record WrittenAt (xs : List ℕ) (a : ℕ) (t : List ℕ) (ys : List ℕ) (r : ℕ) : Type 0 where
  pub before : take a ys ≡ take a xs
  pub text : take (length t) (drop a ys) ≡ t
  pub after : drop r ys ≡ drop r xs
  pub same_length : length ys ≡ length xs

pub record TextPromise : Type 0 where
  -- a text that is put where it fits stands there
  pub stands : (xs : List ℕ) (a : ℕ) (t ys : List ℕ) (r : ℕ) → a + length t ≤ length xs → length xs ≤ top → Put xs a t ys r → WrittenAt xs a t ys r
  -- a text that is put into any buffer, an empty one too, is measured
  pub measured : (xs t ys : List ℕ) (r : ℕ) → length t ≤ top → Put xs 0 t ys r → r ≡ length t
  -- one text after another is the two as one
  pub then : (xs ys zs t u : List ℕ) (a b c : ℕ) → Put xs a t ys b → Put ys b u zs c → Put xs a (t ++ u) zs c
  -- a contract that says which text is put decides the buffer and the place
  pub one_answer : (xs ys zs t : List ℕ) (a b c : ℕ) → Put xs a t ys b → Put xs a t zs c → (ys ≡ zs) × (b ≡ c)
