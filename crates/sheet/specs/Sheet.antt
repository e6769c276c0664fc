-- A sheet as a value, how it is spelled in bytes, and what a legal one keeps to.
use Rattle.std.specs.Prelude.{List, [], ◌∷◌, ◌++◌, ℕ, ◌≤◌, ◌<◌, length}
use Rattle.field.specs.Spelling.{bytes_of}
use Rattle.envelope.specs.Word.{LegalWord}
use Rattle.expression.specs.Expression.{Word, Clock, depth, depth_most, spell_word, spell_clock}

-- "Links: producer u16, consumer u16"
pub record Link : Type 0 where
  pub producer : ℕ
  pub consumer : ℕ

-- "Three sections in this order"
pub record Sheet : Type 0 where
  pub words : List Word
  pub clocks : List Clock
  pub links : List Link

-- "Words, 0 to 64"; "Clocks, 0 to 128"; "Links, 0 to 256"; "A sheet is at most 32,768 bytes"
abbrev pub words_most : ℕ
words_most = 64

abbrev pub clocks_most : ℕ
clocks_most = 128

abbrev pub links_most : ℕ
links_most = 256

abbrev pub bytes_most : ℕ
bytes_most = 32768

abbrev pub spell_link : Link → List ℕ
spell_link l = bytes_of 2 l.producer ++ bytes_of 2 l.consumer

-- rows one after another
unfoldable pub rows : {A : Type 0} → (A → List ℕ) → List A → List ℕ
rows f [] = []
rows f (x ∷ xs) = f x ++ rows f xs

-- "each after its u16 count"
unfoldable pub section : {A : Type 0} → (A → List ℕ) → List A → List ℕ
section f xs = bytes_of 2 (length xs) ++ rows f xs

-- "nothing follows"
unfoldable pub spell_sheet : Sheet → List ℕ
spell_sheet v = section spell_word v.words ++ (section spell_clock v.clocks ++ section spell_link v.links)

-- every one of a list
abbrev pub Every : {A : Type 0} → (A → Type 0) → List A → Type 0
Every P [] = Unit
Every P (x ∷ xs) = P x × Every P xs

-- each row keeps to `Ok`, after those before it
abbrev pub Each : {A : Type 0} → (List A → A → Type 0) → List A → List A → Type 0
Each Ok xs [] = Unit
Each Ok xs (z ∷ zs) = Ok xs z × Each Ok (xs ++ (z ∷ [])) zs

-- "one byte 0 or 1 each", and lengths and a 1 as a word has them
pub record WordRow (w : Word) : Type 0 where
  pub word : LegalWord w.prefix w.period
  pub prefix_bits : Every (λ b. b < 2) w.prefix
  pub period_bits : Every (λ b. b < 2) w.period

-- "0 open, 1 closed", and no node at depth 13
pub record ClockRow (c : Clock) : Type 0 where
  pub state_bit : c.state < 2
  pub shallow : depth c.expr ≤ depth_most

-- between n clocks
pub record LinkRow (n : ℕ) (l : Link) : Type 0 where
  pub producer_there : l.producer < n
  pub consumer_there : l.consumer < n

pub record Legal (v : Sheet) : Type 0 where
  pub words_within : length v.words ≤ words_most
  pub clocks_within : length v.clocks ≤ clocks_most
  pub links_within : length v.links ≤ links_most
  pub words_legal : Every WordRow v.words
  pub clocks_legal : Every ClockRow v.clocks
  pub links_legal : Each (λ xs l. LinkRow (length v.clocks) l) [] v.links
  pub bytes_within : length (spell_sheet v) ≤ bytes_most
