-- The reader of an expression behind its tag, and the numbers that refuse it. Assumes nothing.
use mathlib.Core.Path.{◌≡◌, refl, ap}
use mathlib.Core.Bool.{true, ◌&&◌}
use mathlib.Core.List.{List}
use mathlib.Core.Option.{Option, none, some}
use Prim.Native.Nat.{ℕ, zero, suc, ◌+◌}
use lib.Dec.{leb}
use lib.ListN.{get_elem?}
use Rattle.reply.specs.Numbers.{beyond, trailing}
use Rattle.field.specs.Read.{Read, Read.got, bind}
use Rattle.field.specs.Format.{Judged, Judged.passes, Judged.fails, Format}
use Rattle.field.specs.Run.{settled, run}
use Rattle.field.proofs.Format.{then_got, Fails, Gives, gives_ranged, gives_signed}
use Rattle.envelope.specs.declared.Node.{Node}
use Rattle.std.specs.Prelude.{Ok, Err}
use Rattle.envelope.specs.declared.Flaw.TheVariants.{Empty, FullRate, Outgrown}
use Rattle.envelope.specs.Made.{Made}
use Rattle.envelope.specs.Limits.{l_most, lower_least, lower_most, upper_least, upper_most}
use Rattle.expression.specs.declared.Tag.{Tag}
use Rattle.expression.specs.Expression.{tag_most, Expr}
use Rattle.expression.specs.Reader.{expr_at}
use Rattle.expression.specs.Format.{Valued, tags, tag_of, tag, found, named, parts, kept, expression}
use Rattle.expression.proofs.Tags.{Says, says}

-- a complete node, whose tag stands at a
abbrev pub complete : ℕ → Expr × Made → ℕ → Read Valued
complete a x c = settled (kept x.0 x.1) c a

pub behind : (s : List ℕ) (ws cs : List Node) (d a : ℕ) (t : Tag) (c : ℕ) → run tag s a ≡ got t c
    → expr_at (suc d) s ws cs a ≡ bind (run (parts ws cs (expression d ws cs) t) s c) (complete a)
unfolding expr_at expression run
behind s ws cs d a t c e = ap (λ (r : Read (Expr × Made)). bind r (complete a)) (then_got s tag (parts ws cs (expression d ws cs)) a t c e)

-- ---- the tests of an expression fail with numbers from 1 to 10
abbrev pub Listed : ℕ → Type 0
Listed number = (leb 1 number && leb number trailing) ≡ true

tag_gives : Gives Listed tag
tag_gives = (tt, λ v. by v (tag_of tags v) (says v))
  where
    by : (v : ℕ) (j : Judged Tag) → Says 1 (tag_most + 1) v j → Fails Listed j
    by v (passes t) h = tt
    by v (fails number) h = rw h.0

named_gives : (make : ℕ → Expr) (xs : List Node) → Gives Listed (named make xs)
named_gives make xs = (tt, λ i. by i (get_elem? xs i))
  where
    by : (i : ℕ) (r : Option Node) → Fails Listed (found (make i) r)
    by i none = refl
    by i (some x) = tt

kept_gives : (x : Expr) (m : Made) → Fails Listed (kept x m)
kept_gives x (Ok a) = tt
kept_gives x (Err Empty) = refl
kept_gives x (Err FullRate) = refl
kept_gives x (Err Outgrown) = refl

parts_gives : (ws cs : List Node) (part : Format Valued) → Gives Listed part → (t : Tag) → Gives Listed (parts ws cs part t)
unfolding parts
parts_gives ws cs part h Tag.Word = named_gives Expr.word ws
parts_gives ws cs part h Tag.Declared = (
  gives_signed Listed lower_least lower_most refl,
  λ k. (
    gives_signed Listed upper_least upper_most refl,
    λ K. (gives_ranged Listed 4 1 (l_most + 1) beyond refl, λ l. (gives_ranged Listed 4 1 (l + 1) beyond refl, λ n. tt)),
  ),
)
parts_gives ws cs part h Tag.Not = (h, λ x. tt)
parts_gives ws cs part h Tag.On = (h, λ x. (h, λ y. tt))
parts_gives ws cs part h Tag.Clock = named_gives Expr.clock cs

pub expression_gives : (d : ℕ) (ws cs : List Node) → Gives Listed (expression d ws cs)
unfolding expression
expression_gives zero ws cs = (tag_gives, λ t. refl)
expression_gives (suc d) ws cs = ((tag_gives, parts_gives ws cs (expression d ws cs) (expression_gives d ws cs)), λ x. kept_gives x.0 x.1)
