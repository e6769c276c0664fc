-- The reader of an expression, both ways: what it accepts is spelled there and has that node, and what is spelled there it accepts. Assumes nothing.
use mathlib.Core.Path.{◌≡◌, refl, ap, ◌∙◌}
use mathlib.Core.List.{List, [], ◌∷◌, ◌++◌}
use mathlib.Core.Option.{Option, none, some}
use Prim.Native.Nat.{ℕ, zero, suc, max, ◌+◌, ◌≤◌}
use native.Mathlib.Omega.{arith}
use lib.ListN.{length, get_elem?}
use Rattle.reply.specs.Numbers.{beyond}
use Rattle.field.specs.Read.{Read.got}
use Rattle.field.specs.Format.{Judged, Judged.passes, Judged.fails, Format, Piece}
use Rattle.field.specs.Spelling.{bytes_of, AllBytes, Bytes}
use Rattle.field.proofs.Spelling.{join}
use Rattle.field.proofs.Fields.{field_in_bytes}
use Rattle.field.proofs.SignedFields.{signed_in_bytes}
use Rattle.field.proofs.Format.{read_piece, piece_read, piece_bytes, ranged_piece, signed_piece}
use Rattle.envelope.specs.declared.Envelope.{Envelope}
use Rattle.envelope.specs.declared.Node.{Node}
use Rattle.std.specs.Prelude.{Ok, Err}
use Rattle.envelope.specs.Limits.{l_most, lower_least, lower_most, upper_least, upper_most}
use Rattle.envelope.specs.Made.{Made, on_within_limits}
use Rattle.expression.specs.declared.Tag.{Tag}
use Rattle.expression.specs.Expression.{tag_number, Expr, depth, spell}
use Rattle.expression.specs.Evaluate.{Worth, Worth.good, worth_of, joint, listed, evaluate}
use Rattle.expression.specs.Reader.{expr_at}
use Rattle.expression.specs.Format.{Valued, tag, found, named, both, parts, kept, expression}
use Rattle.expression.specs.Spelled.{indexes, Spelled}
use Rattle.expression.specs.Blame.{blame}
use Rattle.expression.proofs.Evaluated.{evaluate_range}
use Rattle.expression.proofs.Fields.{declared_worth_lem, fields_read}
use Rattle.expression.proofs.Tags.{tag_bytes}
use Rattle.expression.proofs.Blame.{place, answered}

-- ---- tests that were passed
fails_passes : {A B : Type 0} {number : ℕ} {x : A} → ◌≡◌ {A = Judged A} (fails number) (passes x) → B
fails_passes h = let z : ◌≡◌ {A = ℕ} 0 1 = cc in absurd (omega arith)

kept_passes : (x : Expr) (m : Made) (y : Valued) → kept x m ≡ passes y → (x ≡ y.expr) × (m ≡ Ok y.node)
kept_passes x (Ok a) y h =
    let z : ◌≡◌ {A = Valued} (record { expr = x; node = a }) y = cc in
    (ap (λ (v : Valued). v.expr) z, ap (λ (v : Valued). Ok v.node) z)
kept_passes x (Err f) y h = fails_passes h

found_passes : (x : Expr) (o : Option Node) (r : Expr × Made) → found x o ≡ passes r → (e : Node) × (o ≡ some e) × (◌≡◌ {A = Expr × Made} (x, Ok e) r)
found_passes x none r h = fails_passes h
found_passes x (some e) r h = (e, refl, cc)

-- ---- what is accepted is spelled there
module _ (s : List ℕ) (ws cs : List Node) where
  pub record Accepted (d a : ℕ) (y : Valued) (c : ℕ) : Type 0 where
    pub shallow : depth y.expr ≤ d
    pub value : evaluate ws cs y.expr ≡ good y.node
    pub bytes : AllBytes s → Bytes s a (spell y.expr) c

  -- the same of what follows the tag t, from b on
  record Follows (d : ℕ) (t : Tag) (b : ℕ) (r : Expr × Made) (c : ℕ) : Type 0 where
    pub shallow : depth r.0 ≤ suc d
    pub value : evaluate ws cs r.0 ≡ worth_of r.1
    pub bytes : AllBytes s → (a : ℕ) → Bytes s a (tag_number t ∷ []) b → Bytes s a (spell r.0) c

  -- an index, and two parts: what is made of them has that depth, that worth and that spelling
  named_follows : (d : ℕ) (t : Tag) (make : ℕ → Expr) (xs : List Node) → ((i : ℕ) → depth (make i) ≡ 1) → ((i : ℕ) → evaluate ws cs (make i) ≡ listed (get_elem? xs i)) → ((i : ℕ) → spell (make i) ≡ tag_number t ∷ bytes_of 2 i)
      → (b : ℕ) (r : Expr × Made) (c : ℕ) → Piece s (named make xs) b r c → Follows d t b r c
  named_follows d t make xs deep worth spelled b r c p =
      let q = found_passes (make p.0) (get_elem? xs p.0) r p.2 in
      rw (← q.2) (record {
        shallow = omega (arith, deep p.0);
        value = worth p.0 ∙ ap listed q.1;
        bytes = λ all a h. rw (spelled p.0) (join h (piece_bytes s all 2 b p.0 c p.1));
      })

  module _ (d : ℕ) (part : Format Valued) (ih : (b : ℕ) (y : Valued) (c : ℕ) → Piece s part b y c → Accepted d b y c) where
    both_follows : (t : Tag) (make : Expr → Expr → Expr) (rule : Envelope → Envelope → Made)
        → ((x y : Expr) → depth (make x y) ≡ suc (max (depth x) (depth y))) → ((x y : Expr) → evaluate ws cs (make x y) ≡ joint rule (evaluate ws cs x) (evaluate ws cs y)) → ((x y : Expr) → spell (make x y) ≡ tag_number t ∷ (spell x ++ spell y))
        → (b : ℕ) (r : Expr × Made) (c : ℕ) → Piece s (both part make rule) b r c → Follows d t b r c
    both_follows t make rule deep worth spelled b r c p =
        let q = p.3 in
        let x = ih b p.0 p.1 p.2 in
        let y = ih p.1 q.0 q.1 q.2 in
        rw (← q.3.0) (record {
          shallow = omega (arith, deep p.0.expr q.0.expr, x.shallow, y.shallow);
          value = worth p.0.expr q.0.expr ∙ rw (x.value, y.value);
          bytes = λ all a h. rw (spelled p.0.expr q.0.expr, ← q.3.1) (join h (join (x.bytes all) (y.bytes all)));
        })

    parts_follow : (t : Tag) (b : ℕ) (r : Expr × Made) (c : ℕ) → Piece s (parts ws cs part t) b r c → Follows d t b r c
    unfolding parts depth evaluate spell
    parts_follow Tag.Word b r c p = named_follows d Tag.Word Expr.word ws (λ i. refl) (λ i. refl) (λ i. refl) b r c p
    parts_follow Tag.Declared b r c p =
        let q₁ = p.3 in
        let q₂ = q₁.3 in
        let q₃ = q₂.3 in
        let k = signed_piece lower_least lower_most s b p.0 p.1 p.2 in
        let K = signed_piece upper_least upper_most s p.1 q₁.0 q₁.1 q₁.2 in
        let l = ranged_piece 4 1 (l_most + 1) beyond s q₁.1 q₂.0 q₂.1 q₂.2 in
        let n = ranged_piece 4 1 (q₂.0 + 1) beyond s q₂.1 q₃.0 q₃.1 q₃.2 in
        rw (← q₃.3.0) (record {
          shallow = omega arith;
          value = declared_worth_lem p.0 q₁.0 q₂.0 q₃.0 (fields_read p.0 q₁.0 q₂.0 q₃.0 s b p.1 q₁.1 q₂.1 q₃.1 k K l n);
          bytes = λ all a h. rw (← q₃.3.1)
              (join h
              (join (signed_in_bytes s all lower_least lower_most b p.0 p.1 k).2
              (join (signed_in_bytes s all upper_least upper_most p.1 q₁.0 q₁.1 K).2
              (join (field_in_bytes s all 4 1 (l_most + 1) beyond q₁.1 q₂.0 q₂.1 l).3
              (field_in_bytes s all 4 1 (q₂.0 + 1) beyond q₂.1 q₃.0 q₃.1 n).3))));
        })
    parts_follow Tag.Not b r c p =
        let x = ih b p.0 p.1 p.2 in
        rw (← p.3.0) (record {
          shallow = omega (arith, x.shallow);
          value = rw x.value;
          bytes = λ all a h. rw (← p.3.1) (join h (x.bytes all));
        })
    parts_follow Tag.On b r c p = both_follows Tag.On Expr.on on_within_limits (λ x y. refl) (λ x y. refl) (λ x y. refl) b r c p
    parts_follow Tag.Clock b r c p = named_follows d Tag.Clock Expr.clock cs (λ i. refl) (λ i. refl) (λ i. refl) b r c p

  piece_accepted : (d a : ℕ) (y : Valued) (c : ℕ) → Piece s (expression d ws cs) a y c → Accepted d a y c
  unfolding expression
  piece_accepted zero a y c p = fails_passes p.2
  piece_accepted (suc d) a y c p =
      let q = p.1 in
      let f = parts_follow d (expression d ws cs) (piece_accepted d) q.0 q.1 p.0 c q.3 in
      let k = kept_passes p.0.0 p.0.1 y p.2 in
      record {
        shallow = rw (← k.0) f.shallow;
        value = rw (← k.0) (f.value ∙ ap worth_of k.1);
        bytes = λ all. rw (← k.0) (f.bytes all a (tag_bytes s all a q.0 q.1 (piece_read s tag a q.0 q.1 q.2)));
      }

  pub accepted : (d a : ℕ) (y : Valued) (c : ℕ) → expr_at d s ws cs a ≡ got y c → Accepted d a y c
  unfolding expr_at
  accepted d a y c h = piece_accepted d a y c (read_piece s (expression d ws cs) a y c h)

pub reads : (s : List ℕ) → AllBytes s → (ws cs : List Node) (d a : ℕ) (y : Valued) (c : ℕ) → expr_at d s ws cs a ≡ got y c → Spelled s ws cs d a y.expr y.node c
reads s all ws cs d a y c h =
    let t = accepted s ws cs d a y c h in
    record { shallow = t.shallow; value = t.value; bytes = t.bytes all }

-- ---- and what is spelled there is accepted
pub spelled_read : (s : List ℕ) (ws cs : List Node) → length ws ≤ indexes → length cs ≤ indexes → (d a : ℕ) (x : Expr) (e : Node) (c : ℕ)
    → Spelled s ws cs d a x e c → expr_at d s ws cs a ≡ got (record { expr = x; node = e }) c
spelled_read s ws cs hw hc d a x e c h =
    answered s ws cs hw hc x d a c (evaluate_range ws cs x e h.value) h.shallow h.bytes
    ∙ ap (λ (m : Worth). place x m c (a + blame ws cs x)) h.value
