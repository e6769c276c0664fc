-- "Reply numbers", 1 to 11: working out gives each exactly when the table says, at its place. Assumes nothing.
use mathlib.Core.Path.{◌≡◌, refl, sym, ap, ◌∙◌}
use mathlib.Core.Logic.{◌↔◌, inl, inr}
use mathlib.Core.Bool.{Bool, true, false, cond}
use mathlib.Core.List.{List}
use Prim.Native.Nat.{ℕ, ◌*◌, ◌≤◌}
use lib.Dec.{leb}
use lib.ListN.{length}
use native.Mathlib.Omega.{arith}
use borrow.Author.Tests.{le-leb, lt-leb, leb-true, leb-false}
use Rattle.std.specs.Prelude.{Result, Ok, Err}
use Rattle.reply.specs.Numbers.{short_result}
use Rattle.reply.specs.declared.Refusal.{Refusal}
use Rattle.reply.specs.Refusal.{cause_number, RefusedWith}
use Rattle.reply.specs.Inner.Causes.{cause_with, refusal}
use Rattle.reply.proofs.Causes.{number_back}
use Rattle.field.specs.Read.{Read, Read.got, Read.refused, bind}
use Rattle.field.proofs.Read.{refused_got, same_refused, through, cond_left}
use Rattle.sheet.specs.Reader.{read_sheet}
use Rattle.sheet.specs.SheetRead.{SheetRead}
use Rattle.sheet.specs.Format.{Passed}
use Rattle.sizing.specs.Table.{WorkRefused}
use Rattle.sizing.specs.declared.Totals.{Totals}
use Rattle.sizing.specs.WorkOut.{room_for, worked_of, totals_of, reply_of}
use Rattle.sheet.proofs.Refusing.Format.{refused_listed, listed_refused, accepted_passed, passed_accepted}
use Rattle.sheet.proofs.Refusing.Numbers.{one_to_ten}

-- what was answered is a refusal with a number and a place, where what was read is refused so
module _ {A B : Type 0} (reply : Read A → Result B Refusal) where
  -- a piece is answered as one, and a refusal as that with its number
  pub record Replies : Type 0 where
    pub of_got : A → ℕ → B
    pub got_is : (x : A) (c : ℕ) → reply (got x c) ≡ Ok (of_got x c)
    pub refused_is : (number place : ℕ) → reply (refused number place) ≡ Err (refusal number place)

  pub refused_as : Replies → (x : Read A) → ((n p : ℕ) → x ≡ refused n p → (1 ≤ n) × (n ≤ 17)) → (number place : ℕ) → RefusedWith (reply x) number place ↔ (x ≡ refused number place)
  refused_as h (got y c) few number place = rw (h.got_is y c) (λ k. absurd k, λ k. refused_got (sym k))
  refused_as h (refused m q) few number place =
      let back : cause_number (cause_with m) ≡ m = number_back m (few m q refl).0 (few m q refl).1 in
      rw (h.refused_is m q) (
        λ k. let n : m ≡ number = sym back ∙ k.0 in rw (n, k.1),
        λ k.
            let n : m ≡ number = same_refused (λ x y. x ≡ number) (sym k) refl in
            let p : q ≡ place = same_refused (λ x y. y ≡ place) (sym k) refl in
            (back ∙ n, p),
      )

module _ (s : List ℕ) (clocks links : ℕ) where
  pub worked_listed : (number place : ℕ) → worked_of s clocks links ≡ refused number place → WorkRefused s clocks links number place
  unfolding worked_of
  worked_listed number place h = by (read_sheet s) refl h
    where
      room : (o : SheetRead) (c : ℕ) → Passed s o → (a b : Bool) → leb (4 * length o.table) clocks ≡ a → leb (3 * length o.sheet.links) links ≡ b
          → cond a (cond b (got o c) (refused short_result 0)) (refused short_result 0) ≡ refused number place → WorkRefused s clocks links number place
      room o c w true true p q f = refused_got (sym f)
      room o c w true false p q f = same_refused (WorkRefused s clocks links) f (WorkRefused.too_short o w (inr (leb-false (3 * length o.sheet.links) links q)))
      room o c w false b p q f = same_refused (WorkRefused s clocks links) f (WorkRefused.too_short o w (inl (leb-false (4 * length o.table) clocks p)))

      by : (r : Read SheetRead) → read_sheet s ≡ r → bind r (room_for clocks links) ≡ refused number place → WorkRefused s clocks links number place
      by (got o c) e f = room o c (accepted_passed s o c e).0 (leb (4 * length o.table) clocks) (leb (3 * length o.sheet.links) links) refl refl f
      by (refused n q) e f = WorkRefused.in_sheet (refused_listed s number place (e ∙ f))

  pub listed_worked : {number place : ℕ} → WorkRefused s clocks links number place → worked_of s clocks links ≡ refused number place
  unfolding worked_of
  listed_worked (WorkRefused.in_sheet r) = rw (listed_refused s r)
  listed_worked (WorkRefused.too_short o w (inl l)) = rw (passed_accepted s o (length s) w refl, lt-leb (4 * length o.table) clocks l)
  listed_worked (WorkRefused.too_short o w (inr l)) = rw (passed_accepted s o (length s) w refl, lt-leb (3 * length o.sheet.links) links l) (either (leb (4 * length o.table) clocks))
    where
      either : (t : Bool) → ◌≡◌ {A = Read SheetRead} (cond t (refused short_result 0) (refused short_result 0)) (refused short_result 0)
      either true = refl
      either false = refl

  pub worked_passed : (o : SheetRead) (c : ℕ) → worked_of s clocks links ≡ got o c
      → Passed s o × (c ≡ length s) × (4 * length o.table ≤ clocks) × (3 * length o.sheet.links ≤ links)
  unfolding worked_of
  worked_passed o c h =
      let r = through (read_sheet s) (room_for clocks links) o c h in
      let p = cond_left (leb (4 * length r.0.table) clocks) _ short_result 0 o c r.3 in
      let q = cond_left (leb (3 * length r.0.sheet.links) links) _ short_result 0 o c p.1 in
      let is : r.0 ≡ o = cc in
      let w = accepted_passed s o c (r.2 ∙ q.1) in
      (w.0, w.1, leb-true (4 * length o.table) clocks (rw is at p.0), leb-true (3 * length o.sheet.links) links (rw is at q.0))

  pub passed_worked : (o : SheetRead) (c : ℕ) → Passed s o × (c ≡ length s) × (4 * length o.table ≤ clocks) × (3 * length o.sheet.links ≤ links)
      → worked_of s clocks links ≡ got o c
  unfolding worked_of
  passed_worked o c h =
      rw (passed_accepted s o c h.0 h.1, le-leb (4 * length o.table) clocks h.2, le-leb (3 * length o.sheet.links) links h.3)

  -- ---- as the reply has them
  few : (n p : ℕ) → worked_of s clocks links ≡ refused n p → (1 ≤ n) × (n ≤ 17)
  few n p h = go (worked_listed n p h)
    where
      go : {m q : ℕ} → WorkRefused s clocks links m q → (1 ≤ m) × (m ≤ 17)
      go (WorkRefused.in_sheet {number = m} {place = q} r) = let t = one_to_ten s m q (listed_refused s r) in (t.0, omega (arith, t.1))
      go (WorkRefused.too_short o w l) = (omega arith, omega arith)

  pub working_exactly : (number place : ℕ) → RefusedWith (reply_of (worked_of s clocks links)) number place ↔ WorkRefused s clocks links number place
  working_exactly number place =
      let e = refused_as reply_of (record { of_got = λ o c. totals_of o; got_is = λ o c. refl; refused_is = λ n p. refl }) (worked_of s clocks links) few number place in
      (λ h. worked_listed number place (e.0 h), λ h. e.1 (listed_worked h))

  pub working_accepted : ((t : Totals) × (reply_of (worked_of s clocks links) ≡ Ok t)) ↔ ((o : SheetRead) × Passed s o × (4 * length o.table ≤ clocks) × (3 * length o.sheet.links ≤ links))
  working_accepted = (λ h. from (worked_of s clocks links) refl h.1, λ h. (totals_of h.0, ap reply_of (passed_worked h.0 (length s) (h.1, refl, h.2, h.3))))
    where
      from : {t : Totals} (w : Read SheetRead) → worked_of s clocks links ≡ w → reply_of w ≡ Ok t → (o : SheetRead) × Passed s o × (4 * length o.table ≤ clocks) × (3 * length o.sheet.links ≤ links)
      from (got o c) e h = let p = worked_passed o c e in (o, p.0, p.2, p.3)
      from (refused n p) e h = absurd (cc)
