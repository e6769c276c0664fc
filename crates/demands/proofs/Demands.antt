-- The three demands are met.
-- Assumes nothing.
use mathlib.Core.Path.{◌≡◌, refl, sym, ap, ◌∙◌, subst}
use mathlib.Core.Bool.{Bool, true, false, cond}
use mathlib.Core.List.{List, ◌++◌}
use Prim.Native.Nat.{ℕ, ◌+◌, ◌*◌, ◌≤◌}
use lib.IntN.{ℤ}
use lib.Dec.{leb}
use lib.ListN.{length, drop}
use lib.Seq.{sets}
use Rattle.field.specs.Read.{Read, Read.got, Read.refused}
use Rattle.pattern.specs.declared.Answer.{Answer}
use Rattle.pattern.specs.Answer.{written, check_answer, first_answer, first_bytes, next_answer, next_bytes}
use Rattle.envelope.proofs.Theory.{holds}
use Rattle.link.proofs.Links.{links}
use Rattle.pattern.proofs.Promises.{patterns}
use Rattle.std.specs.Prelude.{Result, Ok, Err}
use Rattle.reply.specs.declared.Refusal.{Refusal}
use Rattle.reply.specs.Inner.Causes.{refusal}
use Rattle.sizing.specs.declared.Totals.{Totals}
use Rattle.sheet.specs.Reader.{read_sheet}
use Rattle.sheet.specs.SheetRead.{SheetRead}
use Rattle.sizing.specs.Rooms.{rows_of}
use Rattle.sizing.specs.WorkOut.{worked_of, reply_of, link_numbers, flatten, clocks_out, links_out, WorksOut}
use Rattle.sheet.specs.Format.{Passed}
use Rattle.sheet.proofs.Refusing.Format.{listed_refused, passed_accepted, one_passed, passed_or_refused, never_both}
use Rattle.sheet.proofs.Refusing.Format as Format
use Rattle.sheet.proofs.Refusing.Numbers.{one_to_ten}
use Rattle.sizing.proofs.Table.{working_exactly, working_accepted, passed_worked}
use Rattle.sizing.proofs.Served.{meant, served}
use Rattle.register.specs.Closing.{closing_of, closing_reply, closed_bytes}
use Rattle.register.specs.Quoting.{quoting_of, quoted_from, quoted_part, quote_reply}
use Rattle.register.proofs.Table.{closing_exactly, quoting_exactly}
use Rattle.register.proofs.Promise.{close_0, closes, quote_0, quotes, quotes_nothing, any_set, any_order}
use Rattle.report.specs.Listing.{sheet_text, listed_in, text_in, listed_of, text_after}
use Rattle.report.proofs.Table.{listing_exactly}
use Rattle.report.proofs.Promise.{listing}
use Rattle.demands.specs.Entry.{Fixed}
use Rattle.demands.proofs.Slices.{accepted_at, listing_fits}
use Rattle.demands.specs.Demands.{Demand1, Demand2, Demand3}

-- ---- "a fixed reply": a contract that gives each part by an equation is satisfied by those parts and by no others
fixed : {A : Type 0} (Contract : A → Type 0) (a : A) → Contract a → ((b : A) → Contract b → b ≡ a) → Fixed Contract
fixed Contract a here only = record { reply = a; satisfies = here; no_second = only }

pair : {A B : Type 0} {a c : A} {b d : B} → a ≡ c → b ≡ d → ◌≡◌ {A = A × B} (a, b) (c, d)
pair p q = λ i. (p i, q i)

triple : {A B C : Type 0} {a x : A} {b y : B} {c z : C} → a ≡ x → b ≡ y → c ≡ z → ◌≡◌ {A = A × B × C} (a, b, c) (x, y, z)
triple p q r = λ i. (p i, q i, r i)

-- ---- "untouched"
untouched : (w : Read SheetRead) (clocks links : List ℤ) (e : Refusal) → reply_of w ≡ Err e → (clocks_out w clocks ≡ clocks) × (links_out w links ≡ links)
untouched (got o c) clocks links e h = absurd (cc)
untouched (refused number place) clocks links e h = (refl, refl)

unclosed : (r : Read ℕ) (s : List ℕ) (e : Refusal) → closing_reply r ≡ Err e → closed_bytes r s ≡ s
unclosed (got place c) s e h = absurd (cc)
unclosed (refused number place) s e h = refl

unwritten : {a : Result Answer Refusal} (r : Refusal) (q p : List ℕ) → Err r ≡ a → written a q p ≡ p
unwritten r q p h = rw (← h)

unlisted : (x : Read SheetRead) (t : List ℕ) (e : Refusal) → listed_in x (length t) ≡ Err e → text_in x t ≡ t
unlisted (got o c) t e h = go (leb (length (sheet_text o)) (length t)) h
  where
    go : (b : Bool) → cond b (Ok (length (sheet_text o))) (Err (refusal 11 0)) ≡ Err e → cond b (sets t 0 (sheet_text o)) t ≡ t
    go true h = absurd (cc)
    go false h = refl
unlisted (refused number place) t e h = refl

pub demand_1 : Demand1
unfolding first_bytes next_bytes listed_of text_after
demand_1 =
    record {
      work_out_fixed = λ s clocks links.
          let w = worked_of s (length clocks) (length links) in
          fixed _ (reply_of w, clocks_out w clocks, links_out w links) (record { reply_is = refl; clocks_are = refl; links_are = refl })
          (λ b h. triple h.reply_is h.clocks_are h.links_are);
      close_fixed = λ s i.
          fixed _ (closing_reply (closing_of s i), closed_bytes (closing_of s i) s) (record { reply_is = refl; bytes_are = refl })
          (λ b h. pair h.reply_is h.bytes_are);
      quote_fixed = λ s i at.
          fixed _ (quoted_part (quoting_of s i) s, (at.0, quoted_from (quoting_of s i) + at.1)) (record { part_is = refl; same_memory = refl; begins = refl })
          (λ b h. pair h.part_is (pair h.same_memory h.begins));
      quote_reply_fixed = λ s i. fixed _ (quote_reply (quoting_of s i)) (record { reply_is = refl }) (λ b h. h.reply_is);
      list_fixed = λ s t.
          fixed _ (listed_of s (length t), text_after s t) (record { answer_is = refl; text_is = refl })
          (λ b h. pair h.answer_is h.text_is);
      check_fixed = λ e p. fixed _ (check_answer e p) (record { answer_is = refl }) (λ b h. h.answer_is);
      first_fixed = λ e p.
          fixed _ (first_answer e p, first_bytes e p) (record { answer_is = refl; bytes_are = refl })
          (λ b h. pair h.answer_is h.bytes_are);
      next_fixed = λ e p.
          fixed _ (next_answer e p, next_bytes e p) (record { answer_is = refl; bytes_are = refl })
          (λ b h. pair h.answer_is h.bytes_are);
      passed_or_refused = passed_or_refused;
      never_both = λ s o number place. never_both s o;
      one_sheet = one_passed;
      one_refusal = λ s number number' place place'. Format.one_refusal s;
      one_to_ten = λ s number place r. one_to_ten s number place (listed_refused s r);
      work_out_refused = λ s clocks links r cs ls h number place. rw h.reply_is (working_exactly s (length clocks) (length links) number place);
      work_out_0 = λ s clocks links r cs ls h. rw h.reply_is (working_accepted s (length clocks) (length links));
      list_refused = λ s t u r h number place. rw h.answer_is (listing_exactly s (length t) number place);
      check_refused = λ e p a h number place. rw h.answer_is ((patterns.refusals e p).check number place);
      first_refused = λ e p a q h number place. rw h.answer_is ((patterns.refusals e p).first number place);
      next_refused = λ e p a q h number place. rw h.answer_is ((patterns.refusals e p).next number place);
      close_refused = λ s i r t h number place. rw h.reply_is (closing_exactly s i number place);
      close_0 = close_0;
      quote_refused = λ s i r h number place. rw h.reply_is (quoting_exactly s i number place);
      quote_0 = quote_0;
      work_out_untouched = λ s clocks links r cs ls h e is.
          rw (h.clocks_are, h.links_are) (untouched (worked_of s (length clocks) (length links)) clocks links e (sym h.reply_is ∙ is));
      close_untouched = λ s i r t h e is. h.bytes_are ∙ unclosed (closing_of s i) s e (sym h.reply_is ∙ is);
      first_untouched = λ e p r q h. h.bytes_are ∙ unwritten r _ p h.answer_is;
      next_untouched = λ e p r q h. h.bytes_are ∙ unwritten r _ p h.answer_is;
      list_untouched = λ s t u r h e is. h.text_is ∙ unlisted (read_sheet s) t e (sym h.answer_is ∙ is);
    }

-- ---- what is given of a sheet that passes
read : (s : List ℕ) (o : SheetRead) → Passed s o → read_sheet s ≡ got o (length s)
read s o p = passed_accepted s o (length s) p refl

pub demand_2 : Demand2
demand_2 =
    record {
      taken = λ s bytes o p i x e. (served s bytes).taken o (length s) (read s o p) i x e;
      raised = holds.result;
      stands_inside = λ s bytes o p i x e a. (meant s bytes o (length s) (read s o p)).clock_sound i x a e;
      some_stream = λ s bytes o p. (meant s bytes o (length s) (read s o p)).clock_some;
      verdicts = λ o l x y p q. rw (p, q);
      sizes = links.size;
      given = λ s clocks links r cs ls h o p x y.
          let w = passed_worked s (length clocks) (length links) o (length s) (p, refl, x, y) in (
            h.reply_is ∙ ap reply_of w,
            h.clocks_are ∙ ap (λ (a : Read SheetRead). clocks_out a clocks) w,
            h.links_are ∙ ap (λ (a : Read SheetRead). links_out a links) w,
          );
      listing = listing_fits;
      listing_within = λ s bytes o p. (listing s).most bytes o (length s) (read s o p);
      closing = closes;
      any_set = any_set;
      any_order = any_order;
      quoting = quotes;
      quoting_nothing = quotes_nothing;
    }

-- ---- the sizes given
links_out_lem : (s : List ℕ) (clocks links : List ℤ) (r : Result Totals Refusal) (cs ls : List ℤ) → WorksOut s clocks links r cs ls → (t : Totals) → r ≡ Ok t → (o : SheetRead) → Passed s o
    → ls ≡ flatten link_numbers (rows_of o) ++ drop (3 * length o.sheet.links) links
links_out_lem s clocks links r cs ls h t is o p =
    let a = (working_accepted s (length clocks) (length links)).0 (t, sym h.reply_is ∙ is) in
    let same : a.0 ≡ o = one_passed s a.0 o a.1 p in
    let fits = subst (λ (x : SheetRead). (4 * length x.table ≤ length clocks) × (3 * length x.sheet.links ≤ length links)) same (a.2, a.3) in
    h.links_are
    ∙ ap (λ (x : Read SheetRead). links_out x links) (passed_worked s (length clocks) (length links) o (length s) (p, refl, fits.0, fits.1))

pub demand_3 : Demand3
demand_3 =
    record {
      walk = patterns.walk;
      inside = λ e t p a h. rw h.answer_is (patterns.inside e t p);
      links = λ s bytes clocks links r cs ls h t is o p m l e zero_at size size_at.
          (served s bytes).serves o (length s) (read s o p) m l size e
          (accepted_at o (drop (3 * length o.sheet.links) links) ls (links_out_lem s clocks links r cs ls h t is o p) m l e zero_at size size_at);
    }
