-- Demand 3's second half, from the bytes: every accepted link of a sheet that is accepted serves whichever streams its two clocks can stand for, or any
-- others in their envelopes. Assumes nothing.
use mathlib.Core.Path.{◌≡◌, sym, ap₂, ◌∙◌, subst}
use mathlib.Core.Logic.{inl, inr}
use mathlib.Core.List.{List, []}
use mathlib.Core.Option.{some}
use Prim.Native.Nat.{ℕ}
use native.Mathlib.Omega.{arith}
use lib.ListN.{length, get_elem?}
use Rattle.field.specs.Read.{Read.got}
use Rattle.field.specs.Spelling.{AllBytes}
use Rattle.envelope.specs.declared.Node.{Node}
use Rattle.envelope.specs.Stream.{Stream, Lies}
use Rattle.link.specs.declared.Verdict.TheVariants.{Accepted}
use Rattle.link.specs.Link.{verdict_of}
use Rattle.link.specs.Promise.{Serves}
use Rattle.link.proofs.Links.{links}
use Rattle.expression.specs.Promise.{AllLegal, Meaning}
use Rattle.expression.proofs.Lookup.{lookup_there}
use Rattle.expression.proofs.Promise.{meaning}
use Rattle.sheet.specs.Sheet.{Link, LinkRow, WordRow}
use Rattle.sheet.specs.Reader.{read_sheet}
use Rattle.sheet.specs.SheetRead.{SheetRead}
use Rattle.sizing.specs.Rooms.{verdict_between, verdict_in}
use Rattle.sizing.specs.Promise.{StreamOf, Served}
use Rattle.sheet.proofs.Spelling.Rows.{every_at, each_at}
use Rattle.sheet.proofs.Spelling.Sheets.{Opens, sheet_reads}

module _ (s : List ℕ) (bytes : AllBytes s) (o : SheetRead) (c : ℕ) (h : read_sheet s ≡ got o c) where
  opens : Opens s o c
  opens = sheet_reads s bytes o c h

  words_legal : AllLegal o.sheet.words
  words_legal i w e = (every_at WordRow o.sheet.words i w opens.legal.words_legal e).word

  pub meant : Meaning o.sheet.words o.sheet.clocks o.table
  meant = meaning o.sheet.words o.sheet.clocks o.table opens.worked words_legal

  stream_lies : (i : ℕ) (a : Stream) (x : Node) → get_elem? o.table i ≡ some x → StreamOf o i a → Lies a x.envelope
  stream_lies i a x e (inl p) = meant.clock_sound i x a e p
  stream_lies i a x e (inr p) =
      let z : p.0 ≡ x = cc (p.1, e) in
      subst (λ (y : Node). Lies a y.envelope) z p.2

  pub link_serves : (m : ℕ) (l : Link) (size : ℕ) → get_elem? o.sheet.links m ≡ some l → verdict_in o.table l ≡ Accepted size
      → (a b : Stream) → StreamOf o l.producer a → StreamOf o l.consumer b → Serves a b size
  link_serves m l size e v a b p q =
      let t : LinkRow (length o.sheet.clocks) l = each_at (λ xs l. LinkRow (length o.sheet.clocks) l) [] o.sheet.links m l opens.legal.links_legal e in
      let x = lookup_there o.table l.producer (omega (arith, t.producer_there, opens.worked.many)) in
      let y = lookup_there o.table l.consumer (omega (arith, t.consumer_there, opens.worked.many)) in
      let ok : verdict_of x.0.envelope y.0.envelope ≡ Accepted size = sym (ap₂ verdict_between x.1 y.1) ∙ v in
      links.serves x.0.envelope y.0.envelope (meant.clock_taken l.producer x.0 x.1) (meant.clock_taken l.consumer y.0 y.1) size ok a b
      (stream_lies l.producer a x.0 x.1 p) (stream_lies l.consumer b y.0 y.1 q)

pub served : (s : List ℕ) → AllBytes s → Served s
served s bytes =
    record {
      serves = link_serves s bytes;
      some_stream = λ o c h. (meant s bytes o c h).clock_some;
      taken = λ o c h. (meant s bytes o c h).clock_taken;
    }
