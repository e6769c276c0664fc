-- The promises on sheets are kept. Assumes nothing.
use mathlib.Core.Path.{sym, ap, ◌∙◌}
use mathlib.Core.List.{List}
use Prim.Native.Nat.{ℕ}
use lib.ListN.{length}
use Rattle.field.specs.Read.{Read.got}
use Rattle.field.specs.Spelling.{AllBytes}
use Rattle.sheet.specs.Reader.{read_sheet}
use Rattle.sheet.specs.Promise.{Tie, Refusals}
use Rattle.sheet.proofs.Spelling.Sheets.{Opens, sheet_reads, sheet_read, one_sheet}
use Rattle.sheet.proofs.Refusing.Format.{refused_listed, listed_refused, accepted_passed, passed_accepted}
use Rattle.sheet.proofs.Refusing.Faults.{within, first_fault, bytes_after, by_rules, cut_short}

pub tie : (s : List ℕ) → AllBytes s → Tie s
tie s bytes =
    record {
      accepted_is_spelled = λ o c h. let p : Opens s o c = sheet_reads s bytes o c h in (p.legal, p.worked, p.bytes, p.end);
      spelled_is_accepted = λ v xs l w e. ap read_sheet e ∙ sheet_read v xs l w ∙ ap (λ (t : List ℕ). got (record { sheet = v; table = xs }) (length t)) (sym e);
      one_sheet = one_sheet;
    }

pub refusals : (s : List ℕ) → AllBytes s → Refusals s
refusals s bytes =
    record {
      given = λ number place. (refused_listed s number place, listed_refused s);
      accepted = λ o c. (accepted_passed s o c, λ h. passed_accepted s o c h.0 h.1);
      bytes_after = bytes_after s;
      by_rules = by_rules s;
      cut_short = cut_short s;
      first_fault = first_fault s;
      within = within s;
    }
