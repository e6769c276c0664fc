-- What the code's parts are given and answer on the way to the listing: clocks and links in tables.
use Rattle.std.specs.Prelude.{◌≡◌, List, ℕ}
use Rattle.link.specs.declared.Row.{Row}
use Rattle.envelope.specs.declared.Node.{Node}
use Rattle.sheet.specs.Sheet.{Link}
use Rattle.sizing.specs.Inner.Rows.{rows_in, rooms_over}
use Rattle.line.specs.Text.{put}
use Rattle.line.specs.declared.Writer.{Writer}
use Rattle.line.specs.Writing.{out_in, Leaves}
use Rattle.sizing.specs.declared.Rooms.{Rooms}
use Rattle.report.specs.Listing.{link_lines, whole_text}

-- the links' lines are put, and the two rooms are the sums over them
pub record LinksPut (w : Writer) (rs : List Row) (w' : Writer) (rooms : Rooms) : Type 0 where
  pub lines : Leaves w w' (put (out_in w) (link_lines 0 rs))
  pub sums : rooms ≡ rooms_over rs

-- the text of a sheet whose nodes, states and links' ends are in tables
abbrev pub table_text : List Node → List ℕ → List Link → List ℕ
table_text t ss es = whole_text ss t (rows_in t ss es)
