-- The listing of document 01's sheet comes out as it says. Assumes nothing.
use mathlib.Core.Path.{◌≡◌, refl}
use Rattle.whole.specs.Euclid.{euclid, gcd_of}
use Rattle.field.specs.Field.{low_first, field_at, field_in, signed, signed_at, signed_in}
use Rattle.envelope.specs.Stream.{ones}
use Rattle.envelope.specs.Envelope.{within_limits, has_room, before_start, result_of, normal_of, not_of}
use Rattle.envelope.specs.Word.{ones_in, word_bit, offsets, word_of}
use Rattle.envelope.specs.Made.{declared_of, limited, negated_of}
use Rattle.link.specs.Link.{early_of, size_of, verdict_of}
use Rattle.expression.specs.Evaluate.{fields_kept, declared_worth}
use Rattle.field.specs.Run.{run}
use Rattle.expression.specs.Format.{parts, expression}
use Rattle.expression.specs.Reader.{expr_at}
use Rattle.sheet.specs.Reader.{rows_at, section_at, bits_at, word_at, clock_at, link_at, links_on, clocks_on, read_from, read_sheet}
use Rattle.sizing.specs.Rooms.{total}
use Rattle.line.specs.Text.{last_digits, digits, decimal, line_of}
use Rattle.report.specs.Listing.{clock_lines, link_lines, whole_text, listing_of}
use Rattle.report.specs.Figures.{given, said}

pub figures : given ≡ said
unfolding listing_of whole_text clock_lines link_lines line_of decimal digits last_digits read_sheet read_from clocks_on links_on section_at rows_at bits_at word_at clock_at link_at run expression parts expr_at field_in field_at low_first signed_in signed_at signed ones_in word_of word_bit offsets ones fields_kept declared_worth declared_of negated_of limited normal_of not_of before_start result_of within_limits has_room gcd_of euclid verdict_of early_of size_of total
figures = refl
