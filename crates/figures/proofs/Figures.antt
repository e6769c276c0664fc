-- Every figure of document 01 that is starred, and more, follows from the definitions by computing: one claim over one list.
-- Assumes nothing.
use mathlib.Core.Path.{◌≡◌, refl}
use Rattle.reply.specs.Inner.Causes.{cause_with}
use Rattle.whole.specs.Euclid.{euclid, gcd_of}
use Rattle.field.specs.Field.{low_first, field_at, field_in, signed, signed_at, signed_in}
use Rattle.envelope.specs.Stream.{ones}
use Rattle.envelope.specs.Envelope.{within_limits, has_room, before_start, result_of, normal_of, not_of, on_of}
use Rattle.envelope.specs.Word.{ones_in, word_bit, offsets, word_of}
use Rattle.envelope.specs.Made.{declared_of, limited, negated_of, on_within_limits}
use Rattle.envelope.specs.Inner.Tests.{is_taken}
use Rattle.link.specs.Link.{size_of, early_of, verdict_of}
use Rattle.expression.specs.Evaluate.{fields_kept, declared_worth}
use Rattle.field.specs.Run.{run}
use Rattle.expression.specs.Format.{parts, expression}
use Rattle.expression.specs.Reader.{expr_at}
use Rattle.sheet.specs.Reader.{rows_at, section_at, bits_at, word_at, clock_at, link_at, links_on, clocks_on, read_from, read_sheet}
use Rattle.sizing.specs.Rooms.{total, open_room, whole_room}
use Rattle.sizing.specs.WorkOut.{worked_of, flatten}
use Rattle.sizing.specs.Figures.{nots}
use Rattle.pattern.specs.Step.{low, high, one_may, zero_may}
use Rattle.pattern.specs.Answer.{check_answer, first_answer, first_bytes, next_answer, next_bytes}
use Rattle.figures.specs.Figures.{walk_from, walk_over, figures, said}

pub as_said : figures ≡ said
unfolding euclid gcd_of low_first field_at field_in signed signed_at signed_in ones before_start result_of normal_of not_of on_of ones_in word_bit offsets word_of within_limits has_room is_taken declared_of limited negated_of on_within_limits size_of early_of verdict_of fields_kept declared_worth run expression parts expr_at rows_at section_at bits_at word_at clock_at link_at links_on clocks_on read_from read_sheet total open_room whole_room worked_of flatten nots low high one_may zero_may check_answer first_answer first_bytes next_answer next_bytes walk_from walk_over cause_with
as_said = refl
