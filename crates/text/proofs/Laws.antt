-- What a crate above may know of lines, numbers and bytes in text besides the contracts and the definitions.
--   What stands before a byte
--     before_le, before_take, before_all   a front part of the list; before_at, before_past: up to the byte
--     before_text, behind_text             where the byte follows a text whose bytes pass a test that it fails, that text and what follows; behind-drop
--   Lines
--     line_le, line_part                   a line is a part of the text
--     yes_ended, no_ended, ended_yes       whether it ends in a newline; next_is: where the next one starts
--     held_ended, held_short, held_next    the same of a line that the code holds
--     Named, names_said, names_none        a line of names: what the place behind it tells, or that there is none
--     rest_le, rest_end                    what follows some commas is the end of the line
--     NumbersFound, numbers-found          the numbers in the first fields: what the answer tells; numbers_none; numbers_range: each is in its range;
--                                          numbers_three, numbers_four: the test, field by field
--   Numbers
--     number_yes, number_no        the answer by the test; number_is, number_range, number_in_lem: the test's parts
--     answer_value, answer-wrong   the test by the answer
--     digit_lt, value_grows, every_append   digits
--   Bytes in hexadecimal
--     bytes-digits, bytes_half, length-bytes   how many bytes the digits say; length-bytes_of
--     hex_lt, get_or-bytes, bytes_lt   which; bytes_odd, bytes_other: and where they say none
--   Text that is written
--     decimal_le, decimal_short        how many digits; length-hexadecimal
--     appended-fits, end_room          where there is room; appended_full, end_full: where there is none; length-appended
--     append-behind, end_behind        text behind text; append-padded, end_padded: with zeros after it; padded_none, length-padded
--     read_decimal, read_hexadecimal   what is written is read back; every-decimal, every-hexadecimal
pub use Rattle.text.proofs.Fields.{before_at, before_past, before_le, before_take, before_all, before_text, behind_text, behind-drop}
pub use Rattle.text.proofs.LineParts.{line_le, line_part, yes_ended, no_ended, ended_yes, next_is, held_ended, held_short, held_next, Named}
pub use Rattle.text.proofs.LineParts.{names_said, names_none}
pub use Rattle.text.proofs.LineNumbers.{rest_le, rest_end, NumbersFound, numbers-found, numbers_none, numbers_range, numbers_three, numbers_four}
pub use Rattle.text.proofs.Numbers.{digit_lt, value_grows, every_append, number_yes, number_no, number_is, number_range, number_in_lem, answer_value}
pub use Rattle.text.proofs.Numbers.{answer-wrong}
pub use Rattle.text.proofs.Bytes.{hex_lt, bytes_half, length-bytes_of, bytes-digits, length-bytes, get_or-bytes, bytes_lt, bytes_odd, bytes_other}
pub use Rattle.text.proofs.Digits.{decimal_le, decimal_short, length-hexadecimal}
pub use Rattle.text.proofs.Buffers.{appended-fits, end_room, appended_full, end_full, length-appended, append-behind, end_behind, padded_none}
pub use Rattle.text.proofs.Buffers.{length-padded, append-padded, end_padded}
pub use Rattle.text.proofs.RoundTrips.{every-decimal, read_decimal, every-hexadecimal, read_hexadecimal}
