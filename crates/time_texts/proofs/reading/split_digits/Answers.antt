use Rattle.std.proofs.Common.{arith}
use Rattle.std.specs.Char.{is_ascii_digit}
use Rattle.std.proofs.lemmas.List.Sums.{prefix_len-le-length}
use Rattle.time_texts.proofs.Readings.{digits_before-digits}
use Rattle.time_texts.proofs.reading.split_digits.Goals as goal

pub split_at-requires : goal.split_at-requires
split_at-requires c = rw c.digit_count.ensures (prefix_len-le-length is_ascii_digit c.args.text.now)

pub returns-clause-digits : goal.returns-clause-digits
returns-clause-digits c =
    rw (c.split_at.ensures.front, c.digit_count.ensures) (digits_before-digits c.args.text.now)
