-- Worked cases: the definitions compute to them.
use Rattle.std.specs.Prelude.{◌≡◌, Some, None, codes, refl}
use Rattle.std.specs.Fmt.{digits}
use Rattle.time_texts.specs.declared.TheConstants.{NANOS_LIMIT}
use Rattle.time_texts.specs.Reading.{time_of_text}
use Rattle.time_texts.specs.Writing.{time_text}

-- a fraction of a unit, read and written
pub fraction_read : time_of_text (codes "20.5ms") ≡ Some 20500000
fraction_read = refl

pub fraction_written : time_text 20500000 ≡ codes "20.5ms"
unfolding digits
fraction_written = refl

-- the longest time that a text writes
pub longest_read : time_of_text (codes "9999999999.999999999s") ≡ Some 9999999999999999999
longest_read = refl

pub longest_written : time_text 9999999999999999999 ≡ codes "9999999999.999999999s"
unfolding digits
longest_written = refl

-- one nanosecond more is written with 11 digits, and not read
pub limit : NANOS_LIMIT ≡ 10000000000000000000
limit = refl

pub limit_written : time_text NANOS_LIMIT ≡ codes "10000000000s"
unfolding digits
limit_written = refl

pub eleven_digits : time_of_text (codes "10000000000s") ≡ None
eleven_digits = refl

pub eleven_short : time_of_text (codes "10000000000ns") ≡ None
eleven_short = refl

pub ten_digits : time_of_text (codes "9999999999ns") ≡ Some 9999999999
ten_digits = refl

-- less than a nanosecond, a point without digits, no digits, a space
pub too_fine : time_of_text (codes "0.5ns") ≡ None
too_fine = refl

pub no_fraction : time_of_text (codes "1.s") ≡ None
no_fraction = refl

pub no_whole : time_of_text (codes ".5s") ≡ None
no_whole = refl

pub space : time_of_text (codes "1 s") ≡ None
space = refl

-- a time of 0 is written in nanoseconds
pub nothing_written : time_text 0 ≡ codes "0ns"
unfolding digits
nothing_written = refl

-- a whole unit is written in it
pub one_written : time_text 1000 ≡ codes "1us"
unfolding digits
one_written = refl
