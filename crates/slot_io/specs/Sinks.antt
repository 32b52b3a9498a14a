-- What is written to a sink.
use Rattle.std.specs.Prelude.{ℕ, ◌+◌, ◌-◌, Bool, ◌&&◌, ◌||◌, nat_lt, if◌then◌else◌, List, ◌++◌, length, take, Option}
use Rattle.std.specs.Io.KnownBytes.{Appends}
use Rattle.slot_io.specs.Faults.{is_next_call}

-- known bytes grow by a part of bs from its front
abbrev pub AppendsPart : Option (List ℕ) → Option (List ℕ) → List ℕ → Type 0
AppendsPart before after bs = (n : ℕ) × Appends before after (take n bs)

-- what contracts see of `MemorySink`: the bytes written, the most that it takes, the put calls that
-- fail (counted from 1), the number of put calls so far, and the count of faults
pub record SinkInMemory : Type 0 where
  pub written : List ℕ
  pub room : ℕ
  pub failing : List ℕ
  pub calls : ℕ
  pub faults : ℕ

-- whether the next put of these bytes fails: there are some, and its call is made to fail or they
-- do not fit
abbrev pub put_fails : SinkInMemory → List ℕ → Bool
put_fails sink bytes =
    nat_lt 0 (length bytes)
    && (is_next_call sink.failing sink.calls
    || nat_lt sink.room (length sink.written + length bytes))

-- what is written after a put of these bytes: nothing more where its call is made to fail, else
-- what fits of them
abbrev pub written_after : SinkInMemory → List ℕ → List ℕ
written_after sink bytes =
    if is_next_call sink.failing sink.calls then sink.written
    else sink.written ++ take (sink.room - length sink.written) bytes
