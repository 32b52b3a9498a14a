-- The figures of jobs.
use Rattle.std.specs.Prelude.{ℕ, ◌+◌, ◌-◌, ◌*◌, ◌/◌, ◌%◌, ◌^◌, min, List, length, nat_lt, if◌then◌else◌, map, slice_get, Option, Some, None, suc, zero}
use Rattle.std.specs.List.{filter_map, fold}
use Rattle.view_stats.specs.declared.figures.Figures.{Figures}
use Rattle.view_stats.specs.declared.figures.Fixed.{Fixed}
use Rattle.view_stats.specs.declared.outcomes.Outcome.{Outcome}
use Rattle.view_stats.specs.Ordered.{ascending, distances, nearest_rank}

-- a sum up to the last value of a counter
abbrev pub plus : ℕ → ℕ → ℕ
plus a b = min (a + b) (2 ^ 64 - 1)

-- the numbers added up
abbrev pub total : List ℕ → ℕ
total numbers = fold plus 0 numbers

-- of two deadlines with their ends the one with the lower slack, and the first where both are alike
abbrev pub tighter : Option (ℕ × ℕ) → ℕ × ℕ → Option (ℕ × ℕ)
tighter None next = Some next
tighter (Some due) next = if nat_lt (next.0 + due.1) (due.0 + next.1) then Some next else Some due

-- with one more, where there is one
abbrev pub with_due : Option (ℕ × ℕ) → Option (ℕ × ℕ) → Option (ℕ × ℕ)
with_due due None = due
with_due due (Some next) = tighter due next

-- the one with the least slack of all, where there is one
abbrev pub tightest : List Outcome → Option (ℕ × ℕ)
tightest outcomes = fold (λ due (o : Outcome). with_due due o.due) None outcomes

-- a quotient in parts of which so many are one, rounded to the nearest, and up from the middle
abbrev pub rounded : ℕ → ℕ → ℕ → ℕ
rounded scale n count = (scale * n + count / 2) / count

-- the quotient as a whole number and parts, and none where the divisor is 0
abbrev pub quotient : ℕ → ℕ → ℕ → Option Fixed
quotient scale n zero = None
quotient scale n (suc count) =
    Some (record {
      whole = rounded scale n (suc count) / scale;
      parts = rounded scale n (suc count) % scale;
    })

-- the responses of the jobs that have ended, in ascending order
abbrev pub responses_of : List Outcome → List ℕ
responses_of outcomes = ascending (filter_map (λ (o : Outcome). o.response) outcomes)

-- the distances between the starts of the jobs that ran, in ascending order
abbrev pub starts_apart : List Outcome → List ℕ
starts_apart outcomes =
    ascending (distances (ascending (filter_map (λ (o : Outcome). o.start) outcomes)))

-- the last number, if there is one
abbrev pub last_of : List ℕ → Option ℕ
last_of numbers = slice_get numbers (length numbers - 1)

-- the figures of jobs in a trace of so many slots
abbrev pub figures_of : ℕ → List Outcome → Figures
figures_of slots outcomes =
    let responses = responses_of outcomes in
    let apart = starts_apart outcomes in
    record {
      jobs = length outcomes;
      ended = length responses;
      ran = total (map (λ (o : Outcome). o.ran) outcomes);
      load = quotient 10000 (total (map (λ (o : Outcome). o.ran) outcomes)) slots;
      fastest = slice_get responses 0;
      mean = quotient 100 (total responses) (length responses);
      p95 = slice_get responses (nearest_rank (length responses));
      slowest = last_of responses;
      due = tightest outcomes;
      closest = slice_get apart 0;
      farthest = last_of apart;
      preemptions = total (map (λ (o : Outcome). o.preemptions) outcomes);
    }
