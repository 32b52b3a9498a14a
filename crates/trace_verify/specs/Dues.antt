-- Slots due at each time, and what stretches of times tell of them.
use Rattle.std.specs.Prelude.{◌≡◌, ℕ, ◌+◌, ◌-◌, ◌*◌, ◌/◌, ◌<◌, ◌≤◌, ◌⊎◌, ◌^◌, List, get_or, length, take, sum, sum_by, nat_lt, if◌then◌else◌}
use Rattle.slot_core.specs.declared.jobs.Job.{Job}
use Rattle.trace_verify.specs.declared.dues.Stretch.{Stretch}

-- of slots due at each time, those that are due before a time
abbrev pub due_before : List ℕ → ℕ → ℕ
due_before due n = sum (take n due)

-- the slots left of the jobs that are due before a time
abbrev pub left_before : List Job → ℕ → ℕ
left_before jobs n = sum_by (λ (j : Job). if nat_lt j.dl n then j.left else 0) jobs

-- the end of the block of 64 times in which a time lies
abbrev pub block_end : ℕ → ℕ
block_end time = 64 * (time / 64 + 1)

-- the slots due are those left of the jobs
pub record AreDues (due : List ℕ) (jobs : List Job) : Type 0 where
  pub same : (n : ℕ) → due_before due n ≡ left_before jobs n

-- where so many slots are due before each time: the most by which those due from `from` on, by a
-- time before `end`, are above the slots from `base` to that time, 0 where they never are
pub record IsLack (before : ℕ → ℕ) (base from end lack : ℕ) : Type 0 where
  pub bound :
      (x : ℕ) → from ≤ x → x < end → before (x + 1) ≤ before from + (lack + (x - base))
  pub reached :
      (lack ≡ 0)
      ⊎ ((x : ℕ)
      × (from ≤ x)
      × (x < end)
      × (before from + (lack + (x - base)) ≤ before (x + 1)))

-- the same for those due after a time, without an end, with the slots from that time
pub record IsLackAfter (before : ℕ → ℕ) (from lack : ℕ) : Type 0 where
  pub bound :
      (x : ℕ) → from < x → before (x + 1) ≤ before (from + 1) + (lack + (x - from))
  pub reached :
      (lack ≡ 0)
      ⊎ ((x : ℕ)
      × (from < x)
      × (before (from + 1) + (lack + (x - from)) ≤ before (x + 1)))

-- what is told of the times from `start` to before `end`: how many slots are due in them, and what
-- these lack from `start`
pub record IsStretch (before : ℕ → ℕ) (start end : ℕ) (stretch : Stretch) : Type 0 where
  pub work : before end ≡ before start + stretch.work
  pub lack : IsLack before start start end stretch.lack

-- blocks of 64 times each, behind which nothing is due, and at no time very much
pub record AreBlocks (due : List ℕ) (blocks : List Stretch) : Type 0 where
  pub within : 64 * length blocks ≤ length due
  pub rest :
      (n : ℕ) → 64 * length blocks ≤ n
      → due_before due n ≡ due_before due (64 * length blocks)
  pub each :
      (k : ℕ) (d : Stretch) → k < length blocks
      → IsStretch (due_before due) (64 * k) (64 * k + 64) (get_or blocks k d)
  pub few : (n : ℕ) → due_before due n ≤ 2 ^ 62
