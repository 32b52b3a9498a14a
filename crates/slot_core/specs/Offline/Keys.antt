-- Keys of jobs and their order: offline jobs first, then sporadic, firm and soft ones, each by its
-- numbers.
use Rattle.std.specs.Prelude.{ℕ, Bool, true, false, List, [], ◌∷◌}
use Rattle.std.specs.Ordering.{nat_cmp, is_eq, is_lt}
use Rattle.std.specs.Cmp.Lexicographic.{slice_cmp}
use Rattle.slot_core.specs.declared.jobs.Key.{Key}
use Rattle.slot_core.specs.declared.jobs.Key.TheVariants.{Offline, Sporadic, Firm, Soft}
use Rattle.slot_core.specs.declared.jobs.Job.{Job}

-- the kind of a key and its numbers; keys are ordered as these lists are
abbrev pub key_order : Key → List ℕ
key_order (Offline graph task instance) = 0 ∷ graph ∷ task ∷ instance ∷ []
key_order (Sporadic index row) = 1 ∷ index ∷ row ∷ []
key_order (Firm row) = 2 ∷ row ∷ []
key_order (Soft row) = 3 ∷ row ∷ []

-- the key of an offline job
abbrev pub is_offline : Key → Bool
is_offline (Offline graph task instance) = true
is_offline _ = false

-- the key of a soft job
abbrev pub is_soft : Key → Bool
is_soft (Soft row) = true
is_soft _ = false

-- the row of the arrival that a key names, 0 for an offline job
abbrev pub row_of : Key → ℕ
row_of (Offline graph task instance) = 0
row_of (Sporadic index row) = row
row_of (Firm row) = row
row_of (Soft row) = row

-- the two keys are one
abbrev pub same_key : Key → Key → Bool
same_key a b = is_eq (slice_cmp nat_cmp (key_order a) (key_order b))

-- the order of earliest deadline first: by deadline, then by key
abbrev pub deadline_order : Job → List ℕ
deadline_order job = job.dl ∷ key_order job.key

-- the first job goes before the second by earliest deadline first
abbrev pub is_earlier : Job → Job → Bool
is_earlier a b = is_lt (slice_cmp nat_cmp (deadline_order a) (deadline_order b))
