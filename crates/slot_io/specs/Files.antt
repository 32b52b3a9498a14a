-- What files hold, and what fakes of them keep.
use Rattle.std.specs.Prelude.{ℕ, ◌+◌, Bool, ◌||◌, List, take, Option, option_map, is_none, refl}
use Rattle.std.specs.Coded.{Coded, code_by, coded×, coded_ℕ, coded_list, coded_option}
use Rattle.std.specs.Ordering.{nat_cmp}
use Rattle.std.specs.Cmp.Lexicographic.{slice_cmp}
use Rattle.std.specs.FinMap.{FinMap, get, code}
use Rattle.slot_io.specs.Faults.{is_next_call}

-- the bytes under each name
abbrev pub Held : Type 0
Held = FinMap (slice_cmp nat_cmp) (List ℕ)

-- the first bytes of a file, up to one more than the limit
abbrev pub first_bytes : Held → List ℕ → ℕ → Option (List ℕ)
first_bytes held name limit = option_map (take (limit + 1)) (get held name)

-- what contracts see of `MemoryFiles`: the files, the read calls that fail (counted from 1), the
-- number of read calls so far, the count of faults, the name of the last read that failed, and that
-- of the last one that gave bytes, with how many
pub record FilesInMemory : Type 0 where
  pub held : Held
  pub failing : List ℕ
  pub calls : ℕ
  pub faults : ℕ
  pub blamed : Option (List ℕ)
  pub given : Option (List ℕ × ℕ)

-- these files are stored as the tuple of their fields
abbrev pub files_code : Coded FilesInMemory
files_code =
    code_by
    (Held × (List ℕ × (ℕ × (ℕ × (Option (List ℕ) × Option (List ℕ × ℕ))))))
    (coded×
    (code (coded_list coded_ℕ) (coded_list coded_ℕ))
    (coded×
    (coded_list coded_ℕ)
    (coded×
    coded_ℕ
    (coded×
    coded_ℕ
    (coded×
    (coded_option (coded_list coded_ℕ))
    (coded_option (coded× (coded_list coded_ℕ) coded_ℕ)))))))
    (λ f. (f.held, (f.failing, (f.calls, (f.faults, (f.blamed, f.given))))))
    (λ p.
    record {
      held = p.0;
      failing = p.1.0;
      calls = p.1.1.0;
      faults = p.1.1.1.0;
      blamed = p.1.1.1.1.0;
      given = p.1.1.1.1.1;
    })
    (λ _. refl)

-- whether the next read of a name fails: its call is made to fail, or no file has the name
abbrev pub read_fails : FilesInMemory → List ℕ → Bool
read_fails files name = is_next_call files.failing files.calls || is_none (get files.held name)
