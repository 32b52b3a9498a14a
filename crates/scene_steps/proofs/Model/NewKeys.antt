-- Keys of a row above the last: no entry of a history has run or ended the job of one.
use Rattle.std.proofs.Common.{◌≡◌, ℕ, suc, ◌+◌, ◌/◌, ◌<◌, ◌≤◌, true, false, [], ◌∷◌, map, refl, sym, ap, ◌∙◌, inl, inr, arith}
use Rattle.std.proofs.lemmas.Bool.{both_ways, cond-false, false_from_ne_true, or_from}
use Rattle.slot_core.specs.declared.jobs.Key.{Key}
use Rattle.slot_core.specs.declared.jobs.Key.TheVariants.{Soft as SoftKey, Firm as FirmKey}
use Rattle.slot_core.specs.declared.jobs.Job.{Job}
use Rattle.slot_core.specs.declared.jobs.SoftJob.{SoftJob}
use Rattle.slot_core.specs.declared.tasks.TaskSet.{TaskSet}
use Rattle.slot_core.specs.declared.events.What.{What}
use Rattle.slot_core.specs.declared.events.What.TheVariants.{Done, Withdraw, Run}
use Rattle.slot_core.specs.declared.events.Done.TheVariants.{Freed}
use Rattle.slot_core.specs.declared.events.Gone.TheVariants.{Freed as GoneFreed}
use Rattle.slot_core.specs.Offline.Keys.{same_key, is_offline, row_of}
use Rattle.slot_core.specs.Sets.Cycles.{cycle_of}
use Rattle.slot_core.specs.Sets.Ranges.{is_sound}
use Rattle.slot_core.specs.Claims.Service.{Concerns}
use Rattle.slot_core.specs.Runs.Histories.{History, time_of, last_row, executed, is_freed, soft_jobs}
use Rattle.slot_core.specs.Runs.Scenes.{guaranteed_in}
use Rattle.slot_facts.proofs.Choice.Earliest.{same_from_key}
use Rattle.slot_facts.proofs.Lists.Members.{Has-append_cases, Has-map_cases}
use Rattle.slot_facts.proofs.Legal.Data.{Slots, Entries}
use Rattle.slot_facts.proofs.Legal.Jobs.{guaranteed-cases, offline-key, soft-come}
use Rattle.slot_facts.proofs.Legal.Known.{HasJobOf, concerned-known}
use Rattle.slot_facts.proofs.Legal.Rows.{entries-before, rows-rise}

module _ {S : Slots} (set : TaskSet) (sound : is_sound set ≡ true) where
  -- a job of a history that is not offline came in a row up to the last
  row-of_job : (h : History) (key : Key) → Entries S set (cycle_of set) h → is_offline key ≡ false → HasJobOf set h key → row_of key ≤ last_row h
  row-of_job h key told came (declared, at) =
      let cycles = time_of h / cycle_of set + 3 in
      let jobs = guaranteed_in set (cycle_of set) cycles h in
      elim (Has-append_cases (map (λ (j : Job). (j.key, j.declared)) jobs) (map (λ (s : SoftJob). (SoftKey s.row, s.declared)) (soft_jobs h)) (key, declared) at) [
        | inl a ↦
            let m = Has-map_cases (λ (j : Job). (j.key, j.declared)) jobs (key, declared) a in
            let key_is : m.0.key ≡ key = ap (λ (p : Key × ℕ). p.0) m.2 in
            elim (guaranteed-cases set cycles h m.0 sound told m.1) as (λ _. row_of key ≤ last_row h) [
              | inl planned ↦ absurd (both_ways (is_offline key) came (sym (ap is_offline key_is) ∙ offline-key set (cycle_of set) cycles m.0 planned))
              | inr come ↦ omega (arith, come.row_at_most, ap row_of key_is)
            ]
        | inr b ↦
            let m = Has-map_cases (λ (s : SoftJob). (SoftKey s.row, s.declared)) (soft_jobs h) (key, declared) b in
            let key_is : SoftKey m.0.row ≡ key = ap (λ (p : Key × ℕ). p.0) m.2 in
            omega (arith, (soft-come set (cycle_of set) h m.0 told m.1).row_at_most, ap row_of key_is)
      ]

  -- so an entry concerns no key of a row above
  other-key : (what : What) (h : History) (key k : Key) → Entries S set (cycle_of set) (what ∷ h) → Concerns what k → is_offline key ≡ false → last_row h < row_of key → same_key key k ≡ false
  other-key what h key k told concerns came above =
      false_from_ne_true (same_key key k) (λ same.
      let key_is : key ≡ k = same_from_key key k same in
      let known = concerned-known set what k h told concerns in
      absurd (omega (arith, row-of_job h k (entries-before told) (sym (ap is_offline key_is) ∙ came) known, ap row_of key_is)))

  -- the job of such a key has not run
  pub not_run-new : (h : History) (key : Key) → Entries S set (cycle_of set) h → is_offline key ≡ false → last_row h < row_of key → executed key h ≡ 0
  not_run-new [] key told came above = refl
  not_run-new (Run k ∷ h) key told came above =
      let other = other-key (Run k) h key k told (inl refl) came above in
      cond-false (same_key key k) (suc (executed key h)) (executed key h) other ∙ not_run-new h key (entries-before told) came above
  not_run-new (what ∷ h) key told came above =
      not_run-new h key (entries-before told) came (omega (arith, rows-rise told))

  -- and was not ended
  pub not_freed-new : (h : History) (key : Key) → Entries S set (cycle_of set) h → is_offline key ≡ false → last_row h < row_of key → is_freed key h ≡ false
  not_freed-new [] key told came above = refl
  not_freed-new (Done row k (Freed n) ∷ h) key told came above =
      let before : last_row h < row_of key = omega (arith, rows-rise told) in
      let other = other-key (Done row k (Freed n)) h key k told (inr (n, refl)) came before in
      or_from (same_key key k) (is_freed key h) other (not_freed-new h key (entries-before told) came before)
  not_freed-new (Withdraw row firm (GoneFreed n) ∷ h) key told came above =
      let before : last_row h < row_of key = omega (arith, rows-rise told) in
      let other = other-key (Withdraw row firm (GoneFreed n)) h key (FirmKey firm) told (inr (n, refl)) came before in
      or_from (same_key key (FirmKey firm)) (is_freed key h) other (not_freed-new h key (entries-before told) came before)
  not_freed-new (what ∷ h) key told came above =
      not_freed-new h key (entries-before told) came (omega (arith, rows-rise told))
