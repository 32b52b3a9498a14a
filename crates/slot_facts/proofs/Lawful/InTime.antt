-- In a lawful history of a feasible set no job that has not ended is past its deadline.
use Rattle.std.proofs.Common.{◌≡◌, ℕ, ◌+◌, ◌/◌, ◌<◌, true, [], ◌∷◌, subst, inl, inr, arith}
use Rattle.std.specs.Prelude.{nat_lt}
use Rattle.std.proofs.lemmas.Bool.{cases_lt, ltb-true}
use Rattle.slot_core.specs.declared.jobs.Job.{Job}
use Rattle.slot_core.specs.declared.tasks.TaskSet.{TaskSet}
use Rattle.slot_core.specs.declared.events.What.TheVariants.{Run, Idle}
use Rattle.slot_core.specs.Sets.Cycles.{cycle_of}
use Rattle.slot_core.specs.Sets.Ranges.{is_sound}
use Rattle.slot_core.specs.Feasibility.Feasible.{IsFeasible}
use Rattle.slot_core.specs.Runs.Histories.{History, time_of}
use Rattle.slot_core.specs.Runs.Scenes.{guaranteed_in, remaining, with_left, scene_of}
use Rattle.slot_core.specs.Claims.Lawful.{is_in_time}
use Rattle.slot_facts.proofs.Histories.Unended.{Has-unended}
use Rattle.slot_facts.proofs.Legal.Bounds.{Reaches, below_end}
use Rattle.slot_facts.proofs.Legal.Cycles.{offline_job-due, guaranteed-fewer}
use Rattle.slot_facts.proofs.Legal.Data.{slot_runs, idles}
use Rattle.slot_facts.proofs.Legal.Known.{NoneIsLate, guaranteed-known}
use Rattle.slot_facts.proofs.Legal.Owned.{not_over-earlier}
use Rattle.slot_facts.proofs.Legal.Rows.{entries-before, entries-earlier}
use Rattle.slot_facts.proofs.Legal.Served.{NoneWasLate, reaches-earlier}
use Rattle.slot_facts.proofs.Lists.Members.{passes_from_list_all}
use Rattle.slot_facts.proofs.Offline.Jobs.{cycle-positive}
use Rattle.slot_facts.proofs.Lawful.Data.{LawfulEntries}

module _ (set : TaskSet) (cycles : ℕ) (sound : is_sound set ≡ true) (feasible : IsFeasible set (cycle_of set)) where
  -- before the first entry none is late
  none_late-first : NoneIsLate set cycles []
  none_late-first job at runs =
      elim (guaranteed-fewer set 0 cycles [] job sound at) as (λ _. 0 < job.dl) [
        | inl none ↦ absurd none
        | inr far ↦ omega (arith, offline_job-due set cycles job sound feasible far.1)
      ]

  -- nor where no remaining job is late
  none_late-in_time : (h : History) → Reaches set h cycles → is_in_time (scene_of set (cycle_of set) h) ≡ true → NoneIsLate set cycles h
  none_late-in_time h reaches in_time job at runs =
      let few = time_of h / cycle_of set + 3 in
      let test = λ (j : Job). nat_lt (time_of h) j.dl in
      elim (guaranteed-fewer set few cycles h job sound at) [
        | inl near ↦
            let left = Has-unended h (guaranteed_in set (cycle_of set) few h) job runs near in
            ltb-true (time_of h) job.dl (passes_from_list_all test (remaining set (cycle_of set) h) (with_left h job) in_time left)
        | inr far ↦
            let past = below_end (time_of h) (cycle_of set) few (cycle-positive set sound) (omega arith) in
            omega (arith, far.0, offline_job-due set cycles job sound feasible far.1)
      ]

  -- in a lawful history no job that has not ended is past its deadline
  pub none_late-lawful : (h : History) → LawfulEntries set (cycle_of set) h → Reaches set h cycles → NoneIsLate set cycles h
  none_late-lawful [] told reaches = none_late-first
  none_late-lawful (Run key ∷ h) (slot_runs known lawful before) reaches = none_late-in_time (Run key ∷ h) reaches lawful.in_time
  none_late-lawful (Idle ∷ h) (idles lawful before) reaches = none_late-in_time (Idle ∷ h) reaches lawful.in_time
  none_late-lawful (what ∷ h) told reaches =
      λ job at runs.
      elim (cases_lt (time_of h) job.dl) [
        | inl later ↦ later
        | inr due ↦
            let known = guaranteed-known set cycles (what ∷ []) h job sound told at due in
            none_late-lawful h (entries-before told) reaches job known (not_over-earlier what h job.key job.declared runs)
      ]

  -- nor was one at any moment before
  pub none_was_late-lawful : (h : History) → LawfulEntries set (cycle_of set) h → Reaches set h cycles → NoneWasLate set cycles h
  none_was_late-lawful h told reaches later earlier same =
      let own = entries-earlier later earlier (subst (LawfulEntries set (cycle_of set)) same told) in
      none_late-lawful earlier own (reaches-earlier set cycles later earlier sound (subst (λ k. Reaches set k cycles) same reaches))
