-- Every legal history of a feasible set is lawful.
use Rattle.std.proofs.Common.{◌≡◌, ℕ, ◌+◌, ◌/◌, true, [], ◌∷◌, refl, sym, ap, subst, lt-ltb, arith}
use Rattle.std.specs.Prelude.{nat_lt}
use Rattle.slot_core.specs.declared.jobs.Job.{Job}
use Rattle.slot_core.specs.declared.tasks.TaskSet.{TaskSet}
use Rattle.slot_core.specs.declared.events.Ran.{Ran}
use Rattle.slot_core.specs.declared.events.Ran.TheVariants.{Idle as RanIdle, Key as RanKey}
use Rattle.slot_core.specs.declared.events.What.{What}
use Rattle.slot_core.specs.declared.events.What.TheVariants.{Start, End}
use Rattle.slot_core.specs.Sets.Cycles.{cycle_of}
use Rattle.slot_core.specs.Sets.Ranges.{is_sound}
use Rattle.slot_core.specs.Feasibility.Feasible.{IsFeasible}
use Rattle.slot_core.specs.Runs.Choice.{choice}
use Rattle.slot_core.specs.Runs.Histories.{History, time_of}
use Rattle.slot_core.specs.Runs.Scenes.{guaranteed_in, remaining, scene_of}
use Rattle.slot_core.specs.Runs.Traces.{Occurrence, arrive, slot, told_of_slot, told_of, MayCome, IsDue, IsLegal}
use Rattle.slot_core.specs.Claims.Lawful.{is_in_time, MayTell, IsLawful}
use Rattle.slot_facts.specs.Lawful.{EveryLegalHistoryIsLawful}
use Rattle.slot_facts.proofs.Histories.Unended.{unended_own}
use Rattle.slot_facts.proofs.Legal.Bounds.{Reaches, due-later}
use Rattle.slot_facts.proofs.Legal.Carried.{carried-legal, reaches-tail}
use Rattle.slot_facts.proofs.Legal.Data.{Slots, Entries, LegalEntries, legal-as_data}
use Rattle.slot_facts.proofs.Legal.Known.{NoneIsLate}
use Rattle.slot_facts.proofs.Legal.Owned.{IsOwned}
use Rattle.slot_facts.proofs.Legal.Rows.{entries-before}
use Rattle.slot_facts.proofs.Legal.Traces.{legal-due}
use Rattle.slot_facts.proofs.Lists.Tests.{list_all-from_Has}
use Rattle.slot_facts.proofs.Lawful.Data.{IsPermitted, IsLawfulSlot}
use Rattle.slot_facts.proofs.Lawful.Owned.{permitted-from_owned}

-- where none is late, no remaining job is past its deadline
in_time-none_late : (set : TaskSet) (h : History) → NoneIsLate set (time_of h / cycle_of set + 3) h → is_in_time (scene_of set (cycle_of set) h) ≡ true
in_time-none_late set h none_late =
    list_all-from_Has (λ (j : Job). nat_lt (time_of h) j.dl) (remaining set (cycle_of set) h) (λ j at.
    let own = unended_own h (guaranteed_in set (cycle_of set) (time_of h / cycle_of set + 3) h) j at in
    let due_is : j.dl ≡ own.0.dl = ap (λ (j : Job). j.dl) own.1.same in
    lt-ltb (time_of h) j.dl (omega (arith, none_late own.0 own.1.listed own.1.runs)))

-- what is owned of a slot may run in it
ran-permitted : {S : Slots} (set : TaskSet) (cycles : ℕ) (h : History) (ran : Ran) → is_sound set ≡ true → Entries S set (cycle_of set) h → Reaches set h cycles → IsOwned set cycles (told_of_slot ran ∷ h) → IsPermitted set (cycle_of set) h ran
ran-permitted set cycles h RanIdle sound told reaches owned = refl
ran-permitted set cycles h (RanKey key) sound told reaches owned =
    permitted-from_owned set cycles h sound told reaches key owned.0

module _ (set : TaskSet) (sound : is_sound set ≡ true) (feasible : IsFeasible set (cycle_of set)) where
  -- a slot of a legal history is lawful
  lawful-slot : (h : History) (ran : Ran) → LegalEntries set (cycle_of set) (told_of_slot ran ∷ h) → IsLawfulSlot set (cycle_of set) h ran
  lawful-slot h ran legal =
      let after = told_of_slot ran ∷ h in
      let cycles = time_of after / cycle_of set + 3 in
      let reaches : Reaches set after cycles = omega arith in
      let carried = carried-legal set sound feasible legal cycles reaches in
      record {
        may = ran-permitted set cycles h ran sound (entries-before legal) (reaches-tail set (told_of_slot ran) h cycles sound reaches) carried.owned;
        in_time = in_time-none_late set after (due-later set cycles after sound legal reaches carried);
      }

  -- what is told of an occurrence at a legal history may be told
  pub may_tell-legal : (h : History) (next : Occurrence) → IsLegal set (cycle_of set) h → MayCome set h next → MayTell set (cycle_of set) h next (told_of set (cycle_of set) h next)
  may_tell-legal h (arrive row event) legal may = refl
  may_tell-legal h slot legal may =
      let cycle = cycle_of set in
      let ran = choice set.sporadics cycle (scene_of set cycle h) in
      let longer = legal-due set cycle h (told_of_slot ran) legal (slot, tt, refl) in
      let lawful = lawful-slot h ran (legal-as_data set cycle (told_of_slot ran ∷ h) longer) in
      (ran, refl, lawful.may, lawful.in_time)

  -- so may what is due
  lawful-due : (h : History) (what : What) → IsLegal set (cycle_of set) h → IsDue set (cycle_of set) h what → (next : Occurrence) × MayCome set h next × MayTell set (cycle_of set) h next what
  lawful-due h what legal (next, may, is) =
      (next, may, subst (MayTell set (cycle_of set) h next) (sym is) (may_tell-legal h next legal may))

  -- so may all entries
  lawful-from_legal : (h : History) → IsLegal set (cycle_of set) h → IsLawful set (cycle_of set) h
  lawful-from_legal [] legal = tt
  lawful-from_legal (Start ∷ h) legal = lawful-from_legal h legal
  lawful-from_legal (End ∷ h) legal = lawful-from_legal h legal
  lawful-from_legal (what ∷ h) legal = (lawful-due h what legal.1 legal.0, lawful-from_legal h legal.1)

-- every legal history of a feasible set is lawful
pub every_legal_history_is_lawful : EveryLegalHistoryIsLawful
every_legal_history_is_lawful set h sound feasible legal = lawful-from_legal set sound feasible h legal
