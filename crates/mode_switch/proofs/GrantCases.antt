-- Worked cases of a change of plan: from any plan to one of two periodic tasks, and to one with a
-- sporadic task.
use Rattle.std.specs.Prelude.{◌≡◌, ℕ, ◌+◌, ◌≤◌, ◌<◌, false, List, [], ◌∷◌, codes, Some, None, Contains, refl}
use Rattle.std.specs.Fmt.{digits}
use Rattle.std.proofs.Common.{arith, sym, ◌∙◌, subst, inl, inr}
use Rattle.slot_core.specs.declared.jobs.Key.TheVariants.{Offline, Firm}
use Rattle.slot_core.specs.declared.jobs.Job.{Job}
use Rattle.slot_core.specs.declared.tasks.Graph.{Graph}
use Rattle.slot_core.specs.declared.tasks.TaskSet.{TaskSet}
use Rattle.slot_core.specs.declared.events.What.TheVariants.{Run, Idle}
use Rattle.slot_core.specs.Offline.Keys.{is_offline, is_soft, row_of}
use Rattle.slot_core.specs.Feasibility.Feasible.{IsFeasible}
use Rattle.slot_facts.proofs.Demand.Feasible.{IsFeasible-from_none}
use Rattle.slot_facts.proofs.Lists.Members.{Has-from_Contains}
use Rattle.slot_facts.proofs.Lists.ApartKeys.{AreApart-from_members}
use Rattle.mode_switch.specs.declared.turns.Turn.TheVariants.{Old, New}
use Rattle.change_laws.specs.Carried.{carried_of, since, cycles_of_change, jobs_after, AreCarried}
use Rattle.change_laws.specs.Grants.{CanChange}
use Rattle.change_laws.specs.Demand.{due_after, refusal_of, ShowsNoRoom}
use Rattle.change_laws.specs.Literal.{moved, moved_release, moved_deadline, due_at}
use Rattle.mode_switch.specs.Runs.{turn_between, turn_at, after_change, IsServedAfter}
use Rattle.mode_switch.specs.Texts.{change_text}
use Rattle.change_laws.proofs.GrantRefusals.{shows-from_refusal, refusals_are_exact}

-- a graph of one task
abbrev lone : List ℕ → ℕ → ℕ → ℕ → Graph
lone name period deadline wcet =
    record {
      name = name;
      period = period;
      offset = 0;
      deadline = deadline;
      tasks = record { name = codes "w"; wcet = wcet; after = [] } ∷ [];
    }

-- a second set: one slot of ten by 4, eight by 10
abbrev second : TaskSet
second =
    record {
      soft_limit = 64;
      graphs = lone (codes "p") 10 4 1 ∷ lone (codes "q") 10 10 8 ∷ [];
      sporadics = [];
    }

-- another: three slots of ten, and an alarm that may come each 10 slots and takes three
abbrev guarded : TaskSet
guarded =
    record {
      soft_limit = 64;
      graphs = lone (codes "p") 10 10 3 ∷ [];
      sporadics = record { name = codes "alarm"; wcet = 3; separation = 10; deadline = 4 } ∷ [];
    }

-- a firm job that came at 7 and is due at 10, with so many slots left
abbrev firm : ℕ → Job
firm left = record { key = Firm 1; est = 7; dl = 10; left = left; declared = left + 1 }

-- one that is due far later
abbrev far : Job
far = record { key = Firm 2; est = 5; dl = 43; left = 6; declared = 6 }

-- an offline job of the first set
abbrev other : Job
other = record { key = Offline 0 0 1; est = 8; dl = 16; left = 2; declared = 2 }

-- it is not carried
pub firm_jobs_are_carried : carried_of (other ∷ firm 1 ∷ far ∷ []) ≡ firm 1 ∷ far ∷ []
firm_jobs_are_carried = refl

-- counted from 8 on it is due at 2, and has one slot in all
pub times_since_the_change :
    since 8 (firm 1) ≡ record { key = Firm 1; est = 0; dl = 2; left = 1; declared = 1 }
times_since_the_change = refl

-- three cycles reach it, and the far one needs five: its deadline lies 35 slots after the change
pub three_cycles : cycles_of_change 10 8 (firm 1 ∷ []) ≡ 3
three_cycles = refl

pub five_cycles : cycles_of_change 10 8 (far ∷ []) ≡ 5
five_cycles = refl

-- with one slot left there is room, with two there is none by 18
pub granted : refusal_of second 8 (firm 1 ∷ []) ≡ None
granted = refl

pub refused :
    refusal_of second 8 (firm 2 ∷ [])
    ≡ Some (record { until = 18; need = 11; room = 10 })
refused = refl

-- with times of their own as much is due: the firm job, and one cycle of both tasks
pub due_by_18 : due_at second 8 (firm 2 ∷ []) 3 18 ≡ 11
due_by_18 = refl

pub due_in_ten_slots : due_after second 8 (firm 2 ∷ []) 3 10 ≡ 11
due_in_ten_slots = refl

-- the alarm may come at once: beside it two slots by 2 have no room by 4
pub refused_for_the_alarm :
    refusal_of guarded 8 (firm 2 ∷ [])
    ≡ Some (record { until = 12; need = 5; room = 4 })
refused_for_the_alarm = refl

pub granted_beside_the_alarm : refusal_of guarded 8 (firm 1 ∷ []) ≡ None
granted_beside_the_alarm = refl

-- so has one that is due far later
pub granted_for_long : refusal_of guarded 8 (far ∷ []) ≡ None
granted_for_long = refl

-- what runs: first the carried job, which is due first, then the second plan's own
pub first_slots :
    after_change second 8 (firm 1 ∷ []) 4
    ≡ Run (Offline 1 0 0) ∷ Run (Offline 1 0 0) ∷ Run (Offline 0 0 0) ∷ Run (Firm 1) ∷ []
first_slots = refl

-- of two that are due at once the carried job goes first
pub ties_to_the_carried_job :
    turn_between (Some (firm 1)) (Some (record other { dl = 10 })) ≡ Old (Firm 1)
ties_to_the_carried_job = refl

pub earlier_deadline_first :
    turn_between (Some (firm 1)) (Some (record other { dl = 9 })) ≡ New (Offline 0 0 1)
earlier_deadline_first = refl

-- a slot without a job that is ready is idle
pub idle_where_none_is_ready : after_change guarded 8 [] 4 ≡ Idle ∷ Run (Offline 0 0 0) ∷ Run (Offline 0 0 0) ∷ Run (Offline 0 0 0) ∷ []
idle_where_none_is_ready = refl

-- the second cycle's jobs count their instances from the change on
pub second_cycle : turn_at second 8 [] 10 ≡ New (Offline 0 0 1)
second_cycle = refl

-- the text of the change up to slot 12
pub text_of_four_slots :
    change_text second second 8 (firm 1 ∷ []) 12
    ≡ codes "8 switch granted\n8 old firm:1\n9 new p.w#0\n10 new q.w#0\n11 new q.w#0\n12 end\n"
unfolding digits
text_of_four_slots = refl

-- no window of the second set has more demand than slots
second_is_feasible : IsFeasible second 10
second_is_feasible = IsFeasible-from_none second 10 refl

-- it is the only one of its list
only : (left : ℕ) (job : Job) → Contains (firm left ∷ []) job → firm left ≡ job
only left job at = elim (Has-from_Contains (firm left ∷ []) job at) [ inl same ↦ same | inr none ↦ absurd none ]

-- the firm job may be carried
AreCarried-firm : (left : ℕ) → 1 ≤ left → AreCarried 8 1 (firm left ∷ [])
AreCarried-firm left some =
    record {
      other = λ job at. subst (λ (j : Job). is_offline j.key ≡ false) (only left job at) refl;
      hard = λ job at. subst (λ (j : Job). is_soft j.key ≡ false) (only left job at) refl;
      come = λ job at. subst (λ (j : Job). j.est ≤ 8) (only left job at) (omega arith);
      due_later = λ job at. subst (λ (j : Job). 8 < j.dl) (only left job at) (omega arith);
      some = λ job at. subst (λ (j : Job). 1 ≤ j.left) (only left job at) some;
      rows = λ job at. subst (λ (j : Job). row_of j.key ≤ 1) (only left job at) (omega arith);
      apart = AreApart-from_members (firm left ∷ []) ((λ job none. absurd none), tt);
    }

-- so the change with one slot left can be served, and that with two cannot
pub can_change : CanChange second 8 (firm 1 ∷ []) 2
can_change =
    ((refusals_are_exact second 8 1 (firm 1 ∷ []) refl second_is_feasible (AreCarried-firm 1 (omega arith))).0).0 granted

pub cannot_change : CanChange second 8 (firm 2 ∷ []) 2 → ⊥
cannot_change can =
    let none = ((refusals_are_exact second 8 1 (firm 2 ∷ []) refl second_is_feasible (AreCarried-firm 2 (omega arith))).0).1 can in
    absurd (cc (sym refused ∙ none))

-- a firm job without a slot left is not carried
pub ended_is_not_carried : AreCarried 8 1 (firm 0 ∷ []) → ⊥
ended_is_not_carried own =
    let some : 1 ≤ 0 = own.some (firm 0) (0, omega arith, refl) in
    absurd (omega (arith, some))

-- nor is one at its deadline
pub overdue_is_not_carried : AreCarried 10 1 (firm 1 ∷ []) → ⊥
overdue_is_not_carried own =
    let later : 10 < 10 = own.due_later (firm 1) (0, omega arith, refl) in
    absurd (omega (arith, later))

-- the evidence that is told shows that there is no room, one with a time later does not
pub told_evidence_shows : ShowsNoRoom second 8 (firm 2 ∷ []) (record { until = 18; need = 11; room = 10 })
told_evidence_shows = shows-from_refusal second 8 (firm 2 ∷ []) _ refused

pub later_evidence_does_not :
    ShowsNoRoom second 8 (firm 2 ∷ []) (record { until = 28; need = 21; room = 20 }) → ⊥
later_evidence_does_not shows =
    let fits : 11 ≤ 10 = shows.least 10 (omega arith) (omega arith) in
    absurd (omega (arith, fits))

-- with no time shifted an offline job of the second set has its windows from the change on
pub moved_windows :
    (moved_release second 8 (moved 8 (record other { key = Offline 0 0 1; est = 10; dl = 14 })) ≡ 18)
    × (moved_deadline second 8 (moved 8 (record other { key = Offline 0 0 1; est = 10; dl = 14 })) ≡ 22)
moved_windows = (refl, refl)

-- a carried one keeps its own
pub carried_windows : (moved_release second 8 (firm 1) ≡ 7) × (moved_deadline second 8 (firm 1) ≡ 10)
carried_windows = (refl, refl)

-- two idle slots do not serve the firm job, which was due by then
pub idle_slots_do_not_serve :
    IsServedAfter second (jobs_after second 8 (firm 1 ∷ []) 1) (Idle ∷ Idle ∷ []) → ⊥
idle_slots_do_not_serve served =
    let ran : 0 ≡ 1 = served.in_time (since 8 (firm 1)) (0, omega arith, refl) (omega arith) in
    absurd (omega (arith, ran))
