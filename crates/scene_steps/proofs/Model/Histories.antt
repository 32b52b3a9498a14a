-- Each entry of a history changes its scene and its last row by its step, and what is told next is told in the scene.
use Rattle.std.proofs.Common.{◌≡◌, ℕ, ◌+◌, ◌/◌, true, ◌∷◌, refl, subst, arith}
use Rattle.slot_core.specs.declared.tasks.TaskSet.{TaskSet}
use Rattle.slot_core.specs.declared.events.Ran.TheVariants.{Idle as RanIdle, Key as RanKey}
use Rattle.slot_core.specs.declared.events.What.{What}
use Rattle.slot_core.specs.declared.events.What.TheVariants.{Start, Soft, Firm, Sporadic as SporadicEntry, Done, Withdraw, Run, Idle, End}
use Rattle.slot_core.specs.Sets.Cycles.{cycle_of}
use Rattle.slot_core.specs.Sets.Ranges.{is_sound}
use Rattle.slot_core.specs.Feasibility.Feasible.{IsFeasible}
use Rattle.slot_core.specs.Runs.Histories.{History, time_of, last_row}
use Rattle.slot_core.specs.Runs.Scenes.{Scene, scene_of}
use Rattle.slot_core.specs.Runs.Matches.{IsSameScene}
use Rattle.slot_core.specs.Runs.Traces.{Occurrence, arrive, slot, told_of, IsLegal}
use Rattle.slot_facts.proofs.Legal.Carried.{carried-legal}
use Rattle.slot_facts.proofs.Legal.Data.{Slots, Entries, at_start, at_end, slot_runs, idles, soft_taken, soft_full, accepted, late, far, no_room, sporadic_taken, soon, job_freed, soft_freed, not_running, withdrawn, no_job, legal-as_data}
use Rattle.slot_facts.proofs.Legal.Owned.{IsOwned}
use Rattle.scene_steps.specs.Steps.{scene_after, row_after, told_in}
use Rattle.scene_steps.proofs.Model.Arrivals.{soft-follows, firm-follows, sporadic-follows}
use Rattle.scene_steps.proofs.Model.Ends.{done-follows, withdraw-follows}
use Rattle.scene_steps.proofs.Model.Slots.{slot-follows}
use Rattle.scene_steps.proofs.Same.SameScenes.{same_scene-refl}

-- equal scenes are the same
same_scene-equal : (a b : Scene) → a ≡ b → IsSameScene a b
same_scene-equal a b equal =
    subst (IsSameScene a) equal (same_scene-refl a)

-- each kind of entry and of answer changes the scene of its history by its step
pub entry-follows : {S : Slots} {set : TaskSet} {what : What} {h : History} → is_sound set ≡ true → IsOwned set (time_of (what ∷ h) / cycle_of set + 3) (what ∷ h) → Entries S set (cycle_of set) (what ∷ h) → IsSameScene (scene_after set (cycle_of set) what (scene_of set (cycle_of set) h)) (scene_of set (cycle_of set) (what ∷ h))
entry-follows {set = set} {h = h} sound owned (at_start l) = same_scene-refl (scene_of set (cycle_of set) h)
entry-follows {set = set} {h = h} sound owned (at_end l) = same_scene-refl (scene_of set (cycle_of set) h)
entry-follows {set = set} {h = h} sound owned (slot_runs {key = key} r s l) = slot-follows set (RanKey key) h sound (slot_runs r s l) owned
entry-follows {set = set} {h = h} sound owned (idles s l) = slot-follows set RanIdle h sound (idles s l) owned
entry-follows {set = set} {h = h} sound owned (soft_taken {row = row} {slots = slots} r l) = same_scene-equal _ _ (soft-follows set row slots h sound (soft_taken r l))
entry-follows {set = set} {h = h} sound owned (soft_full r l) = same_scene-refl (scene_of set (cycle_of set) h)
entry-follows {set = set} {h = h} sound owned (accepted {row = row} {slots = slots} {within = within} r l) = firm-follows set row slots within h sound (accepted r l)
entry-follows {set = set} {h = h} sound owned (late r l) = same_scene-refl (scene_of set (cycle_of set) h)
entry-follows {set = set} {h = h} sound owned (far r l) = same_scene-refl (scene_of set (cycle_of set) h)
entry-follows {set = set} {h = h} sound owned (no_room r l) = same_scene-refl (scene_of set (cycle_of set) h)
entry-follows {set = set} {h = h} sound owned (sporadic_taken {row = row} {index = index} {due = due} r l) = sporadic-follows set row index due h sound (sporadic_taken r l)
entry-follows {set = set} {h = h} sound owned (soon r l) = same_scene-refl (scene_of set (cycle_of set) h)
entry-follows {set = set} {h = h} sound owned (job_freed {row = row} {n = n} {key = key} r j s l) = same_scene-equal _ _ (done-follows set (cycle_of set) row n key h)
entry-follows {set = set} {h = h} sound owned (soft_freed {row = row} {n = n} {key = key} r s l) = same_scene-equal _ _ (done-follows set (cycle_of set) row n key h)
entry-follows {set = set} {h = h} sound owned (not_running r l) = same_scene-refl (scene_of set (cycle_of set) h)
entry-follows {set = set} {h = h} sound owned (withdrawn {row = row} {firm = firm} {n = n} r j l) = same_scene-equal _ _ (withdraw-follows set (cycle_of set) row firm n h)
entry-follows {set = set} {h = h} sound owned (no_job r l) = same_scene-refl (scene_of set (cycle_of set) h)

-- the scene of a longer legal history is that of the shorter one, after its last entry
pub scene-follows :
    (set : TaskSet) (h : History) (what : What)
    → is_sound set ≡ true → IsFeasible set (cycle_of set) → IsLegal set (cycle_of set) (what ∷ h)
    → IsSameScene
    (scene_after set (cycle_of set) what (scene_of set (cycle_of set) h))
    (scene_of set (cycle_of set) (what ∷ h))
scene-follows set h what sound feasible legal =
    let told = legal-as_data set (cycle_of set) (what ∷ h) legal in
    let carried = carried-legal set sound feasible told (time_of (what ∷ h) / cycle_of set + 3) (omega arith) in
    entry-follows sound carried.owned told

-- the last row too
pub row-follows : (what : What) (h : History) → last_row (what ∷ h) ≡ row_after what (last_row h)
row-follows Start h = refl
row-follows (Soft row slots a) h = refl
row-follows (Firm row slots within a) h = refl
row-follows (SporadicEntry row index a) h = refl
row-follows (Done row key a) h = refl
row-follows (Withdraw row firm a) h = refl
row-follows (Run key) h = refl
row-follows Idle h = refl
row-follows End h = refl

-- and what is told of an occurrence is told of it in the scene
pub told-in_scene : (set : TaskSet) (cycle : ℕ) (h : History) (next : Occurrence) → told_of set cycle h next ≡ told_in set cycle (scene_of set cycle h) next
told-in_scene set cycle h (arrive row event) = refl
told-in_scene set cycle h slot = refl
