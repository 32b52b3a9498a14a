-- In scenes that are the same, and whose keys are apart, the same is told of each occurrence.
use Rattle.std.proofs.Common.{◌≡◌, ℕ, ap}
use Rattle.slot_core.specs.declared.tasks.TaskSet.{TaskSet}
use Rattle.slot_core.specs.Keeping.Kept.{AreApart}
use Rattle.slot_core.specs.Runs.Matches.{IsSameScene}
use Rattle.slot_core.specs.Runs.Scenes.{Scene}
use Rattle.slot_core.specs.Runs.Traces.{Occurrence, arrive, slot, told_of_slot}
use Rattle.scene_steps.specs.Steps.{told_in}
use Rattle.scene_steps.proofs.Same.SameAnswers.{answer-same}
use Rattle.scene_steps.proofs.Same.SameChoices.{choice-same}

-- the same is told of each occurrence
pub told_in-same : (set : TaskSet) (cycle : ℕ) (a b : Scene) (next : Occurrence) → AreApart a.jobs → IsSameScene a b → told_in set cycle a next ≡ told_in set cycle b next
told_in-same set cycle a b (arrive row event) apart same = answer-same set cycle a b row event apart same
told_in-same set cycle a b slot apart same = ap told_of_slot (choice-same set.sporadics cycle a b same)
