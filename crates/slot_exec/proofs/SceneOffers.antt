-- The tests of soft work and of offers over the spans of an executive's scene are the model's.
use Rattle.std.proofs.Common.{◌≡◌, ℕ, ◌+◌, map}
use Rattle.std.specs.Option.{option_map_or}
use Rattle.slot_core.specs.Runs.Answers.{first_overload, evidence_at}
use Rattle.slot_core.specs.Runs.Choice.{soft_may_run}
use Rattle.slot_core.specs.Keeping.Executives.{Executive, StandsForSome}
use Rattle.slot_core.specs.Keeping.Plans.{IsPlan}
use Rattle.slot_core.specs.Runs.Spans.{spans_of}
use Rattle.sporadic_reserve.specs.Reserves.{Reserved, without_name}
use Rattle.guarantee.specs.declared.Answer.TheVariants.{Accept, Refuse}
use Rattle.guarantee.specs.Offers.{answer_to, soft_fits}
use Rattle.slot_exec.proofs.SpanOffers.{answer_to-proper, soft_fits-proper}
use Rattle.scene_steps.proofs.Facts.ProperScenes.{proper_scene}

-- soft work may take the slot where the spans and the reserve say so
pub soft_fits-scene : (exec : Executive) (reserve : Reserved) → IsPlan exec.plan → StandsForSome exec → reserve.sporadics ≡ map without_name exec.plan.tasks.sporadics → reserve.nexts ≡ exec.scene.nexts → soft_fits (spans_of exec.plan.cycle exec.scene) reserve exec.scene.time ≡ soft_may_run exec.plan.tasks.sporadics exec.plan.cycle exec.scene
soft_fits-scene exec reserve plan stands tasks nexts =
    soft_fits-proper exec.plan.tasks.sporadics exec.plan.cycle exec.scene reserve (proper_scene exec plan stands) tasks nexts

-- they answer an offer by the first time that is too short, with its evidence
pub answer_to-scene : (exec : Executive) (reserve : Reserved) (slots within : ℕ) → IsPlan exec.plan → StandsForSome exec → reserve.sporadics ≡ map without_name exec.plan.tasks.sporadics → reserve.nexts ≡ exec.scene.nexts → answer_to (spans_of exec.plan.cycle exec.scene) reserve exec.scene.time slots (exec.scene.time + within) ≡ option_map_or (λ x. Refuse (evidence_at exec.plan.tasks.sporadics exec.scene slots x)) (first_overload exec.plan.tasks.sporadics exec.plan.cycle exec.scene slots (exec.scene.time + within)) Accept
answer_to-scene exec reserve slots within plan stands tasks nexts =
    answer_to-proper exec.plan.tasks.sporadics exec.plan.cycle exec.scene reserve slots (exec.scene.time + within) (proper_scene exec plan stands) tasks nexts
