-- The tests over the spans of a proper scene are those of the model.
use Rattle.std.proofs.Common.{◌≡◌, ℕ, ◌+◌, ◌-◌, List, map, ap, ap₂, ◌∙◌}
use Rattle.std.specs.Prelude.{find, not, nat_lt}
use Rattle.std.specs.Option.{option_map_or}
use Rattle.std.specs.List.{list_all, range_with_len}
use Rattle.slot_core.specs.declared.tasks.Sporadic.{Sporadic}
use Rattle.slot_core.specs.Feasibility.Sporadics.{sporadic_demand}
use Rattle.spare_capacity.specs.Recurrence.{last_end}
use Rattle.slot_core.specs.Runs.Answers.{first_overload, evidence_at}
use Rattle.slot_core.specs.Runs.Choice.{soft_may_run}
use Rattle.slot_core.specs.Runs.Demand.{is_overloaded, need_by}
use Rattle.slot_core.specs.Runs.Scenes.{Scene, horizon}
use Rattle.slot_core.specs.Runs.Spans.{spans_of}
use Rattle.slot_facts.proofs.Lists.Tests.{find-same, list_all-same}
use Rattle.sporadic_reserve.specs.Reserves.{Reserved, without_name}
use Rattle.sporadic_reserve.proofs.Demands.{sporadic_demand-without_name}
use Rattle.guarantee.specs.declared.Answer.TheVariants.{Accept, Refuse}
use Rattle.guarantee.specs.Offers.{answer_to, first_short, is_short, need_until, soft_fits, evidence_at as evidence_by_spans}
use Rattle.scene_steps.specs.Scenes.{IsProperScene}
use Rattle.scene_steps.proofs.Spans.Proper.{last_end-proper, work_until-proper}

-- the reserve of a scene's sporadic tasks has their demand
pub reserve-demand : (sporadics : List Sporadic) (scene : Scene) (reserve : Reserved) (r x : ℕ) → reserve.sporadics ≡ map without_name sporadics → reserve.nexts ≡ scene.nexts → sporadic_demand reserve.sporadics reserve.nexts r x ≡ sporadic_demand sporadics scene.nexts r x
reserve-demand sporadics scene reserve r x tasks nexts =
    ap₂ (λ ss ns. sporadic_demand ss ns r x) tasks nexts ∙ sporadic_demand-without_name sporadics scene.nexts r x

-- by the spans and the reserve the same is needed
pub need_until-proper : (sporadics : List Sporadic) (cycle : ℕ) (scene : Scene) (reserve : Reserved) (r x : ℕ) → IsProperScene cycle scene → reserve.sporadics ≡ map without_name sporadics → reserve.nexts ≡ scene.nexts → need_until (spans_of cycle scene) reserve r x ≡ need_by sporadics scene r x
need_until-proper sporadics cycle scene reserve r x proper tasks nexts =
    ap₂ (λ work demand. work + demand) (work_until-proper cycle scene x proper) (reserve-demand sporadics scene reserve r x tasks nexts)

-- the same times are too short
is_short-proper : (sporadics : List Sporadic) (cycle : ℕ) (scene : Scene) (reserve : Reserved) (r slots x : ℕ) → IsProperScene cycle scene → reserve.sporadics ≡ map without_name sporadics → reserve.nexts ≡ scene.nexts → is_short (spans_of cycle scene) reserve scene.time r slots x ≡ is_overloaded sporadics scene slots r x
is_short-proper sporadics cycle scene reserve r slots x proper tasks nexts =
    ap (λ need. nat_lt (x - scene.time) (slots + need)) (need_until-proper sporadics cycle scene reserve r x proper tasks nexts)

-- so soft work may take the slot in the same scenes
pub soft_fits-proper : (sporadics : List Sporadic) (cycle : ℕ) (scene : Scene) (reserve : Reserved) → IsProperScene cycle scene → reserve.sporadics ≡ map without_name sporadics → reserve.nexts ≡ scene.nexts → soft_fits (spans_of cycle scene) reserve scene.time ≡ soft_may_run sporadics cycle scene
soft_fits-proper sporadics cycle scene reserve proper tasks nexts =
    let t = scene.time in
    let spans = spans_of cycle scene in
    let fits = λ (x : ℕ). not (is_overloaded sporadics scene 1 (t + 1) x) in
    let same = list_all-same (λ x. not (is_short spans reserve t (t + 1) 1 x)) fits (range_with_len (t + 1) (last_end t spans - t)) (λ x. ap not (is_short-proper sporadics cycle scene reserve (t + 1) 1 x proper tasks nexts)) in
    same ∙ ap (λ end. list_all fits (range_with_len (t + 1) (end - t))) (last_end-proper cycle scene scene.jobs (horizon cycle t) proper)

-- the first time that is too short for an offer is the same
pub first_short-proper : (sporadics : List Sporadic) (cycle : ℕ) (scene : Scene) (reserve : Reserved) (slots from : ℕ) → IsProperScene cycle scene → reserve.sporadics ≡ map without_name sporadics → reserve.nexts ≡ scene.nexts → first_short (spans_of cycle scene) reserve scene.time scene.time slots from ≡ first_overload sporadics cycle scene slots from
first_short-proper sporadics cycle scene reserve slots from proper tasks nexts =
    let t = scene.time in
    let spans = spans_of cycle scene in
    let short = is_overloaded sporadics scene slots t in
    let same = find-same (is_short spans reserve t t slots) short (range_with_len from (last_end t spans + 1 - from)) (λ x at. is_short-proper sporadics cycle scene reserve t slots x proper tasks nexts) in
    same ∙ ap (λ end. find short (range_with_len from (end + 1 - from))) (last_end-proper cycle scene scene.jobs (horizon cycle t) proper)

-- so is its evidence
pub evidence-proper : (sporadics : List Sporadic) (cycle : ℕ) (scene : Scene) (reserve : Reserved) (slots x : ℕ) → IsProperScene cycle scene → reserve.sporadics ≡ map without_name sporadics → reserve.nexts ≡ scene.nexts → evidence_by_spans (spans_of cycle scene) reserve scene.time scene.time slots x ≡ evidence_at sporadics scene slots x
evidence-proper sporadics cycle scene reserve slots x proper tasks nexts =
    let need = need_until-proper sporadics cycle scene reserve scene.time x proper tasks nexts in
    λ i. record { until = x; need = slots + need i; room = x - scene.time }

-- and the answer
pub answer_to-proper : (sporadics : List Sporadic) (cycle : ℕ) (scene : Scene) (reserve : Reserved) (slots deadline : ℕ) → IsProperScene cycle scene → reserve.sporadics ≡ map without_name sporadics → reserve.nexts ≡ scene.nexts → answer_to (spans_of cycle scene) reserve scene.time slots deadline ≡ option_map_or (λ x. Refuse (evidence_at sporadics scene slots x)) (first_overload sporadics cycle scene slots deadline) Accept
answer_to-proper sporadics cycle scene reserve slots deadline proper tasks nexts =
    let evidence = λ (x : ℕ). evidence-proper sporadics cycle scene reserve slots x proper tasks nexts in
    let first = first_short-proper sporadics cycle scene reserve slots deadline proper tasks nexts in
    λ i. option_map_or (λ x. Refuse (evidence x i)) (first i) Accept
