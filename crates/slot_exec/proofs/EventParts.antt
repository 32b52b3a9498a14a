-- What an event that does what the model does leaves of the parts of an executive.
use Rattle.std.proofs.Common.{◌≡◌, ℕ, ◌≤◌, List, sym, ap, ◌∙◌, subst}
use Rattle.std.specs.Prelude.{map}
use Rattle.slot_core.specs.declared.TheConstants.{TIME_LIMIT}
use Rattle.slot_core.specs.declared.events.What.{What}
use Rattle.slot_core.specs.declared.jobs.Span.{Span}
use Rattle.slot_core.specs.declared.tasks.Sporadic.{Sporadic}
use Rattle.slot_core.specs.Keeping.Executives.{Executive, Does}
use Rattle.slot_core.specs.Keeping.Plans.{PlanParts, IsPlan}
use Rattle.slot_core.specs.Runs.Spans.{spans_of}
use Rattle.slot_core.specs.Runs.Traces.{Occurrence}
use Rattle.sporadic_reserve.specs.Reserves.{without_name}
use Rattle.scene_steps.proofs.Same.Events.{StandsForSome-from_does}
use Rattle.slot_exec.specs.declared.rooms.Remembered.{Remembered}
use Rattle.slot_exec.specs.Rooms.{RemembersScene}
use Rattle.slot_exec.specs.Parts.{span_room, job_room, IsExecutive}

-- where the table has the spans of the new scene, the time is within its bound, the room stays, and what is remembered is so, the parts agree again
pub IsExecutive-after : (before after : Executive) (next : Occurrence) (what : What) (rows later : List Span) (reserved : List Sporadic) (limit capacity most places room ring : ℕ) (known kept : Remembered) → IsExecutive before rows reserved limit capacity most known → Does before after next what → after.scene.time ≤ TIME_LIMIT → later ≡ spans_of before.plan.cycle after.scene → places ≡ limit → room ≡ capacity → ring ≡ most → RemembersScene before.plan.tasks.sporadics before.plan.cycle after.scene after.scene.time kept → IsExecutive after later reserved places room ring kept
IsExecutive-after before after next what rows later reserved limit capacity most places room ring known kept is does early spans same_places same_room same_ring remembers =
    let stays : before.plan ≡ after.plan = sym does.plan in
    record {
      plan = subst IsPlan stays is.plan;
      stands = StandsForSome-from_does before after next what does;
      early = early;
      spans = spans ∙ ap (λ (p : PlanParts). spans_of p.cycle after.scene) stays;
      sporadics = is.sporadics ∙ ap (λ (p : PlanParts). map without_name p.tasks.sporadics) stays;
      places = same_places ∙ is.places ∙ ap (λ (p : PlanParts). span_room p.cycle) stays;
      queue = same_room ∙ is.queue ∙ ap (λ (p : PlanParts). job_room p.cycle) stays;
      ring = same_ring ∙ is.ring ∙ ap (λ (p : PlanParts). p.tasks.soft_limit) stays;
      remembers = subst (λ (p : PlanParts). RemembersScene p.tasks.sporadics p.cycle after.scene after.scene.time kept) stays remembers;
    }
