-- What a change of plan makes of two executives, and what a refusal tells.
use Rattle.std.specs.Prelude.{◌≡◌, ℕ, ◌+◌, ◌*◌, ◌≤◌, ◌<◌, List, [], ◌∷◌, ◌++◌, length}
use Rattle.slot_core.specs.declared.events.Firm.TheVariants.{NoRoom}
use Rattle.slot_core.specs.declared.events.What.TheVariants.{Firm}
use Rattle.slot_core.specs.declared.tasks.TaskSet.{TaskSet}
use Rattle.slot_core.specs.Sets.Cycles.{cycle_of}
use Rattle.slot_core.specs.Runs.Traces.{started}
use Rattle.slot_core.specs.Keeping.Executives.{Executive, StandsFor}
use Rattle.slot_core.specs.Keeping.Plans.{PlanParts}
use Rattle.change_laws.specs.Demand.{due_after}
use Rattle.change_laws.specs.Grants.{CanChange}
use Rattle.plan_change.specs.declared.moves.Moved.{Moved}
use Rattle.plan_change.specs.declared.moves.Refusal.{Refusal}
use Rattle.plan_change.specs.declared.keep.Keep.{Keep}
use Rattle.plan_change.specs.declared.offers.Offer.{Offer}
use Rattle.plan_change.specs.Carrying.{carried_from, cut_count}
use Rattle.plan_change.specs.Offers.{accepted_after, AllAccepted, first_jobs, row_after}

-- the jobs of these offers can be served from the first slot on: whatever legal arrivals of the
-- set's sporadic tasks come, a slot schedule serves them, the offline jobs and the arrivals' jobs
abbrev pub CanStartWith : TaskSet → List Offer → Type 0
CanStartWith set offers = CanChange set 0 (first_jobs offers) (row_after 0 offers + 1)

-- the change is made: the executive has this plan, and stands for the history in which the offers
-- were accepted, one after the other before the first slot
pub record IsChanged (plan : PlanParts) (offers : List Offer) (after : Executive) : Type 0 where
  pub plan_of : after.plan ≡ plan
  pub served : CanStartWith plan.tasks offers
  pub accepted : AllAccepted plan.tasks plan.cycle started offers
  pub stands : StandsFor after (accepted_after started offers)

-- so many jobs are carried over, and so many of them with a deadline that is cut
abbrev pub IsMoved : Keep → Executive → ℕ → Moved → Type 0
IsMoved keep from cycle moved =
    (moved.carried ≡ length (carried_from keep from))
    × (moved.cut ≡ cut_count from.scene.time cycle (carried_from keep from))

-- the offer in this row is the first one that does not fit: with those before it more slots are
-- needed by `until` than there are. Times count from the change on
pub record HasNoRoom (set : TaskSet) (offers : List Offer) (refusal : Refusal) : Type 0 where
  pub before : List Offer
  pub offer : Offer
  pub rest : List Offer
  pub parts : offers ≡ before ++ offer ∷ rest
  pub row : refusal.row ≡ offer.row
  -- those before it fit
  pub fits : CanStartWith set before
  -- it is due by then, in the three cycles that are looked at
  pub due : offer.within ≤ refusal.evidence.until
  pub near : refusal.evidence.until ≤ 3 * cycle_of set
  -- so many slots are needed by then
  pub need :
      refusal.evidence.need
      ≡ due_after set 0 (first_jobs (before ++ offer ∷ [])) 3 refusal.evidence.until
  -- which are more than there are
  pub room : refusal.evidence.room ≡ refusal.evidence.until
  pub more : refusal.evidence.room < refusal.evidence.need
  -- and at no time before it is it so
  pub least :
      (x : ℕ) → x < refusal.evidence.until
      → due_after set 0 (first_jobs (before ++ offer ∷ [])) 3 x ≤ x

-- the change is refused on the way: the executive has this plan, and stands for the history in
-- which the offers before the one in this row were accepted, and that one found no room
pub record IsCutOff
    (plan : PlanParts) (offers : List Offer) (refusal : Refusal) (after : Executive) : Type 0 where
  pub before : List Offer
  pub offer : Offer
  pub rest : List Offer
  pub parts : offers ≡ before ++ offer ∷ rest
  pub row : refusal.row ≡ offer.row
  pub plan_of : after.plan ≡ plan
  pub stands :
      StandsFor
      after
      (Firm offer.row offer.slots offer.within (NoRoom refusal.evidence)
      ∷ accepted_after started before)
