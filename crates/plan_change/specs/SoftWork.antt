-- A change of plan that takes soft work over too: what goes on, and what becomes of two executives.
use Rattle.std.specs.Prelude.{◌≡◌, ◌≢◌, ℕ, ◌+◌, ◌-◌, ◌≤◌, ◌<◌, List, [], ◌∷◌, ◌++◌, Contains, length, map, take, ⊤}
use Rattle.slot_core.specs.declared.TheConstants.{OFFER_LIMIT}
use Rattle.slot_core.specs.declared.jobs.SoftJob.{SoftJob}
use Rattle.slot_core.specs.declared.events.Firm.TheVariants.{Accepted, NoRoom}
use Rattle.slot_core.specs.declared.events.Soft.TheVariants.{Taken}
use Rattle.slot_core.specs.declared.events.What.TheVariants.{Firm, Soft}
use Rattle.slot_core.specs.Keeping.Executives.{Executive, StandsFor}
use Rattle.slot_core.specs.Keeping.Plans.{PlanParts}
use Rattle.slot_core.specs.Runs.Histories.{History}
use Rattle.slot_core.specs.Runs.Traces.{started}
use Rattle.plan_change.specs.declared.keep.Keep.{Keep}
use Rattle.plan_change.specs.declared.moves.Refusal.{Refusal}
use Rattle.plan_change.specs.declared.offers.Offer.{Offer}
use Rattle.plan_change.specs.declared.with_soft.MovedWithSoft.{MovedWithSoft}
use Rattle.plan_change.specs.Changed.{CanStartWith, IsMoved}
use Rattle.plan_change.specs.Offers.{AllAccepted}

-- what goes on: an offer that is accepted, or a soft job that is taken
pub data Going : Type 0 where
  goes_firm : Offer → Going
  goes_soft : SoftJob → Going

-- the offers among them, in their order
abbrev pub offers_in : List Going → List Offer
offers_in [] = []
offers_in (goes_firm offer ∷ going) = offer ∷ offers_in going
offers_in (goes_soft job ∷ going) = offers_in going

-- the soft jobs among them, in their order
abbrev pub softs_in : List Going → List SoftJob
softs_in [] = []
softs_in (goes_firm offer ∷ going) = softs_in going
softs_in (goes_soft job ∷ going) = job ∷ softs_in going

-- the history in which they went on, one after the other. A soft job comes in its own row, with the
-- slots that it has left
abbrev pub moved_after : History → List Going → History
moved_after h [] = h
moved_after h (goes_firm offer ∷ going) =
    moved_after (Firm offer.row offer.slots offer.within Accepted ∷ h) going
moved_after h (goes_soft job ∷ going) = moved_after (Soft job.row job.left Taken ∷ h) going

-- the soft jobs that go on to a set with this limit: as many as may wait there, in their order
abbrev pub soft_from : Executive → ℕ → List SoftJob
soft_from exec limit = take limit exec.scene.soft

-- a soft job as it waits afterwards: the slots that it had left are all that it has
abbrev pub begun_anew : SoftJob → SoftJob
begun_anew job = record { row = job.row; left = job.left; declared = job.left }

-- soft jobs that may come after this row, one after the other
abbrev pub MayWait : ℕ → List SoftJob → Type 0
MayWait row [] = ⊤
MayWait row (job ∷ jobs) =
    (row < job.row) × (1 ≤ job.left) × (job.left ≤ OFFER_LIMIT) × MayWait job.row jobs

-- no offer stands in the row of a soft job
abbrev pub RowsAreApart : List Offer → List SoftJob → Type 0
RowsAreApart offers jobs =
    (offer : Offer) (job : SoftJob) → Contains offers offer → Contains jobs job
    → offer.row ≢ job.row

-- the change is made: the executive has this plan, and stands for a legal history in which these
-- offers were accepted and these soft jobs taken, all in rising rows and before the first slot
pub record IsChangedWithSoft
    (plan : PlanParts) (offers : List Offer) (jobs : List SoftJob) (after : Executive)
    : Type 0 where
  pub plan_of : after.plan ≡ plan
  pub served : CanStartWith plan.tasks offers
  pub accepted : AllAccepted plan.tasks plan.cycle started offers
  -- the soft jobs wait there in their order and with their rows
  pub waits : after.scene.soft ≡ map begun_anew jobs
  pub going : List Going
  pub offers_of : offers_in going ≡ offers
  pub softs_of : softs_in going ≡ jobs
  pub stands : StandsFor after (moved_after started going)

-- so many soft jobs go on, and so many are left behind: those above the limit
abbrev pub IsMovedWithSoft : Keep → Executive → ℕ → ℕ → MovedWithSoft → Type 0
IsMovedWithSoft keep from cycle limit moved =
    IsMoved keep from cycle moved.jobs
    × (moved.soft ≡ length (soft_from from limit))
    × (moved.behind ≡ length from.scene.soft - limit)

-- the change is refused on the way: what went before the offer in this row went on, and that one
-- found no room
pub record IsCutOffWithSoft
    (plan : PlanParts) (offers : List Offer) (jobs : List SoftJob) (refusal : Refusal)
    (after : Executive) : Type 0 where
  pub before : List Going
  pub offer : Offer
  pub rest : List Offer
  pub parts : offers ≡ offers_in before ++ offer ∷ rest
  pub waits : List SoftJob
  pub soft_parts : jobs ≡ softs_in before ++ waits
  pub row : refusal.row ≡ offer.row
  pub plan_of : after.plan ≡ plan
  pub stands :
      StandsFor
      after
      (Firm offer.row offer.slots offer.within (NoRoom refusal.evidence)
      ∷ moved_after started before)

-- from one executive to the other soft jobs were taken, one after the other, and of those that
-- wanted to go on this rest is left
pub record AreTaken (before after : Executive) (jobs rest : List SoftJob) : Type 0 where
  pub taken : List SoftJob
  pub parts : jobs ≡ taken ++ rest
  pub plan : after.plan ≡ before.plan
  pub more : length after.scene.soft ≤ length before.scene.soft + length taken
  pub later : MayWait after.last_row rest
  pub stands :
      (h : History) → StandsFor before h → StandsFor after (moved_after h (map goes_soft taken))
