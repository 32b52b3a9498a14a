-- Firm offers, one after the other in one slot.
use Rattle.std.specs.Prelude.{◌≡◌, ℕ, ◌≤◌, ◌<◌, List, [], ◌∷◌, map, ⊤}
use Rattle.slot_core.specs.declared.TheConstants.{OFFER_LIMIT}
use Rattle.slot_core.specs.declared.jobs.Job.{Job}
use Rattle.slot_core.specs.declared.tasks.TaskSet.{TaskSet}
use Rattle.slot_core.specs.declared.events.What.TheVariants.{Firm}
use Rattle.slot_core.specs.declared.events.Firm.TheVariants.{Accepted}
use Rattle.slot_core.specs.Runs.Answers.{firm_answer}
use Rattle.slot_core.specs.Runs.Histories.{History, offered_job}
use Rattle.slot_core.specs.Runs.Scenes.{scene_of}
use Rattle.plan_change.specs.declared.offers.Offer.{Offer}

-- the firm job of an offer that is accepted at time t
abbrev pub job_of : ℕ → Offer → Job
job_of t offer = offered_job offer.row t offer.slots offer.within

-- what an offer asks for, whatever its row: its slots, and the time within which they are due
abbrev pub demand_of : Offer → ℕ × ℕ
demand_of offer = (offer.slots, offer.within)

-- the jobs of offers that are accepted before the first slot
abbrev pub first_jobs : List Offer → List Job
first_jobs offers = map (job_of 0) offers

-- the history in which these offers were accepted, one after the other
abbrev pub accepted_after : History → List Offer → History
accepted_after h [] = h
accepted_after h (offer ∷ offers) =
    accepted_after (Firm offer.row offer.slots offer.within Accepted ∷ h) offers

-- one after the other, each of these offers is accepted
abbrev pub AllAccepted : TaskSet → ℕ → History → List Offer → Type 0
AllAccepted set cycle h [] = ⊤
AllAccepted set cycle h (offer ∷ offers) =
    (firm_answer set.sporadics cycle (scene_of set cycle h) offer.slots offer.within ≡ Accepted)
    × AllAccepted set cycle (Firm offer.row offer.slots offer.within Accepted ∷ h) offers

-- the row of the last of these offers, or this one
abbrev pub row_after : ℕ → List Offer → ℕ
row_after row [] = row
row_after row (offer ∷ offers) = row_after offer.row offers

-- an offer that may be made after this row, and is due at most a cycle ahead
pub record MayFollow (cycle row : ℕ) (offer : Offer) : Type 0 where
  pub above : row < offer.row
  pub some : 1 ≤ offer.slots
  pub few : offer.slots ≤ OFFER_LIMIT
  pub later : 1 ≤ offer.within
  pub near : offer.within ≤ cycle

-- the offers may be made one after the other: their rows rise from above this one
abbrev pub MayBeOffered : ℕ → ℕ → List Offer → Type 0
MayBeOffered cycle row [] = ⊤
MayBeOffered cycle row (offer ∷ offers) =
    MayFollow cycle row offer × MayBeOffered cycle offer.row offers
