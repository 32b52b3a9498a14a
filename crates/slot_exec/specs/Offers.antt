-- The answer to a firm offer, by the spans of a table and a reserve.
use Rattle.std.specs.Prelude.{◌≡◌, ℕ, ◌+◌, ◌-◌, ◌≤◌, ◌<◌, ◌==◌, List, nat_lt, if◌then◌else◌}
use Rattle.slot_core.specs.declared.jobs.Evidence.{Evidence}
use Rattle.slot_core.specs.declared.jobs.Span.{Span}
use Rattle.slot_core.specs.declared.tasks.Sporadic.{Sporadic}
use Rattle.slot_core.specs.Runs.Demand.{need_by}
use Rattle.slot_core.specs.Runs.Scenes.{Scene, horizon}
use Rattle.slot_core.specs.declared.events.Firm.{Firm as FirmAnswer}
use Rattle.slot_core.specs.declared.events.Firm.TheVariants.{Accepted, Late, Far, NoRoom}
use Rattle.sporadic_reserve.specs.Reserves.{Reserved}
use Rattle.guarantee.specs.declared.Answer.{Answer}
use Rattle.guarantee.specs.declared.Answer.TheVariants.{Accept, Refuse}
use Rattle.guarantee.specs.Offers.{answer_to}

-- an offer in reach is accepted, or refused with its evidence, as the test answers
abbrev pub answer_in_reach : Answer → FirmAnswer
answer_in_reach Accept = Accepted
answer_in_reach (Refuse evidence) = NoRoom evidence

-- late without a slot to its deadline, far where that is more than a cycle ahead, else as the test
-- answers
abbrev pub offer_answer : List Span → Reserved → ℕ → ℕ → ℕ → ℕ → FirmAnswer
offer_answer spans reserve time cycle slots within =
    if within == 0 then Late
    else if nat_lt cycle within then Far
    else answer_in_reach (answer_to spans reserve time slots (time + within))

-- the evidence shows that an offer has no room: `until` is the least time, from its deadline to the
-- horizon, by which more is needed than there are slots, and these are the two numbers
pub record ShowsNoRoomForOffer
    (sporadics : List Sporadic) (cycle : ℕ) (scene : Scene) (slots within : ℕ) (e : Evidence)
    : Type 0 where
  pub after : scene.time + within ≤ e.until
  pub before : e.until ≤ horizon cycle scene.time
  pub need : e.need ≡ slots + need_by sporadics scene scene.time e.until
  pub room : e.room ≡ e.until - scene.time
  pub short : e.room < e.need
  pub least :
      (y : ℕ) → scene.time + within ≤ y → y < e.until
      → slots + need_by sporadics scene scene.time y ≤ y - scene.time
