-- Why an offer is refused for want of room.
use Rattle.std.proofs.Common.{◌≡◌, ◌↔◌, ℕ, ◌≤◌, List, sym, ap, ◌∙◌}
use Rattle.slot_core.specs.declared.events.Firm.{Firm as FirmAnswer}
use Rattle.slot_core.specs.declared.events.Firm.TheVariants.{NoRoom}
use Rattle.slot_core.specs.declared.jobs.Evidence.{Evidence}
use Rattle.slot_core.specs.declared.tasks.Sporadic.{Sporadic}
use Rattle.slot_core.specs.Runs.Answers.{firm_answer}
use Rattle.slot_core.specs.Runs.Demand.{HasRoom}
use Rattle.slot_core.specs.Runs.Scenes.{Scene}
use Rattle.slot_facts.proofs.Offers.Answers.{no_room_exactly, no_room-from_short, short-from_no_room}
use Rattle.slot_exec.specs.Offers.{ShowsNoRoomForOffer}

module _ (sporadics : List Sporadic) (cycle : ℕ) (scene : Scene) (slots within : ℕ) (result : FirmAnswer) (told : result ≡ firm_answer sporadics cycle scene slots within) where
  -- in reach, that comes exactly where there is no room
  pub no_room-told : 1 ≤ within → within ≤ cycle → ((e : Evidence) × (result ≡ NoRoom e)) ↔ ¬ (HasRoom sporadics cycle scene slots within)
  no_room-told some near = (
    λ refused. no_room-from_short sporadics cycle scene slots within refused.0 (short-from_no_room sporadics cycle scene slots within refused.0 (sym told ∙ refused.1)),
    λ none. let (e, answers, short) = (no_room_exactly sporadics cycle scene slots within some near).1 none in (e, told ∙ answers),
  )

  -- and its evidence shows it
  pub evidence-told : (e : Evidence) → result ≡ NoRoom e → ShowsNoRoomForOffer sporadics cycle scene slots within e
  evidence-told e refused =
      let s = short-from_no_room sporadics cycle scene slots within e (sym told ∙ refused) in
      let need = ap (λ (x : Evidence). x.need) s.exact in
      let room = ap (λ (x : Evidence). x.room) s.exact in
      record {
        after = s.after;
        before = s.before;
        need = need;
        room = room;
        short = rw (need, room) s.short;
        least = s.least;
      }
