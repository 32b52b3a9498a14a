-- What is told of a row.
use Rattle.std.proofs.Common.{◌≡◌, ℕ, zero, suc, ◌+◌, ◌-◌, ◌<◌, ◌≤◌, Bool, true, false, cond, List, [], ◌∷◌, Option, None, Some, Ok, refl, sym, ap, subst, ◌∙◌, arith}
use Rattle.std.specs.Prelude.{length, slice_get, slice_index_or, nat_le}
use Rattle.std.specs.Option.{option_map_or}
use Rattle.std.proofs.lemmas.Bool.{and_parts}
use Rattle.std.proofs.lemmas.Option.{slice_get-get_or}
use Rattle.slot_core.specs.declared.TheConstants.{OFFER_LIMIT}
use Rattle.slot_core.specs.declared.events.Arrival.{Arrival}
use Rattle.slot_core.specs.declared.events.Entry.{Entry}
use Rattle.slot_core.specs.declared.events.Event.{Event}
use Rattle.slot_core.specs.declared.events.Event.TheVariants.{Soft, Firm, Sporadic, Done, Withdraw}
use Rattle.slot_core.specs.declared.events.Firm.{Firm as FirmAnswer}
use Rattle.slot_core.specs.declared.events.Firm.TheVariants.{Accepted, Late, Far, NoRoom}
use Rattle.slot_core.specs.declared.events.Ran.{Ran}
use Rattle.slot_core.specs.declared.events.Ran.TheVariants.{Idle as RanIdle, Key as RanKey}
use Rattle.slot_core.specs.declared.events.What.{What}
use Rattle.slot_core.specs.declared.events.What.TheVariants.{Start, Soft as SoftEntry, Firm as FirmEntry, Sporadic as SporadicEntry, Done as DoneEntry, Withdraw as WithdrawEntry, Run, Idle, End}
use Rattle.slot_core.specs.declared.jobs.Evidence.{Evidence}
use Rattle.slot_core.specs.declared.tasks.Sporadic.{Sporadic as SporadicTask}
use Rattle.slot_core.specs.declared.tasks.TaskSet.{TaskSet}
use Rattle.slot_core.specs.Keeping.Executives.{Executive, StandsFor}
use Rattle.slot_core.specs.Keeping.Plans.{PlanParts}
use Rattle.slot_core.specs.Runs.Answers.{answer, firm_answer}
use Rattle.slot_core.specs.Runs.Choice.{choice}
use Rattle.slot_core.specs.Runs.Histories.{History, time_of}
use Rattle.slot_core.specs.Runs.Scenes.{Scene, horizon, scene_of}
use Rattle.slot_core.specs.Runs.Traces.{IsDue, IsLegal, MayCome, arrive, slot, told_of_slot, trace}
use Rattle.slot_core.specs.Sets.Ranges.{is_between}
use Rattle.slot_facts.proofs.Offers.Answers.{short-from_no_room}
use Rattle.slot_facts.proofs.Offers.Exact.{offered-from_due, not_a_slot}
use Rattle.slot_facts.proofs.Sets.Ranges.{bounds}
use Rattle.arrival_replay.specs.Replays.{StandsBefore, entries_before, entry_of, history_before}
use Rattle.command_line.specs.Writings.{Writing, in_whole}
use Rattle.slot_cli.specs.declared.rows.RefusedOffer.{RefusedOffer}
use Rattle.slot_cli.specs.Explained.{explained, explained_arrival, explained_entry, offer_text, refused_offer}

-- what is told of a row is told of its entry
pub explained-at : (plan : PlanParts) (arrivals : List Arrival) (slots row : ℕ) (a : Arrival) (entry : Entry) → slice_get arrivals (row - 1) ≡ Some a → slice_get (trace plan.tasks arrivals slots) (entries_before a) ≡ Some entry → explained plan arrivals slots row ≡ explained_entry plan (history_before (trace plan.tasks arrivals slots) a) entry
explained-at plan arrivals slots row a entry at told =
    let tr = trace plan.tasks arrivals slots in
    ap (λ (o : Option Arrival). option_map_or (explained_arrival plan tr) o (in_whole [])) at
    ∙ ap (λ (o : Option Entry). option_map_or (explained_entry plan (history_before tr a)) o (in_whole [])) told

-- an offer that is refused for want of room is due later
within-some : (sporadics : List SporadicTask) (cycle : ℕ) (scene : Scene) (slots within : ℕ) (e : Evidence) → firm_answer sporadics cycle scene slots within ≡ NoRoom e → 1 ≤ within
within-some sporadics cycle scene slots zero e is = cc
within-some sporadics cycle scene slots (suc n) e is = omega arith

-- and has no more slots than may be offered
few-from_arrival : (set : TaskSet) (cycle : ℕ) (h : History) (row slots within r : ℕ) (a : FirmAnswer) (event : Event) → MayCome set h (arrive r event) → FirmEntry row slots within a ≡ answer set cycle (scene_of set cycle h) r event → slots ≤ OFFER_LIMIT
few-from_arrival set cycle h row slots within r a (Firm c d) may e =
    let own : c ≡ slots = cc e in
    let range = and_parts (is_between 1 OFFER_LIMIT c) (nat_le d OFFER_LIMIT) may.1 in
    omega (arith, (bounds 1 OFFER_LIMIT c range.0).1, own)
few-from_arrival set cycle h row slots within r a (Soft c) may e = absurd (cc e)
few-from_arrival set cycle h row slots within r a (Sporadic i) may e = absurd (cc e)
few-from_arrival set cycle h row slots within r a (Done k) may e = absurd (cc e)
few-from_arrival set cycle h row slots within r a (Withdraw f) may e = absurd (cc e)

few-from_due : (set : TaskSet) (cycle : ℕ) (h : History) (row slots within : ℕ) (a : FirmAnswer) → IsDue set cycle h (FirmEntry row slots within a) → slots ≤ OFFER_LIMIT
few-from_due set cycle h row slots within a (arrive r event, may, e) = few-from_arrival set cycle h row slots within r a event may e
few-from_due set cycle h row slots within a (slot, may, e) =
    absurd (not_a_slot row slots within a (choice set.sporadics cycle (scene_of set cycle h)) e)

-- what may be explained of an offer that an executive has just refused
pub record IsRefusedBy (exec : Executive) (h : History) (what : What) (offer : RefusedOffer) : Type 0 where
  pub later : 1 ≤ offer.within
  pub due : exec.scene.time + offer.within ≤ offer.until
  pub near : offer.until ≤ horizon exec.plan.cycle exec.scene.time
  pub some : 1 ≤ offer.slots
  pub few : offer.slots ≤ OFFER_LIMIT
  -- the refusal changes nothing of the scene
  pub text : offer_text exec.plan (what ∷ h) offer ≡ offer_text exec.plan h offer

IsRefusedBy-firm : (exec : Executive) (h : History) (row slots within : ℕ) (e : Evidence) → StandsFor exec (FirmEntry row slots within (NoRoom e) ∷ h) → IsRefusedBy exec h (FirmEntry row slots within (NoRoom e)) (record { slots = slots; within = within; until = e.until })
IsRefusedBy-firm exec h row slots within e stands =
    let set = exec.plan.tasks in
    let cycle = exec.plan.cycle in
    let due : IsDue set cycle h (FirmEntry row slots within (NoRoom e)) = stands.legal.0 in
    let offered = offered-from_due set cycle h row slots within (NoRoom e) due in
    let short = short-from_no_room set.sporadics cycle (scene_of set cycle h) slots within e offered.told in
    let time : exec.scene.time ≡ time_of h = stands.same.time in
    record {
      later = within-some set.sporadics cycle (scene_of set cycle h) slots within e offered.told;
      due = omega (arith, short.after, time);
      near = subst (λ t. e.until ≤ horizon cycle t) (sym time) short.before;
      some = offered.some;
      few = few-from_due set cycle h row slots within (NoRoom e) due;
      text = refl;
    }

IsRefusedBy-none : (exec : Executive) (h : History) (what : What) (offer : RefusedOffer) → refused_offer what ≡ None → refused_offer what ≡ Some offer → IsRefusedBy exec h what offer
IsRefusedBy-none exec h what offer none some = let same : (let o : Option RefusedOffer = None in o) ≡ Some offer = sym none ∙ some in cc

pub IsRefusedBy-told : (exec : Executive) (h : History) (what : What) (offer : RefusedOffer) → refused_offer what ≡ Some offer → StandsFor exec (what ∷ h) → IsRefusedBy exec h what offer
IsRefusedBy-told exec h (FirmEntry row slots within (NoRoom e)) offer is stands =
    let same : (let o : RefusedOffer = record { slots = slots; within = within; until = e.until } in o) ≡ offer = cc in
    subst (IsRefusedBy exec h (FirmEntry row slots within (NoRoom e))) same (IsRefusedBy-firm exec h row slots within e stands)
IsRefusedBy-told exec h (FirmEntry row slots within Accepted) offer is stands = IsRefusedBy-none exec h (FirmEntry row slots within Accepted) offer refl is
IsRefusedBy-told exec h (FirmEntry row slots within Late) offer is stands = IsRefusedBy-none exec h (FirmEntry row slots within Late) offer refl is
IsRefusedBy-told exec h (FirmEntry row slots within Far) offer is stands = IsRefusedBy-none exec h (FirmEntry row slots within Far) offer refl is
IsRefusedBy-told exec h Start offer is stands = IsRefusedBy-none exec h Start offer refl is
IsRefusedBy-told exec h (SoftEntry row slots a) offer is stands = IsRefusedBy-none exec h (SoftEntry row slots a) offer refl is
IsRefusedBy-told exec h (SporadicEntry row index a) offer is stands = IsRefusedBy-none exec h (SporadicEntry row index a) offer refl is
IsRefusedBy-told exec h (DoneEntry row key a) offer is stands = IsRefusedBy-none exec h (DoneEntry row key a) offer refl is
IsRefusedBy-told exec h (WithdrawEntry row firm a) offer is stands = IsRefusedBy-none exec h (WithdrawEntry row firm a) offer refl is
IsRefusedBy-told exec h (Run key) offer is stands = IsRefusedBy-none exec h (Run key) offer refl is
IsRefusedBy-told exec h Idle offer is stands = IsRefusedBy-none exec h Idle offer refl is
IsRefusedBy-told exec h End offer is stands = IsRefusedBy-none exec h End offer refl is

-- an executive that stands before the entry of a row, and what is told of that row
pub record IsBeforeRow (plan : PlanParts) (arrivals : List Arrival) (slots row : ℕ) (exec : Executive) (a : Arrival) : Type 0 where
  pub h : History
  pub stands : StandsFor exec h
  pub told : explained plan arrivals slots row ≡ explained_entry exec.plan h (entry_of exec.plan h a)

pub IsBeforeRow-stands : (plan : PlanParts) (arrivals : List Arrival) (slots from row : ℕ) (exec : Executive) (a : Arrival) → from ≡ slots → exec.plan ≡ plan → slice_get arrivals (row - 1) ≡ Some a → StandsBefore exec (trace plan.tasks arrivals from) a → IsBeforeRow plan arrivals slots row exec a
IsBeforeRow-stands plan arrivals slots from row exec a is_from is_plan at before =
    let own : StandsBefore exec (trace exec.plan.tasks arrivals slots) a = subst (λ n. StandsBefore exec (trace exec.plan.tasks arrivals n) a) is_from (subst (λ (p : PlanParts). StandsBefore exec (trace p.tasks arrivals from) a) (sym is_plan) before) in
    let h = history_before (trace exec.plan.tasks arrivals slots) a in
    record {
      h = h;
      stands = own.stands;
      told = ap (λ (p : PlanParts). explained p arrivals slots row) (sym is_plan) ∙ explained-at exec.plan arrivals slots row a (entry_of exec.plan h a) at own.next;
    }

-- the arrival of a row
pub row-at : (arrivals : List Arrival) (row : ℕ) → 1 ≤ row → row ≤ length arrivals → slice_get arrivals (row - 1) ≡ Some (slice_index_or arrivals (row - 1) (record { row = 0; slot = 0; event = Soft 0 }))
row-at arrivals row first there = slice_get-get_or arrivals (row - 1) (record { row = 0; slot = 0; event = Soft 0 }) (omega (arith, first, there))
