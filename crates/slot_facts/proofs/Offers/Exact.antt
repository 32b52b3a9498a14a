-- The firm offers of every legal history are answered exactly.
use Rattle.std.proofs.Common.{◌≡◌, ◌⊎◌, ℕ, ◌+◌, ◌≤◌, ◌<◌, true, List, [], ◌∷◌, ◌++◌, refl, sym, ap, ◌∙◌, subst, inl, inr, arith}
use Rattle.std.specs.Prelude.{nat_le}
use Rattle.std.proofs.lemmas.Bool.{and_parts}
use Rattle.std.proofs.lemmas.List.{append-nil}
use Rattle.std.proofs.lemmas.List.Elements.{All-head, All-from_recursion}
use Rattle.slot_core.specs.declared.TheConstants.{OFFER_LIMIT}
use Rattle.slot_core.specs.declared.jobs.Evidence.{Evidence}
use Rattle.slot_core.specs.declared.tasks.Sporadic.{Sporadic as SporadicTask}
use Rattle.slot_core.specs.declared.tasks.TaskSet.{TaskSet}
use Rattle.slot_core.specs.declared.events.Event.{Event}
use Rattle.slot_core.specs.declared.events.Event.TheVariants.{Soft, Firm, Sporadic, Done, Withdraw}
use Rattle.slot_core.specs.declared.events.Firm.{Firm as FirmAnswer}
use Rattle.slot_core.specs.declared.events.Ran.{Ran}
use Rattle.slot_core.specs.declared.events.Ran.TheVariants.{Idle, Key as KeyRan}
use Rattle.slot_core.specs.declared.events.What.{What}
use Rattle.slot_core.specs.declared.events.What.TheVariants.{Start, End, Firm as FirmEntry}
use Rattle.slot_core.specs.declared.events.Firm.TheVariants.{Accepted, NoRoom}
use Rattle.slot_core.specs.Sets.Cycles.{cycle_of}
use Rattle.slot_core.specs.Feasibility.Feasible.{IsFeasible}
use Rattle.slot_core.specs.Sets.Ranges.{is_between, is_sound}
use Rattle.slot_core.specs.Claims.Futures.{pattern_jobs, with_offer, OfferCanBeServed, LeavesNone, OfferCannotBeServed, densest_until, OfferIsExact}
use Rattle.slot_core.specs.Runs.Histories.{History, Follows, time_of, last_row}
use Rattle.slot_core.specs.Claims.Schedules.{HasSchedule}
use Rattle.slot_core.specs.Runs.Scenes.{Scene, horizon, scene_of}
use Rattle.slot_core.specs.Feasibility.Sporadics.{IsLegalPattern}
use Rattle.slot_core.specs.Runs.Choice.{choice}
use Rattle.slot_core.specs.Runs.Answers.{firm_answer, answer}
use Rattle.slot_core.specs.Runs.Traces.{arrive, slot, told_of_slot, MayCome, IsDue, IsLegal}
use Rattle.slot_facts.specs.Offers.{OffersAreAlwaysExact}
use Rattle.slot_facts.proofs.Sets.Ranges.{bounds}
use Rattle.slot_facts.proofs.Offers.Answers.{accepted_or_no_room, room-from_accepted, short-from_no_room}
use Rattle.slot_facts.proofs.Offers.Room.{room_is_exact, room_at-densest, densest-legal}

-- the history before an entry of a legal one is legal
IsLegal-tail : (set : TaskSet) (cycle : ℕ) (what : What) (h : History) → IsLegal set cycle (what ∷ h) → IsLegal set cycle h
IsLegal-tail set cycle Start h legal = legal
IsLegal-tail set cycle End h legal = legal
IsLegal-tail set cycle _ h legal = legal.1

-- so is each earlier history
pub IsLegal-earlier : (set : TaskSet) (cycle : ℕ) (later h : History) → IsLegal set cycle (later ++ h) → IsLegal set cycle h
IsLegal-earlier set cycle [] h legal = legal
IsLegal-earlier set cycle (what ∷ later) h legal =
    IsLegal-earlier set cycle later h (IsLegal-tail set cycle what (later ++ h) legal)

-- no slot tells of an offer
pub not_a_slot : (row slots within : ℕ) (a : FirmAnswer) (ran : Ran) → FirmEntry row slots within a ≡ told_of_slot ran → ⊥
not_a_slot row slots within a Idle e = cc e
not_a_slot row slots within a (KeyRan key) e = cc e

-- an offer that is due has a slot, and the answer of the definitions
pub record IsOffered (set : TaskSet) (cycle : ℕ) (h : History) (slots within : ℕ) (a : FirmAnswer) : Type 0 where
  pub some : 1 ≤ slots
  pub told : firm_answer set.sporadics cycle (scene_of set cycle h) slots within ≡ a

-- the arrival that tells of an offer is that offer
offered-from_arrival : (set : TaskSet) (cycle : ℕ) (h : History) (row slots within r : ℕ) (a : FirmAnswer) (event : Event) → MayCome set h (arrive r event) → FirmEntry row slots within a ≡ answer set cycle (scene_of set cycle h) r event → IsOffered set cycle h slots within a
offered-from_arrival set cycle h row slots within r a (Firm c d) may e =
    let own : c ≡ slots = cc e in
    let due : d ≡ within = cc e in
    let told : firm_answer set.sporadics cycle (scene_of set cycle h) c d ≡ a = cc e in
    let range = and_parts (is_between 1 OFFER_LIMIT c) (nat_le d OFFER_LIMIT) may.1 in
    record {
      some = omega (arith, (bounds 1 OFFER_LIMIT c range.0).0);
      told = rw (← own, ← due) told;
    }
offered-from_arrival set cycle h row slots within r a (Soft c) may e = absurd (cc e)
offered-from_arrival set cycle h row slots within r a (Sporadic i) may e = absurd (cc e)
offered-from_arrival set cycle h row slots within r a (Done k) may e = absurd (cc e)
offered-from_arrival set cycle h row slots within r a (Withdraw f) may e = absurd (cc e)

-- so an offer that is due is offered
pub offered-from_due : (set : TaskSet) (cycle : ℕ) (h : History) (row slots within : ℕ) (a : FirmAnswer) → IsDue set cycle h (FirmEntry row slots within a) → IsOffered set cycle h slots within a
offered-from_due set cycle h row slots within a (arrive r event, may, e) =
    offered-from_arrival set cycle h row slots within r a event may e
offered-from_due set cycle h row slots within a (slot, may, e) =
    absurd (not_a_slot row slots within a (choice set.sporadics cycle (scene_of set cycle h)) e)

-- so is each offer of a legal history
offered-from_legal : (set : TaskSet) (cycle : ℕ) (h earlier : History) (row slots within : ℕ) (a : FirmAnswer) → IsLegal set cycle h → Follows h (FirmEntry row slots within a) earlier → IsOffered set cycle earlier slots within a × IsLegal set cycle earlier
offered-from_legal set cycle h earlier row slots within a legal (later, same) =
    let own = IsLegal-earlier set cycle later (FirmEntry row slots within a ∷ earlier) (subst (IsLegal set cycle) same legal) in
    (offered-from_due set cycle earlier row slots within a own.0, own.1)

-- without a sporadic task nothing arrives
no_arrivals : (nexts : List ℕ) (r : ℕ) (pattern : List (ℕ × ℕ)) → IsLegalPattern [] nexts r pattern → pattern ≡ []
no_arrivals nexts r [] legal = refl
no_arrivals nexts r (a ∷ pattern) legal =
    let none = All-head (λ (a : ℕ × ℕ). a.0 < 0) a pattern legal.named in
    absurd (omega (arith, none))

-- and nothing is a legal pattern
nothing_is_legal : (nexts : List ℕ) (r : ℕ) → IsLegalPattern [] nexts r []
nothing_is_legal nexts r = record { named = All-from_recursion _ [] tt; spaced = λ index s at. cc }

module _ (set : TaskSet) (h : History) (slots within : ℕ) (sound : is_sound set ≡ true) (feasible : IsFeasible set (cycle_of set)) (legal : IsLegal set (cycle_of set) h) (some : 1 ≤ slots) where
  -- the cycle, and the scene of the history
  abbrev cycle : ℕ
  cycle = cycle_of set

  abbrev scene : Scene
  scene = scene_of set cycle h

  -- a schedule of the remaining jobs and the offer
  abbrev IsAlone : Type 0
  IsAlone = HasSchedule set (with_offer set cycle h slots within) (time_of h) (horizon cycle (time_of h))

  -- what can be served whatever follows has a schedule where nothing does
  alone-from_served : set.sporadics ≡ [] → OfferCanBeServed set cycle h slots within → IsAlone
  alone-from_served bare can =
      let nothing = subst (λ (ss : List SporadicTask). IsLegalPattern ss scene.nexts (time_of h) []) (sym bare) (nothing_is_legal scene.nexts (time_of h)) in
      subst
      (λ jobs. HasSchedule set jobs (time_of h) (horizon cycle (time_of h)))
      (append-nil (with_offer set cycle h slots within))
      (can [] nothing)

  -- where nothing can follow, what cannot be served has none
  none-from_refused : set.sporadics ≡ [] → OfferCannotBeServed set cycle h slots within → ¬ IsAlone
  none-from_refused bare cannot alone =
      let nothing = no_arrivals scene.nexts (time_of h) cannot.0 (subst (λ (ss : List SporadicTask). IsLegalPattern ss scene.nexts (time_of h) cannot.0) bare cannot.1.legal) in
      let jobs = with_offer set cycle h slots within in
      let row = last_row h + 1 + 1 in
      let same : jobs ++ pattern_jobs set.sporadics row cannot.0 ≡ jobs = ap (λ p. jobs ++ pattern_jobs set.sporadics row p) nothing ∙ append-nil jobs in
      cannot.1.none (subst (λ js. HasSchedule set js (time_of h) (horizon cycle (time_of h))) (sym same) alone)

  module _ (a : FirmAnswer) (told : firm_answer set.sporadics cycle scene slots within ≡ a) where
    -- an accepted offer can be served
    served-from_accepted : a ≡ Accepted → OfferCanBeServed set cycle h slots within
    served-from_accepted is =
        (room_is_exact set h slots within sound feasible legal some).0 (room-from_accepted set.sporadics cycle scene slots within (told ∙ is))

    -- one that is refused is left no schedule by the densest arrivals that are due by the time of the
    -- evidence
    none-from_densest : (evidence : Evidence) → a ≡ NoRoom evidence → LeavesNone set cycle h slots within (densest_until set scene evidence.until)
    none-from_densest evidence is =
        let short = short-from_no_room set.sporadics cycle scene slots within evidence (told ∙ is) in
        record {
          legal = densest-legal set scene.nexts (time_of h) evidence.until sound;
          none = λ schedule.
              let room = room_at-densest set h slots within evidence.until evidence.until sound feasible legal some short.after (omega arith) short.before schedule in
              absurd (omega (arith, room, short.short));
        }

    -- so it cannot be served
    cannot-from_refused : (evidence : Evidence) → a ≡ NoRoom evidence → OfferCannotBeServed set cycle h slots within
    cannot-from_refused evidence is = (densest_until set scene evidence.until, none-from_densest evidence is)

    -- one in reach is accepted or refused
    answered-in_reach : 1 ≤ within → within ≤ cycle → (a ≡ Accepted) ⊎ ((evidence : Evidence) × (a ≡ NoRoom evidence))
    answered-in_reach due near =
        subst
        (λ (b : FirmAnswer). (b ≡ Accepted) ⊎ ((evidence : Evidence) × (b ≡ NoRoom evidence)))
        told
        (accepted_or_no_room set.sporadics cycle scene slots within due near)

    -- one in reach that cannot be served is refused
    refused-from_cannot : 1 ≤ within → within ≤ cycle → OfferCannotBeServed set cycle h slots within → (evidence : Evidence) × (a ≡ NoRoom evidence)
    refused-from_cannot due near (pattern, leaves) =
        elim (answered-in_reach due near) [
          | inl accepted ↦ absurd (leaves.none (served-from_accepted accepted pattern leaves.legal))
          | inr refused ↦ refused
        ]

    -- where no schedule serves it, one in reach is refused
    refused-from_none : set.sporadics ≡ [] → 1 ≤ within → within ≤ cycle → ¬ IsAlone → (evidence : Evidence) × (a ≡ NoRoom evidence)
    refused-from_none bare due near none =
        elim (answered-in_reach due near) [
          | inl accepted ↦ absurd (none (alone-from_served bare (served-from_accepted accepted)))
          | inr refused ↦ refused
        ]

    -- the answer of the definitions is exact
    pub OfferIsExact-from_told : OfferIsExact set cycle h slots within a
    OfferIsExact-from_told =
        record {
          accepted = served-from_accepted;
          refused = cannot-from_refused;
          densest = none-from_densest;
          in_reach = answered-in_reach;
          exactly = λ due near. (λ refused. cannot-from_refused refused.0 refused.1, refused-from_cannot due near);
          alone = λ bare due near. (λ refused. none-from_refused bare (cannot-from_refused refused.0 refused.1), refused-from_none bare due near);
        }

-- the offers of a legal history are answered exactly
pub offers_are_always_exact : OffersAreAlwaysExact
offers_are_always_exact set h sound feasible legal row slots within a earlier follows =
    let o = offered-from_legal set (cycle_of set) h earlier row slots within a legal follows in
    OfferIsExact-from_told set earlier slots within sound feasible o.1 o.0.some a o.0.told
