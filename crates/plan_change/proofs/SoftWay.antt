-- Offers with soft jobs among them: what is known on the way, at the end, and where an offer has no room.
use Rattle.std.proofs.Common.{◌≡◌, ℕ, zero, suc, ◌+◌, ◌<◌, ◌≤◌, List, [], ◌∷◌, ◌++◌, drop, length, map, refl, sym, ap, ◌∙◌, subst, inl, inr, arith}
use Rattle.std.specs.Prelude.{None, Option, Some, slice_get}
use Rattle.std.proofs.lemmas.Bool.{cases_lt}
use Rattle.std.proofs.lemmas.List.{append-nil, append_assoc, length-append, length-map, map-append}
use Rattle.std.proofs.lemmas.Option.{slice_get_within}
use Rattle.slot_core.specs.declared.jobs.Evidence.{Evidence}
use Rattle.slot_core.specs.declared.jobs.SoftJob.{SoftJob}
use Rattle.slot_core.specs.declared.events.Firm.{Firm as FirmAnswer}
use Rattle.slot_core.specs.declared.events.Firm.TheVariants.{Accepted, NoRoom}
use Rattle.slot_core.specs.declared.events.What.TheVariants.{Firm}
use Rattle.slot_core.specs.Feasibility.Feasible.{IsFeasible}
use Rattle.slot_core.specs.Keeping.Executives.{Executive, StandsFor}
use Rattle.slot_core.specs.Keeping.Plans.{IsPlan, PlanParts}
use Rattle.slot_core.specs.Runs.Answers.{firm_answer}
use Rattle.slot_core.specs.Runs.Histories.{History}
use Rattle.slot_core.specs.Runs.Scenes.{scene_of}
use Rattle.slot_core.specs.Runs.Traces.{started}
use Rattle.slot_facts.proofs.Lists.Members.{Contains-from_Has, Has, Has-append_left, Has-append_right, Has-from_slice_get}
use Rattle.plan_change.specs.declared.moves.Refusal.{Refusal}
use Rattle.plan_change.specs.declared.offers.Offer.{Offer}
use Rattle.plan_change.specs.Changed.{CanStartWith, HasNoRoom, IsChanged, IsCutOff}
use Rattle.plan_change.specs.Offers.{accepted_after, AllAccepted, MayBeOffered}
use Rattle.plan_change.specs.SoftWork.{AreTaken, begun_anew, goes_firm, goes_soft, Going, IsChangedWithSoft, IsCutOffWithSoft, MayWait, moved_after, offers_in, RowsAreApart, softs_in}
use Rattle.plan_change.proofs.FirstOffers.{first_exactly}
use Rattle.plan_change.proofs.SoftBeside.{answer-same, IsSameHard-moved, moved_after-append, offers_in-append, offers_in-soft, softs_in-append, softs_in-soft, waiting-more, waiting-moved}
use Rattle.plan_change.proofs.UnderWay.{AllAccepted-append, IsAnswered, refused-here}

-- of these offers and soft jobs these are left: those before them went on
pub record IsGoing (plan : PlanParts) (offers : List Offer) (jobs : List SoftJob) (now : Executive) (rest : List Offer) (waits : List SoftJob) : Type 0 where
  pub plan_of : now.plan ≡ plan
  pub before : List Going
  pub parts : offers ≡ offers_in before ++ rest
  pub soft_parts : jobs ≡ softs_in before ++ waits
  pub accepted : AllAccepted plan.tasks plan.cycle started (offers_in before)
  pub stands : StandsFor now (moved_after started before)
  pub may : MayBeOffered plan.cycle now.last_row rest
  pub later : MayWait now.last_row waits

-- so it is before the first
pub IsGoing-first : (exec : Executive) (offers : List Offer) (jobs : List SoftJob) → StandsFor exec started → MayBeOffered exec.plan.cycle 0 offers → MayWait 0 jobs → IsGoing exec.plan offers jobs exec offers jobs
IsGoing-first exec offers jobs stands may wait =
    record {
      plan_of = refl;
      before = [];
      parts = refl;
      soft_parts = refl;
      accepted = tt;
      stands = stands;
      may = subst (λ row. MayBeOffered exec.plan.cycle row offers) (sym stands.last) may;
      later = subst (λ row. MayWait row jobs) (sym stands.last) wait;
    }

-- the first of the offers left may come after another row below its own
pub MayBeOffered-above : (cycle row other : ℕ) (offer : Offer) (rest : List Offer) → MayBeOffered cycle row (offer ∷ rest) → other < offer.row → MayBeOffered cycle other (offer ∷ rest)
MayBeOffered-above cycle row other offer rest may above = (
  record {
    above = above;
    some = may.0.some;
    few = may.0.few;
    later = may.0.later;
    near = may.0.near;
  },
  may.1,
)

-- each soft job that may wait has a slot
some-left : (row : ℕ) (jobs : List SoftJob) (job : SoftJob) → MayWait row jobs → Has jobs job → 1 ≤ job.left
some-left row [] job wait at = absurd at
some-left row (j ∷ jobs) job (above, some, few, rest) (inl e) = omega (arith, some, ap (λ (s : SoftJob). s.left) e)
some-left row (j ∷ jobs) job (above, some, few, rest) (inr at) = some-left j.row jobs job rest at

-- soft jobs went on
module _ (plan : PlanParts) (offers : List Offer) (jobs : List SoftJob) (now next : Executive) (rest : List Offer) (waits left : List SoftJob) (way : IsGoing plan offers jobs now rest waits) (taken : AreTaken now next waits left) (may : MayBeOffered plan.cycle next.last_row rest) where
  abbrev both : List Going
  both = way.before ++ map goes_soft taken.taken

  offers-both : offers_in both ≡ offers_in way.before
  offers-both =
      offers_in-append way.before (map goes_soft taken.taken)
      ∙ ap (λ (os : List Offer). offers_in way.before ++ os) (offers_in-soft taken.taken)
      ∙ append-nil (offers_in way.before)

  softs-both : softs_in both ≡ softs_in way.before ++ taken.taken
  softs-both =
      softs_in-append way.before (map goes_soft taken.taken)
      ∙ ap (λ (ss : List SoftJob). softs_in way.before ++ ss) (softs_in-soft taken.taken)

  pub IsGoing-taken : IsGoing plan offers jobs next rest left
  IsGoing-taken =
      record {
        plan_of = taken.plan ∙ way.plan_of;
        before = both;
        parts = way.parts ∙ ap (λ (os : List Offer). os ++ rest) (sym offers-both);
        soft_parts = way.soft_parts
            ∙ ap (λ (ss : List SoftJob). softs_in way.before ++ ss) taken.parts
            ∙ sym (append_assoc (softs_in way.before) taken.taken left)
            ∙ ap (λ (ss : List SoftJob). ss ++ left) (sym softs-both);
        accepted = subst (AllAccepted plan.tasks plan.cycle started) (sym offers-both) way.accepted;
        stands = subst (StandsFor next) (sym (moved_after-append started way.before (map goes_soft taken.taken))) (taken.stands (moved_after started way.before) way.stands);
        may = may;
        later = taken.later;
      }

-- up to the next offer
pub IsGoing-reached : (plan : PlanParts) (offers : List Offer) (jobs : List SoftJob) (now next : Executive) (offer : Offer) (rest : List Offer) (waits left : List SoftJob) → IsGoing plan offers jobs now (offer ∷ rest) waits → AreTaken now next waits left → next.last_row < offer.row → IsGoing plan offers jobs next (offer ∷ rest) left
IsGoing-reached plan offers jobs now next offer rest waits left way taken above =
    IsGoing-taken plan offers jobs now next (offer ∷ rest) waits left way taken (MayBeOffered-above plan.cycle now.last_row next.last_row offer rest way.may above)

-- the answer to an offer is that to it among the offers alone
module _ (plan : PlanParts) (offers : List Offer) (jobs : List SoftJob) (now : Executive) (rest : List Offer) (offer : Offer) (waits : List SoftJob) (way : IsGoing plan offers jobs now (offer ∷ rest) waits) where
  abbrev h : History
  h = moved_after started way.before

  alone : (answer : FirmAnswer) → IsAnswered now offer answer → firm_answer plan.tasks.sporadics plan.cycle (scene_of plan.tasks plan.cycle (accepted_after started (offers_in way.before))) offer.slots offer.within ≡ answer
  alone answer answered =
      let here = subst (λ (p : PlanParts). firm_answer p.tasks.sporadics p.cycle (scene_of p.tasks p.cycle h) offer.slots offer.within ≡ answer) way.plan_of (answered h way.stands) in
      sym (answer-same h (accepted_after started (offers_in way.before)) (IsSameHard-moved way.before) plan.tasks plan.cycle offer.slots offer.within) ∙ here

  offers-more : offers_in (way.before ++ goes_firm offer ∷ []) ≡ offers_in way.before ++ offer ∷ []
  offers-more = offers_in-append way.before (goes_firm offer ∷ [])

  softs-same : softs_in (way.before ++ goes_firm offer ∷ []) ≡ softs_in way.before
  softs-same = softs_in-append way.before (goes_firm offer ∷ []) ∙ append-nil (softs_in way.before)

  -- one more is accepted
  pub IsGoing-next : (next : Executive) → next.plan ≡ now.plan → next.last_row ≡ offer.row → IsAnswered now offer Accepted → ((g : History) → StandsFor now g → StandsFor next (accepted_after g (offer ∷ []))) → MayWait offer.row waits → IsGoing plan offers jobs next rest waits
  IsGoing-next next same row answered stands wait =
      record {
        plan_of = same ∙ way.plan_of;
        before = way.before ++ goes_firm offer ∷ [];
        parts = way.parts
            ∙ sym (append_assoc (offers_in way.before) (offer ∷ []) rest)
            ∙ ap (λ (os : List Offer). os ++ rest) (sym offers-more);
        soft_parts = way.soft_parts ∙ ap (λ (ss : List SoftJob). ss ++ waits) (sym softs-same);
        accepted = subst (AllAccepted plan.tasks plan.cycle started) (sym offers-more) (AllAccepted-append plan.tasks plan.cycle started (offers_in way.before) (offer ∷ []) way.accepted (alone Accepted answered, tt));
        stands = subst (StandsFor next) (sym (moved_after-append started way.before (goes_firm offer ∷ []))) (stands h way.stands);
        may = subst (λ r. MayBeOffered plan.cycle r rest) (sym row) way.may.1;
        later = subst (λ r. MayWait r waits) (sym row) wait;
      }

  -- or it has no room
  pub refused-going : (e : Evidence) → IsPlan plan → MayBeOffered plan.cycle 0 offers → IsAnswered now offer (NoRoom e) → (¬ (CanStartWith plan.tasks offers)) × HasNoRoom plan.tasks offers (record { row = offer.row; evidence = e })
  refused-going e planned may answered =
      let set = plan.tasks in
      let own = offers_in way.before in
      let Refused : List Offer → Type 0 = λ os. (¬ (CanStartWith set os)) × HasNoRoom set os (record { row = offer.row; evidence = e }) in
      let whole = subst (MayBeOffered plan.cycle 0) way.parts may in
      let Here : ℕ → Type 0 = λ n. IsFeasible set n → MayBeOffered n 0 (own ++ offer ∷ rest) → AllAccepted set n started own → firm_answer set.sporadics n (scene_of set n (accepted_after started own)) offer.slots offer.within ≡ NoRoom e → Refused (own ++ offer ∷ rest) in
      subst Refused (sym way.parts)
      (subst Here (sym planned.cycle) (λ feasible m a told. refused-here set planned.sound feasible own rest offer m a e told) planned.feasible whole way.accepted (alone (NoRoom e) answered))

  pub IsCutOff-going : (next : Executive) (e : Evidence) → next.plan ≡ now.plan → ((g : History) → StandsFor now g → StandsFor next (Firm offer.row offer.slots offer.within (NoRoom e) ∷ g)) → IsCutOffWithSoft plan offers jobs (record { row = offer.row; evidence = e }) next
  IsCutOff-going next e same stands =
      record {
        before = way.before;
        offer = offer;
        rest = rest;
        parts = way.parts;
        waits = waits;
        soft_parts = way.soft_parts;
        row = refl;
        plan_of = same ∙ way.plan_of;
        stands = stands h way.stands;
      }

-- each soft job that has gone on has a slot
module _ (plan : PlanParts) (offers : List Offer) (jobs : List SoftJob) (now : Executive) (rest : List Offer) (waits : List SoftJob) (way : IsGoing plan offers jobs now rest waits) (wait : MayWait 0 jobs) where
  soft-waits : now.scene.soft ≡ map begun_anew (softs_in way.before)
  soft-waits =
      way.stands.same.soft
      ∙ waiting-moved way.before (λ job at. some-left 0 jobs job wait (subst (λ (js : List SoftJob). Has js job) (sym way.soft_parts) (Has-append_left (softs_in way.before) waits job at)))

  -- so there is room for those that are left
  pub room-going : length now.scene.soft + length waits ≡ length jobs
  room-going =
      omega (
        arith,
        ap (λ (js : List SoftJob). length js) soft-waits,
        length-map (softs_in way.before) begun_anew,
        ap (λ (js : List SoftJob). length js) way.soft_parts,
        length-append (softs_in way.before) waits,
      )

-- where none is left the change is made
pub IsChanged-going : (plan : PlanParts) (offers : List Offer) (jobs : List SoftJob) (now : Executive) → IsPlan plan → MayBeOffered plan.cycle 0 offers → MayWait 0 jobs → IsGoing plan offers jobs now [] [] → IsChangedWithSoft plan offers jobs now
IsChanged-going plan offers jobs now planned may wait way =
    let set = plan.tasks in
    let whole : offers_in way.before ≡ offers = sym (way.parts ∙ append-nil (offers_in way.before)) in
    let all : softs_in way.before ≡ jobs = sym (way.soft_parts ∙ append-nil (softs_in way.before)) in
    let accepted = subst (AllAccepted set plan.cycle started) whole way.accepted in
    let Exact : ℕ → Type 0 = λ n. IsFeasible set n → MayBeOffered n 0 offers → AllAccepted set n started offers → CanStartWith set offers in
    record {
      plan_of = way.plan_of;
      served = subst Exact (sym planned.cycle) (λ feasible m a. (first_exactly set offers planned.sound feasible m).0 a) planned.feasible may accepted;
      accepted = accepted;
      waits = soft-waits plan offers jobs now [] [] way wait ∙ ap (map begun_anew) all;
      going = way.before;
      offers_of = whole;
      softs_of = all;
      stands = way.stands;
    }

-- no soft job has been taken yet
pub AreTaken-none : (exec : Executive) (jobs : List SoftJob) → MayWait exec.last_row jobs → AreTaken exec exec jobs jobs
AreTaken-none exec jobs later =
    record {
      taken = [];
      parts = refl;
      plan = refl;
      more = omega arith;
      later = later;
      stands = λ h stands. stands;
    }

-- one more is taken
pub AreTaken-more : (first now next : Executive) (jobs rest : List SoftJob) (job : SoftJob) → AreTaken first now jobs (job ∷ rest) → next.plan ≡ now.plan → next.last_row ≡ job.row → length next.scene.soft ≤ length now.scene.soft + 1 → ((h : History) → StandsFor now h → StandsFor next (moved_after h (goes_soft job ∷ []))) → AreTaken first next jobs rest
AreTaken-more first now next jobs rest job way same row more stands =
    let taken = way.taken in
    let (low, some, few, last) = way.later in
    let both : map goes_soft (taken ++ job ∷ []) ≡ map goes_soft taken ++ goes_soft job ∷ [] = map-append goes_soft taken (job ∷ []) in
    record {
      taken = taken ++ job ∷ [];
      parts = way.parts ∙ sym (append_assoc taken (job ∷ []) rest);
      plan = same ∙ way.plan;
      more = omega (arith, more, way.more, length-append taken (job ∷ []));
      later = subst (λ r. MayWait r rest) (sym row) last;
      stands = λ h here. subst (StandsFor next) (sym (ap (moved_after h) both ∙ moved_after-append h (map goes_soft taken) (goes_soft job ∷ []))) (stands (moved_after h (map goes_soft taken)) (way.stands h here));
    }

-- after soft work came one more soft job waits at most
pub soft-more : (now next : Executive) (h : History) (job : SoftJob) → StandsFor now h → StandsFor next (moved_after h (goes_soft job ∷ [])) → length next.scene.soft ≤ length now.scene.soft + 1
soft-more now next h job before after =
    omega (
      arith,
      ap (λ (js : List SoftJob). length js) before.same.soft,
      ap (λ (js : List SoftJob). length js) after.same.soft,
      waiting-more h job.row job.left,
    )

-- the soft jobs that are left may wait behind a row below that of the first of them
pub MayWait-above : (row other : ℕ) (jobs : List SoftJob) → MayWait row jobs → ((job : SoftJob) → slice_get jobs 0 ≡ Some job → other < job.row) → MayWait other jobs
MayWait-above row other [] wait above = tt
MayWait-above row other (job ∷ jobs) (low, some, few, rest) above = (above job refl, some, few, rest)

-- where some are left there is room for one
pub AreTaken-room : (first now : Executive) (jobs rest : List SoftJob) (job : SoftJob) (n limit : ℕ) → AreTaken first now jobs (job ∷ rest) → length first.scene.soft + n ≤ limit → length jobs ≤ n → length now.scene.soft < limit
AreTaken-room first now jobs rest job n limit way room few =
    omega (arith, way.more, ap (λ (js : List SoftJob). length js) way.parts, length-append way.taken (job ∷ rest))

get-dropped : {X : Type 0} (n : ℕ) (xs : List X) → slice_get (drop n xs) 0 ≡ slice_get xs n
get-dropped zero xs = refl
get-dropped (suc n) [] = refl
get-dropped (suc n) (x ∷ xs) = get-dropped n xs

-- so it is with those from a place on, where the job there does not stand before the next offer
pub waits-above : (plan : PlanParts) (offers : List Offer) (jobs : List SoftJob) (now : Executive) (offer : Offer) (rest : List Offer) (n count : ℕ) → IsGoing plan offers jobs now (offer ∷ rest) (drop n jobs) → RowsAreApart offers jobs → length jobs ≤ count → (n < count → (r : ℕ) × (job : SoftJob) × (Some offer.row ≡ Some r) × (slice_get jobs n ≡ Some job) × (r ≤ job.row)) → MayWait offer.row (drop n jobs)
waits-above plan offers jobs now offer rest n count way apart few stops =
    MayWait-above now.last_row offer.row (drop n jobs) way.later λ job at.
    let here : slice_get jobs n ≡ Some job = sym (get-dropped n jobs) ∙ at in
    let within : n < count = omega (arith, slice_get_within jobs n job here, few) in
    let (r, own, is, there, low) = stops within in
    let same : own ≡ job = cc (sym there ∙ here) in
    let row : offer.row ≡ r = cc is in
    let in_offers = subst (λ (os : List Offer). Has os offer) (sym way.parts) (Has-append_right (offers_in way.before) (offer ∷ rest) offer (inl refl)) in
    let differs = apart offer job (Contains-from_Has offers offer in_offers) (Contains-from_Has jobs job (Has-from_slice_get jobs n job here)) in
    omega (arith, low, ap (λ (s : SoftJob). s.row) same, row, differs)

-- where no row is told all go over
pub none_stop : (n count : ℕ) (jobs : List SoftJob) → n ≤ count → (n < count → (r : ℕ) × (job : SoftJob) × (◌≡◌ {A = Option ℕ} None (Some r)) × (slice_get jobs n ≡ Some job) × (r ≤ job.row)) → n ≡ count
none_stop n count jobs few stops =
    elim (cases_lt n count) [
      | inl within ↦
          let (r, job, is, there, low) = stops within in
          absurd (cc is)
      | inr end ↦ omega (arith, end, few)
    ]

-- with no soft job it is a change by offers alone
moved-alone : (h : History) (going : List Going) → softs_in going ≡ [] → moved_after h going ≡ accepted_after h (offers_in going)
moved-alone h [] none = refl
moved-alone h (goes_firm x ∷ going) none = moved-alone (Firm x.row x.slots x.within Accepted ∷ h) going none
moved-alone h (goes_soft x ∷ going) none = absurd (cc none)

none-before : (xs ys : List SoftJob) → [] ≡ xs ++ ys → xs ≡ []
none-before [] ys none = refl
none-before (x ∷ xs) ys none = absurd (cc none)

pub IsChanged-alone : (plan : PlanParts) (offers : List Offer) (after : Executive) → IsChangedWithSoft plan offers [] after → IsChanged plan offers after
IsChanged-alone plan offers after changed =
    let same = moved-alone started changed.going changed.softs_of ∙ ap (accepted_after started) changed.offers_of in
    record {
      plan_of = changed.plan_of;
      served = changed.served;
      accepted = changed.accepted;
      stands = subst (StandsFor after) same changed.stands;
    }

pub IsCutOff-alone : (plan : PlanParts) (offers : List Offer) (refusal : Refusal) (after : Executive) → IsCutOffWithSoft plan offers [] refusal after → IsCutOff plan offers refusal after
IsCutOff-alone plan offers refusal after cut =
    let none = none-before (softs_in cut.before) cut.waits cut.soft_parts in
    let same = moved-alone started cut.before none in
    record {
      before = offers_in cut.before;
      offer = cut.offer;
      rest = cut.rest;
      parts = cut.parts;
      row = cut.row;
      plan_of = cut.plan_of;
      stands = subst (λ (h : History). StandsFor after (Firm cut.offer.row cut.offer.slots cut.offer.within (NoRoom refusal.evidence) ∷ h)) same cut.stands;
    }
