-- Before the first slot offers are accepted exactly where a change that carries their jobs can be served.
use Rattle.std.proofs.Common.{◌≡◌, ◌↔◌, ℕ, ◌+◌, ◌-◌, ◌*◌, ◌<◌, ◌≤◌, true, false, cond, List, [], ◌∷◌, map, refl, sym, ap, subst, inl, inr, arith}
use Rattle.std.specs.Prelude.{Contains, nat_le}
use Rattle.std.proofs.Math.Nat.{zero-div}
use Rattle.std.proofs.lemmas.Bool.{cases_lt}
use Rattle.std.proofs.lemmas.List.{append-nil}
use Rattle.std.proofs.lemmas.List.Sums.{sum_by-cons}
use Rattle.slot_core.specs.declared.jobs.Job.{Job}
use Rattle.slot_core.specs.declared.tasks.Sporadic.{Sporadic}
use Rattle.slot_core.specs.declared.tasks.TaskSet.{TaskSet}
use Rattle.slot_core.specs.Offline.Keys.{is_offline, is_soft, row_of}
use Rattle.slot_core.specs.Offline.OfflineJobs.{offline_jobs}
use Rattle.slot_core.specs.Sets.Cycles.{cycle_of}
use Rattle.slot_core.specs.Sets.Ranges.{is_sound}
use Rattle.slot_core.specs.Feasibility.Feasible.{IsFeasible}
use Rattle.slot_core.specs.Feasibility.Sporadics.{arrivals_due, sporadic_demand}
use Rattle.slot_core.specs.Runs.Demand.{need_by, work_by}
use Rattle.slot_core.specs.Runs.Scenes.{horizon, scene_of}
use Rattle.slot_core.specs.Runs.Traces.{started}
use Rattle.slot_facts.proofs.Histories.Unended.{remaining-start}
use Rattle.slot_facts.proofs.Lists.Members.{Has, Has-from_Contains, Has-map_cases}
use Rattle.slot_facts.proofs.Offline.Jobs.{cycle-positive}
use Rattle.slot_facts.proofs.Scheduling.Beside.{work_by-both}
use Rattle.slot_facts.proofs.Scheduling.Extras.{AreExtra, AreExtra-nil}
use Rattle.scene_steps.proofs.Same.FirstScene.{first_scene-empty}
use Rattle.change_laws.specs.Carried.{AreCarried, cycles_of_change, since}
use Rattle.change_laws.specs.Demand.{due_after, FitsFor}
use Rattle.change_laws.proofs.GrantExact.{changes_are_exact, due_after-now}
use Rattle.change_laws.proofs.GrantForEver.{changes_can_be_served_for_ever}
use Rattle.change_laws.proofs.GrantJobs.{the_cycles_are_least}
use Rattle.plan_change.specs.declared.offers.Offer.{Offer}
use Rattle.plan_change.specs.Changed.{CanStartWith}
use Rattle.plan_change.specs.Laws.{FirstOffersAreExact, LessWorkCanChange}
use Rattle.plan_change.specs.Offers.{AllAccepted, first_jobs, job_of, MayBeOffered, row_after}
use Rattle.plan_change.proofs.Together.{accepted-from_fit, AreExtra-offers, fit-from_accepted, FitTogether}

-- one of the offers that may be made after a row
pub record IsAmong (cycle row last : ℕ) (offer : Offer) : Type 0 where
  pub above : row < offer.row
  pub below : offer.row ≤ last
  pub some : 1 ≤ offer.slots
  pub later : 1 ≤ offer.within
  pub near : offer.within ≤ cycle

-- rows rise
pub row_after-above : (cycle row : ℕ) (offers : List Offer) → MayBeOffered cycle row offers → row ≤ row_after row offers
row_after-above cycle row [] may = omega arith
row_after-above cycle row (offer ∷ offers) may =
    omega (arith, may.0.above, row_after-above cycle offer.row offers may.1)

IsAmong-lower : (cycle low row last : ℕ) (offer : Offer) → low < row → IsAmong cycle row last offer → IsAmong cycle low last offer
IsAmong-lower cycle low row last offer le among = record {
  above = omega (arith, among.above, le);
  below = among.below;
  some = among.some;
  later = among.later;
  near = among.near;
}

pub IsAmong-from_may : (cycle row : ℕ) (offers : List Offer) (offer : Offer) → MayBeOffered cycle row offers → Has offers offer → IsAmong cycle row (row_after row offers) offer
IsAmong-from_may cycle row [] offer may at = absurd at
IsAmong-from_may cycle row (first ∷ offers) offer may (inl e) =
    subst (IsAmong cycle row (row_after first.row offers)) e (record {
      above = may.0.above;
      below = row_after-above cycle first.row offers may.1;
      some = may.0.some;
      later = may.0.later;
      near = may.0.near;
    })
IsAmong-from_may cycle row (first ∷ offers) offer may (inr at) =
    IsAmong-lower cycle row first.row (row_after first.row offers) offer may.0.above (IsAmong-from_may cycle first.row offers offer may.1 at)

-- a job of such an offer
record IsFirstJob (cycle last : ℕ) (job : Job) : Type 0 where
  pub other : is_offline job.key ≡ false
  pub hard : is_soft job.key ≡ false
  pub come : job.est ≤ 0
  pub due_later : 0 < job.dl
  pub near : job.dl ≤ cycle
  pub some : 1 ≤ job.left
  pub rows : row_of job.key ≤ last

IsFirstJob-from_may : (cycle : ℕ) (offers : List Offer) (job : Job) → MayBeOffered cycle 0 offers → Contains (first_jobs offers) job → IsFirstJob cycle (row_after 0 offers) job
IsFirstJob-from_may cycle offers job may at =
    let (offer, listed, same) = Has-map_cases (job_of 0) offers job (Has-from_Contains (first_jobs offers) job at) in
    let among = IsAmong-from_may cycle 0 offers offer may listed in
    subst (IsFirstJob cycle (row_after 0 offers)) same (record {
      other = refl;
      hard = refl;
      come = omega arith;
      due_later = omega (arith, among.later);
      near = omega (arith, among.near);
      some = among.some;
      rows = among.below;
    })

-- the jobs of offers may be carried over
pub AreCarried-first : (cycle : ℕ) (offers : List Offer) → MayBeOffered cycle 0 offers → AreCarried 0 (row_after 0 offers) (first_jobs offers)
AreCarried-first cycle offers may =
    let extra = AreExtra-offers cycle 0 0 offers [] may (AreExtra-nil (row_after 0 offers + 1)) in
    let own = subst (AreExtra 1) (append-nil (first_jobs offers)) extra in
    let each = λ (job : Job) (at : Contains (first_jobs offers) job). IsFirstJob-from_may cycle offers job may at in
    record {
      other = λ job at. (each job at).other;
      hard = λ job at. (each job at).hard;
      come = λ job at. (each job at).come;
      due_later = λ job at. (each job at).due_later;
      some = λ job at. (each job at).some;
      rows = λ job at. (each job at).rows;
      apart = own.apart;
    }

-- three cycles are looked at
pub cycles-first : (set : TaskSet) (offers : List Offer) → is_sound set ≡ true → MayBeOffered (cycle_of set) 0 offers → cycles_of_change (cycle_of set) 0 (first_jobs offers) ≡ 3
cycles-first set offers sound may =
    let cycle = cycle_of set in
    let jobs = first_jobs offers in
    let least = the_cycles_are_least cycle 0 (row_after 0 offers) jobs (cycle-positive set sound) (AreCarried-first cycle offers may) in
    let few = least.least 3 (omega arith) (λ job at. omega (arith, (IsFirstJob-from_may cycle offers job may at).near)) in
    omega (arith, few, least.three)

-- where no next arrival is given each task may come at once
demand-start : (ss : List Sporadic) (x : ℕ) → sporadic_demand ss (map (λ (s : Sporadic). 0) ss) 0 x ≡ sporadic_demand ss [] 0 x
demand-start [] x = refl
demand-start (s ∷ ss) x = ap (λ n. s.wcet * arrivals_due s 0 0 x + n) (demand-start ss x)

-- what is needed before the first slot
pub need-start : (set : TaskSet) (x : ℕ) → is_sound set ≡ true → need_by set.sporadics (scene_of set (cycle_of set) started) 0 x ≡ work_by (offline_jobs set (cycle_of set) 3) x + sporadic_demand set.sporadics [] 0 x
need-start set x sound =
    let nexts = (first_scene-empty set sound).nexts in
    omega (
      arith,
      ap (λ js. work_by js x) (remaining-start set sound),
      ap (λ ns. sporadic_demand set.sporadics ns 0 x) nexts,
      demand-start set.sporadics x,
    )

same_due : (dl left x : ℕ) → cond (nat_le (dl - 0) x) left 0 ≡ cond (nat_le dl x) left 0
same_due dl left x =
    let same : dl - 0 ≡ dl = omega arith in
    ap {B = ℕ} (λ (d : ℕ). cond (nat_le d x) left 0) same

-- jobs whose times count from time 0 on
pub since-zero : (jobs : List Job) (x : ℕ) → work_by (map (since 0) jobs) x ≡ work_by jobs x
since-zero [] x = refl
since-zero (job ∷ jobs) x =
    let due = λ (j : Job). cond (nat_le j.dl x) j.left 0 in
    omega (
      arith,
      sum_by-cons due (since 0 job) (map (since 0) jobs),
      sum_by-cons due job jobs,
      same_due job.dl job.left x,
      since-zero jobs x,
    )

-- what is due after a change that carries the jobs of offers
pub due-first : (set : TaskSet) (offers : List Offer) (x : ℕ) → is_sound set ≡ true → due_after set 0 (first_jobs offers) 3 x ≡ work_by (first_jobs offers) x + need_by set.sporadics (scene_of set (cycle_of set) started) 0 x
due-first set offers x sound =
    omega (
      arith,
      work_by-both (map (since 0) (first_jobs offers)) (offline_jobs set (cycle_of set) 3) x,
      since-zero (first_jobs offers) x,
      need-start set x sound,
    )

module _ (set : TaskSet) (offers : List Offer) (sound : is_sound set ≡ true) (feasible : IsFeasible set (cycle_of set)) (may : MayBeOffered (cycle_of set) 0 offers) where
  last : horizon (cycle_of set) 0 ≡ 3 * cycle_of set
  last = ap (λ n. (n + 3) * cycle_of set) (zero-div (cycle_of set))

  own : AreCarried 0 (row_after 0 offers) (first_jobs offers)
  own = AreCarried-first (cycle_of set) offers may

  fit-from_fits : FitsFor set 0 (first_jobs offers) 3 → FitTogether set sound feasible started offers
  fit-from_fits fits = λ x low high.
      let due = due-first set offers x sound in
      elim (cases_lt 0 x) [
        | inl later ↦ omega (arith, due, fits x later (omega (arith, high, last)))
        | inr now ↦
            let here : 0 ≡ x = omega (arith, now) in
            let none = subst (λ (y : ℕ). due_after set 0 (first_jobs offers) 3 y ≤ y) here (due_after-now set 0 (row_after 0 offers) 3 (first_jobs offers) sound feasible own) in
            omega (arith, due, none)
      ]

  fits-from_fit : FitTogether set sound feasible started offers → FitsFor set 0 (first_jobs offers) 3
  fits-from_fit fit = λ x low high. omega (arith, due-first set offers x sound, fit x (omega arith) (omega (arith, high, last)))

  pub can-exactly : CanStartWith set offers ↔ FitsFor set 0 (first_jobs offers) 3
  can-exactly =
      let three = cycles-first set offers sound may in
      let exact = changes_are_exact set 0 (row_after 0 offers) (cycles_of_change (cycle_of set) 0 (first_jobs offers)) (first_jobs offers) sound feasible own in (
        λ can. subst (FitsFor set 0 (first_jobs offers)) three (exact.0 can),
        λ fits. exact.1 (subst (FitsFor set 0 (first_jobs offers)) (sym three) fits),
      )

  pub first_exactly : AllAccepted set (cycle_of set) started offers ↔ CanStartWith set offers
  first_exactly = (
    λ accepted. can-exactly.1 (fits-from_fit (fit-from_accepted set sound feasible started offers tt may accepted)),
    λ can. accepted-from_fit set sound feasible started offers tt may (fit-from_fits (can-exactly.0 can)),
  )

pub first_offers_are_exact : FirstOffersAreExact
first_offers_are_exact set offers sound feasible may = first_exactly set offers sound feasible may

-- less work can be served
pub less_work_can_change : LessWorkCanChange
less_work_can_change set c d row other carried less sound feasible own fewer below can =
    let cycles = cycles_of_change (cycle_of set) d less in
    let planned = offline_jobs set (cycle_of set) cycles in
    let enough = changes_can_be_served_for_ever set c row cycles carried sound feasible own can in
    let fits = (changes_are_exact set c row cycles carried sound feasible own).0 enough in
    (changes_are_exact set d other cycles less sound feasible fewer).1 (λ x low high.
    omega (arith, fits x low high, below x, work_by-both (map (since c) carried) planned x, work_by-both (map (since d) less) planned x))
