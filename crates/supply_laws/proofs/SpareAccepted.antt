-- What is spare is accepted, whatever soft work ran.
use Rattle.std.proofs.Common.{◌≡◌, ℕ, ◌+◌, ◌-◌, ◌/◌, ◌≤◌, Bool, true, false, not, cond, ◌&&◌, List, [], ◌∷◌, length, map, max, refl, ap, inl, inr, arith}
use Rattle.std.specs.Prelude.{nat_le, nat_lt}
use Rattle.std.proofs.lemmas.Bool.Decides.{nat_tests}
use Rattle.std.proofs.lemmas.List.Sums.{sum_by-cons}
use Rattle.slot_core.specs.declared.jobs.Job.{Job}
use Rattle.slot_core.specs.Sets.Cycles.{cycle_of}
use Rattle.slot_core.specs.Offline.OfflineJobs.{offline_jobs}
use Rattle.slot_core.specs.Runs.Demand.{HasRoom, work_between}
use Rattle.slot_core.specs.Runs.Histories.{History, time_of, executed, sporadic_jobs}
use Rattle.slot_core.specs.Runs.Scenes.{has_ended, guaranteed, scene_of, next_arrivals}
use Rattle.slot_facts.proofs.Legal.Carried.{carried-legal}
use Rattle.slot_facts.proofs.Legal.Data.{legal-as_data}
use Rattle.slot_facts.proofs.Legal.Jobs.{IsGuaranteed-from_listed, guaranteed-offline}
use Rattle.slot_facts.proofs.Legal.Left.{left_in, left_in-append, left_in-cons, due_by, work_by-unended}
use Rattle.slot_facts.proofs.Legal.NextArrivals.{length-next_arrivals}
use Rattle.slot_facts.proofs.Lists.Members.{Has}
use Rattle.slot_facts.proofs.Offers.Answers.{accepted_exactly}
use Rattle.supply_laws.specs.Laws.{SpareIsGuaranteed}
use Rattle.supply_laws.specs.Spare.{arrivals_within}
use Rattle.supply_laws.proofs.Lefts.{firm_left-le, left_in-guaranteed_parts}
use Rattle.supply_laws.proofs.Sparse.{declared_between, sparse-legal, later-max, demand-at}

-- of one job by a later time
by_later : (ended : Bool) (y x dl declared n : ℕ) → n ≤ declared → cond (not ended) (cond (nat_le dl x) n 0) 0 ≤ cond (not ended) (cond (nat_le dl y) n 0) 0 + cond (nat_lt y dl && nat_le dl x) declared 0
by_later true y x dl declared n few = omega arith
by_later false y x dl declared n few = grind (arith, nat_tests)

-- by a later time what is due between is more
left_in-between : (h : History) (y x : ℕ) (jobs : List Job) → left_in (due_by x) h jobs ≤ left_in (due_by y) h jobs + declared_between jobs y x
left_in-between h y x [] = omega arith
left_in-between h y x (j ∷ jobs) =
    omega (
      arith,
      left_in-cons (due_by x) h j jobs,
      left_in-cons (due_by y) h j jobs,
      sum_by-cons (λ (j : Job). cond (nat_lt y j.dl && nat_le j.dl x) j.declared 0) j jobs,
      by_later (has_ended h j) y x j.dl j.declared (j.declared - executed j.key h) (omega arith),
      left_in-between h y x jobs,
    )

-- of offline jobs it is their work
declared-work : (y x : ℕ) (jobs : List Job) → ((job : Job) → Has jobs job → job.left ≡ job.declared) → declared_between jobs y x ≤ work_between jobs y x
declared-work y x [] whole = omega arith
declared-work y x (j ∷ jobs) whole =
    omega (
      arith,
      sum_by-cons (λ (j : Job). cond (nat_lt y j.dl && nat_le j.dl x) j.declared 0) j jobs,
      sum_by-cons (λ (j : Job). cond (nat_lt y j.dl && nat_le j.dl x) j.left 0) j jobs,
      ap {B = ℕ} (λ n. cond (nat_lt y j.dl && nat_le j.dl x) n 0) (whole j (inl refl)),
      declared-work y x jobs (λ job at. whole job (inr at)),
    )

pub spare_is_guaranteed : SpareIsGuaranteed
spare_is_guaranteed set h offer within slots sound feasible legal some near spare fits =
    let cycle = cycle_of set in
    let t = time_of h in
    let cycles : ℕ = t / cycle + 3 in
    let planned = offline_jobs set cycle cycles in
    let sporadic = sporadic_jobs set.sporadics h in
    let nexts = next_arrivals set.sporadics h in
    let all = guaranteed set cycle h in
    let entries = legal-as_data set cycle h legal in
    let carried = carried-legal set sound feasible entries cycles (omega arith) in
    let count : length nexts ≡ length set.sporadics = length-next_arrivals set.sporadics h 0 in
    let room : HasRoom set.sporadics cycle (scene_of set cycle h) offer within = λ x low high.
    let (l, short, free) = spare cycles x (omega arith) in
    let y : ℕ = x - l in
    let span : x - y ≡ l = omega arith in
    let sparse = sparse-legal set y x sound (omega arith) entries (map (max t) nexts) (later-max nexts t) in
    omega (
      arith,
      free,
      carried.safe.due y (omega arith) (omega arith),
      work_by-unended h all x,
      work_by-unended h all y,
      left_in-guaranteed_parts (due_by x) set cycles h,
      left_in-guaranteed_parts (due_by y) set cycles h,
      firm_left-le (due_by x) set h,
      left_in-append (due_by x) h planned sporadic,
      left_in-append (due_by y) h planned sporadic,
      left_in-between h y x planned,
      left_in-between h y x sporadic,
      declared-work y x planned (λ job at. (IsGuaranteed-from_listed set cycles h job sound entries (guaranteed-offline set cycles h job at)).whole),
      sparse,
      ap (arrivals_within set.sporadics) span,
      demand-at set.sporadics nexts t x count,
      demand-at set.sporadics nexts t y count,
    ) in
    (accepted_exactly set.sporadics cycle (scene_of set cycle h) offer within some near).1 room
