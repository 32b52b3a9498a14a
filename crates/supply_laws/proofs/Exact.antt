-- After quiet slots up to the start of a window no more is accepted than the window leaves free.
use Rattle.std.proofs.Common.{◌≡◌, ℕ, zero, suc, ◌+◌, ◌-◌, ◌*◌, ◌/◌, ◌≤◌, Bool, true, false, not, ◌&&◌, ◌||◌, cond, List, [], ◌∷◌, ◌++◌, map, refl, ap, ◌∙◌, subst, inl, inr, arith}
use Rattle.std.specs.Prelude.{sum_by, nat_le}
use Rattle.std.specs.List.{enumerate_from}
use Rattle.std.proofs.Math.Nat.{div-eq_of_lt}
use Rattle.std.proofs.lemmas.Bool.{leb-true}
use Rattle.std.proofs.lemmas.Bool.Decides.{nat_tests}
use Rattle.std.proofs.lemmas.List.Sums.{sum_by-cons}
use Rattle.slot_core.specs.declared.jobs.Key.{Key}
use Rattle.slot_core.specs.declared.jobs.Key.TheVariants.{Offline, Sporadic as SporadicKey, Firm as FirmKey, Soft as SoftKey}
use Rattle.slot_core.specs.declared.jobs.Job.{Job}
use Rattle.slot_core.specs.declared.tasks.Sporadic.{Sporadic}
use Rattle.slot_core.specs.declared.tasks.TaskSet.{TaskSet}
use Rattle.slot_core.specs.declared.events.Ran.{Ran}
use Rattle.slot_core.specs.declared.events.Ran.TheVariants.{Idle as RanIdle, Key as RanKey}
use Rattle.slot_core.specs.declared.events.What.TheVariants.{Run}
use Rattle.slot_core.specs.Offline.Keys.{is_offline}
use Rattle.slot_core.specs.Sets.Cycles.{cycle_of}
use Rattle.slot_core.specs.Offline.OfflineJobs.{offline_jobs}
use Rattle.slot_core.specs.Feasibility.Sporadics.{arrivals_due, sporadic_demand}
use Rattle.slot_core.specs.Runs.Histories.{History, time_of, executed, is_freed, firm_jobs, sporadic_jobs, soft_jobs, next_arrival}
use Rattle.slot_core.specs.Runs.Scenes.{guaranteed, remaining, scene_of}
use Rattle.slot_core.specs.Runs.Choice.{choice}
use Rattle.slot_core.specs.Runs.Demand.{work_from}
use Rattle.slot_core.specs.Runs.Traces.{slot, told_of, told_of_slot, IsLegal}
use Rattle.slot_facts.proofs.Legal.Carried.{carried-legal}
use Rattle.slot_facts.proofs.Legal.Data.{LegalEntries, slot_runs, legal-as_data}
use Rattle.slot_facts.proofs.Legal.Jobs.{IsGuaranteed-from_listed, guaranteed-offline, offline-key, sporadic-key}
use Rattle.slot_facts.proofs.Legal.Left.{left_in, left_in-append, left_in-cons, due_by, work_by-unended}
use Rattle.slot_facts.proofs.Legal.Owned.{not_run-early, not_freed}
use Rattle.slot_facts.proofs.Legal.Steps.{waiting_own}
use Rattle.slot_facts.proofs.Legal.Traces.{legal-due}
use Rattle.slot_facts.proofs.Histories.Unended.{unended_own}
use Rattle.slot_facts.proofs.Lists.Members.{Has, Has-append_cases}
use Rattle.slot_facts.proofs.Offers.Answers.{no_room_exactly}
use Rattle.supply_laws.specs.Laws.{SupplyIsExact, IsQuiet}
use Rattle.supply_laws.specs.Requests.{is_firm, is_requested, used, quiet}

-- nothing arrived, and no requested job ran
record IsStill (set : TaskSet) (a : ℕ) (h : History) : Type 0 where
  legal : IsLegal set (cycle_of set) h
  time : time_of h ≡ a
  unused : used h ≡ 0
  firm : firm_jobs h ≡ []
  soft : soft_jobs h ≡ []
  nexts : (index separation : ℕ) → next_arrival index separation h ≡ 0

-- the key of an offline job is not that of a requested one
own_key : (key : Key) → is_offline key ≡ true → is_requested key ≡ false
own_key (Offline g t k) e = refl
own_key (SporadicKey i r) e = refl
own_key (FirmKey r) e = absurd (cc e)
own_key (SoftKey r) e = absurd (cc e)

not_firm : (key : Key) → is_requested key ≡ false → is_firm key ≡ false
not_firm (Offline g t k) e = refl
not_firm (SporadicKey i r) e = refl
not_firm (FirmKey r) e = absurd (cc e)
not_firm (SoftKey r) e = absurd (cc e)

-- no job that remains was requested
own_remains : (set : TaskSet) (h : History) (job : Job) → firm_jobs h ≡ [] → Has (remaining set (cycle_of set) h) job → is_requested job.key ≡ false
own_remains set h job none at =
    let cycle = cycle_of set in
    let cycles : ℕ = time_of h / cycle + 3 in
    let planned = offline_jobs set cycle cycles in
    let mine = unended_own h (guaranteed set cycle h) job at in
    let key_is : job.key ≡ mine.0.key = ap (λ (j : Job). j.key) mine.1.same in
    let own : is_requested mine.0.key ≡ false =
    elim (Has-append_cases (planned ++ firm_jobs h) (sporadic_jobs set.sporadics h) mine.0 mine.1.listed) [
      | inl a ↦ elim (Has-append_cases planned (firm_jobs h) mine.0 a) [
        | inl b ↦ own_key mine.0.key (offline-key set cycle cycles mine.0 b)
        | inr b ↦ absurd (subst (λ (js : List Job). Has js mine.0) none b)
      ]
      | inr a ↦ ap is_requested (sporadic-key set.sporadics h mine.0 a).1
    ] in
    ap is_requested key_is ∙ own

-- so what runs was not
own_runs : (set : TaskSet) (h : History) (key : Key) → firm_jobs h ≡ [] → soft_jobs h ≡ [] → LegalEntries set (cycle_of set) (Run key ∷ h) → is_requested key ≡ false
own_runs set h key none no_soft (slot_runs (inl r) runs before) = ap is_requested r.keyed ∙ own_remains set h r.job none r.among
own_runs set h key none no_soft (slot_runs (inr r) runs before) =
    let own = waiting_own h r.soft r.among in
    absurd (subst (λ ss. Has ss own.0) no_soft own.1.listed)

-- one slot more
still-ran : (set : TaskSet) (a : ℕ) (h : History) (ran : Ran) → IsStill set a h → IsLegal set (cycle_of set) (told_of_slot ran ∷ h) → IsStill set (suc a) (told_of_slot ran ∷ h)
still-ran set a h RanIdle still legal = record {
  legal = legal;
  time = ap suc still.time;
  unused = refl;
  firm = still.firm;
  soft = still.soft;
  nexts = still.nexts;
}
still-ran set a h (RanKey key) still legal =
    let own = own_runs set h key still.firm still.soft (legal-as_data set (cycle_of set) (Run key ∷ h) legal) in
    record {
      legal = legal;
      time = ap suc still.time;
      unused = ap {B = ℕ} (λ b. cond b (suc (used h)) (used h)) own ∙ still.unused;
      firm = still.firm;
      soft = still.soft;
      nexts = still.nexts;
    }

quiet-still : (set : TaskSet) (a : ℕ) → IsStill set a (quiet set a)
quiet-still set zero = record { legal = tt; time = refl; unused = refl; firm = refl; soft = refl; nexts = λ i n. refl }
quiet-still set (suc a) =
    let before = quiet-still set a in
    let cycle = cycle_of set in
    let h = quiet set a in
    still-ran set a h (choice set.sporadics cycle (scene_of set cycle h)) before (legal-due set cycle h (told_of set cycle h slot) before.legal (slot, tt, refl))

-- no firm job remains
none-firm : (jobs : List Job) → ((job : Job) → Has jobs job → is_firm job.key ≡ false) → sum_by (λ (j : Job). cond (is_firm j.key) j.left 0) jobs ≡ 0
none-firm [] others = refl
none-firm (j ∷ jobs) others =
    let here = ap {B = ℕ} (λ b. cond b j.left 0) (others j (inl refl)) in
    omega (arith, sum_by-cons (λ (j : Job). cond (is_firm j.key) j.left 0) j jobs, here, none-firm jobs (λ job at. others job (inr at)))

quiet-is : (set : TaskSet) (a : ℕ) → IsQuiet set a (quiet set a)
quiet-is set a =
    let still = quiet-still set a in
    let h = quiet set a in
    record {
      legal = still.legal;
      time = still.time;
      unused = still.unused;
      none = none-firm (remaining set (cycle_of set) h) (λ job at. not_firm job.key (own_remains set h job still.firm at));
    }

-- a job that has not run has all its slots left
all_left : (starts due freed : Bool) (declared ran left : ℕ) → (starts ≡ true → (ran ≡ 0) × (freed ≡ false) × (1 ≤ declared) × (left ≡ declared)) → cond (starts && due) left 0 ≤ cond (not (nat_le declared ran || freed)) (cond due (declared - ran) 0) 0
all_left false due freed declared ran left whole = omega arith
all_left true due freed declared ran left whole =
    let (none, kept, some, is) = whole refl in
    rw (none, kept, is) (grind (arith, nat_tests))

-- the jobs that start later are left
left_in-fresh : (h : History) (a x : ℕ) (jobs : List Job) → ((job : Job) → Has jobs job → a ≤ job.est → (executed job.key h ≡ 0) × (is_freed job.key h ≡ false) × (1 ≤ job.declared) × (job.left ≡ job.declared)) → work_from jobs a x ≤ left_in (due_by x) h jobs
left_in-fresh h a x [] fresh = omega arith
left_in-fresh h a x (j ∷ jobs) fresh =
    omega (
      arith,
      left_in-cons (due_by x) h j jobs,
      sum_by-cons (λ (j : Job). cond (nat_le a j.est && nat_le j.dl x) j.left 0) j jobs,
      all_left (nat_le a j.est) (nat_le j.dl x) (is_freed j.key h) j.declared (executed j.key h) j.left (λ starts. fresh j (inl refl) (leb-true a j.est starts)),
      left_in-fresh h a x jobs (λ job at. fresh job (inr at)),
    )

-- where no task has arrived, all may
demand-fresh : (ss : List Sporadic) (h : History) (n r x : ℕ) → ((index separation : ℕ) → next_arrival index separation h ≡ 0) → sporadic_demand ss (map (λ (p : ℕ × Sporadic). next_arrival p.0 p.1.separation h) (enumerate_from n ss)) r x ≡ sporadic_demand ss [] r x
demand-fresh [] h n r x none = refl
demand-fresh (s ∷ ss) h n r x none =
    let here = ap (λ next. s.wcet * arrivals_due s next r x) (none n s.separation) in
    omega (arith, here, demand-fresh ss h (n + 1) r x none)

pub supply_is_exact : SupplyIsExact
supply_is_exact set offer within a x sound feasible some near start long end short =
    let cycle = cycle_of set in
    let h = quiet set a in
    let is = quiet-is set a in
    let still = quiet-still set a in
    let entries = legal-as_data set cycle h still.legal in
    let cycles : ℕ = time_of h / cycle + 3 in
    let first : time_of h / cycle ≡ 0 = div-eq_of_lt {n = time_of h} {m = cycle} (omega (arith, still.time)) in
    let three : cycles ≡ 3 = ap (λ n. n + 3) first in
    let carried = carried-legal set sound feasible entries cycles (omega arith) in
    let planned = offline_jobs set cycle cycles in
    let all = guaranteed set cycle h in
    let fresh = left_in-fresh h a x planned (λ job at starts.
    let none = not_run-early set cycles sound h job entries carried.owned at (omega (arith, still.time)) in
    let own = IsGuaranteed-from_listed set cycles h job sound entries (guaranteed-offline set cycles h job at) in
    (none, not_freed set cycles sound h job entries carried.owned at none, own.some, own.whole)) in
    let work : work_from planned a x ≡ work_from (offline_jobs set cycle 3) a x = ap (λ n. work_from (offline_jobs set cycle n) a x) three in
    let demand : sporadic_demand set.sporadics (scene_of set cycle h).nexts (time_of h) x ≡ sporadic_demand set.sporadics [] a x =
    demand-fresh set.sporadics h 0 (time_of h) x still.nexts ∙ ap (λ t. sporadic_demand set.sporadics [] t x) still.time in
    let ahead : cycles * cycle ≡ 3 * cycle = ap (λ n. n * cycle) three in
    let refused = (no_room_exactly set.sporadics cycle (scene_of set cycle h) offer within some near).1 (λ room.
    absurd (omega (
      arith,
      room x (omega (arith, still.time)) (omega (arith, ahead)),
      work_by-unended h all x,
      left_in-append (due_by x) h (planned ++ firm_jobs h) (sporadic_jobs set.sporadics h),
      left_in-append (due_by x) h planned (firm_jobs h),
      fresh,
      work,
      demand,
      still.time,
    ))) in
    (is, (refused.0, refused.1))
