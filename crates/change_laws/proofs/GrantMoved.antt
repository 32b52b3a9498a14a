-- Jobs with times counted from the change on, beside the same jobs at their own times: schedules of
-- the ones are schedules of the others.
use Rattle.std.proofs.Common.{◌≡◌, ℕ, zero, suc, ◌+◌, ◌-◌, ◌<◌, true, false, List, [], ◌∷◌, ◌++◌, length, map, Option, Some, refl, sym, ap, ◌∙◌, subst, inl, inr, arith}
use Rattle.std.specs.Prelude.{slice_get, Contains, ⊤}
use Rattle.std.proofs.lemmas.Bool.{cond-true, cond-false}
use Rattle.slot_core.specs.declared.jobs.Key.{Key}
use Rattle.slot_core.specs.declared.jobs.Job.{Job}
use Rattle.slot_core.specs.declared.tasks.TaskSet.{TaskSet}
use Rattle.slot_core.specs.Offline.Keys.{is_offline}
use Rattle.slot_core.specs.Offline.OfflineJobs.{offline_jobs}
use Rattle.slot_core.specs.Offline.Windows.{raw_release, raw_deadline, precedes}
use Rattle.slot_core.specs.Sets.Cycles.{cycle_of}
use Rattle.slot_core.specs.Claims.Schedules.{IsSchedule}
use Rattle.slot_facts.proofs.Lists.Members.{Has, Contains-from_Has}
use Rattle.slot_facts.proofs.Offline.Jobs.{offline_from_cycles}
use Rattle.slot_facts.proofs.Legal.Jobs.{offline-key}
use Rattle.slot_facts.proofs.Scheduling.Raw.{release_or-other, deadline_or-other}
use Rattle.slot_facts.proofs.Scheduling.Chains.{raw_release-offline, raw_deadline-offline}
use Rattle.change_laws.specs.Carried.{since, AreCarried}
use Rattle.change_laws.specs.Literal.{moved, moved_release, moved_deadline, IsScheduleFrom}

-- the second job is the first one c later, as far as schedules ask
pub record IsMoved (set : TaskSet) (c : ℕ) (a b : Job) : Type 0 where
  pub key : a.key ≡ b.key
  pub left : a.left ≡ b.left
  pub release : raw_release set a ≡ moved_release set c b - c
  pub deadline : raw_deadline set a + c ≡ moved_deadline set c b

-- so are the jobs of two lists, one by one
abbrev pub AreMoved : TaskSet → ℕ → List Job → List Job → Type 0
AreMoved set c [] [] = ⊤
AreMoved set c (a ∷ xs) (b ∷ ys) = IsMoved set c a b × AreMoved set c xs ys
AreMoved set c _ _ = ⊥

pub AreMoved-append : (set : TaskSet) (c : ℕ) (xs ys us vs : List Job) → AreMoved set c xs us → AreMoved set c ys vs → AreMoved set c (xs ++ ys) (us ++ vs)
AreMoved-append set c [] ys [] vs first second = second
AreMoved-append set c [] ys (u ∷ us) vs first second = absurd first
AreMoved-append set c (x ∷ xs) ys [] vs first second = absurd first
AreMoved-append set c (x ∷ xs) ys (u ∷ us) vs first second =
    (first.0, AreMoved-append set c xs ys us vs first.1 second)

-- there are as many
AreMoved-length : (set : TaskSet) (c : ℕ) (xs ys : List Job) → AreMoved set c xs ys → length xs ≡ length ys
AreMoved-length set c [] [] each = refl
AreMoved-length set c [] (y ∷ ys) each = absurd each
AreMoved-length set c (x ∷ xs) [] each = absurd each
AreMoved-length set c (x ∷ xs) (y ∷ ys) each = ap suc (AreMoved-length set c xs ys each.1)

-- each job of the one list stands for that of the other at its place
to_second : (set : TaskSet) (c n : ℕ) (xs ys : List Job) (a : Job) → AreMoved set c xs ys → slice_get xs n ≡ Some a → (b : Job) × (slice_get ys n ≡ Some b) × IsMoved set c a b
to_second set c n [] ys a each at = absurd (cc at)
to_second set c n (x ∷ xs) [] a each at = absurd each
to_second set c zero (x ∷ xs) (y ∷ ys) a each at =
    let same : x ≡ a = cc at in
    (y, refl, subst (λ j. IsMoved set c j y) same each.0)
to_second set c (suc n) (x ∷ xs) (y ∷ ys) a each at = to_second set c n xs ys a each.1 at

to_first : (set : TaskSet) (c n : ℕ) (xs ys : List Job) (b : Job) → AreMoved set c xs ys → slice_get ys n ≡ Some b → (a : Job) × (slice_get xs n ≡ Some a) × IsMoved set c a b
to_first set c n xs [] b each at = absurd (cc at)
to_first set c n [] (y ∷ ys) b each at = absurd each
to_first set c zero (x ∷ xs) (y ∷ ys) b each at =
    let same : y ≡ b = cc at in
    (x, refl, subst (λ j. IsMoved set c x j) same each.0)
to_first set c (suc n) (x ∷ xs) (y ∷ ys) b each at = to_first set c n xs ys b each.1 at

-- precedence asks for keys alone
same_precedes : (set : TaskSet) (a b d e : Key) → a ≡ d → b ≡ e → precedes set a b ≡ precedes set d e
same_precedes set a b d e first second = ap (λ (k : Key). precedes set k b) first ∙ ap (precedes set d) second

-- a schedule of the first list is one of the second from c on
pub schedule_from : (set : TaskSet) (c n : ℕ) (xs ys : List Job) (slots : List (Option ℕ)) → AreMoved set c xs ys → IsSchedule set xs 0 n slots → IsScheduleFrom set c ys (c + n) slots
schedule_from set c n xs ys slots each schedule =
    record {
      whole = omega (arith, schedule.whole);
      named = λ u m at. omega (arith, schedule.named u m at, AreMoved-length set c xs ys each);
      served = λ m b listed due.
          let (a, at_a, same) = to_first set c m xs ys b each listed in
          schedule.served m a at_a (omega (arith, same.deadline, due)) ∙ same.left;
      within = λ u m b at listed.
          let (a, at_a, same) = to_first set c m xs ys b each listed in
          let inside = schedule.within u m a at at_a in
          (omega (arith, inside.0, same.release), omega (arith, inside.1, same.deadline));
      ordered = λ u v m k before after at_u at_v listed_m listed_k first.
          let (a, at_a, same_a) = to_first set c m xs ys before each listed_m in
          let (b, at_b, same_b) = to_first set c k xs ys after each listed_k in
          schedule.ordered u v m k a b at_u at_v at_a at_b (same_precedes set a.key b.key before.key after.key same_a.key same_b.key ∙ first);
    }

-- and the other way round
pub schedule_since : (set : TaskSet) (c n : ℕ) (xs ys : List Job) (slots : List (Option ℕ)) → AreMoved set c xs ys → IsScheduleFrom set c ys (c + n) slots → IsSchedule set xs 0 n slots
schedule_since set c n xs ys slots each schedule =
    record {
      whole = omega (arith, schedule.whole);
      named = λ u m at. omega (arith, schedule.named u m at, AreMoved-length set c xs ys each);
      served = λ m a listed due.
          let (b, at_b, same) = to_second set c m xs ys a each listed in
          schedule.served m b at_b (omega (arith, same.deadline, due)) ∙ sym same.left;
      within = λ u m a at listed.
          let (b, at_b, same) = to_second set c m xs ys a each listed in
          let inside = schedule.within u m b at at_b in
          (omega (arith, inside.0, same.release), omega (arith, inside.1, same.deadline));
      ordered = λ u v m k before after at_u at_v listed_m listed_k first.
          let (a, at_a, same_a) = to_second set c m xs ys before each listed_m in
          let (b, at_b, same_b) = to_second set c k xs ys after each listed_k in
          schedule.ordered u v m k a b at_u at_v at_a at_b (sym (same_precedes set before.key after.key a.key b.key same_a.key same_b.key) ∙ first);
    }

-- a carried job is moved
IsMoved-carried : (set : TaskSet) (c : ℕ) (job : Job) → is_offline job.key ≡ false → c < job.dl → IsMoved set c (since c job) job
IsMoved-carried set c job other later =
    let release : raw_release set (since c job) ≡ job.est - c = release_or-other set job.key (job.est - c) other in
    let deadline : raw_deadline set (since c job) ≡ job.dl - c = deadline_or-other set job.key (job.dl - c) other in
    let own_release : moved_release set c job ≡ job.est = cond-false (is_offline job.key) (raw_release set job + c) job.est other in
    let own_deadline : moved_deadline set c job ≡ job.dl = cond-false (is_offline job.key) (raw_deadline set job + c) job.dl other in
    record { key = refl; left = refl; release = omega (arith, release, own_release); deadline = omega (arith, deadline, own_deadline, later) }

all_carried : (set : TaskSet) (c : ℕ) (jobs : List Job) → ((job : Job) → Has jobs job → (is_offline job.key ≡ false) × (c < job.dl)) → AreMoved set c (map (since c) jobs) jobs
all_carried set c [] each = tt
all_carried set c (job ∷ jobs) each = (
  IsMoved-carried set c job (each job (inl refl)).0 (each job (inl refl)).1,
  all_carried set c jobs (λ other at. each other (inr at)),
)

pub AreMoved-carried : (set : TaskSet) (c row : ℕ) (carried : List Job) → AreCarried c row carried → AreMoved set c (map (since c) carried) carried
AreMoved-carried set c row carried own =
    all_carried set c carried (λ job at. let inside = Contains-from_Has carried job at in (own.other job inside, own.due_later job inside))

-- an offline job is moved
IsMoved-offline : (set : TaskSet) (c cycles : ℕ) (job : Job) → Contains (offline_jobs set (cycle_of set) cycles) job → is_offline job.key ≡ true → IsMoved set c job (moved c job)
IsMoved-offline set c cycles job at offline =
    let x = offline_from_cycles set (cycle_of set) cycles job at in
    let graph_at = x.instance_of.graph_at in
    let key = ap (λ (j : Job). j.key) x.instance_of.derived in
    let first = raw_release-offline set job x.g x.t x.k x.graph graph_at key in
    let later = raw_release-offline set (moved c job) x.g x.t x.k x.graph graph_at key in
    let last = raw_deadline-offline set job x.g x.t x.k x.graph graph_at key in
    let end = raw_deadline-offline set (moved c job) x.g x.t x.k x.graph graph_at key in
    let release : moved_release set c (moved c job) ≡ raw_release set (moved c job) + c = cond-true (is_offline job.key) (raw_release set (moved c job) + c) (job.est + c) offline in
    let deadline : moved_deadline set c (moved c job) ≡ raw_deadline set (moved c job) + c = cond-true (is_offline job.key) (raw_deadline set (moved c job) + c) (job.dl + c) offline in
    record { key = refl; left = refl; release = omega (arith, first, later, release); deadline = omega (arith, last, end, deadline) }

all_offline : (set : TaskSet) (c : ℕ) (jobs : List Job) → ((job : Job) → Has jobs job → IsMoved set c job (moved c job)) → AreMoved set c jobs (map (moved c) jobs)
all_offline set c [] each = tt
all_offline set c (job ∷ jobs) each = (each job (inl refl), all_offline set c jobs (λ other at. each other (inr at)))

pub AreMoved-offline : (set : TaskSet) (c cycles : ℕ) → AreMoved set c (offline_jobs set (cycle_of set) cycles) (map (moved c) (offline_jobs set (cycle_of set) cycles))
AreMoved-offline set c cycles =
    let jobs = offline_jobs set (cycle_of set) cycles in
    all_offline set c jobs (λ job at. IsMoved-offline set c cycles job (Contains-from_Has jobs job at) (offline-key set (cycle_of set) cycles job at))
