-- The laws of a change of plan that is made by offers.
use Rattle.std.specs.Prelude.{◌≡◌, ◌≢◌, ◌↔◌, ◌⊎◌, ℕ, ◌+◌, ◌%◌, ◌≤◌, ◌<◌, true, List, ◌++◌, length, map, Contains, IsPermutation, Some, slice_get}
use Rattle.slot_core.specs.declared.jobs.Job.{Job}
use Rattle.slot_core.specs.declared.jobs.Key.TheVariants.{Firm}
use Rattle.slot_core.specs.declared.jobs.SoftJob.{SoftJob}
use Rattle.slot_core.specs.declared.tasks.TaskSet.{TaskSet}
use Rattle.slot_core.specs.declared.events.What.TheVariants.{Run}
use Rattle.slot_core.specs.Sets.Cycles.{cycle_of}
use Rattle.slot_core.specs.Sets.Ranges.{is_sound}
use Rattle.slot_core.specs.Feasibility.Feasible.{IsFeasible}
use Rattle.slot_core.specs.Offline.Keys.{is_earlier}
use Rattle.slot_core.specs.Offline.Windows.{precedes, raw_release}
use Rattle.slot_core.specs.Claims.Futures.{CanBeServed}
use Rattle.slot_core.specs.Keeping.Executives.{Executive, IsKept, StandsFor}
use Rattle.slot_core.specs.Keeping.Kept.{AreApart}
use Rattle.slot_core.specs.Runs.Answers.{firm_answer}
use Rattle.slot_core.specs.Runs.Demand.{work_by}
use Rattle.slot_core.specs.Runs.Histories.{History, executed, last_row, time_of}
use Rattle.slot_core.specs.Runs.Matches.{HaveSameItems}
use Rattle.slot_core.specs.Runs.Scenes.{has_ended, remaining, scene_of, waiting_soft}
use Rattle.slot_core.specs.Runs.Traces.{IsLegal, slot, started, told_of}
use Rattle.change_laws.specs.Carried.{AreCarried, carried_of, since}
use Rattle.change_laws.specs.Grants.{CanChange}
use Rattle.plan_change.specs.declared.keep.Keep.{Keep}
use Rattle.plan_change.specs.declared.keep.Keep.TheVariants.{Drop}
use Rattle.plan_change.specs.declared.offers.Offer.{Offer}
use Rattle.plan_change.specs.Carrying.{carried_from, carried_jobs, goes_first, in_row_order, NoOfflineJobGoesOn, offers_from}
use Rattle.plan_change.specs.Changed.{CanStartWith}
use Rattle.plan_change.specs.Offers.{accepted_after, AllAccepted, demand_of, job_of, MayBeOffered, row_after}
use Rattle.plan_change.specs.SoftWork.{begun_anew, Going, moved_after, offers_in, softs_in}

-- at every legal history offers are accepted all the way, one after the other, exactly where all of
-- them together can be served
abbrev pub OffersTogetherAreExact : Type 0
OffersTogetherAreExact =
    (set : TaskSet) (h : History) (offers : List Offer)
    → is_sound set ≡ true → IsFeasible set (cycle_of set) → IsLegal set (cycle_of set) h
    → MayBeOffered (cycle_of set) (last_row h) offers
    → (AllAccepted set (cycle_of set) h offers
    ↔ CanBeServed
    set
    (cycle_of set)
    (scene_of set (cycle_of set) h)
    (row_after (last_row h) offers + 1)
    (map (job_of (time_of h)) offers))

-- so their order plays no part: offers that ask for the same, in whatever rows, are accepted all the
-- way or not alike
abbrev pub TheOrderOfOffersIsFree : Type 0
TheOrderOfOffersIsFree =
    (set : TaskSet) (h : History) (offers others : List Offer)
    → is_sound set ≡ true → IsFeasible set (cycle_of set) → IsLegal set (cycle_of set) h
    → MayBeOffered (cycle_of set) (last_row h) offers
    → MayBeOffered (cycle_of set) (last_row h) others
    → IsPermutation (map demand_of offers) (map demand_of others)
    → (AllAccepted set (cycle_of set) h offers ↔ AllAccepted set (cycle_of set) h others)

-- so before the first slot they are exactly where a change with their jobs can be served
abbrev pub FirstOffersAreExact : Type 0
FirstOffersAreExact =
    (set : TaskSet) (offers : List Offer)
    → is_sound set ≡ true → IsFeasible set (cycle_of set)
    → MayBeOffered (cycle_of set) 0 offers
    → (AllAccepted set (cycle_of set) started offers ↔ CanStartWith set offers)

-- where a change can be served, one at any time that carries no more work by any time can be
abbrev pub LessWorkCanChange : Type 0
LessWorkCanChange =
    (set : TaskSet) (c d row other : ℕ) (carried less : List Job)
    → is_sound set ≡ true → IsFeasible set (cycle_of set)
    → AreCarried c row carried → AreCarried d other less
    → ((x : ℕ) → work_by (map (since d) less) x ≤ work_by (map (since c) carried) x)
    → CanChange set c carried (row + 1)
    → CanChange set d less (other + 1)

-- where the offers of an executive can be served, so can a switch that carries its firm and
-- sporadic jobs alone, with deadlines that are not cut
abbrev pub CarryingMoreIsHarder : Type 0
CarryingMoreIsHarder =
    (exec : Executive) (set : TaskSet) (keep : Keep) (first : ℕ) (carried : List Job)
    → IsKept exec → is_sound set ≡ true → IsFeasible set (cycle_of set)
    → MayBeOffered (cycle_of set) 0 (offers_from keep exec (cycle_of set) first)
    → HaveSameItems carried (carried_of exec.scene.jobs)
    → CanStartWith set (offers_from keep exec (cycle_of set) first)
    → CanChange set exec.scene.time carried (exec.last_row + 1)

-- the verdict is the same where no offline job goes on and each deadline lies within the second
-- set's cycle
abbrev pub AgreesWithTheSwitch : Type 0
AgreesWithTheSwitch =
    (exec : Executive) (set : TaskSet) (keep : Keep) (first : ℕ) (carried : List Job)
    → IsKept exec → is_sound set ≡ true → IsFeasible set (cycle_of set)
    → MayBeOffered (cycle_of set) 0 (offers_from keep exec (cycle_of set) first)
    → HaveSameItems carried (carried_of exec.scene.jobs)
    → ((job : Job) → Contains carried job → job.dl ≤ exec.scene.time + cycle_of set)
    → NoOfflineJobGoesOn keep exec
    → (CanStartWith set (offers_from keep exec (cycle_of set) first)
    ↔ CanChange set exec.scene.time carried (exec.last_row + 1))

-- none goes on where all are dropped, nor where a cycle ends, whichever are kept
abbrev pub NoOfflineJobGoesOnWhereACycleEnds : Type 0
NoOfflineJobGoesOnWhereACycleEnds =
    (exec : Executive) (h : History) (keep : Keep)
    → IsKept exec → StandsFor exec h
    → (keep ≡ Drop) ⊎ (exec.scene.time % exec.plan.cycle ≡ 0)
    → NoOfflineJobGoesOn keep exec

-- the instance of an offline job that has run a slot was released before: so with `Graphs` all goes
-- on that goes on with `Started`
abbrev pub StartedJobsAreReleased : Type 0
StartedJobsAreReleased =
    (exec : Executive) (h : History) (job : Job)
    → IsKept exec → StandsFor exec h → Contains exec.scene.jobs job
    → job.left < job.declared
    → raw_release exec.plan.tasks job < exec.scene.time

-- the offers of every executive may be made, in rows from above its last one on
abbrev pub CarriedJobsMayBeOffered : Type 0
CarriedJobsMayBeOffered =
    (exec : Executive) (h : History) (keep : Keep) (cycle first : ℕ)
    → IsKept exec → StandsFor exec h → (keep ≢ Drop → exec.last_row < first) → 1 ≤ cycle
    → MayBeOffered cycle 0 (offers_from keep exec cycle first)

-- no more jobs are carried over than a cycle has slots
abbrev pub FewJobsAreCarried : Type 0
FewJobsAreCarried =
    (exec : Executive) (h : History) (keep : Keep)
    → IsKept exec → StandsFor exec h
    → length (carried_from keep exec) ≤ exec.plan.cycle

-- in their order are the jobs themselves, each before those that it goes before
abbrev pub TheRowOrderRises : Type 0
TheRowOrderRises =
    (jobs : List Job) → AreApart jobs
    → IsPermutation jobs (in_row_order jobs)
    × ((m n : ℕ) (a b : Job)
    → m < n → slice_get (in_row_order jobs) m ≡ Some a
    → slice_get (in_row_order jobs) n ≡ Some b
    → goes_first a b ≡ true)

-- however its jobs are listed, an executive carries over one list: that of each history for which
-- it stands
abbrev pub OneListIsCarried : Type 0
OneListIsCarried =
    (exec : Executive) (h : History) (keep : Keep)
    → IsKept exec → StandsFor exec h
    → carried_from keep exec
    ≡ carried_jobs
    keep
    exec.plan.tasks
    exec.scene.time
    (remaining exec.plan.tasks exec.plan.cycle h)

-- in every legal history after a change each carried job runs at most the slots that it had left,
-- and has ended by its deadline
abbrev pub CarriedJobsAreServed : Type 0
CarriedJobsAreServed =
    (set : TaskSet) (offers : List Offer) (offer : Offer) (later : History)
    → is_sound set ≡ true → IsFeasible set (cycle_of set)
    → Contains offers offer
    → let h = later ++ accepted_after started offers in
    IsLegal set (cycle_of set) h
    → (executed (Firm offer.row) h ≤ offer.slots)
    × (offer.within ≤ time_of h → has_ended h (job_of 0 offer) ≡ true)

-- where a carried job runs, each carried job that goes before it has ended
abbrev pub CarriedJobsKeepTheirOrder : Type 0
CarriedJobsKeepTheirOrder =
    (set : TaskSet) (offers : List Offer) (a b : Offer) (later : History)
    → is_sound set ≡ true → IsFeasible set (cycle_of set)
    → Contains offers a → Contains offers b
    → is_earlier (job_of 0 a) (job_of 0 b) ≡ true
    → let h = later ++ accepted_after started offers in
    IsLegal set (cycle_of set) h
    → told_of set (cycle_of set) h slot ≡ Run (Firm b.row)
    → has_ended h (job_of 0 a) ≡ true

-- where soft jobs go on among the offers, an offer is answered as among the offers alone
abbrev pub SoftWorkPlaysNoPart : Type 0
SoftWorkPlaysNoPart =
    (set : TaskSet) (cycle : ℕ) (going : List Going) (offer : Offer)
    → firm_answer
    set.sporadics
    cycle
    (scene_of set cycle (moved_after started going))
    offer.slots
    offer.within
    ≡ firm_answer
    set.sporadics
    cycle
    (scene_of set cycle (accepted_after started (offers_in going)))
    offer.slots
    offer.within

-- and the soft jobs wait in their order, each in its own row with the slots that it had left
abbrev pub SoftWorkWaitsAsItCame : Type 0
SoftWorkWaitsAsItCame =
    (going : List Going)
    → ((job : SoftJob) → Contains (softs_in going) job → 1 ≤ job.left)
    → waiting_soft (moved_after started going) ≡ map begun_anew (softs_in going)

-- in every legal history after such a change each carried job is served too
abbrev pub CarriedJobsAreServedWithSoft : Type 0
CarriedJobsAreServedWithSoft =
    (set : TaskSet) (going : List Going) (offer : Offer) (later : History)
    → is_sound set ≡ true → IsFeasible set (cycle_of set)
    → Contains (offers_in going) offer
    → let h = later ++ moved_after started going in
    IsLegal set (cycle_of set) h
    → (executed (Firm offer.row) h ≤ offer.slots)
    × (offer.within ≤ time_of h → has_ended h (job_of 0 offer) ≡ true)

-- and where one runs, each other one that goes before it has ended
abbrev pub CarriedJobsKeepTheirOrderWithSoft : Type 0
CarriedJobsKeepTheirOrderWithSoft =
    (set : TaskSet) (going : List Going) (a b : Offer) (later : History)
    → is_sound set ≡ true → IsFeasible set (cycle_of set)
    → Contains (offers_in going) a → Contains (offers_in going) b
    → is_earlier (job_of 0 a) (job_of 0 b) ≡ true
    → let h = later ++ moved_after started going in
    IsLegal set (cycle_of set) h
    → told_of set (cycle_of set) h slot ≡ Run (Firm b.row)
    → has_ended h (job_of 0 a) ≡ true

-- of two offline jobs that are carried over a predecessor goes first: it has the lower row and no
-- later deadline, also where deadlines are cut, and where its successor runs it has ended
abbrev pub PredecessorsGoFirst : Type 0
PredecessorsGoFirst =
    (exec : Executive) (set : TaskSet) (keep : Keep) (first m n : ℕ) (before after : Job)
    (a b : Offer) (later : History)
    → IsKept exec → is_sound set ≡ true → IsFeasible set (cycle_of set)
    → let jobs = carried_from keep exec in
    let offers = offers_from keep exec (cycle_of set) first in
    slice_get jobs m ≡ Some before → slice_get jobs n ≡ Some after
    → precedes exec.plan.tasks before.key after.key ≡ true
    → slice_get offers m ≡ Some a → slice_get offers n ≡ Some b
    → (a.row < b.row)
    × (a.within ≤ b.within)
    × (let h = later ++ accepted_after started offers in
    IsLegal set (cycle_of set) h
    → told_of set (cycle_of set) h slot ≡ Run (Firm b.row)
    → has_ended h (job_of 0 a) ≡ true)
