-- The jobs that an executive carries over: each may be offered, and their rows rise.
use Rattle.std.proofs.Common.{◌≡◌, ℕ, ◌+◌, ◌-◌, ◌*◌, ◌/◌, ◌<◌, ◌≤◌, min, Bool, true, false, cond, List, [], ◌∷◌, length, refl, sym, ap, ◌∙◌, subst, inl, inr, arith}
use Rattle.std.specs.Prelude.{◌||◌, not, filter, nat_le, sum_by}
use Rattle.std.specs.Cmp.Lexicographic.{slice_cmp}
use Rattle.std.specs.Ordering.{is_lt, nat_cmp}
use Rattle.std.proofs.lemmas.Bool.{cases_Bool, cases_eq, cond-true, false≢true}
use Rattle.std.proofs.lemmas.Bool.Decides.{nat_tests}
use Rattle.std.proofs.lemmas.List.Sorted.{IsPermutation-sym, length_permutation}
use Rattle.std.proofs.lemmas.List.Sums.{sum_by-cons}
use Rattle.std.proofs.lemmas.Nat.{div-add-mod', mod_below}
use Rattle.slot_core.specs.declared.TheConstants.{OFFER_LIMIT}
use Rattle.slot_core.specs.declared.jobs.Job.{Job}
use Rattle.slot_core.specs.Offline.Keys.{is_offline, key_order, row_of}
use Rattle.slot_core.specs.Sets.Cycles.{cycle_of}
use Rattle.slot_core.specs.Keeping.Kept.{ArePlanned}
use Rattle.slot_core.specs.Keeping.Executives.{Executive, IsKept, StandsFor}
use Rattle.slot_core.specs.Runs.Histories.{History, time_of}
use Rattle.slot_core.specs.Runs.Matches.{MatchesHistory}
use Rattle.slot_core.specs.Runs.Scenes.{guaranteed, remaining}
use Rattle.slot_facts.proofs.Histories.Unended.{unended_own}
use Rattle.slot_facts.proofs.Legal.Data.{legal-as_data}
use Rattle.slot_facts.proofs.Legal.Jobs.{guaranteed-cases, offline-key}
use Rattle.slot_facts.proofs.Lists.Apart.{IsApart-filter}
use Rattle.slot_facts.proofs.Lists.ApartKeys.{IsApart-from_count}
use Rattle.slot_facts.proofs.Lists.MemberSums.{term-le_sum_by}
use Rattle.slot_facts.proofs.Lists.Members.{AllByRecursion-at_Has, Contains-from_Has, Has, Has-filter_passes}
use Rattle.slot_facts.proofs.Lists.Permuted.{Has-permuted}
use Rattle.slot_facts.proofs.Lists.SameItems.{counted, jobs-same_items, same-from_permutation}
use Rattle.slot_facts.proofs.Lists.Sums.{cond-le, sum_by-filter}
use Rattle.slot_facts.proofs.Offline.DistinctKeys.{IsApart}
use Rattle.slot_facts.proofs.Plans.Items.{plan_cycle-bounds}
use Rattle.slot_facts.proofs.Scheduling.Beside.{planned_due}
use Rattle.slot_facts.proofs.Scheduling.Raw.{IsInRaw-from_planned}
use Rattle.plan_change.specs.declared.keep.Keep.{Keep}
use Rattle.plan_change.specs.declared.keep.Keep.TheVariants.{Drop, Graphs, Started}
use Rattle.plan_change.specs.declared.offers.Offer.{Offer}
use Rattle.plan_change.specs.Carrying.{carried_from, goes_first, goes_on, in_row_order, offer_of, offers_from, offers_of}
use Rattle.plan_change.specs.Laws.{CarriedJobsMayBeOffered}
use Rattle.plan_change.specs.Offers.{MayBeOffered}
use Rattle.plan_change.proofs.OwnRows.{is_own, own_count, own_rows}
use Rattle.plan_change.proofs.RowOrder.{AreInRowOrder, AreInRowOrder-in_order, IsPermutation-in_row_order}

-- an offline job does not go before a firm or sporadic one
later_kind : (off other : Bool) (xs ys : List ℕ) → off ≡ true → other ≡ false → is_lt (slice_cmp nat_cmp ((cond off 1 0) ∷ xs) ((cond other 1 0) ∷ ys)) ≡ true → ⊥
later_kind off other xs ys a b first = grind (arith, nat_tests)

pub not_before_own : (a b : Job) → is_offline a.key ≡ true → is_offline b.key ≡ false → goes_first a b ≡ true → ⊥
not_before_own a b offline other first = later_kind
    (is_offline a.key)
    (is_offline b.key)
    (cond (is_offline a.key) a.dl (row_of a.key) ∷ key_order a.key)
    (cond (is_offline b.key) b.dl (row_of b.key) ∷ key_order b.key)
    offline
    other
    first

-- of two of these the first has no higher row
first_row : (off other : Bool) (dl row dl' row' : ℕ) (xs ys : List ℕ) → off ≡ false → other ≡ false → is_lt (slice_cmp nat_cmp ((cond off 1 0) ∷ (cond off dl row) ∷ xs) ((cond other 1 0) ∷ (cond other dl' row') ∷ ys)) ≡ true → row ≤ row'
first_row off other dl row dl' row' xs ys a b first = grind (arith, nat_tests)

pub own_row-le : (a b : Job) → is_offline a.key ≡ false → is_offline b.key ≡ false → goes_first a b ≡ true → row_of a.key ≤ row_of b.key
own_row-le a b own other first =
    first_row (is_offline a.key) (is_offline b.key) a.dl (row_of a.key) b.dl (row_of b.key) (key_order a.key) (key_order b.key) own other first

own-is : (row : ℕ) (job : Job) → is_offline job.key ≡ false → row_of job.key ≡ row → is_own row job ≡ true
own-is row job own here = grind (arith, nat_tests)

own_count-cons : (row : ℕ) (job : Job) (jobs : List Job) → own_count row (job ∷ jobs) ≡ cond (is_own row job) 1 0 + own_count row jobs
own_count-cons row job jobs = sum_by-cons (λ (j : Job). cond (is_own row j) 1 0) job jobs

-- so where no two have one row it has a lower one
own_row-lt : (a b : Job) (jobs : List Job) → is_offline a.key ≡ false → is_offline b.key ≡ false → goes_first a b ≡ true → Has jobs b → own_count (row_of a.key) (a ∷ jobs) ≤ 1 → row_of a.key < row_of b.key
own_row-lt a b jobs own other first at few =
    let row = row_of a.key in
    elim (cases_eq row (row_of b.key)) [
      | inl same ↦
          let one = cond-true {A = ℕ} (is_own row a) 1 0 (own-is row a own refl) in
          let more = counted (is_own row) jobs b at (own-is row b other (sym same)) in
          absurd (omega (arith, own_count-cons row a jobs, one, more, few))
      | inr differs ↦ omega (arith, own_row-le a b own other first, differs)
    ]

-- a job that may be carried over at time c
pub record MayGoOn (c : ℕ) (job : Job) : Type 0 where
  pub some : 1 ≤ job.left
  pub few : job.left ≤ OFFER_LIMIT
  pub later : c < job.dl

within-some : (dl c cycle : ℕ) → c < dl → 1 ≤ cycle → 1 ≤ min (dl - c) cycle
within-some dl c cycle later positive = omega arith

within-near : (dl c cycle : ℕ) → min (dl - c) cycle ≤ cycle
within-near dl c cycle = omega arith

-- jobs in their order may be offered, where no two have one row
pub offers-may : (c cycle row next : ℕ) (jobs : List Job) → AreInRowOrder jobs → ((r : ℕ) → own_count r jobs ≤ 1) → ((job : Job) → Has jobs job → MayGoOn c job) → ((job : Job) → Has jobs job → is_offline job.key ≡ false → (row < row_of job.key) × (row_of job.key < next)) → 1 ≤ cycle → row < next → MayBeOffered cycle row (offers_of c cycle next jobs)
offers-may c cycle row next [] sorted apart each own positive low = tt
offers-may c cycle row next (job ∷ jobs) sorted apart each own positive low =
    let may = each job (inl refl) in
    let fewer : (r : ℕ) → own_count r jobs ≤ 1 = λ r. omega (arith, own_count-cons r job jobs, apart r) in
    let rest = λ (j : Job) (at : Has jobs j). each j (inr at) in
    let after = λ (j : Job) (at : Has jobs j). AllByRecursion-at_Has (λ other. goes_first job other ≡ true) jobs j sorted.0 at in
    elim (cases_Bool (is_offline job.key)) [
      | inl offline ↦
          let none : (j : Job) → Has jobs j → is_offline j.key ≡ false → (next < row_of j.key) × (row_of j.key < next + 1) = λ j at other. absurd (not_before_own job j offline other (after j at)) in
          rw offline (
            record {
              above = low;
              some = may.some;
              few = may.few;
              later = within-some job.dl c cycle may.later positive;
              near = within-near job.dl c cycle;
            },
            offers-may c cycle next (next + 1) jobs sorted.1 fewer rest none positive (omega arith),
          )
      | inr hard ↦
          let here = own job (inl refl) hard in
          let higher : (j : Job) → Has jobs j → is_offline j.key ≡ false → (row_of job.key < row_of j.key) × (row_of j.key < next) = λ j at other.
          (own_row-lt job j jobs hard other (after j at) at (apart (row_of job.key)), (own j (inr at) other).1) in
          rw hard (
            record {
              above = here.0;
              some = may.some;
              few = may.few;
              later = within-some job.dl c cycle may.later positive;
              near = within-near job.dl c cycle;
            },
            offers-may c cycle (row_of job.key) next jobs sorted.1 fewer rest higher positive here.1,
          )
    ]

-- where no job is an offline one, each has its own row, whatever the next one that is free
offers-own : (c cycle next other : ℕ) (jobs : List Job) → ((job : Job) → Has jobs job → is_offline job.key ≡ false) → offers_of c cycle next jobs ≡ offers_of c cycle other jobs
offers-own c cycle next other [] none = refl
offers-own c cycle next other (job ∷ jobs) none =
    let rest = offers-own c cycle next other jobs (λ j at. none j (inr at)) in
    rw (none job (inl refl)) (ap (λ (offers : List Offer). offer_of c cycle (row_of job.key) job ∷ offers) rest)

-- an offline job does not go on where none is kept
pub none-kept : (off : Bool) → off ≡ true → (not off || false) ≡ true → ⊥
none-kept true is goes = absurd (cc goes)
none-kept false is goes = absurd (cc is)

-- a time within three cycles of the start of its own lies at most that far ahead
near_ahead : (t cycle dl : ℕ) → dl ≤ (t / cycle + 3) * cycle → dl ≤ t + 3 * cycle
near_ahead t cycle dl low = omega (arith, div-add-mod' t cycle)

pub ahead-in_reach : (t cycle : ℕ) → 1 ≤ cycle → t + cycle ≤ (t / cycle + 3) * cycle
ahead-in_reach t cycle some = omega (arith, div-add-mod' t cycle, mod_below t cycle some)

-- a sum over those that pass is at most the sum over all
passing-le : (f : Job → ℕ) (test : Job → Bool) (jobs : List Job) → sum_by (λ (j : Job). cond (test j) (f j) 0) jobs ≤ sum_by f jobs
passing-le f test [] = omega arith
passing-le f test (job ∷ jobs) =
    omega (arith, sum_by-cons (λ (j : Job). cond (test j) (f j) 0) job jobs, sum_by-cons f job jobs, cond-le (test job) (f job), passing-le f test jobs)

counts-due : (dl slots : ℕ) → cond (nat_le dl dl) slots 0 ≡ slots
counts-due dl slots = grind (arith, nat_tests)

module _ (exec : Executive) (kept : IsKept exec) where
  positive : 1 ≤ exec.plan.cycle
  positive = (plan_cycle-bounds exec.plan kept.plan).0

  -- each remaining job is due by the horizon
  in_reach : (job : Job) → Has exec.scene.jobs job → job.dl ≤ (exec.scene.time / exec.plan.cycle + 3) * exec.plan.cycle
  in_reach job at =
      let set = exec.plan.tasks in
      let cycles = exec.scene.time / exec.plan.cycle + 3 in
      let inside = Contains-from_Has exec.scene.jobs job at in
      elim (cases_Bool (is_offline job.key)) [
        | inl offline ↦
            let planned = subst (λ n. ArePlanned set n cycles exec.scene.jobs) kept.plan.cycle kept.bounds.planned in
            let due = planned_due set cycles exec.scene.jobs job kept.plan.sound planned inside offline in
            let raw = IsInRaw-from_planned set cycles exec.scene.jobs job kept.plan.sound planned inside in
            let same : cycles * cycle_of set ≡ cycles * exec.plan.cycle = ap (λ n. cycles * n) (sym kept.plan.cycle) in
            omega (arith, due, raw.ends, same)
        | inr other ↦ omega (arith, (kept.bounds.come job inside other).2, ahead-in_reach exec.scene.time exec.plan.cycle positive)
      ]

  -- each may be carried over
  pub MayGoOn-kept : (job : Job) → Has exec.scene.jobs job → MayGoOn exec.scene.time job
  MayGoOn-kept job at =
      let scene = exec.scene in
      let own = kept.bounds.left job (Contains-from_Has scene.jobs job at) in
      let due = λ (j : Job). cond (nat_le j.dl job.dl) j.left 0 in
      let fits = kept.bounds.fits job.dl (omega (arith, own.0)) (in_reach job at) in
      let near = near_ahead scene.time exec.plan.cycle job.dl (in_reach job at) in
      record {
        some = own.1;
        few = omega (arith, term-le_sum_by due scene.jobs job at, counts-due job.dl job.left, fits, near, plan_cycle-bounds exec.plan kept.plan);
        later = own.0;
      }

  -- their keys are apart
  pub going-apart : (keep : Keep) → IsApart (λ (j : Job). j.key) (filter (goes_on keep exec.plan.tasks exec.scene.time) exec.scene.jobs)
  going-apart keep =
      IsApart-filter (λ (j : Job). j.key) (goes_on keep exec.plan.tasks exec.scene.time) exec.scene.jobs (IsApart-from_count exec.scene.jobs kept.bounds.apart)

  -- each carried job is one of them, and goes on
  pub carried-one : (keep : Keep) (job : Job) → Has (carried_from keep exec) job → Has exec.scene.jobs job × (goes_on keep exec.plan.tasks exec.scene.time job ≡ true)
  carried-one keep job at =
      let test = goes_on keep exec.plan.tasks exec.scene.time in
      let going = filter test exec.scene.jobs in
      let permuted = IsPermutation-sym going (in_row_order going) (IsPermutation-in_row_order going) in
      Has-filter_passes test exec.scene.jobs job (Has-permuted (in_row_order going) going job permuted at)

  -- with Drop none of them is an offline one
  pub none-dropped : (job : Job) → Has (carried_from Drop exec) job → is_offline job.key ≡ false
  none-dropped job at =
      elim (cases_Bool (is_offline job.key)) [
        | inl offline ↦ absurd (none-kept (is_offline job.key) offline (carried-one Drop job at).1)
        | inr other ↦ other
      ]

  pub carried-sorted : (keep : Keep) → AreInRowOrder (carried_from keep exec)
  carried-sorted keep =
      AreInRowOrder-in_order (filter (goes_on keep exec.plan.tasks exec.scene.time) exec.scene.jobs) (going-apart keep)

  module _ (h : History) (stands : StandsFor exec h) where
    -- no two have one row
    rows-apart : (row : ℕ) → own_count row exec.scene.jobs ≤ 1
    rows-apart row =
        let set = exec.plan.tasks in
        subst
        (λ n. MatchesHistory set n exec.scene exec.last_row h → own_count row exec.scene.jobs ≤ 1)
        (sym kept.plan.cycle)
        (λ m. omega (arith, m.same.jobs (λ (j : Job). cond (is_own row j) 1 0), own_rows set row h kept.plan.sound (legal-as_data set (cycle_of set) h m.legal)))
        stands

    -- nor do two of those that go on
    carried-apart : (keep : Keep) (row : ℕ) → own_count row (carried_from keep exec) ≤ 1
    carried-apart keep row =
        let test = goes_on keep exec.plan.tasks exec.scene.time in
        let going = filter test exec.scene.jobs in
        let one : Job → ℕ = λ j. cond (is_own row j) 1 0 in
        omega (
          arith,
          same-from_permutation going (in_row_order going) (IsPermutation-in_row_order going) one,
          sum_by-filter one test exec.scene.jobs,
          passing-le one test exec.scene.jobs,
          rows-apart row,
        )

    -- each has a row, up to the last one
    row-some : (job : Job) → Has exec.scene.jobs job → is_offline job.key ≡ false → (0 < row_of job.key) × (row_of job.key ≤ exec.last_row)
    row-some job at other =
        let set = exec.plan.tasks in
        let Rowed : ℕ → Type 0 = λ n. MatchesHistory set n exec.scene exec.last_row h → (0 < row_of job.key) × (row_of job.key ≤ exec.last_row) in
        subst Rowed (sym kept.plan.cycle) (λ m.
        let told = legal-as_data set (cycle_of set) h m.legal in
        let listed = Has-permuted exec.scene.jobs (remaining set (cycle_of set) h) job ((jobs-same_items exec.scene.jobs (remaining set (cycle_of set) h)).0 m.same.jobs) at in
        let (own, is) = unended_own h (guaranteed set (cycle_of set) h) job listed in
        let key : job.key ≡ own.key = ap (λ (j : Job). j.key) is.same in
        elim (guaranteed-cases set (time_of h / cycle_of set + 3) h own kept.plan.sound told is.listed) [
          | inl planned ↦ absurd (false≢true (sym other ∙ ap is_offline key ∙ offline-key set (cycle_of set) (time_of h / cycle_of set + 3) own planned))
          | inr come ↦ (omega (arith, come.row_some, ap row_of key), omega (arith, come.row_at_most, ap row_of key, m.last))
        ]) stands

    -- so they may be offered
    carried-above : (keep : Keep) (cycle first : ℕ) → exec.last_row < first → 1 ≤ cycle → MayBeOffered cycle 0 (offers_from keep exec cycle first)
    carried-above keep cycle first above some =
        offers-may exec.scene.time cycle 0 first (carried_from keep exec) (carried-sorted keep) (carried-apart keep)
        (λ job at. MayGoOn-kept job (carried-one keep job at).0)
        (λ job at other.
        let rows = row-some job (carried-one keep job at).0 other in
        (rows.0, omega (arith, rows.1, above)))
        some (omega (arith, above))

    -- and where no offline job goes on, whatever row is told for those
    pub carried-may : (keep : Keep) (cycle first : ℕ) → ((keep ≡ Drop → ⊥) → exec.last_row < first) → 1 ≤ cycle → MayBeOffered cycle 0 (offers_from keep exec cycle first)
    carried-may Drop cycle first above some =
        subst (MayBeOffered cycle 0) (offers-own exec.scene.time cycle (exec.last_row + 1) first (carried_from Drop exec) none-dropped) (carried-above Drop cycle (exec.last_row + 1) (omega arith) some)
    carried-may Started cycle first above some = carried-above Started cycle first (above (λ e. absurd (cc e))) some
    carried-may Graphs cycle first above some = carried-above Graphs cycle first (above (λ e. absurd (cc e))) some

-- as many are carried over as go on
pub carried-length : (keep : Keep) (exec : Executive) → length (carried_from keep exec) ≡ length (filter (goes_on keep exec.plan.tasks exec.scene.time) exec.scene.jobs)
carried-length keep exec =
    let going = filter (goes_on keep exec.plan.tasks exec.scene.time) exec.scene.jobs in
    omega (arith, length_permutation going (in_row_order going) (IsPermutation-in_row_order going))

-- its offers, by a time, a cycle and a list that are these
pub offers-same : (keep : Keep) (exec : Executive) (cycle first t n : ℕ) (jobs : List Job) → t ≡ exec.scene.time → n ≡ cycle → jobs ≡ carried_from keep exec → offers_of t n first jobs ≡ offers_from keep exec cycle first
offers-same keep exec cycle first t n jobs now whole same =
    ap (offers_of t n first) same
    ∙ ap (λ (u : ℕ). offers_of u n first (carried_from keep exec)) now
    ∙ ap (λ (m : ℕ). offers_from keep exec m first) whole

pub carried_jobs_may_be_offered : CarriedJobsMayBeOffered
carried_jobs_may_be_offered exec h keep cycle first kept stands above some =
    carried-may exec kept h stands keep cycle first above some
