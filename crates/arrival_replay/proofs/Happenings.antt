-- What happens next in a replay: the arrival that is due is answered, and else a slot passes.
use Rattle.std.proofs.Common.{◌≡◌, ℕ, zero, suc, ◌+◌, ◌-◌, ◌<◌, ◌≤◌, Bool, true, false, cond, ◌||◌, List, [], ◌∷◌, length, drop, Option, Some, None, refl, sym, ap, ◌∙◌, subst, inl, inr, arith}
use Rattle.std.specs.Prelude.{◌==◌, is_none, is_some, nat_le, nat_lt, slice_get, IfSome}
use Rattle.std.proofs.Math.Seq.{drop-cons}
use Rattle.std.proofs.Math.ListN.{drop_of_length-le}
use Rattle.std.proofs.lemmas.Bool.{and_parts, cases_lt, eqb-true, eq-eqb, ltb-true}
use Rattle.std.proofs.lemmas.Option.{slice_get_within, get_or_from_slice_get}
use Rattle.slot_core.specs.declared.TheConstants.{ARRIVAL_LIMIT}
use Rattle.slot_core.specs.declared.tasks.TaskSet.{TaskSet}
use Rattle.slot_core.specs.declared.events.Arrival.{Arrival}
use Rattle.slot_core.specs.declared.events.Entry.{Entry}
use Rattle.slot_core.specs.declared.events.What.{What}
use Rattle.slot_core.specs.Runs.Arrivals.{are_fitting, arrivals_follow, event_may_come, event_names_known, what_in_set}
use Rattle.slot_core.specs.Runs.Choice.{choice}
use Rattle.slot_core.specs.Sets.Cycles.{cycle_of}
use Rattle.slot_core.specs.Keeping.Executives.{Executive, Does, StandsFor}
use Rattle.slot_core.specs.Runs.Histories.{History, last_row, time_of}
use Rattle.slot_core.specs.Keeping.Plans.{PlanParts, IsPlan}
use Rattle.slot_core.specs.Output.Texts.{entry_line}
use Rattle.slot_core.specs.Runs.Scenes.{scene_of}
use Rattle.slot_core.specs.Runs.Traces.{Occurrence, arrive, slot, told_of, history_of, shown_entry, IsLegal}
use Rattle.slot_facts.proofs.Legal.Traces.{BeginsWith-from, last_row-arrival, last_row-ran}
use Rattle.slot_facts.proofs.Sets.Tasks.{slice_get-within}
use Rattle.slot_facts.proofs.Replays.Entries.{AreLeft, entries_left, time_of-arrival, time_of-ran, entries_left-arrival, entries_left-slot, AreLeft-arrival, AreLeft-slot}
use Rattle.slot_facts.proofs.Replays.Following.{NoneIsDue}
use Rattle.slot_facts.proofs.Replays.Named.{IsNamed, told-named}
use Rattle.arrival_replay.specs.Replays.{due_at, due_arrival, is_on_the_way, next_occurrence}
use Rattle.arrival_replay.proofs.UnderWay.{IsUnderWay, IsToTell, TookStood, IsToTell-next}

-- the place of the next arrival after what is due
abbrev pub place_after : Option Arrival → ℕ → ℕ
place_after None place = place
place_after (Some arrival) place = place + 1

-- and the time after it
abbrev pub time_after : Option Arrival → ℕ → ℕ
time_after None time = time + 1
time_after (Some arrival) time = time

-- the arrival at this place is due at this time, and the first of those from there on
pub record IsDueAt (arrivals : List Arrival) (place time : ℕ) (a : Arrival) : Type 0 where
  pub at : slice_get arrivals place ≡ Some a
  pub on_time : a.slot ≡ time
  pub within : place < length arrivals
  pub first : drop place arrivals ≡ a ∷ drop (place + 1) arrivals

-- an arrival that is due is the one that is there, and comes at this time
due_at-some : (time : ℕ) (o : Option Arrival) (a : Arrival) → due_at time o ≡ Some a → (o ≡ Some a) × (a.slot ≡ time)
due_at-some time None a due = cc
due_at-some time (Some b) a due = by_test (b.slot == time) refl due
  where
    by_test : (test : Bool) → (b.slot == time) ≡ test → cond test (Some b) None ≡ Some a → (Some b ≡ Some a) × (a.slot ≡ time)
    by_test true on due =
        let same : b ≡ a = cc in
        (due, ap (λ (a : Arrival). a.slot) (sym same) ∙ eqb-true b.slot time on)
    by_test false on due = cc

-- where the one that is there is not due, it comes at another time
due_at-none : (time : ℕ) (a : Arrival) → due_at time (Some a) ≡ None → a.slot ≡ time → ⊥
due_at-none time a none same =
    let found : Some a ≡ None = ap (λ test. cond test (Some a) None) (sym (eq-eqb a.slot time same)) ∙ none in
    cc

-- the arrival at a place is the first of those from there on
pub first-at : (arrivals : List Arrival) (place : ℕ) (a : Arrival) → slice_get arrivals place ≡ Some a → drop place arrivals ≡ a ∷ drop (place + 1) arrivals
first-at arrivals place a at =
    let within = slice_get_within arrivals place a at in
    let next : suc place ≡ place + 1 = omega arith in
    drop-cons arrivals place a within ∙ (ap (λ x. x ∷ drop (suc place) arrivals) (get_or_from_slice_get arrivals place a a at) ∙ ap (λ k. a ∷ drop k arrivals) next)

-- an arrival that is due at a place is so
pub IsDueAt-from : (arrivals : List Arrival) (place time : ℕ) (a : Arrival) → due_arrival arrivals place time ≡ Some a → IsDueAt arrivals place time a
IsDueAt-from arrivals place time a due =
    let found = due_at-some time (slice_get arrivals place) a due in
    record {
      at = found.0;
      on_time = found.1;
      within = slice_get_within arrivals place a found.0;
      first = first-at arrivals place a found.0;
    }

-- where none is due at its place, none of those that are left is due
NoneIsDue-from : (arrivals : List Arrival) (place time : ℕ) → due_arrival arrivals place time ≡ None → NoneIsDue time (drop place arrivals)
NoneIsDue-from arrivals place time none =
    elim (cases_lt place (length arrivals)) [
      | inl within ↦
          let found = slice_get-within arrivals place within in
          let a = found.0 in
          let here : due_at time (Some a) ≡ None = ap (due_at time) (sym found.1) ∙ none in
          let other : a.slot ≡ time → ⊥ = due_at-none time a here in
          subst (NoneIsDue time) (sym (first-at arrivals place a found.1)) other
      | inr past ↦ subst (NoneIsDue time) (sym (drop_of_length-le arrivals past)) tt
    ]

-- one of two holds, and not the second
or_first : (b c : Bool) → b || c ≡ true → c ≡ false → b ≡ true
or_first true c one other = refl
or_first false true one other = absurd (cc other)
or_first false false one other = absurd (cc one)

-- what was told of a time, is so at the same time
pub on_the_way-told : (arrivals : List Arrival) (n place next time now : ℕ) (told answer : Bool) → answer ≡ is_on_the_way arrivals n place next time → answer ≡ told → time ≡ now → is_on_the_way arrivals n place next now ≡ told
on_the_way-told arrivals n place next time now told answer is test same =
    subst (λ t. is_on_the_way arrivals n place next t ≡ told) same (sym is ∙ test)

-- on the way slots are left
pub on_the_way-early : (arrivals : List Arrival) (n place next time : ℕ) → is_on_the_way arrivals n place next time ≡ true → time < n
on_the_way-early arrivals n place next time on =
    ltb-true time n (and_parts (nat_lt time n) (nat_lt next place || is_none (due_arrival arrivals next time)) on).0

-- on the way what is due comes before the place
pub place_after-within : (arrivals : List Arrival) (n place next time : ℕ) (due : Option Arrival) → due ≡ due_arrival arrivals next time → is_on_the_way arrivals n place next time ≡ true → next ≤ place → place_after due next ≤ place
place_after-within arrivals n place next time None is on within = within
place_after-within arrivals n place next time (Some a) is on within =
    let parts = and_parts (nat_lt time n) (nat_lt next place || is_none (due_arrival arrivals next time)) on in
    let before = or_first (nat_lt next place) (is_none (due_arrival arrivals next time)) parts.1 (ap is_none (sym is)) in
    omega (arith, ltb-true next place before)

-- where one is due it is the next place
pub place_after-some : (due : Option Arrival) (place : ℕ) → is_some due ≡ true → place_after due place ≡ place + 1
place_after-some None place is = cc
place_after-some (Some a) place is = refl

-- and else it stays
pub place_after-none : (due : Option Arrival) (place : ℕ) → is_some due ≡ false → place_after due place ≡ place
place_after-none None place is = refl
place_after-none (Some a) place is = cc

-- so fewer slots and arrivals are left after it
pub left-falls : (due : Option Arrival) (n place time count : ℕ) → place_after due place ≤ count → time < n → (n - time_after due time) + (count - place_after due place) < (n - time) + (count - place)
left-falls None n place time count within early = omega arith
left-falls (Some a) n place time count within early = omega arith

-- an arrival at a place of those that follow from a row on
record FollowsAt (set : TaskSet) (row place : ℕ) (a : Arrival) : Type 0 where
  row_is : a.row ≡ row + place
  may : event_may_come set a.event ≡ true
  named : event_names_known set a.event ≡ true

-- the arrivals that follow do so, each in its row
follow-at : (set : TaskSet) (n row from place : ℕ) (arrivals : List Arrival) (a : Arrival) → arrivals_follow set n row from arrivals ≡ true → slice_get arrivals place ≡ Some a → FollowsAt set row place a
follow-at set n row from place [] a follow at = absurd (cc at)
follow-at set n row from zero (b ∷ arrivals) a follow at =
    let f = BeginsWith-from set n row from b arrivals follow in
    let here : b ≡ a = cc at in
    subst (FollowsAt set row 0) here (record { row_is = omega (arith, f.row_is); may = f.may; named = f.named })
follow-at set n row from (suc place) (b ∷ arrivals) a follow at =
    let f = BeginsWith-from set n row from b arrivals follow in
    let later = follow-at set n (row + 1) b.slot place arrivals a f.rest at in
    record { row_is = omega (arith, later.row_is); may = later.may; named = later.named }

-- so the row of a fitting arrival counts those before it, and it may come
pub fitting-at : (set : TaskSet) (n place : ℕ) (arrivals : List Arrival) (a : Arrival) → are_fitting set n arrivals ≡ true → slice_get arrivals place ≡ Some a → (a.row ≡ place + 1) × (event_may_come set a.event ≡ true) × (event_names_known set a.event ≡ true)
fitting-at set n place arrivals a fits at =
    let both = and_parts (nat_le (length arrivals) ARRIVAL_LIMIT) (arrivals_follow set n 1 0 arrivals) fits in
    let f = follow-at set n 1 0 place arrivals a both.1 at in
    (omega (arith, f.row_is), f.may, f.named)

-- a replay that is under way at this time, with so many arrivals answered
module _ (Took : List Entry → Type 0) (plan : PlanParts) (before : Executive) (trace : List Entry) (n place time : ℕ) (arrivals : List Arrival) (u : IsUnderWay Took plan before trace n (drop place arrivals)) (now : time ≡ before.scene.time) (fits : are_fitting plan.tasks n arrivals ≡ true) (last : before.last_row ≡ place) where
  -- the history so far
  abbrev so_far : History
  so_far = history_of u.told

  -- its time is this one
  time-so_far : time ≡ time_of so_far
  time-so_far = now ∙ u.stands.same.time

  -- the arrivals that are left, where one of them is due
  left-due : (a : Arrival) → IsDueAt arrivals place time a → AreLeft plan.tasks n so_far (a ∷ drop (place + 1) arrivals)
  left-due a d = subst (AreLeft plan.tasks n so_far) d.first u.left

  -- the time after what happens
  pub time-happened : (after : Executive) (due : Option Arrival) (what : What) → Does before after (next_occurrence due) what → after.scene.time ≡ time_after due time
  time-happened after None what does =
      let p = before.plan in
      let told = ap (λ w. time_of (w ∷ so_far)) (does.told so_far u.stands) in
      let later = time_of-ran (choice p.tasks.sporadics p.cycle (scene_of p.tasks p.cycle so_far)) so_far in
      omega (arith, time-so_far, (does.stands so_far u.stands).same.time)
  time-happened after (Some a) what does =
      let told = ap (λ w. time_of (w ∷ so_far)) (does.told so_far u.stands) in
      let same = time_of-arrival before.plan.tasks before.plan.cycle so_far a.row a.event in
      omega (arith, time-so_far, (does.stands so_far u.stands).same.time)

  -- and the last row
  pub last-happened : (after : Executive) (due : Option Arrival) (what : What) → due ≡ due_arrival arrivals place time → Does before after (next_occurrence due) what → after.last_row ≡ place_after due place
  last-happened after None what is does =
      let p = before.plan in
      let told = ap (λ w. last_row (w ∷ so_far)) (does.told so_far u.stands) in
      let same = last_row-ran (choice p.tasks.sporadics p.cycle (scene_of p.tasks p.cycle so_far)) so_far in
      omega (arith, last, u.stands.last, (does.stands so_far u.stands).last, told, same)
  last-happened after (Some a) what is does =
      let d = IsDueAt-from arrivals place time a (sym is) in
      let told = ap (λ w. last_row (w ∷ so_far)) (does.told so_far u.stands) in
      let own = last_row-arrival before.plan.tasks before.plan.cycle so_far a.row a.event in
      omega (arith, (does.stands so_far u.stands).last, told, own, (fitting-at plan.tasks n place arrivals a fits d.at).0)

  -- one slot more has passed, or one arrival more was answered
  one_more : (after : Executive) (due : Option Arrival) (what : What) → due ≡ due_arrival arrivals place time → Does before after (next_occurrence due) what → after.scene.time + after.last_row ≡ 1 + before.scene.time + before.last_row
  one_more after None what is does =
      omega (arith, now, last, time-happened after None what does, last-happened after None what is does)
  one_more after (Some a) what is does =
      omega (arith, now, last, time-happened after (Some a) what does, last-happened after (Some a) what is does)

  -- what happens next is to be told
  pub IsToTell-happened : (after : Executive) (due : Option Arrival) (what : What) → due ≡ due_arrival arrivals place time → time < n → Does before after (next_occurrence due) what → IsToTell (TookStood Took before) plan after trace n (drop (place_after due place) arrivals) time what
  IsToTell-happened after None what is early does =
      let rest = drop place arrivals in
      let none = subst (λ t. NoneIsDue t rest) time-so_far (NoneIsDue-from arrivals place time (sym is)) in
      let later = time_of-ran (choice plan.tasks.sporadics plan.cycle (scene_of plan.tasks plan.cycle so_far)) so_far in
      let step = entries_left-slot plan.tasks plan.cycle n so_far rest none u.left (omega (arith, time-so_far)) in
      let left = AreLeft-slot plan.tasks plan.cycle n so_far rest none u.left in
      IsToTell-next Took plan before after trace n rest rest slot time what u now does step left (omega (arith, later, time-so_far)) (one_more after None what is does)
  IsToTell-happened after (Some a) what is early does =
      let rest = drop (place + 1) arrivals in
      let d = IsDueAt-from arrivals place time a (sym is) in
      let due = d.on_time ∙ time-so_far in
      let same = time_of-arrival plan.tasks plan.cycle so_far a.row a.event in
      let step = ap (entries_left plan.tasks plan.cycle n so_far) d.first ∙ entries_left-arrival plan.tasks plan.cycle n so_far a rest due (omega (arith, time-so_far)) in
      let left = AreLeft-arrival plan.tasks plan.cycle n so_far a rest due (left-due a d) in
      IsToTell-next Took plan before after trace n (drop place arrivals) rest (arrive a.row a.event) time what u now does step left (omega (arith, same, time-so_far)) (one_more after (Some a) what is does)

  -- an arrival that is due may come and names what is known
  due-named : (due : Option Arrival) → due ≡ due_arrival arrivals place time → IsNamed plan.tasks (next_occurrence due)
  due-named None is = tt
  due-named (Some a) is =
      let d = IsDueAt-from arrivals place time a (sym is) in
      let left = left-due a d in
      let f = BeginsWith-from plan.tasks n left.row (time_of so_far) a (drop (place + 1) arrivals) left.follow in
      (f.may, f.named)

  -- it may come by the executive's set
  pub due-may_come : (due : Option Arrival) → due ≡ due_arrival arrivals place time → IfSome due (λ a. event_may_come before.plan.tasks a.event ≡ true)
  due-may_come None is = tt
  due-may_come (Some a) is =
      subst (λ (p : PlanParts). event_may_come p.tasks a.event ≡ true) (sym u.plan_is) (due-named (Some a) is).0

  -- its row is above the last one
  pub due-later : (due : Option Arrival) → due ≡ due_arrival arrivals place time → IfSome due (λ a. before.last_row < a.row)
  due-later None is = tt
  due-later (Some a) is =
      let d = IsDueAt-from arrivals place time a (sym is) in
      let left = left-due a d in
      let f = BeginsWith-from plan.tasks n left.row (time_of so_far) a (drop (place + 1) arrivals) left.follow in
      omega (arith, left.above, f.row_is, u.stands.last)

  -- so what is told of what happens lies in the set
  pub happened-named : (after : Executive) (due : Option Arrival) (what : What) → IsPlan before.plan → due ≡ due_arrival arrivals place time → Does before after (next_occurrence due) what → what_in_set after.plan.tasks what ≡ true
  happened-named after due what is_plan is does =
      let p = before.plan in
      let named : IsNamed p.tasks (next_occurrence due) = subst (λ (p : PlanParts). IsNamed p.tasks (next_occurrence due)) (sym u.plan_is) (due-named due is) in
      let told : what ≡ told_of p.tasks (cycle_of p.tasks) so_far (next_occurrence due) = does.told so_far u.stands ∙ ap (λ c. told_of p.tasks c so_far (next_occurrence due)) is_plan.cycle in
      let legal = subst (λ c. IsLegal p.tasks c so_far) is_plan.cycle u.stands.legal in
      let plan_is = ap (λ (p : PlanParts). what_in_set p.tasks what) does.plan in
      plan_is ∙ (ap (what_in_set p.tasks) told ∙ told-named p.tasks so_far (next_occurrence due) legal named)

-- what an executive does, it does at each history for which it stands: the line that is told is that
-- of the entry
pub line-told : (before after : Executive) (next : Occurrence) (what : What) (time : ℕ) (h : History) → time ≡ before.scene.time → StandsFor before h → Does before after next what → entry_line after.plan.tasks (shown_entry after.plan.tasks after.plan.cycle time what (what ∷ h)) ≡ entry_line before.plan.tasks (shown_entry before.plan.tasks before.plan.cycle (time_of h) (told_of before.plan.tasks before.plan.cycle h next) (told_of before.plan.tasks before.plan.cycle h next ∷ h))
line-told before after next what time h now stands does =
    let p = before.plan in
    ap (λ (q : PlanParts). entry_line q.tasks (shown_entry q.tasks q.cycle time what (what ∷ h))) does.plan
    ∙ ap (λ t. entry_line p.tasks (shown_entry p.tasks p.cycle t what (what ∷ h))) (now ∙ stands.same.time)
    ∙ ap (λ w. entry_line p.tasks (shown_entry p.tasks p.cycle (time_of h) w (w ∷ h))) (does.told h stands)

-- and it stands for the history with what the definitions tell
pub stands-told : (before after : Executive) (next : Occurrence) (what : What) (h : History) → StandsFor before h → Does before after next what → StandsFor after (told_of before.plan.tasks before.plan.cycle h next ∷ h)
stands-told before after next what h stands does =
    subst (λ w. StandsFor after (w ∷ h)) (does.told h stands) (does.stands h stands)
