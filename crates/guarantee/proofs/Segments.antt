-- The search in a stretch in which the same work is due.
use Rattle.std.proofs.Common.{◌≡◌, ℕ, ◌+◌, ◌-◌, ◌<◌, ◌≤◌, pos, ◌+ℤ◌, ◌≤ℤ◌, ◌<ℤ◌, max, min, true, false, List, length, take, Option, Some, None, refl, sym, ap, ◌∙◌, inl, inr, arith}
use Rattle.std.specs.Prelude.{find, nat_lt, slice_get, Err, IfOk, MatchOption, Ok, Result}
use Rattle.std.specs.Option.{option_map, option_or}
use Rattle.std.specs.List.{range_with_len}
use Rattle.std.proofs.lemmas.Bool.{cases_lt, lt-ltb, le-ltb, ltb-false}
use Rattle.std.proofs.lemmas.Int.{ints}
use Rattle.std.proofs.lemmas.List.{take_all}
use Rattle.slot_core.specs.declared.jobs.Evidence.{Evidence}
use Rattle.slot_core.specs.declared.jobs.Span.{Span}
use Rattle.slot_core.specs.Feasibility.Sporadics.{sporadic_demand}
use Rattle.slot_facts.proofs.Sets.Faults.{option_map-None}
use Rattle.spare_capacity.specs.Recurrence.{filled, last_end, FollowOn}
use Rattle.spare_capacity.specs.Laws.{work_until}
use Rattle.interval_row.specs.Tables.{works}
use Rattle.interval_row.proofs.ShortTimes.{end-at, work_until-all, work_until-at}
use Rattle.sporadic_reserve.specs.Reserves.{most_within, IsGrowth, Reserved}
use Rattle.guarantee.specs.Offers.{evidence_at, first_short, is_short, need_until}
use Rattle.guarantee.specs.declared.search.Level.{Level}
use Rattle.guarantee.specs.declared.search.Ask.{Ask}
use Rattle.guarantee.specs.Stretches.{exceeds, evidence_of, IsLevelFrom, Leaves, LeavesAll, LeavesAllBetween, LeavesBetween, MostBetween, MostFrom}
use Rattle.guarantee.proofs.Places.{least-at}
use Rattle.guarantee.proofs.Searches.{fails-from_none, find-here, find-none, find-skip, search-parts, search-same}

-- the sporadic demand
abbrev pub demand : Reserved → ℕ → ℕ → ℕ
demand reserve r x = sporadic_demand reserve.sporadics reserve.nexts r x

-- of two answers the first counts
option_map-or : {X Y : Type 0} (f : X → Y) (a b : Option X) (y : Y) → option_map f a ≡ Some y → option_map f (option_or a b) ≡ Some y
option_map-or f None b y is = absurd (cc is)
option_map-or f (Some x) b y is = is

-- what is left of a search in the stretch
abbrev pub found_from : Reserved → ℕ → ℕ → ℕ → ℕ → ℕ → Option ℕ
found_from reserve t r needed from until =
    find (exceeds reserve t r needed) (range_with_len from (until - from))

-- a time that is short is found
found-here : (reserve : Reserved) (t r needed at until need room : ℕ) → at < until → need ≡ needed + demand reserve r at → room ≡ at - t → room < need → option_map (evidence_of reserve t r needed) (found_from reserve t r needed at until) ≡ Some (record { until = at; need = need; room = room })
found-here reserve t r needed at until need room more is there short =
    let passes : exceeds reserve t r needed at ≡ true = lt-ltb (at - t) (needed + demand reserve r at) (omega arith) in
    rw (find-here (exceeds reserve t r needed) at until more passes, is, there) refl

-- with enough room at a time there is enough up to the next rise
fails-at : (reserve : Reserved) (t r needed at x : ℕ) → t ≤ at → at ≤ x → needed + demand reserve r at ≤ at - t → demand reserve r x ≡ demand reserve r at → exceeds reserve t r needed x ≡ false
fails-at reserve t r needed at x after low fits stays =
    le-ltb (x - t) (needed + demand reserve r x) (omega arith)

pub found-later : (reserve : Reserved) (t r needed at until : ℕ) (level : Level) → t ≤ at → at < level.until → IsLevelFrom reserve r at level → needed + level.demand ≤ at - t → found_from reserve t r needed at until ≡ found_from reserve t r needed level.until until
found-later reserve t r needed at until level after more is fits =
    let here : demand reserve r at ≡ level.demand = is.flat at (omega arith) more in
    find-skip (exceeds reserve t r needed) at level.until until (omega arith) (λ x low high. fails-at reserve t r needed at x after low (omega (arith, here)) (is.flat x low high ∙ sym here))

-- where a level holds and there is enough room at the start, no time is short
found-level : (reserve : Reserved) (t r needed at until : ℕ) (level : Level) → t ≤ at → until ≤ level.until → IsLevelFrom reserve r at level → needed + level.demand ≤ at - t → found_from reserve t r needed at until ≡ None
found-level reserve t r needed at until level after holds is fits =
    find-none (exceeds reserve t r needed) at until (λ x low high.
    let here : demand reserve r at ≡ level.demand = is.flat at (omega arith) (omega arith) in
    fails-at reserve t r needed at x after low (omega (arith, here)) (is.flat x low (omega arith) ∙ sym here))

-- a time that is short at the level that holds there is found
pub found-told : (reserve : Reserved) (t r needed at until : ℕ) (level : Level) (e : Evidence) → at < until → at < level.until → IsLevelFrom reserve r at level → (at - t < needed + level.demand) × (e ≡ record { until = at; need = needed + level.demand; room = at - t }) → Some e ≡ option_map (evidence_of reserve t r needed) (found_from reserve t r needed at until)
found-told reserve t r needed at until level e within more is told =
    let here : demand reserve r at ≡ level.demand = is.flat at (omega arith) more in
    ap Some told.1
    ∙ sym (found-here reserve t r needed at until (needed + level.demand) (at - t) within (omega arith) refl told.0)

-- where a level holds to the end, the test at its start is the answer
pub found-tried : (reserve : Reserved) (t r needed at until : ℕ) (level : Level) (result : Option Evidence) → t ≤ at → at < until → until ≤ level.until → IsLevelFrom reserve r at level → MatchOption result (needed + level.demand ≤ at - t) (λ e. (at - t < needed + level.demand) × (e ≡ record { until = at; need = needed + level.demand; room = at - t })) → result ≡ option_map (evidence_of reserve t r needed) (found_from reserve t r needed at until)
found-tried reserve t r needed at until level None after within holds is fits =
    sym (ap (option_map (evidence_of reserve t r needed)) (found-level reserve t r needed at until level after holds is fits))
found-tried reserve t r needed at until level (Some e) after within holds is told =
    found-told reserve t r needed at until level e within (omega arith) is told

-- what is left in part of the times, and in less
pub Leaves-part : (need : ℕ → ℕ) (t slots left less a b c d : ℕ) → less ≤ left → a ≤ c → d ≤ b → Leaves need t slots left a b → Leaves need t slots less c d
Leaves-part need t slots left less a b c d fewer low high leaves =
    record { at = λ x from to some. let most = leaves.at x (omega arith) (omega arith) some in omega arith }

-- and in two parts
pub Leaves-join : (need : ℕ → ℕ) (t slots left a b c : ℕ) → Leaves need t slots left a b → Leaves need t slots left b c → Leaves need t slots left a c
Leaves-join need t slots left a b c first later =
    record { at = λ x from to some. elim (cases_lt x b) [ inl low ↦ first.at x from low some | inr high ↦ later.at x high to some ] }

-- what is left at all times is left at those by which something is needed
pub Leaves-all : (need : ℕ → ℕ) (t slots left a b : ℕ) → LeavesAll need t slots left a b → Leaves need t slots left a b
Leaves-all need t slots left a b all = record { at = λ x low high some. all.at x low high }

-- while a level holds, as much is left as at its start
pub Leaves-level : (reserve : Reserved) (ask : Ask) (due left at until : ℕ) (level : Level) → ask.now ≤ at → until ≤ level.until → IsLevelFrom reserve ask.arrivals at level → (1 ≤ due + level.demand → left + (ask.slots + due + level.demand) ≤ at - ask.now) → LeavesBetween reserve ask due left at until
Leaves-level reserve ask due left at until level after holds is leaves =
    record {
      at = λ x low high some.
          let here : demand reserve ask.arrivals x ≡ level.demand = is.flat x low (omega arith) in
          let most = leaves (omega arith) in
          omega arith;
    }

-- no more is left while a level holds than at its start
pub Most-level : (reserve : Reserved) (ask : Ask) (due old left from at until : ℕ) (level : Level) → from ≤ at → at < until → at < level.until → IsLevelFrom reserve ask.arrivals at level → ((more : ℕ) → more ≤ old → (1 ≤ due + level.demand → more + (ask.slots + due + level.demand) ≤ at - ask.now) → more ≤ left) → MostBetween reserve ask due old left from until
Most-level reserve ask due old left from at until level low high holds is greatest =
    λ more few leaves.
    greatest more few (λ some.
    let here : demand reserve ask.arrivals at ≡ level.demand = is.flat at (omega arith) holds in
    let most = leaves.at at low high (omega arith) in
    omega arith)

-- a level stays one from a later time on
pub IsLevelFrom-later : (reserve : Reserved) (r from later : ℕ) (level : Level) → from ≤ later → IsLevelFrom reserve r from level → IsLevelFrom reserve r later level
IsLevelFrom-later reserve r from later level le is =
    record {
      flat = λ x low high. is.flat x (omega arith) high;
      bound = is.bound;
      small = is.small;
    }

-- where this much is needed, the two tests and their evidence are one
short-exceeds : (spans : List Span) (reserve : Reserved) (t r slots needed x : ℕ) → needed ≡ slots + work_until spans x → is_short spans reserve t r slots x ≡ exceeds reserve t r needed x
short-exceeds spans reserve t r slots needed x is =
    let same : slots + need_until spans reserve r x ≡ needed + demand reserve r x = omega arith in
    ap (nat_lt (x - t)) same

evidence-same : (spans : List Span) (reserve : Reserved) (t r slots needed x : ℕ) → needed ≡ slots + work_until spans x → evidence_at spans reserve t r slots x ≡ evidence_of reserve t r needed x
evidence-same spans reserve t r slots needed x is =
    let same : slots + need_until spans reserve r x ≡ needed + demand reserve r x = omega arith in
    ap (λ n. record { until = x; need = n; room = x - t }) same

-- the search looks at the times from `first` to before `until`, in which this much is needed
pub record Looks (spans : List Span) (t slots now needed first until : ℕ) : Type 0 where
  pub time : now ≡ t
  pub within : until ≤ last_end t spans + 1
  pub due : (x : ℕ) → first ≤ x → x < until → needed ≡ slots + work_until spans x

-- a time that it finds is the first of all
pub Looks-found : (spans : List Span) (reserve : Reserved) (t r slots now needed first until : ℕ) (evidence : Evidence) → Looks spans t slots now needed first until → Some evidence ≡ option_map (evidence_of reserve now r needed) (found_from reserve now r needed first until) → Some evidence ≡ option_map (evidence_at spans reserve t r slots) (first_short spans reserve t r slots first)
Looks-found spans reserve t r slots now needed first until evidence looks told =
    let found = rw looks.time at told in
    let p = is_short spans reserve t r slots in
    let q = exceeds reserve t r needed in
    elim (cases_lt first until) [
      | inl some ↦
          let same = search-same p q (evidence_at spans reserve t r slots) (evidence_of reserve t r needed) first (until - first) (λ x low high. short-exceeds spans reserve t r slots needed x (looks.due x low (omega arith))) (λ x low high. evidence-same spans reserve t r slots needed x (looks.due x low (omega arith))) in
          let parts = search-parts p first until (last_end t spans + 1) (omega arith) looks.within in
          sym (ap (option_map (evidence_at spans reserve t r slots)) parts
          ∙ option_map-or (evidence_at spans reserve t r slots) (find p (range_with_len first (until - first))) _ evidence (same ∙ sym found))
      | inr none ↦
          let empty : until - first ≡ 0 = omega arith in
          absurd (cc (found ∙ ap (λ n. option_map (evidence_of reserve t r needed) (find q (range_with_len first n))) empty))
    ]

-- where it finds none, the search goes on from a later time
Looks-later : (spans : List Span) (reserve : Reserved) (t r slots now needed first until later : ℕ) → Looks spans t slots now needed first until → later ≡ max first until → None ≡ option_map (evidence_of reserve now r needed) (found_from reserve now r needed first until) → first_short spans reserve t r slots first ≡ first_short spans reserve t r slots later
Looks-later spans reserve t r slots now needed first until later looks is told =
    let none = rw looks.time at told in
    let q = exceeds reserve t r needed in
    let fails = fails-from_none q first (until - first) (option_map-None (evidence_of reserve t r needed) (find q (range_with_len first (until - first))) (sym none)) in
    find-skip (is_short spans reserve t r slots) first later (last_end t spans + 1) (omega arith) (λ x low high. short-exceeds spans reserve t r slots needed x (looks.due x low (omega arith)) ∙ fails x low (omega arith))

-- and a search that gave the same from here gives the same from there
pub Looks-later-on : (spans : List Span) (reserve : Reserved) (t r slots now needed from start first until later : ℕ) → Looks spans t slots now needed first until → first_short spans reserve t r slots from ≡ first_short spans reserve t r slots (max from start) → first ≡ max from start → later ≡ max first until → None ≡ option_map (evidence_of reserve now r needed) (found_from reserve now r needed first until) → first_short spans reserve t r slots from ≡ first_short spans reserve t r slots later
Looks-later-on spans reserve t r slots now needed from start first until later looks same here is told =
    same
    ∙ ap (first_short spans reserve t r slots) (sym here)
    ∙ Looks-later spans reserve t r slots now needed first until later looks is told

-- where it looks up to the last end, what it finds is the answer
pub Looks-last : (spans : List Span) (reserve : Reserved) (t r slots now needed first until : ℕ) → Looks spans t slots now needed first until → until ≡ last_end t spans + 1 → option_map (evidence_of reserve now r needed) (found_from reserve now r needed first until) ≡ option_map (evidence_at spans reserve t r slots) (first_short spans reserve t r slots first)
Looks-last spans reserve t r slots now needed first until looks all =
    rw (looks.time, all) (
    sym (search-same (is_short spans reserve t r slots) (exceeds reserve t r needed) (evidence_at spans reserve t r slots) (evidence_of reserve t r needed) first (last_end t spans + 1 - first) (λ x low high. short-exceeds spans reserve t r slots needed x (looks.due x low (omega arith))) (λ x low high. evidence-same spans reserve t r slots needed x (looks.due x low (omega arith)))))

-- what is left where it looks is left of the spans
Looks-leaves : (spans : List Span) (reserve : Reserved) (ask : Ask) (t due left first until : ℕ) → Looks spans t ask.slots ask.now (ask.slots + due) first until → LeavesBetween reserve ask due left first until → Leaves (need_until spans reserve ask.arrivals) t ask.slots left first until
Looks-leaves spans reserve ask t due left first until looks leaves =
    record {
      at = λ x low high some.
          let is = looks.due x low high in
          let most = leaves.at x low high (omega arith) in
          omega (arith, looks.time);
    }

-- so is what is left before and where it looks
pub Looks-leaves-on : (spans : List Span) (reserve : Reserved) (ask : Ask) (t due old left from start first until : ℕ) → Looks spans t ask.slots ask.now (ask.slots + due) first until → first ≡ max from start → left ≤ old → Leaves (need_until spans reserve ask.arrivals) t ask.slots old from (max from start) → LeavesBetween reserve ask due left first until → Leaves (need_until spans reserve ask.arrivals) t ask.slots left from until
Looks-leaves-on spans reserve ask t due old left from start first until looks here fewer before leaves =
    let need : ℕ → ℕ = need_until spans reserve ask.arrivals in
    Leaves-join need t ask.slots left from first until
    (Leaves-part need t ask.slots old left from (max from start) from first fewer (omega arith) (omega (arith, here)) before)
    (Looks-leaves spans reserve ask t due left first until looks leaves)

-- and no more is left of the spans than where it looks
pub Looks-most : (spans : List Span) (reserve : Reserved) (ask : Ask) (t due most old left from first until : ℕ) → Looks spans t ask.slots ask.now (ask.slots + due) first until → from ≤ first → MostFrom spans reserve t ask.arrivals ask.slots most old from → MostBetween reserve ask due old left first until → MostFrom spans reserve t ask.arrivals ask.slots most left from
Looks-most spans reserve ask t due most old left from first until looks low before between =
    λ more few leaves.
    between more (before more few leaves) (record {
      at = λ x from_there high some.
          let is = looks.due x from_there high in
          let room = leaves.at x (omega arith) (omega (arith, looks.within)) (omega arith) in
          omega (arith, looks.time);
    })

pub most-end : (spans : List Span) (reserve : Reserved) (ask : Ask) (t due most old from first until : ℕ) (result : Result ℕ Evidence) → Looks spans t ask.slots ask.now (ask.slots + due) first until → from ≤ first → MostFrom spans reserve t ask.arrivals ask.slots most old from → IfOk result (λ left. MostBetween reserve ask due old left first until) → IfOk result (λ left. MostFrom spans reserve t ask.arrivals ask.slots most left from)
most-end spans reserve ask t due most old from first until (Err e) looks low before between = tt
most-end spans reserve ask t due most old from first until (Ok left) looks low before between =
    Looks-most spans reserve ask t due most old left from first until looks low before between

-- and where it looks up to the last end, it is all
pub leaves-end : (spans : List Span) (reserve : Reserved) (ask : Ask) (t due least from first until : ℕ) (result : Result ℕ Evidence) → Looks spans t ask.slots ask.now (ask.slots + due) first until → until ≡ last_end t spans + 1 → Leaves (need_until spans reserve ask.arrivals) t ask.slots least from first → IfOk result (λ left. LeavesBetween reserve ask due left first until) → IfOk result (λ left. left ≤ least) → IfOk result (λ left. Leaves (need_until spans reserve ask.arrivals) t ask.slots left from (last_end t spans + 1))
leaves-end spans reserve ask t due least from first until (Err e) looks all before leaves fewer = tt
leaves-end spans reserve ask t due least from first until (Ok left) looks all before leaves fewer =
    let need : ℕ → ℕ = need_until spans reserve ask.arrivals in
    let rest = Looks-leaves spans reserve ask t due left first until looks leaves in
    Leaves-join need t ask.slots left from first (last_end t spans + 1)
    (Leaves-part need t ask.slots least left from first from first fewer (omega arith) (omega arith) before)
    (Leaves-part need t ask.slots left left first until first (last_end t spans + 1) (omega arith) (omega arith) (omega arith) rest)

-- where some slots are left at all times, none of them is short
pub LeavesAll-later : (spans : List Span) (reserve : Reserved) (t r slots left from to : ℕ) → from ≤ to → LeavesAll (need_until spans reserve r) t slots left from to → first_short spans reserve t r slots from ≡ first_short spans reserve t r slots to
LeavesAll-later spans reserve t r slots left from to le all =
    find-skip (is_short spans reserve t r slots) from to (last_end t spans + 1) le (λ x low high.
    let most = all.at x low high in
    le-ltb (x - t) (slots + need_until spans reserve r x) (omega (arith, most)))

-- it looks at the times of a span
pub Looks-inside : (spans : List Span) (t slots now needed first i : ℕ) (s : Span) → FollowOn t spans → slice_get spans i ≡ Some s → now ≡ t → needed ≡ slots + works (take i spans) → s.start ≤ first → Looks spans t slots now needed first s.end
Looks-inside spans t slots now needed first i s follow at time due low =
    record {
      time = time;
      within = omega (arith, end-at t i spans s follow at);
      due = λ x from to. omega (arith, work_until-at t i x spans s follow at (omega arith) to);
    }

-- and at the last end
pub Looks-end : (spans : List Span) (t slots now needed first until : ℕ) → FollowOn t spans → now ≡ t → needed ≡ slots + works spans → last_end t spans ≤ first → until ≡ last_end t spans + 1 → Looks spans t slots now needed first until
Looks-end spans t slots now needed first until follow time due low all =
    record {
      time = time;
      within = omega arith;
      due = λ x from to. omega (arith, work_until-all t x spans follow (omega arith), ap works (take_all (length spans) spans (omega arith)));
    }

-- where a span covers what is needed and may come, no time from its end on is short
pub covered : (spans : List Span) (reserve : Reserved) (t r slots now needed later most left i : ℕ) (s : Span) → FollowOn t spans → spans ≡ filled spans → slice_get spans i ≡ Some s → now ≡ t → needed ≡ slots + works (take i spans) → s.end ≤ later → ((z : ℕ) → z ≤ last_end t spans → demand reserve r z ≤ most) → pos (needed + most + left) ≤ℤ (pos (s.start - now) +ℤ s.spare) → first_short spans reserve t r slots later ≡ None
covered spans reserve t r slots now needed later most left i s follow full at time due low may_come covers =
    let least = least-at t i spans s follow full at in
    find-none (is_short spans reserve t r slots) later (last_end t spans + 1) (λ x from to.
    let room = least.bound x (omega arith) (omega arith) in
    le-ltb (x - t) (slots + need_until spans reserve r x) (omega (arith, ints, may_come x (omega arith))))

-- and as much is left there
pub covered-leaves : (spans : List Span) (reserve : Reserved) (t r slots now needed most left i : ℕ) (s : Span) → FollowOn t spans → spans ≡ filled spans → slice_get spans i ≡ Some s → now ≡ t → needed ≡ slots + works (take i spans) → ((z : ℕ) → z ≤ last_end t spans → demand reserve r z ≤ most) → pos (needed + most + left) ≤ℤ (pos (s.start - now) +ℤ s.spare) → Leaves (need_until spans reserve r) t slots left s.end (last_end t spans + 1)
covered-leaves spans reserve t r slots now needed most left i s follow full at time due may_come covers =
    let least = least-at t i spans s follow full at in
    record {
      at = λ x from to some.
          let room = least.bound x from (omega arith) in
          omega (arith, ints, may_come x (omega arith));
    }

-- and where it does not, and no sporadic task may come, some time is
pub not_covered : (spans : List Span) (reserve : Reserved) (t r slots now needed from i : ℕ) (s : Span) → FollowOn t spans → spans ≡ filled spans → slice_get spans i ≡ Some s → now ≡ t → needed ≡ slots + works (take i spans) → from ≤ s.end → (pos (s.start - now) +ℤ s.spare) <ℤ pos needed → first_short spans reserve t r slots from ≡ None → ⊥
not_covered spans reserve t r slots now needed from i s follow full at time due low covers none =
    let least = least-at t i spans s follow full at in
    let x = least.reached.0 in
    let high = least.reached.2 in
    let is = least.reached.3 in
    let fails = fails-from_none (is_short spans reserve t r slots) from (last_end t spans + 1 - from) none x (omega (arith, least.reached.1)) (omega (arith, high, least.reached.1)) in
    let room : slots + need_until spans reserve r x ≤ x - t = ltb-false (x - t) (slots + need_until spans reserve r x) fails in
    omega (arith, ints)

-- what is due by the last time before a stretch leaves so much at each time that has room for it
pub LeavesAll-look : (reserve : Reserved) (ask : Ask) (due left first end next most : ℕ) → ((z : ℕ) → z ≤ first - 1 → demand reserve ask.arrivals z ≤ most) → next ≡ ask.now + ask.slots + due + left + most → LeavesAllBetween reserve ask due left first end → LeavesAllBetween reserve ask due left next end
LeavesAll-look reserve ask due left first end next most bound is all =
    record {
      at = λ x low high. elim (cases_lt x first) [
        | inl early ↦ omega (arith, bound x (omega arith))
        | inr late ↦ all.at x late high
      ];
    }

-- where so many slots are left at the later times, none of them is found
pub found-before : (reserve : Reserved) (ask : Ask) (due left at first end : ℕ) → first ≤ end → LeavesAllBetween reserve ask due left first end → found_from reserve ask.now ask.arrivals (ask.slots + due) at end ≡ found_from reserve ask.now ask.arrivals (ask.slots + due) at first
found-before reserve ask due left at first end le all =
    let short = exceeds reserve ask.now ask.arrivals (ask.slots + due) in
    let fits : (x : ℕ) → first ≤ x → x < end → short x ≡ false = (λ x low high.
    let most = all.at x low high in
    le-ltb (x - ask.now) (ask.slots + due + demand reserve ask.arrivals x) (omega (arith, most))) in
    elim (cases_lt at first) [
      | inl some ↦
          search-parts short at first end (omega arith) le
          ∙ ap (option_or (find short (range_with_len at (first - at)))) (find-none short first end fits)
          ∙ or-None (find short (range_with_len at (first - at)))
      | inr none ↦
          let empty : first - at ≡ 0 = omega arith in
          find-none short at end (λ x low high. fits x (omega arith) high)
          ∙ sym (ap (λ n. find short (range_with_len at n)) empty)
    ]
  where
    or-None : (o : Option ℕ) → option_or o None ≡ o
    or-None None = refl
    or-None (Some x) = refl

-- so it does up to the end itself
pub LeavesAll-last : (reserve : Reserved) (ask : Ask) (due left first end most : ℕ) → ((z : ℕ) → z ≤ end - 1 → demand reserve ask.arrivals z ≤ most) → first ≡ min end (ask.now + ask.slots + due + left + most) → LeavesAllBetween reserve ask due left first end
LeavesAll-last reserve ask due left first end most bound is =
    record { at = λ x low high. omega (arith, bound x (omega arith)) }

-- where the first time has room for the level and the most by which the demand rises after it, each
-- time has
pub LeavesAll-growth : (reserve : Reserved) (ask : Ask) (due left at until : ℕ) (level : Level) → 1 ≤ level.until → IsGrowth reserve ask.growth → IsLevelFrom reserve ask.arrivals at level → ask.now + ask.slots + due + left + (level.demand + most_within ask.growth (until - level.until)) ≤ at → LeavesAllBetween reserve ask due left at until
LeavesAll-growth reserve ask due left at until level some growth is room =
    record {
      at = λ x low high. elim (cases_lt x level.until) [
        | inl early ↦ omega (arith, is.bound x early, room)
        | inr late ↦
            let more = growth.most ask.arrivals (level.until - 1) x (until - level.until) (omega arith) (omega arith) in
            omega (arith, is.bound (level.until - 1) (omega arith), more, room)
      ];
    }

-- what is found in the first part of a stretch is found in it
pub found-first : (reserve : Reserved) (t r needed from at until : ℕ) (e : Evidence) → from ≤ at → at ≤ until → Some e ≡ option_map (evidence_of reserve t r needed) (found_from reserve t r needed from at) → Some e ≡ option_map (evidence_of reserve t r needed) (found_from reserve t r needed from until)
found-first reserve t r needed from at until e low high told =
    let short = exceeds reserve t r needed in
    sym (ap (option_map (evidence_of reserve t r needed)) (search-parts short from at until low high)
    ∙ option_map-or (evidence_of reserve t r needed) (found_from reserve t r needed from at) _ e (sym told))

-- where none is, the search goes on from there
pub found-past : (reserve : Reserved) (t r needed from at until : ℕ) → from ≤ at → at ≤ until → None ≡ option_map (evidence_of reserve t r needed) (found_from reserve t r needed from at) → found_from reserve t r needed from until ≡ found_from reserve t r needed at until
found-past reserve t r needed from at until low high told =
    let short = exceeds reserve t r needed in
    search-parts short from at until low high
    ∙ ap (λ (o : Option ℕ). option_or o (found_from reserve t r needed at until)) (option_map-None (evidence_of reserve t r needed) (found_from reserve t r needed from at) (sym told))

-- no more is left in a stretch than in a part of it, of which no more than the most is
pub Most-parts : (reserve : Reserved) (ask : Ask) (due old middle left from at end until : ℕ) → from ≤ at → at ≤ until → end ≤ until → MostBetween reserve ask due old middle from at → MostBetween reserve ask due middle left at end → MostBetween reserve ask due old left from until
Most-parts reserve ask due old middle left from at end until low high ends first later =
    λ more few leaves.
    let need : ℕ → ℕ = λ x. due + demand reserve ask.arrivals x in
    later more
    (first more few (Leaves-part need ask.now ask.slots more more from until from at (omega arith) (omega arith) high leaves))
    (Leaves-part need ask.now ask.slots more more from until at end (omega arith) low ends leaves)

-- nor is one in all those times
pub found-none : (reserve : Reserved) (ask : Ask) (due left at until : ℕ) → LeavesAllBetween reserve ask due left at until → found_from reserve ask.now ask.arrivals (ask.slots + due) at until ≡ None
found-none reserve ask due left at until all =
    find-none (exceeds reserve ask.now ask.arrivals (ask.slots + due)) at until (λ x low high.
    let most = all.at x low high in
    le-ltb (x - ask.now) (ask.slots + due + demand reserve ask.arrivals x) (omega (arith, most)))

-- so as many are left in the later times, and fewer too
pub Leaves-later : (reserve : Reserved) (ask : Ask) (due left less first end until : ℕ) → less ≤ left → LeavesAllBetween reserve ask due left first end → LeavesBetween reserve ask due left end until → LeavesBetween reserve ask due less first until
Leaves-later reserve ask due left less first end until fewer all later =
    let need : ℕ → ℕ = λ x. due + demand reserve ask.arrivals x in
    Leaves-part need ask.now ask.slots left less first until first until fewer (omega arith) (omega arith)
    (Leaves-join need ask.now ask.slots left first end until (Leaves-all need ask.now ask.slots left first end all) later)
