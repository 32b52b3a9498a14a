-- What is remembered of the room for soft work: what it decides, and what a slot leaves of it.
use Rattle.std.proofs.Common.{◌≡◌, ℕ, suc, zero, ◌+◌, ◌-◌, ◌<◌, ◌≤◌, Bool, true, false, cond, not, List, refl, ◌∙◌, inl, inr, arith}
use Rattle.std.specs.Prelude.{nat_le, if◌then◌else◌}
use Rattle.std.specs.List.{range_with_len}
use Rattle.std.proofs.lemmas.Bool.{cases_Bool, le-ltb, ltb-false, not_from_false, not-true}
use Rattle.slot_core.specs.declared.jobs.Span.{Span}
use Rattle.slot_core.specs.declared.tasks.Sporadic.{Sporadic}
use Rattle.slot_core.specs.Runs.Demand.{need_by, work_by}
use Rattle.slot_core.specs.Runs.Scenes.{Scene, horizon}
use Rattle.slot_facts.proofs.Demand.OneSlot.{sporadic_demand-later}
use Rattle.slot_facts.proofs.Lists.Members.{Has-range_with_len, Has-range_with_len_bounds, passes_from_list_all}
use Rattle.slot_facts.proofs.Lists.Tests.{list_all-from_Has}
use Rattle.spare_capacity.specs.Laws.{work_until}
use Rattle.spare_capacity.specs.Recurrence.{last_end}
use Rattle.slot_core.specs.Feasibility.Sporadics.{sporadic_demand}
use Rattle.sporadic_reserve.specs.Reserves.{Reserved}
use Rattle.guarantee.specs.Offers.{is_short, need_until, soft_fits}
use Rattle.slot_exec.specs.declared.rooms.Remembered.{Remembered}
use Rattle.slot_exec.specs.declared.runs.Chosen.{Chosen}
use Rattle.slot_exec.specs.declared.runs.Chosen.TheVariants.{Nothing, Soft, Guaranteed}
use Rattle.slot_exec.specs.Rooms.{due_after, room_after, Remembers, RemembersScene, RemembersSpans}

-- where no more is needed, the same is remembered
pub Remembers-less : (need less work : ℕ → ℕ) (time end : ℕ) (room : Remembered) → ((x : ℕ) → less x ≤ need x) → Remembers need work time end room → Remembers less work time end room
Remembers-less need less work time end room fewer is =
    record {
      free = λ x low high some. omega (arith, is.free x low high (omega (arith, fewer x)), fewer x);
      due = is.due;
    }

-- where the same is needed and due, too
pub Remembers-same : (need other work due : ℕ → ℕ) (time end last : ℕ) (room : Remembered) → ((x : ℕ) → need x ≡ other x) → ((x : ℕ) → work x ≡ due x) → end ≡ last → Remembers need work time end room → Remembers other due time last room
Remembers-same need other work due time end last room needs works ends is =
    record {
      free = λ x low high some. omega (arith, is.free x low (omega arith) (omega (arith, needs x)), needs x);
      due = λ later.
          let (within, at) = is.due later in
          (omega arith, at ∙ works room.tight);
    }

-- what is remembered of arrivals from now on holds of those after this slot
pub RemembersScene-later : (sporadics : List Sporadic) (cycle : ℕ) (scene : Scene) (room : Remembered) → RemembersScene sporadics cycle scene scene.time room → RemembersScene sporadics cycle scene (scene.time + 1) room
RemembersScene-later sporadics cycle scene room is =
    let t = scene.time in
    Remembers-less (need_by sporadics scene t) (need_by sporadics scene (t + 1)) (work_by scene.jobs) t (horizon cycle t) room (λ x. omega (arith, sporadic_demand-later sporadics scene.nexts t (t + 1) x (omega arith))) is

-- where a slot is free, soft work may take it
pub soft_fits-free : (spans : List Span) (reserve : Reserved) (t : ℕ) (room : Remembered) → RemembersSpans spans reserve t room → 1 ≤ room.free → soft_fits spans reserve t ≡ true
soft_fits-free spans reserve t room is some =
    list_all-from_Has (λ x. not (is_short spans reserve t (t + 1) 1 x)) (range_with_len (t + 1) (last_end t spans - t)) (λ x at.
    let (low, high) = Has-range_with_len_bounds (t + 1) (last_end t spans - t) x at in
    let free = is.free x (omega arith) (omega arith) in
    let need = need_until spans reserve (t + 1) x in
    not_from_false (is_short spans reserve t (t + 1) 1 x) (le-ltb (x - t) (1 + need) (fits need (x - t) (omega arith) free)))
  where
    -- nothing is needed, or there is room
    fits : (need slots : ℕ) → 1 ≤ slots → (1 ≤ need → room.free + need ≤ slots) → 1 + need ≤ slots
    fits zero slots later free = omega arith
    fits (suc n) slots later free = omega (arith, free (omega arith))

-- where a time to come is short, it may not
pub soft_fits-tight : (spans : List Span) (reserve : Reserved) (t tight : ℕ) → t < tight → tight ≤ last_end t spans → tight - t ≤ work_until spans tight + sporadic_demand reserve.sporadics reserve.nexts (t + 1) tight → soft_fits spans reserve t ≡ false
soft_fits-tight spans reserve t tight later within short =
    elim (cases_Bool (soft_fits spans reserve t)) [
      | inl fits ↦
          let test = λ (x : ℕ). not (is_short spans reserve t (t + 1) 1 x) in
          let passes = passes_from_list_all test (range_with_len (t + 1) (last_end t spans - t)) tight fits (Has-range_with_len (t + 1) (last_end t spans - t) tight (omega arith) (omega arith)) in
          let room = ltb-false (tight - t) (1 + need_until spans reserve (t + 1) tight) (not-true (is_short spans reserve t (t + 1) 1 tight) passes) in
          absurd (omega arith)
      | inr fails ↦ fails
    ]

-- the slot of what has run, where it is due by x
abbrev pub ran_due : Chosen → ℕ → ℕ
ran_due (Guaranteed job) x = if nat_le job.dl x then 1 else 0
ran_due _ x = 0

less_none : (n : ℕ) → n ≡ n - 0
less_none n = omega arith

-- it is no longer due
due_after-ran : (chosen : Chosen) (room : Remembered) → due_after chosen room ≡ room.due - ran_due chosen room.tight
due_after-ran Nothing room = less_none room.due
due_after-ran (Soft row) room = less_none room.due
due_after-ran (Guaranteed job) room = by_test (nat_le job.dl room.tight)
  where
    by_test : (b : Bool) → cond {A = ℕ} b (room.due - 1) room.due ≡ room.due - cond b 1 0
    by_test true = refl
    by_test false = less_none room.due

-- a slot later, where no more is needed up to the same end and all that is needed fits, a slot less is free
pub Remembers-next : (need later work left : ℕ → ℕ) (t at end last : ℕ) (chosen : Chosen) (turned : Bool) (room : Remembered) → at ≡ t + 1 → end ≤ last → (turned ≡ false → last ≡ end) → ((x : ℕ) → x ≤ end → later x ≤ need x) → ((x : ℕ) → at < x → x ≤ last → later x ≤ x - at) → ((x : ℕ) → x ≤ end → work x ≡ left x + ran_due chosen x) → Remembers need work t end room → Remembers later left at last (room_after chosen turned room)
Remembers-next need later work left t at end last chosen turned room next further same fewer fits ran is =
    record {
      free = λ x low high some. by_turn turned same x low high some;
      due = λ to_come.
          let (within, due) = is.due (omega arith) in
          (omega arith, omega (arith, due_after-ran chosen room, due, ran room.tight within));
    }
  where
    by_turn : (b : Bool) → (b ≡ false → last ≡ end) → (x : ℕ) → at < x → x ≤ last → 1 ≤ later x → cond b 0 (room.free - 1) + later x ≤ x - at
    by_turn true same x low high some = omega (arith, fits x low high)
    by_turn false same x low high some =
        let within : x ≤ end = omega (arith, same refl) in
        omega (arith, fits x low high, fewer x within, is.free x (omega arith) within (omega (arith, fewer x within)))
