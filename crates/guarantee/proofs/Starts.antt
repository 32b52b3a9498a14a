-- The first short time where no sporadic task may need anything, and times that are passed.
use Rattle.std.proofs.Common.{◌≡◌, ℕ, ◌+◌, ◌-◌, ◌<◌, ◌≤◌, List, Some, None, refl, sym, ap, ◌∙◌, inl, inr, arith}
use Rattle.std.specs.Option.{option_map}
use Rattle.std.proofs.lemmas.Bool.{cases_lt, le-ltb, lt-ltb}
use Rattle.slot_core.specs.declared.jobs.Span.{Span}
use Rattle.spare_capacity.specs.Laws.{work_until}
use Rattle.spare_capacity.specs.Recurrence.{last_end}
use Rattle.sporadic_reserve.specs.Reserves.{Reserved}
use Rattle.guarantee.specs.Offers.{evidence_at, first_short, is_short, need_until}
use Rattle.guarantee.specs.Places.{MayPass}
use Rattle.guarantee.specs.Stretches.{LeavesAll, NeedsNone}
use Rattle.guarantee.proofs.Searches.{find-here, find-none, find-skip}
use Rattle.guarantee.proofs.Segments.{demand}

-- where each time before `until` leaves room, and `until` is short or the last end, it is the first
-- short time, if there is one
pub told-first : (spans : List Span) (reserve : Reserved) (t r slots now need room from until works : ℕ) → NeedsNone reserve r (last_end t spans) → now ≡ t → t ≤ until → from ≤ until → until ≤ last_end t spans → works ≡ work_until spans until → need ≡ slots + works → room ≡ until - now → ((x : ℕ) → from ≤ x → x < until → now + slots + work_until spans x ≤ x) → (until < last_end t spans → until < now + slots + works) → (first_short spans reserve t r slots from ≡ None → ⊥) → Some (record { until = until; need = need; room = room }) ≡ option_map (evidence_at spans reserve t r slots) (first_short spans reserve t r slots from)
told-first spans reserve t r slots now need room from until works quiet time after low within due all there leaves short missed =
    let p = is_short spans reserve t r slots in
    let none : demand reserve r until ≡ 0 = quiet until within in
    let on = find-skip p from until (last_end t spans + 1) low (λ x above below. le-ltb (x - t) (slots + need_until spans reserve r x) (omega (arith, leaves x above below, quiet x (omega arith)))) in
    elim (cases_lt room need) [
      | inl over ↦
          let here = find-here p until (last_end t spans + 1) (omega arith) (lt-ltb (until - t) (slots + need_until spans reserve r until) (omega (arith, none))) in
          let needed : need ≡ slots + need_until spans reserve r until = omega (arith, none) in
          let left : room ≡ until - t = omega arith in
          rw (on ∙ here, needed, left) refl
      | inr fits ↦ elim (cases_lt until (last_end t spans)) [
        | inl before ↦ absurd (omega (arith, short before))
        | inr end ↦
            absurd (missed (on ∙ find-none p until (last_end t spans + 1) (λ x above below.
            let same : until ≡ x = omega arith in
            ap p (sym same) ∙ le-ltb (until - t) (slots + need_until spans reserve r until) (omega (arith, none)))))
      ]
    ]

-- times that may be passed leave what was asked for beside what may come
pub LeavesAll-passed : (spans : List Span) (reserve : Reserved) (t r slots left most asked until from to : ℕ) → asked ≡ t + slots + left + most → ((x : ℕ) → x < until → demand reserve r x ≤ most) → MayPass spans asked until from to → LeavesAll (need_until spans reserve r) t slots left from to
LeavesAll-passed spans reserve t r slots left most asked until from to is may_come may =
    record {
      at = λ x low high.
          let room = may.room x low high in
          let few = may_come x (may.before x low high) in
          omega (arith, is, room, few);
    }

-- from a time to the same there is none
pub LeavesAll-none : (need : ℕ → ℕ) (t slots left x : ℕ) → LeavesAll need t slots left x x
LeavesAll-none need t slots left x = record { at = λ y low high. absurd (omega arith) }
