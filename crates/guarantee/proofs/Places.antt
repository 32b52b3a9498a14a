-- Spans by their places: where each stands, and its slack.
use Rattle.std.proofs.Common.{◌≡◌, ℕ, zero, suc, ◌+◌, ◌-◌, ◌*◌, ◌^◌, ◌<◌, ◌≤◌, pos, ◌+ℤ◌, ◌-ℤ◌, ◌≤ℤ◌, List, [], ◌∷◌, get_or, length, take, Some, sym, ap, ◌∙◌, subst, inl, inr, arith}
use Rattle.std.specs.Prelude.{slice_get}
use Rattle.std.specs.Int.{int_min}
use Rattle.std.proofs.lemmas.Bool.{cases_lt}
use Rattle.std.proofs.lemmas.Int.{ints, clamps}
use Rattle.std.proofs.lemmas.List.Sums.{sum_by-cons}
use Rattle.std.proofs.lemmas.Option.{get_or_from_slice_get, same_Some, slice_get_within}
use Rattle.slot_core.specs.declared.jobs.Span.{Span}
use Rattle.spare_capacity.specs.PlanSpans.{AreProper}
use Rattle.spare_capacity.specs.Recurrence.{filled, last_end, FollowOn}
use Rattle.spare_capacity.specs.Laws.{work_until}
use Rattle.spare_capacity.proofs.Free.{free, free-ended, rest-filled, spare-filled}
use Rattle.spare_capacity.proofs.Slack.{free-least, free-start, last_end-above, slack-ended, IsLeastFrom}
use Rattle.spare_capacity.proofs.Steps.{no_row}
use Rattle.interval_row.specs.Changes.{ends_before}
use Rattle.interval_row.specs.Tables.{works}
use Rattle.interval_row.proofs.CutTimes.{ends_before-ended, ends_before-later, ends_before-start, rises-at, start-at, work_until-last, ComesNext-at}
use Rattle.interval_row.proofs.Laps.{works_before-small}
use Rattle.interval_row.proofs.Places.{work-le}
use Rattle.interval_row.proofs.WalkPages.{ends_before-short}
use Rattle.interval_row.proofs.ShortTimes.{end-at}

-- a span is rising, with a work of at most 2 ^ 40, after the time and by the last end
pub record Stands (t : ℕ) (spans : List Span) (s : Span) : Type 0 where
  pub after : t ≤ s.start
  pub rising : s.start ≤ s.end
  pub work : s.work ≤ 2 ^ 40
  pub within : s.end ≤ last_end t spans

pub Stands-at : (t i : ℕ) (spans : List Span) (s : Span) → FollowOn t spans → slice_get spans i ≡ Some s → Stands t spans s
Stands-at t i spans s follow at =
    record {
      after = start-at t i spans s follow at;
      rising = rises-at t i spans s follow at;
      work =
          let same : get_or spans i no_row ≡ s = get_or_from_slice_get spans i s no_row at in
          subst (λ (q : Span). q.work ≤ 2 ^ 40) same (work-le t spans i follow (slice_get_within spans i s at));
      within = end-at t i spans s follow at;
    }

-- what is due by a time is small
pub work_until-small : (t x : ℕ) (spans : List Span) → FollowOn t spans → work_until spans x ≤ length spans * 2 ^ 40
work_until-small t x spans follow =
    let same : x + 1 - 1 ≡ x = omega arith in
    omega (arith, sym (ap (work_until spans) same) ∙ work_until-last (x + 1) spans (omega arith), works_before-small t (x + 1) spans follow)

-- a span's capacity and the slack before it are the least slack from its end on
pub least-at : (t i : ℕ) (spans : List Span) (s : Span) → FollowOn t spans → spans ≡ filled spans → slice_get spans i ≡ Some s → IsLeastFrom t spans s.end ((pos (s.start - t) -ℤ pos (works (take i spans))) +ℤ s.spare)
least-at t i [] s follow full at = absurd (cc at)
least-at t zero (r ∷ spans) s follow full at =
    let same : r ≡ s = cc at in
    let least = free-least t (r ∷ spans) r.end follow full (omega (arith, follow.0, follow.1)) (last_end-above r.end spans follow.4) in
    let ended = free-ended r.end r spans (omega arith) in
    let none = free-start r.end spans follow.4 (rest-filled r spans full) in
    let is : int_min (pos 0) r.spare +ℤ free r.end (r ∷ spans) ≡ (pos (r.start - t) -ℤ pos 0) +ℤ r.spare = omega (arith, ints, clamps, follow.0) in
    subst (λ (q : Span). IsLeastFrom t (r ∷ spans) q.end ((pos (q.start - t) -ℤ pos 0) +ℤ q.spare)) same (subst (IsLeastFrom t (r ∷ spans) r.end) is least)
least-at t (suc i) (r ∷ spans) s follow full at =
    let stands = Stands-at r.end i spans s follow.4 at in
    let rest = least-at r.end i spans s follow.4 (rest-filled r spans full) at in
    let more : works (take (suc i) (r ∷ spans)) ≡ r.work + works (take i spans) = sum_by-cons (λ (q : Span). q.work) r (take i spans) in
    let late : r.end ≤ s.end = omega (arith, stands.after, stands.rising) in
    record {
      bound = λ x low high.
          let ended = slack-ended t r spans x (omega arith) follow in
          let is = rest.bound x low high in
          omega (arith, ints, stands.after, follow.0, follow.1);
      reached =
          let x = rest.reached.0 in
          let low = rest.reached.1 in
          let ended = slack-ended t r spans x (omega arith) follow in
          let is = rest.reached.3 in
          (x, low, rest.reached.2, omega (arith, ints, stands.after, follow.0, follow.1));
    }

-- a span that ends before a time is one of so many
pub ended-before : (t x i : ℕ) (spans : List Span) (s : Span) → FollowOn t spans → slice_get spans i ≡ Some s → s.end < x → i < ends_before x spans
ended-before t x i [] s follow at early = absurd (omega (arith, slice_get_within [] i s at))
ended-before t x zero (r ∷ rs) s follow at early =
    let same : r ≡ s = same_Some r s at in
    omega (arith, ends_before-ended x r rs (omega (arith, early, ap (λ (q : Span). q.end) same)))
ended-before t x (suc i) (r ∷ rs) s follow at early =
    let first : r.end < x = omega (arith, early, start-at r.end i rs s follow.4 at, rises-at r.end i rs s follow.4 at) in
    omega (arith, ends_before-ended x r rs first, ended-before r.end x i rs s follow.4 at early)

-- after no more spans than end before a time, a span starts before it
pub start-before : (t i x : ℕ) (spans : List Span) (s : Span) → FollowOn t spans → slice_get spans i ≡ Some s → t < x → i ≤ ends_before x spans → s.start < x
start-before t i x spans s follow at later few =
    elim (cases_lt i (ends_before x spans)) [
      | inl more ↦ elim (cases_lt s.end x) [
        | inl early ↦ omega (arith, early, rises-at t i spans s follow at)
        | inr late ↦ absurd (omega (arith, more, ends_before-short t x i spans s follow at late))
      ]
      | inr last ↦
          let here : i ≡ ends_before x spans = omega arith in
          (ComesNext-at t x spans s follow (sym (ap (slice_get spans) here) ∙ at)).starts later
    ]

-- of proper spans that follow a time, fewer end before a later time than there are slots up to it
pub ends_before-few : (t x : ℕ) (spans : List Span) → FollowOn t spans → AreProper spans → t < x → ends_before x spans + 1 + t ≤ x
ends_before-few t x [] follow proper later = omega (arith, later)
ends_before-few t x (s ∷ ss) follow proper later =
    elim (cases_lt s.end x) [
      | inl early ↦
          omega (arith, ends_before-ended x s ss early, ends_before-few s.end x ss follow.4 proper.1 early, follow.0, proper.0)
      | inr late ↦ omega (arith, ends_before-later x s ss late, ends_before-start s.end x ss follow.4 late, later)
    ]

-- a capacity is at most the length
pub spare-small : (t i : ℕ) (spans : List Span) (s : Span) → FollowOn t spans → spans ≡ filled spans → slice_get spans i ≡ Some s → s.spare ≤ℤ pos (2 ^ 40)
spare-small t i [] s follow full at = absurd (cc at)
spare-small t zero (r ∷ spans) s follow full at =
    let same : r ≡ s = cc at in
    let spare = spare-filled r spans full in
    let most : r.spare ≤ℤ pos (2 ^ 40) = omega (arith, ints, clamps, follow.2) in
    rw same at most
spare-small t (suc i) (r ∷ spans) s follow full at =
    spare-small r.end i spans s follow.4 (rest-filled r spans full) at
