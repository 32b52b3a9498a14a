-- Tables read span by span.
use Rattle.std.proofs.Common.{◌≡◌, ℕ, suc, ◌+◌, ◌^◌, ◌<◌, ◌≤◌, pos, ◌≤ℤ◌, List, length, take, Option, Some, None, max, sym, ap, ◌∙◌, subst, inl, inr, arith}
use Rattle.std.specs.Prelude.{slice_get, IfSome, MatchOption}
use Rattle.std.proofs.lemmas.Bool.{cases_lt}
use Rattle.std.proofs.lemmas.List.{take_all}
use Rattle.std.proofs.lemmas.Option.{slice_get_within}
use Rattle.slot_core.specs.declared.jobs.Span.{Span}
use Rattle.spare_capacity.specs.Laws.{work_until}
use Rattle.spare_capacity.specs.Recurrence.{last_end, FollowOn}
use Rattle.interval_row.specs.declared.table.Front.{Front}
use Rattle.interval_row.specs.declared.table.Spot.{Spot}
use Rattle.interval_row.specs.Changes.{ends_before}
use Rattle.interval_row.specs.Tables.{works, IsFront, IsTable}
use Rattle.interval_row.proofs.CutTimes.{ends_before-within}
use Rattle.interval_row.proofs.ShortTimes.{last-at, next-at, order-at, works-next, works-small}
use Rattle.guarantee.specs.declared.walk.SpanPlace.{SpanPlace}
use Rattle.guarantee.specs.Places.{IsPlace, MayPass}
use Rattle.guarantee.proofs.Places.{spare-small, Stands, Stands-at, work_until-small}
use Rattle.guarantee.proofs.Segments.{Looks, Looks-end, Looks-inside}

-- what is known of a place in a table
pub record IsSeen (t : ℕ) (spans : List Span) (place : SpanPlace) : Type 0 where
  pub at : slice_get spans place.index ≡ Some place.span
  pub due : place.due ≡ works (take place.index spans)
  pub few : place.index ≤ 2 ^ 20
  pub small : place.due ≤ 2 ^ 60
  pub stands : Stands t spans place.span
  pub short : place.span.spare ≤ℤ pos (2 ^ 40)

pub IsSeen-place : {t limit : ℕ} {spans : List Span} {place : SpanPlace} → IsTable t spans limit → IsPlace spans place → IsSeen t spans place
IsSeen-place {t = t} {spans = spans} {place = place} table is =
    let few : place.index ≤ 2 ^ 20 = omega (arith, is.within, table.few, table.small) in
    record {
      at = is.span;
      due = is.due;
      few = few;
      small = omega (arith, is.due, works-small t place.index spans table.consecutive, table.few, table.small);
      stands = Stands-at t place.index spans place.span table.consecutive is.span;
      short = spare-small t place.index spans place.span table.consecutive table.filled is.span;
    }

-- it ends from the time on, and no later than the last end
pub place-end : {t limit : ℕ} {spans : List Span} {place : SpanPlace} → IsTable t spans limit → IsPlace spans place → (t ≤ place.span.end) × (place.span.end ≤ last_end t spans)
place-end table is =
    let stands = (IsSeen-place table is).stands in
    (omega (arith, stands.after, stands.rising), stands.within)

-- what is due by a time in a table is small
pub due-small : (t limit x : ℕ) (spans : List Span) → IsTable t spans limit → work_until spans x ≤ 2 ^ 60
due-small t limit x spans table =
    omega (arith, work_until-small t x spans table.consecutive, table.few, table.small)

-- the place of the next span
pub IsPlace-later : (spans : List Span) (place : SpanPlace) (at : Spot) (s : Span) → IsPlace spans place → at.0 ≡ place.index + 1 → slice_get spans (place.index + 1) ≡ Some s → IsPlace spans (record { at = at; index = place.index + 1; span = s; due = place.due + place.span.work })
IsPlace-later spans place at s is spot span =
    record {
      within = omega (arith, slice_get_within spans (place.index + 1) s span);
      spot = spot;
      span = span;
      due = omega (arith, is.due, works-next place.index spans place.span is.span);
    }

-- it starts where the span before it ends
pub later-start : (t : ℕ) (spans : List Span) (place later : SpanPlace) → FollowOn t spans → IsPlace spans place → IsPlace spans later → later.index ≡ place.index + 1 → later.span.start ≡ place.span.end
later-start t spans place later follow is next more =
    let here : later.index ≡ suc place.index = omega arith in
    next-at t place.index spans place.span later.span follow is.span (sym (ap (slice_get spans) here) ∙ next.span)

-- the last span ends at the last end, and its work makes up all works
pub last-ends : (t : ℕ) (spans : List Span) (place : SpanPlace) → IsPlace spans place → place.index + 1 ≡ length spans → place.span.end ≡ last_end t spans
last-ends t spans place is last =
    last-at t place.index spans place.span is.span (omega arith)

last-works : (spans : List Span) (place : SpanPlace) → IsPlace spans place → place.index + 1 ≡ length spans → place.due + place.span.work ≡ works spans
last-works spans place is last =
    let all : length spans ≤ place.index + 1 = omega arith in
    let whole : works (take (place.index + 1) spans) ≡ works spans = ap works (take_all (place.index + 1) spans all) in
    omega (arith, is.due, works-next place.index spans place.span is.span)

-- the search looks at the times of the span at a place
pub Looks-place : {t limit : ℕ} {spans : List Span} {place : SpanPlace} (slots now first : ℕ) → IsTable t spans limit → IsPlace spans place → now ≡ t → place.span.start ≤ first → Looks spans t slots now (slots + place.due) first place.span.end
Looks-place {t = t} {spans = spans} {place = place} slots now first table is time low =
    Looks-inside spans t slots now (slots + place.due) first place.index place.span table.consecutive is.span time (omega (arith, is.due)) low

-- and at the last end, where the place is the last
pub Looks-over : {t limit : ℕ} {spans : List Span} {place : SpanPlace} (slots now first until : ℕ) → IsTable t spans limit → IsPlace spans place → place.index + 1 ≡ length spans → now ≡ t → last_end t spans ≤ first → until ≡ last_end t spans + 1 → Looks spans t slots now (slots + (place.due + place.span.work)) first until
Looks-over {t = t} {spans = spans} {place = place} slots now first until table is last time low all =
    Looks-end spans t slots now (slots + (place.due + place.span.work)) first until table.consecutive time (omega (arith, last-works spans place is last)) low all

-- a place of a later index starts no earlier than this one ends
pub later-after : (t : ℕ) (spans : List Span) (place later : SpanPlace) → FollowOn t spans → IsPlace spans place → IsPlace spans later → place.index < later.index → place.span.end ≤ later.span.start
later-after t spans place later follow is there more =
    order-at t place.index later.index spans place.span later.span follow is.span there.span more

-- no more spans than end before a time up to the last end are not all
pub near-within : (t x count : ℕ) (spans : List Span) → FollowOn t spans → t < x → x ≤ last_end t spans → count ≤ ends_before x spans → count < length spans
near-within t x count spans follow after within few =
    omega (arith, few, ends_before-within t x spans follow after within)

-- a place is after the spans before it
pub IsFront-place : (spans : List Span) (place : SpanPlace) (front : Front) → IsPlace spans place → front ≡ record { count = place.index; works = place.due } → IsFront spans front
IsFront-place spans place front is same =
    rw same (record {
      few = omega (arith, is.within);
      works = is.due;
    })

-- what holds of the end of a place holds of the start of the next span
pub next-start : (t : ℕ) (spans : List Span) (place : SpanPlace) (later : Option SpanPlace) (P : ℕ → Type 0) → FollowOn t spans → IsPlace spans place → MatchOption later (place.index + 1 ≡ length spans) (λ l. l.index ≡ place.index + 1) → IfSome later (λ l. IsPlace spans l) → P place.span.end → IfSome later (λ l. P l.span.start)
next-start t spans place None P follow is last there here = tt
next-start t spans place (Some later) P follow is last there here =
    subst P (sym (later-start t spans place later follow is there last)) here

-- what holds of it, and of the start of the span after those that are passed, holds of the start of
-- the place that is reached
pub past-start : (t count : ℕ) (spans : List Span) (place : SpanPlace) (later : Option SpanPlace) (P : ℕ → Type 0) → FollowOn t spans → IsPlace spans place → IfSome later (λ l. IsPlace spans l) → IfSome later (λ l. l.index ≡ max (place.index + 1) count) → place.index ≤ count → ((s : Span) → slice_get spans count ≡ Some s → P s.start) → P place.span.end → IfSome later (λ l. P l.span.start)
past-start t count spans place None P follow is there index few passed here = tt
past-start t count spans place (Some later) P follow is there index few passed here =
    elim (cases_lt place.index count) [
      | inl more ↦
          let same : count ≡ later.index = omega (arith, index) in
          passed later.span (ap (slice_get spans) same ∙ there.span)
      | inr none ↦
          let next : later.index ≡ place.index + 1 = omega (arith, index) in
          subst P (sym (later-start t spans place later follow is there next)) here
    ]

-- up to the start of a span that is reached there is room
pub MayPass-reached : (t asked until count : ℕ) (spans : List Span) (place : SpanPlace) (s : Span) → FollowOn t spans → IsPlace spans place → slice_get spans count ≡ Some s → place.index ≤ count → (place.index < count → s.start < until) → ((x : ℕ) → place.span.end ≤ x → x < s.end → asked + work_until spans x ≤ x) → MayPass spans asked until place.span.end s.start
MayPass-reached t asked until count spans place s follow is at few reached room =
    let stands = Stands-at t count spans s follow at in
    elim (cases_lt place.index count) [
      | inl more ↦
          let early = reached more in
          record {
            before = λ x low high. omega (arith, early);
            room = λ x low high. room x low (omega (arith, stands.rising));
          }
      | inr none ↦
          let here : place.index ≡ count = omega arith in
          let same : place.span ≡ s = cc (sym is.span ∙ ap (slice_get spans) here ∙ at) in
          let back : s.start ≤ place.span.end = subst (λ (q : Span). s.start ≤ q.end) (sym same) stands.rising in
          record {
            before = λ x low high. absurd (omega arith);
            room = λ x low high. absurd (omega arith);
          }
    ]

-- the next place is a later one
pub later-more : (place : SpanPlace) (count : ℕ) (later : Option SpanPlace) → MatchOption later (place.index + 1 ≡ count) (λ l. l.index ≡ place.index + 1) → MatchOption later (place.index + 1 ≡ count) (λ l. place.index < l.index)
later-more place count None is = is
later-more place count (Some later) is = omega arith
