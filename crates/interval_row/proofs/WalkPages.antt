-- Walks that go back page by page.
use Rattle.std.proofs.Common.{◌≡◌, ℕ, zero, suc, ◌+◌, ◌-◌, ◌*◌, ◌/◌, ◌%◌, ◌<◌, ◌≤◌, ℤ, List, [], ◌∷◌, length, get_or, drop, Some, inl, inr, ap, subst, sym, ◌∙◌, arith}
use Rattle.std.specs.Prelude.{slice_get, IfSome}
use Rattle.std.proofs.lemmas.Bool.{cases_lt}
use Rattle.std.proofs.lemmas.Option.{same_Some, slice_get-get_or, slice_get_within}
use Rattle.slot_core.specs.declared.jobs.Span.{Span}
use Rattle.node_chain.specs.declared.marks.Mark.{Mark}
use Rattle.spare_capacity.specs.Recurrence.{first_start, FollowOn}
use Rattle.spare_capacity.proofs.Steps.{no_row}
use Rattle.interval_row.specs.Changes.{ends_before}
use Rattle.interval_row.specs.Lifts.{AreAtMost}
use Rattle.interval_row.specs.Marks.{page_of}
use Rattle.interval_row.specs.Spans.{AreFilled}
use Rattle.interval_row.specs.Walks.{after_walk, others_between, AreInPages, HaveAtMost, IsPageOf}
use Rattle.interval_row.specs.declared.walk_back.Walk.{Walk}
use Rattle.interval_row.proofs.CutTimes.{ends_before-ended, ends_before-inside, ends_before-later, ends_before-start, rises-at, start-at}
use Rattle.interval_row.proofs.PageWalks.{ends_before-walks, follows-walk, meets, AreAtMost-others, AreAtPage-walk}
use Rattle.interval_row.proofs.WalkBack.{length-walked}

-- all spans up to one that ends before a time do
pub ends_before-past : (start y k : ℕ) (rows : List Span) (s : Span) → FollowOn start rows → slice_get rows k ≡ Some s → s.end < y → k < ends_before y rows
ends_before-past start y k [] s follow at early = absurd (omega (arith, slice_get_within [] k s at))
ends_before-past start y zero (r ∷ rs) s follow at early =
    omega (arith, ends_before-ended y r rs (omega (arith, early, ap (λ (t : Span). t.end) (same_Some r s at))))
ends_before-past start y (suc k) (r ∷ rs) s follow at early =
    let first : r.end < y = omega (arith, early, start-at r.end k rs s follow.4 at, rises-at r.end k rs s follow.4 at) in
    omega (arith, ends_before-ended y r rs first, ends_before-past r.end y k rs s follow.4 at early)

-- and no more do than stand before one that reaches it
pub ends_before-short : (start y k : ℕ) (rows : List Span) (s : Span) → FollowOn start rows → slice_get rows k ≡ Some s → y ≤ s.end → ends_before y rows ≤ k
ends_before-short start y k [] s follow at late = absurd (omega (arith, slice_get_within [] k s at))
ends_before-short start y zero (r ∷ rs) s follow at late =
    let reached : y ≤ r.end = omega (arith, late, ap (λ (t : Span). t.end) (same_Some r s at)) in
    omega (arith, ends_before-later y r rs reached, ends_before-start r.end y rs follow.4 reached)
ends_before-short start y (suc k) (r ∷ rs) s follow at late =
    let rest = ends_before-short r.end y k rs s follow.4 at late in
    elim (cases_lt r.end y) [
      | inl early ↦ omega (arith, ends_before-ended y r rs early, rest)
      | inr reached ↦ omega (arith, ends_before-later y r rs reached, rest)
    ]

-- what holds of a span, where there is one
pub IfSome-at : (rows : List Span) (k : ℕ) (P : Span → Type 0) → k < length rows → IfSome (slice_get rows k) P → P (get_or rows k no_row)
IfSome-at rows k P within holds = subst (λ o. IfSome o P) (slice_get-get_or rows k no_row within) holds

-- walks to the same end go through as many spans
pub length-walks : (walk from : Walk) (new rows : List Span) → after_walk walk new ≡ after_walk from rows → length new ≡ length rows
length-walks walk from new rows same =
    sym (length-walked walk.more walk.index new) ∙ ap length same ∙ length-walked from.more from.index rows

-- the last of the spans that are yet to follow ends in a page
pub record EndsInPage (walk : Walk) (page : ℕ) (rows : List Span) : Type 0 where
  pub some : ends_before (page * 64) rows < walk.index
  pub place : walk.index ≤ ends_before ((page + 1) * 64) rows

-- it does so in that in which the span after it starts
pub EndsInPage-start : (walk : Walk) (page : ℕ) (rows : List Span) → AreFilled (after_walk walk rows) → 0 < walk.index → walk.index < length rows → page_of (get_or rows walk.index no_row).start ≡ page → EndsInPage walk page rows
EndsInPage-start walk page rows are some within starts =
    let start = first_start rows in
    let follow = follows-walk walk rows are in
    let k = walk.index - 1 in
    let s = get_or rows k no_row in
    let t = get_or rows walk.index no_row in
    let next : walk.index ≡ suc k = omega (arith, some) in
    let at : slice_get rows k ≡ Some s = slice_get-get_or rows k no_row (omega (arith, some, within)) in
    let after : slice_get rows (suc k) ≡ Some t = ap (slice_get rows) (sym next) ∙ slice_get-get_or rows walk.index no_row within in
    let ends = meets start k rows s t follow at after in
    record {
      some = omega (arith, some, ends_before-short start (page * 64) k rows s follow at (omega (arith, ends, starts)));
      place = omega (arith, some, ends_before-past start ((page + 1) * 64) k rows s follow at (omega (arith, ends, starts)));
    }

-- all spans of a page have followed where the first of all has, and ends in it or later
pub ends_before-front : (walk : Walk) (page : ℕ) (rows : List Span) → AreFilled (after_walk walk rows) → walk.index ≡ 0 → walk.index < length rows → page * 64 ≤ (get_or rows walk.index no_row).end → walk.index ≡ ends_before (page * 64) rows
ends_before-front walk page rows are none within reached =
    let t = get_or rows walk.index no_row in
    let at : slice_get rows 0 ≡ Some t = ap (slice_get rows) (sym none) ∙ slice_get-get_or rows walk.index no_row within in
    omega (arith, none, ends_before-short (first_start rows) (page * 64) 0 rows t (follows-walk walk rows are) at reached)

-- and where the last that has starts before it
pub ends_before-across : (walk : Walk) (page : ℕ) (rows : List Span) → AreFilled (after_walk walk rows) → walk.index < length rows → (get_or rows walk.index no_row).start < page * 64 → page * 64 ≤ (get_or rows walk.index no_row).end → walk.index ≡ ends_before (page * 64) rows
ends_before-across walk page rows are within low reached =
    let at = slice_get-get_or rows walk.index no_row within in
    sym (ends_before-inside (first_start rows) (page * 64) walk.index rows (get_or rows walk.index no_row) (follows-walk walk rows are) at low reached)

-- a bound on all spans of a page that have followed, but the first of all
pub AreAtMost-followed : (walk from : Walk) (page : ℕ) (high : ℤ) (new rows : List Span) (marks : List Mark) → AreInPages (after_walk from rows) marks → IsPageOf (after_walk from rows) page → from.index ≡ ends_before ((page + 1) * 64) rows → after_walk walk new ≡ after_walk from rows → walk.index < from.index → walk.index ≡ ends_before (page * 64) new → HaveAtMost high (others_between walk.index from.index new) → AreAtMost (page % 512) high (drop 1 new)
AreAtMost-followed walk from page high new rows marks pages is place same before here up =
    let at = AreAtPage-walk walk page new marks (subst (λ xs. AreInPages xs marks) (sym same) pages) (subst (λ xs. IsPageOf xs page) (sym same) is) in
    let count : ends_before ((page + 1) * 64) new ≡ from.index = ends_before-walks ((page + 1) * 64) walk from new rows same ∙ sym place in
    let ups : HaveAtMost high (others_between (ends_before (page * 64) new) from.index new) = rw here at up in
    AreAtMost-others (first_start new) (first_start new) page from.index high new at.is at.follow at.lap (omega (arith, before, here)) count ups

-- what a span tells of the page in which it ends, and from where it starts
pub EndsInPage-rest : (walk : Walk) (page from : ℕ) (rows : List Span) → AreFilled (after_walk walk rows) → 0 < walk.index → walk.index < length rows → IfSome (slice_get rows walk.index) (λ s. (s.start ≡ from) × (page_of s.end ≡ page)) → page ≤ from / 64 → EndsInPage walk page rows
EndsInPage-rest walk page from rows are some within holds late =
    let t = get_or rows walk.index no_row in
    let is = IfSome-at rows walk.index (λ s. (s.start ≡ from) × (page_of s.end ≡ page)) within holds in
    let rises = rises-at (first_start rows) walk.index rows t (follows-walk walk rows are) (slice_get-get_or rows walk.index no_row within) in
    EndsInPage-start walk page rows are some within (omega (arith, is.0, is.1, rises, late))
