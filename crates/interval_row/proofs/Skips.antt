-- Pages that are passed from a place on.
use Rattle.std.proofs.Common.{◌≡◌, ℕ, ◌+◌, ◌-◌, ◌*◌, ◌/◌, ◌%◌, ◌<◌, ◌≤◌, List, length, take, Some, inl, inr, sym, ◌∙◌, ap, arith}
use Rattle.std.specs.Prelude.{slice_get}
use Rattle.std.specs.List.{AllByRecursion}
use Rattle.std.proofs.lemmas.Bool.{cases_lt}
use Rattle.std.proofs.lemmas.Option.{same_Some, slice_get_within}
use Rattle.slot_core.specs.declared.jobs.Span.{Span}
use Rattle.spare_capacity.specs.Laws.{work_until}
use Rattle.spare_capacity.specs.Recurrence.{FollowOn, last_end}
use Rattle.interval_row.specs.declared.table.Front.{Front}
use Rattle.node_chain.specs.declared.marks.Mark.{Mark}
use Rattle.interval_row.specs.Changes.{ends_before}
use Rattle.interval_row.specs.Marks.{mark_index, works_in_page, IsMarked}
use Rattle.interval_row.specs.Tables.{works, IsFront}
use Rattle.interval_row.proofs.CutTimes.{ends_before-inside, ends_before-within, rises-at, start-at, work_until-last, work_until-next, work_until-page, works_before, works_before-first, ComesNext-at, IsBefore, IsBefore-page, IsFront-IsBefore, IsInLap}

-- a place whose span is the first that ends in its page
pub record Crosses (time : ℕ) (rows : List Span) (front : Front) (place : Span) : Type 0 where
  pub follow : FollowOn time rows
  pub is : IsFront rows front
  pub at : slice_get rows front.count ≡ Some place
  pub border : place.start / 64 < place.end / 64

pub late : {time : ℕ} {rows : List Span} {front : Front} {place : Span} → Crosses time rows front place → time ≤ place.start
late {time = time} {rows = rows} {front = front} {place = place} h = start-at time front.count rows place h.follow h.at

-- its front is what ends before that page
before-page : {time : ℕ} {rows : List Span} {front : Front} {place : Span} → Crosses time rows front place → IsBefore (place.end / 64 * 64) rows front
before-page {time = time} {rows = rows} {front = front} {place = place} h =
    let y = place.end / 64 * 64 in
    let count : ends_before y rows ≡ front.count = ends_before-inside time y front.count rows place h.follow h.at (omega (arith, h.border)) (omega arith) in
    record {
      count = sym count;
      works = h.is.works ∙ ap (λ n. works (take n rows)) (sym count) ∙ sym (works_before-first time y rows h.follow);
    }

-- the pages up to one are passed
pub record ArePassed (rows : List Span) (front now : Front) (place : Span) (until asked page : ℕ) : Type 0 where
  pub from : place.end / 64 ≤ page
  pub before : IsBefore (page * 64) rows now
  pub more : front.count ≤ now.count
  pub reached : place.end / 64 < page → page * 64 ≤ until
  pub room : (x : ℕ) → place.end ≤ x → x < page * 64 → asked + work_until rows x ≤ x

pub ArePassed-none : {time : ℕ} {rows : List Span} {front : Front} {place : Span} (until asked : ℕ) → Crosses time rows front place → ArePassed rows front front place until asked (place.end / 64)
ArePassed-none until asked h =
    record {
      from = omega arith;
      before = before-page h;
      more = omega arith;
      reached = λ l. absurd (omega (arith, l));
      room = λ x low high. absurd (omega (arith, low, high));
    }

pub ArePassed-next : {time : ℕ} {rows : List Span} {front now : Front} {place : Span} {until asked page : ℕ} (mark : Mark) → Crosses time rows front place → AllByRecursion (IsInLap time) rows → page < time / 64 + 512 → page < until / 64 → IsMarked time rows (page % 512) mark → 1 ≤ asked → asked + now.works ≤ mark.low → ArePassed rows front now place until asked page → ArePassed rows front (record { count = now.count + mark.count; works = now.works + mark.works }) place until asked (page + 1)
ArePassed-next {time = time} {rows = rows} {front = front} {now = now} {place = place} {until = until} {asked = asked} {page = page} mark h all lap within marked some enough passed =
    let after : time / 64 ≤ page = omega (arith, late h, h.border, passed.from) in
    record {
      from = omega (arith, passed.from);
      before = IsBefore-page time page rows now mark all after lap marked passed.before;
      more = omega (arith, passed.more);
      reached = λ l. omega (arith, within);
      room = λ x low high.
          elim (cases_lt x (page * 64)) [
            | inl early ↦ passed.room x low early
            | inr inside ↦
                let here : x / 64 ≡ page = omega (arith, inside, high) in
                let own : mark_index x ≡ page % 512 = ap (λ n. n % 512) here in
                let told = marked.low (omega (arith, some, enough)) x (omega (arith, late h, h.border, low)) own in
                let due : work_until rows x ≡ works_before (page * 64) rows + works_in_page x rows = work_until-page x rows ∙ ap (λ n. works_before (n * 64) rows + works_in_page x rows) here in
                omega (arith, told, due, passed.before.works, enough)
          ];
    }

-- where pages were passed, what is promised of the place that is told
pub record Skipped (rows : List Span) (front now : Front) (place : Span) (until asked : ℕ) : Type 0 where
  pub is : IsFront rows now
  pub later : front.count ≤ now.count
  pub within : now.count < length rows
  pub reached : (later : Span) → slice_get rows now.count ≡ Some later → front.count < now.count → later.start < until
  pub room : (later : Span) → slice_get rows now.count ≡ Some later → (x : ℕ) → place.end ≤ x → x < later.end → asked + work_until rows x ≤ x

-- nothing is passed
pub Skipped-none : (rows : List Span) (front : Front) (place : Span) (until asked : ℕ) → IsFront rows front → slice_get rows front.count ≡ Some place → Skipped rows front front place until asked
Skipped-none rows front place until asked is at =
    record {
      is = is;
      later = omega arith;
      within = slice_get_within rows front.count place at;
      reached = λ later here more. absurd (omega (arith, more));
      room = λ later here x low high.
          let same : later ≡ place = same_Some later place (sym here ∙ at) in
          absurd (omega (arith, low, high, ap (λ (s : Span). s.end) same));
    }

-- the place of the first page is still the same
still : {time : ℕ} {rows : List Span} {front now : Front} {place : Span} {until asked page : ℕ} → Crosses time rows front place → ArePassed rows front now place until asked page → page ≤ place.end / 64 → now.count ≡ front.count
still {rows = rows} {place = place} {page = page} h passed first =
    let same : page ≡ place.end / 64 = omega (arith, first, passed.from) in
    passed.before.count ∙ ap (λ n. ends_before (n * 64) rows) same ∙ sym (before-page h).count

pub Skipped-ArePassed : {time : ℕ} {rows : List Span} {front now : Front} {place : Span} {until asked page : ℕ} → Crosses time rows front place → until ≤ last_end time rows → ArePassed rows front now place until asked page → Skipped rows front now place until asked
Skipped-ArePassed {time = time} {rows = rows} {front = front} {now = now} {place = place} {until = until} {asked = asked} {page = page} h ends passed =
    let y = page * 64 in
    let after : time < y = omega (arith, late h, h.border, passed.from) in
    record {
      is = IsFront-IsBefore time y rows now h.follow passed.before;
      later = passed.more;
      within =
          elim (cases_lt (place.end / 64) page) [
            | inl more ↦ omega (arith, passed.before.count, ends_before-within time y rows h.follow after (omega (arith, passed.reached more, ends)))
            | inr first ↦ omega (arith, still h passed first, slice_get_within rows front.count place h.at)
          ];
      reached = λ later at more.
          elim (cases_lt (place.end / 64) page) [
            | inl further ↦
                let next = ComesNext-at time y rows later h.follow (rw passed.before.count at at) in
                omega (arith, next.starts after, passed.reached further)
            | inr first ↦ absurd (omega (arith, more, still h passed first))
          ];
      room = λ later at x low high.
          elim (cases_lt x y) [
            | inl early ↦ passed.room x low early
            | inr reached ↦
                elim (cases_lt (place.end / 64) page) [
                  | inl more ↦
                      let due = work_until-next time y x rows later h.follow (rw passed.before.count at at) reached high in
                      let last = work_until-last y rows (omega (arith, after)) in
                      omega (arith, due, last, passed.room (y - 1) (omega (arith, more)) (omega (arith, after)), reached)
                  | inr first ↦
                      let same : later ≡ place = same_Some later place (sym at ∙ ap (slice_get rows) (still h passed first) ∙ h.at) in
                      absurd (omega (arith, low, high, ap (λ (s : Span). s.end) same))
                ]
          ];
    }

-- a place whose span reaches another page than it starts in
pub crosses : {time : ℕ} {rows : List Span} {front : Front} {place : Span} → FollowOn time rows → IsFront rows front → slice_get rows front.count ≡ Some place → (place.start / 64 ≡ place.end / 64 → ⊥) → Crosses time rows front place
crosses {time = time} {rows = rows} {front = front} {place = place} follow is at other =
    record { follow = follow; is = is; at = at; border = omega (arith, rises-at time front.count rows place follow at, other) }
