-- Marks stay those of the spans where these change.
use Rattle.std.proofs.Common.{◌≡◌, ℕ, zero, suc, ◌+◌, ◌-◌, ◌*◌, ◌%◌, ◌<◌, ◌≤◌, ◌^◌, ◌&&◌, Bool, true, false, cond, eqb, leb, List, [], ◌∷◌, ◌++◌, length, get_or, set, drop, Some, IfSome, inl, inr, refl, sym, subst, ◌∙◌, ap, arith}
use Rattle.std.specs.Prelude.{sum_by, slice_get}
use Rattle.std.specs.List.{AllByRecursion}
use Rattle.std.proofs.lemmas.Bool.{cases_eq, cases_lt, cond_both, and_left, and_right, eq-eqb, eqb-true, ne_eqb, lt-leb}
use Rattle.std.proofs.lemmas.Grind.{get_or-set_at}
use Rattle.std.proofs.lemmas.List.{get_or-set_other, length-set}
use Rattle.std.proofs.lemmas.List.Sums.{count_by-le-length, sum_by-cons, sum_by-le-sum_by, sum_by-set, sum_by_push}
use Rattle.std.proofs.lemmas.Option.{get_or_from_slice_get, same_Some, slice_get-get_or, slice_get_within}
use Rattle.slot_core.specs.declared.jobs.Span.{Span}
use Rattle.spare_capacity.specs.Recurrence.{filled, first_spare, with_spare, FollowOn}
use Rattle.spare_capacity.proofs.Steps.{no_row}
use Rattle.node_chain.specs.Laps.{blank_mark}
use Rattle.node_chain.specs.declared.marks.Mark.{Mark}
use Rattle.interval_row.specs.declared.spans.Change.{Change}
use Rattle.interval_row.specs.declared.spans.Change.TheVariants.{More, Fewer}
use Rattle.interval_row.specs.Changes.{cut, part_before, part_from}
use Rattle.interval_row.specs.Marks.{first_mark, count_at, mark_index, page_of, passed, with_change, with_cut, with_end, without_end, works_at, works_in_page, AreMarked, IsMarked}
use Rattle.interval_row.specs.Spans.{place_of, with_work_at, HoldsInside}
use Rattle.interval_row.specs.Works.{changed_by, MayChangeBy}
use Rattle.interval_row.proofs.Cuts.{cut-halved, halved}
use Rattle.interval_row.proofs.Works.{set-with_work_at}

-- a sum over the ends and the works of spans
abbrev pub of_all : (ℕ → ℕ → ℕ) → List Span → ℕ
of_all g spans = sum_by (λ (s : Span). g s.end s.work) spans

pub of_all-cons : (g : ℕ → ℕ → ℕ) (s : Span) (ss : List Span) → of_all g (s ∷ ss) ≡ g s.end s.work + of_all g ss
of_all-cons g s ss = sum_by-cons (λ (t : Span). g t.end t.work) s ss

-- capacities leave it
pub of_all-filled : (g : ℕ → ℕ → ℕ) (rows : List Span) → of_all g (filled rows) ≡ of_all g rows
of_all-filled g [] = refl
of_all-filled g (s ∷ ss) =
    of_all-cons g (with_spare s (first_spare (filled ss))) (filled ss) ∙ ap (λ n. g s.end s.work + n) (of_all-filled g ss) ∙ sym (of_all-cons g s ss)

-- spans with one more, as far as ends and works tell
pub record Gains (rows new : List Span) (end work : ℕ) : Type 0 where
  pub sums : (g : ℕ → ℕ → ℕ) → of_all g new ≡ of_all g rows + g end work

-- spans with another work at one end
pub record Moves (rows new : List Span) (end work other : ℕ) : Type 0 where
  pub sums : (g : ℕ → ℕ → ℕ) → of_all g new + g end work ≡ of_all g rows + g end other

-- spans with the same ends and works
pub record Stays (rows new : List Span) : Type 0 where
  pub sums : (g : ℕ → ℕ → ℕ) → of_all g new ≡ of_all g rows

pub Gains-push : (rows : List Span) (s : Span) → Gains rows (rows ++ s ∷ []) s.end s.work
Gains-push rows s = record { sums = λ g. sum_by_push (λ (t : Span). g t.end t.work) rows s }

pub Gains-filled : {rows new : List Span} {end work : ℕ} → Gains rows new end work → Gains rows (filled new) end work
Gains-filled {new = new} h = record { sums = λ g. of_all-filled g new ∙ h.sums g }

pub Moves-filled : {rows new : List Span} {end work other : ℕ} → Moves rows new end work other → Moves rows (filled new) end work other
Moves-filled {new = new} {end = end} {work = work} h = record { sums = λ g. ap (λ n. n + g end work) (of_all-filled g new) ∙ h.sums g }

-- the first span is one more than the others
pub Gains-drop : (rows : List Span) (span : Span) → slice_get rows 0 ≡ Some span → Gains (drop 1 rows) rows span.end span.work
Gains-drop [] span at = absurd (omega (arith, slice_get_within [] 0 span at))
Gains-drop (s ∷ ss) span at =
    let same : s ≡ span = same_Some s span at in
    subst (λ (t : Span). Gains ss (s ∷ ss) t.end t.work) same (record { sums = λ g. omega (arith, of_all-cons g s ss) })

-- a span that starts later
pub Stays-set : (rows : List Span) (span new : Span) → slice_get rows 0 ≡ Some span → new.end ≡ span.end → new.work ≡ span.work → Stays rows (set rows 0 new)
Stays-set rows span new at end work =
    let is = get_or_from_slice_get rows 0 span no_row at in
    let within = slice_get_within rows 0 span at in
    record {
      sums = λ g.
          let put = sum_by-set (λ (t : Span). g t.end t.work) rows 0 new no_row within in
          let old : g (get_or rows 0 no_row).end (get_or rows 0 no_row).work ≡ g span.end span.work = ap (λ (t : Span). g t.end t.work) is in
          let now : g new.end new.work ≡ g span.end span.work = ap (λ n. g n new.work) end ∙ ap (g span.end) work in
          omega (arith, put, old, now);
    }

-- a cut span
Gains-halved : (place at : ℕ) (rows : List Span) → HoldsInside at place rows → Gains rows (halved place at rows) at 0
Gains-halved place at [] inside = elim inside [ ]
Gains-halved zero at (s ∷ ss) inside =
    record { sums = λ g. omega (arith, of_all-cons g (part_before at s) (part_from at s ∷ ss), of_all-cons g (part_from at s) ss, of_all-cons g s ss) }
Gains-halved (suc place) at (s ∷ ss) inside =
    let rest = Gains-halved place at ss inside in
    record { sums = λ g. omega (arith, of_all-cons g s (halved place at ss), of_all-cons g s ss, rest.sums g) }

pub Gains-cut : (start at place : ℕ) (rows : List Span) → FollowOn start rows → place ≡ place_of at rows → HoldsInside at place rows → Gains rows (cut at rows) at 0
Gains-cut start at place rows follow found inside =
    subst (λ xs. Gains rows xs at 0) (sym (cut-halved start at place rows follow found inside)) (Gains-halved place at rows inside)

-- another work of the span at a place
pub Moves-with_work_at : (rows : List Span) (place work : ℕ) (span : Span) → slice_get rows place ≡ Some span → Moves rows (with_work_at place work rows) span.end span.work work
Moves-with_work_at rows place work span at =
    let is = get_or_from_slice_get rows place span no_row at in
    let within = slice_get_within rows place span at in
    let worked = record (get_or rows place no_row) { work = work } in
    let put = set-with_work_at place work rows within in
    record {
      sums = λ g.
          let old : g (get_or rows place no_row).end (get_or rows place no_row).work ≡ g span.end span.work = ap (λ (t : Span). g t.end t.work) is in
          let now : g (get_or rows place no_row).end work ≡ g span.end work = ap (λ (t : Span). g t.end work) is in
          let all : of_all g (set rows place worked) ≡ of_all g (with_work_at place work rows) = ap (of_all g) put in
          omega (arith, sum_by-set (λ (t : Span). g t.end t.work) rows place worked no_row within, old, now, all);
    }

-- what one span adds to the numbers of a mark, and to the works of a page
abbrev counts : ℕ → ℕ → ℕ → ℕ
counts j end work = cond (eqb (mark_index end) j) 1 0

abbrev works : ℕ → ℕ → ℕ → ℕ
works j end work = cond (eqb (mark_index end) j) work 0

abbrev in_page : ℕ → ℕ → ℕ → ℕ
in_page x end work = cond (eqb (page_of end) (page_of x) && leb end x) work 0

counts-own : (j end work : ℕ) → mark_index end ≡ j → counts j end work ≡ 1
counts-own j end work own = ap (λ b. cond b 1 0) (eq-eqb (mark_index end) j own)

counts-other : (j end work : ℕ) → (mark_index end ≡ j → ⊥) → counts j end work ≡ 0
counts-other j end work other = ap (λ b. cond b 1 0) (ne_eqb (mark_index end) j other)

works-own : (j end work : ℕ) → mark_index end ≡ j → works j end work ≡ work
works-own j end work own = ap (λ b. cond b work 0) (eq-eqb (mark_index end) j own)

works-other : (j end work : ℕ) → (mark_index end ≡ j → ⊥) → works j end work ≡ 0
works-other j end work other = ap (λ b. cond b work 0) (ne_eqb (mark_index end) j other)

in_page-other : (x end work : ℕ) → (mark_index end ≡ mark_index x → ⊥) → in_page x end work ≡ 0
in_page-other x end work other =
    ap (λ b. cond b work 0) (and_left (eqb (page_of end) (page_of x)) (leb end x) (ne_eqb (page_of end) (page_of x) (λ same. other (ap (λ n. n % 512) same))))

in_page-early : (x end work : ℕ) → x < end → in_page x end work ≡ 0
in_page-early x end work early =
    ap (λ b. cond b work 0) (and_right (eqb (page_of end) (page_of x)) (leb end x) (lt-leb end x early))

-- more work adds at most so much to a page
cond-more : (b : Bool) (work other more : ℕ) → other ≤ work + more → cond b other 0 ≤ cond b work 0 + more
cond-more true work other more few = few
cond-more false work other more few = omega arith

in_page-more : (x end work other more : ℕ) → other ≤ work + more → in_page x end other ≤ in_page x end work + more
in_page-more x end work other more few = cond-more (eqb (page_of end) (page_of x) && leb end x) work other more few

cond-whole : (b : Bool) (work : ℕ) → cond b work 0 ≤ work
cond-whole true work = omega arith
cond-whole false work = omega arith

-- a page has no more work than its mark
page-in-mark : (x j end work : ℕ) → mark_index x ≡ j → in_page x end work ≤ works j end work
page-in-mark x j end work of =
    elim (cases_eq (mark_index end) j) [
      | inl own ↦ omega (arith, works-own j end work own, cond-whole (eqb (page_of end) (page_of x) && leb end x) work)
      | inr other ↦ omega (arith, in_page-other x end work (λ same. other (same ∙ of)))
    ]

pub works_in_page-le : (x j : ℕ) (spans : List Span) → mark_index x ≡ j → works_in_page x spans ≤ works_at j spans
works_in_page-le x j spans of =
    sum_by-le-sum_by (λ (s : Span). in_page x s.end s.work) (λ (s : Span). works j s.end s.work) spans (λ s. page-in-mark x j s.end s.work of)

-- spans that are the same for a mark
record Agrees (j : ℕ) (rows new : List Span) : Type 0 where
  count : count_at j new ≡ count_at j rows
  works : works_at j new ≡ works_at j rows
  pages : (x : ℕ) → mark_index x ≡ j → works_in_page x new ≡ works_in_page x rows

Agrees-Gains : {rows new : List Span} {end work : ℕ} (j : ℕ) → Gains rows new end work → (mark_index end ≡ j → ⊥) → Agrees j rows new
Agrees-Gains {end = end} {work = work} j h other =
    record {
      count = omega (arith, h.sums (counts j), counts-other j end work other);
      works = omega (arith, h.sums (works j), works-other j end work other);
      pages = λ x of. omega (arith, h.sums (in_page x), in_page-other x end work (λ same. other (same ∙ of)));
    }

Agrees-Moves : {rows new : List Span} {end work to : ℕ} (j : ℕ) → Moves rows new end work to → (mark_index end ≡ j → ⊥) → Agrees j rows new
Agrees-Moves {end = end} {work = work} {to = to} j h other =
    record {
      count = omega (arith, h.sums (counts j), counts-other j end work other, counts-other j end to other);
      works = omega (arith, h.sums (works j), works-other j end work other, works-other j end to other);
      pages = λ x of. omega (arith, h.sums (in_page x), in_page-other x end work (λ same. other (same ∙ of)), in_page-other x end to (λ same. other (same ∙ of)));
    }

Agrees-back : {j : ℕ} {rows new : List Span} → Agrees j rows new → Agrees j new rows
Agrees-back h = record { count = sym h.count; works = sym h.works; pages = λ x of. sym (h.pages x of) }

-- keep it
IsMarked-Agrees : {time : ℕ} {rows new : List Span} {j : ℕ} {mark : Mark} → Agrees j rows new → IsMarked time rows j mark → IsMarked time new j mark
IsMarked-Agrees same h =
    record {
      count = h.count ∙ sym same.count;
      works = h.works ∙ sym same.works;
      low = λ some x late of. omega (arith, h.low some x late of, same.pages x of);
    }

-- a span more
IsMarked-gained : (time : ℕ) (rows new : List Span) (end work : ℕ) (mark : Mark) → Gains rows new end work → IsMarked time rows (mark_index end) mark → IsMarked time new (mark_index end) (with_end end work mark)
IsMarked-gained time rows new end work mark gains h =
    let j = mark_index end in
    let all : mark.works + work ≡ works_at j new = omega (arith, gains.sums (works j), works-own j end work refl, h.works) in
    record {
      count = omega (arith, gains.sums (counts j), counts-own j end work refl, h.count);
      works = all;
      low = λ some x late of.
          elim (cases_lt x end) [
            | inl early ↦
                omega (arith, h.low (omega (arith, some)) x late of, gains.sums (in_page x), in_page-early x end work early)
            | inr reached ↦ omega (arith, some, works_in_page-le x j new of, all)
          ];
    }

-- a span less
IsMarked-lost : (time : ℕ) (rows new : List Span) (end work : ℕ) (mark : Mark) → Gains new rows end work → IsMarked time rows (mark_index end) mark → IsMarked time new (mark_index end) (without_end work mark)
IsMarked-lost time rows new end work mark gains h =
    let j = mark_index end in
    record {
      count = omega (arith, gains.sums (counts j), counts-own j end work refl, h.count);
      works = omega (arith, gains.sums (works j), works-own j end work refl, h.works);
      low = λ some x late of. omega (arith, h.low some x late of, gains.sums (in_page x));
    }

-- a span more, without work
IsMarked-cut : (time : ℕ) (rows new : List Span) (at : ℕ) (mark : Mark) → Gains rows new at 0 → IsMarked time rows (mark_index at) mark → IsMarked time new (mark_index at) (with_cut mark)
IsMarked-cut time rows new at mark gains h =
    let j = mark_index at in
    record {
      count = omega (arith, gains.sums (counts j), counts-own j at 0 refl, h.count);
      works = omega (arith, gains.sums (works j), works-own j at 0 refl, h.works);
      low = λ some x late of. omega (arith, h.low some x late of, gains.sums (in_page x), cond-whole (eqb (page_of at) (page_of x) && leb at x) 0);
    }

-- another work
IsMarked-changed : (time : ℕ) (rows new : List Span) (end work : ℕ) (change : Change) (mark : Mark) → Moves rows new end work (changed_by change work) → MayChangeBy change work → IsMarked time rows (mark_index end) mark → IsMarked time new (mark_index end) (with_change change mark)
IsMarked-changed time rows new end work (More slots) mark moves may h =
    let j = mark_index end in
    record {
      count = omega (arith, moves.sums (counts j), counts-own j end work refl, counts-own j end (work + slots) refl, h.count);
      works = omega (arith, moves.sums (works j), works-own j end work refl, works-own j end (work + slots) refl, h.works);
      low = λ some x late of.
          omega (arith, some, h.low (omega (arith, some)) x late of, moves.sums (in_page x), in_page-more x end work (work + slots) slots (omega arith));
    }
IsMarked-changed time rows new end work (Fewer slots) mark moves may h =
    let j = mark_index end in
    record {
      count = omega (arith, moves.sums (counts j), counts-own j end work refl, counts-own j end (work - slots) refl, h.count);
      works = omega (arith, may, moves.sums (works j), works-own j end work refl, works-own j end (work - slots) refl, h.works);
      low = λ some x late of.
          omega (arith, h.low some x late of, moves.sums (in_page x), in_page-more x end work (work - slots) 0 (omega arith));
    }

-- a later time asks less
IsMarked-later : {time later : ℕ} {rows : List Span} {j : ℕ} {mark : Mark} → time ≤ later → IsMarked time rows j mark → IsMarked later rows j mark
IsMarked-later after h =
    record { count = h.count; works = h.works; low = λ some x late of. h.low some x (omega (arith, after, late)) of }

-- no spans, no works
works-none : (j : ℕ) (rows : List Span) → count_at j rows ≡ 0 → works_at j rows ≡ 0
works-none j [] none = refl
works-none j (s ∷ ss) none =
    let count = of_all-cons (counts j) s ss in
    let work = of_all-cons (works j) s ss in
    elim (cases_eq (mark_index s.end) j) [
      | inl own ↦ absurd (omega (arith, none, count, counts-own j s.end s.work own))
      | inr other ↦ omega (arith, none, count, work, counts-other j s.end s.work other, works-other j s.end s.work other, works-none j ss (omega (arith, none, count, counts-other j s.end s.work other)))
    ]

-- the page of a time has passed
IsMarked-passed : (time : ℕ) (rows : List Span) (mark : Mark) → (time + 1) % 64 ≡ 0 → IsMarked time rows (mark_index time) mark → IsMarked (time + 1) rows (mark_index time) (passed time mark)
IsMarked-passed time rows mark border h =
    let j = mark_index time in
    cond_both (eqb mark.count 0) (record mark { low = (page_of time + 512) * 64 }) mark (IsMarked (time + 1) rows j)
    (λ t.
    let none : mark.count ≡ 0 = eqb-true mark.count 0 t in
    record {
      count = h.count;
      works = h.works;
      low = λ some x late of.
          let empty : works_at j rows ≡ 0 = works-none j rows (sym h.count ∙ none) in
          omega (arith, works_in_page-le x j rows of, empty, late, border, of);
    })
    (λ t. IsMarked-later (omega arith) h)

-- no spans
pub IsMarked-first_mark : (j : ℕ) → IsMarked 0 [] j (first_mark j)
IsMarked-first_mark j = record { count = refl; works = refl; low = λ some x late of. omega (arith, of) }

-- a mark that is put among the marks
AreMarked-put : {time later : ℕ} {rows new : List Span} {marks : List Mark} (i : ℕ) (mark : Mark) → AreMarked time rows marks → i < 512 → ((j : ℕ) (m : Mark) → (i ≡ j → ⊥) → IsMarked time rows j m → IsMarked later new j m) → IsMarked later new i mark → AreMarked later new (set marks i mark)
AreMarked-put {later = later} {new = new} {marks = marks} i mark h within others own =
    let same = length-set marks i mark in
    record {
      length = same ∙ h.length;
      each = λ j m at.
          let low : j < length marks = omega (arith, slice_get_within (set marks i mark) j m at, same) in
          let is = get_or_from_slice_get (set marks i mark) j m blank_mark at in
          elim (cases_eq j i) [
            | inl here ↦
                let put : mark ≡ m = sym (get_or-set_at marks i j mark blank_mark here (omega (arith, within, h.length))) ∙ is in
                subst (λ k. IsMarked later new k m) (sym here) (subst (IsMarked later new i) put own)
            | inr other ↦
                let old : get_or marks j blank_mark ≡ m = sym (get_or-set_other marks i j mark blank_mark other) ∙ is in
                others j m (λ e. other (sym e)) (h.each j m (slice_get-get_or marks j blank_mark low ∙ ap Some old))
          ];
    }

-- the mark at a place
pub IsMarked-at : {time : ℕ} {rows : List Span} {marks : List Mark} (i : ℕ) → AreMarked time rows marks → i < 512 → IsMarked time rows i (get_or marks i blank_mark)
IsMarked-at {marks = marks} i h within = h.each i (get_or marks i blank_mark) (slice_get-get_or marks i blank_mark (omega (arith, within, h.length)))

mark_index-within : (x : ℕ) → mark_index x < 512
mark_index-within x = omega arith

pub AreMarked-gained : (time : ℕ) (rows new : List Span) (marks : List Mark) (end work : ℕ) → Gains rows new end work → AreMarked time rows marks → AreMarked time new (set marks (mark_index end) (with_end end work (get_or marks (mark_index end) blank_mark)))
AreMarked-gained time rows new marks end work gains h =
    let i = mark_index end in
    AreMarked-put i _ h (mark_index-within end) (λ j m other. IsMarked-Agrees (Agrees-Gains j gains other)) (IsMarked-gained time rows new end work _ gains (IsMarked-at i h (mark_index-within end)))

pub AreMarked-lost : (time : ℕ) (rows new : List Span) (marks : List Mark) (end work : ℕ) → Gains new rows end work → AreMarked time rows marks → AreMarked time new (set marks (mark_index end) (without_end work (get_or marks (mark_index end) blank_mark)))
AreMarked-lost time rows new marks end work gains h =
    let i = mark_index end in
    AreMarked-put i _ h (mark_index-within end) (λ j m other. IsMarked-Agrees (Agrees-back (Agrees-Gains j gains other))) (IsMarked-lost time rows new end work _ gains (IsMarked-at i h (mark_index-within end)))

pub AreMarked-cut : (time : ℕ) (rows new : List Span) (marks : List Mark) (at : ℕ) → Gains rows new at 0 → AreMarked time rows marks → AreMarked time new (set marks (mark_index at) (with_cut (get_or marks (mark_index at) blank_mark)))
AreMarked-cut time rows new marks at gains h =
    let i = mark_index at in
    AreMarked-put i _ h (mark_index-within at) (λ j m other. IsMarked-Agrees (Agrees-Gains j gains other)) (IsMarked-cut time rows new at _ gains (IsMarked-at i h (mark_index-within at)))

pub AreMarked-changed : (time : ℕ) (rows new : List Span) (marks : List Mark) (end work : ℕ) (change : Change) → Moves rows new end work (changed_by change work) → MayChangeBy change work → AreMarked time rows marks → AreMarked time new (set marks (mark_index end) (with_change change (get_or marks (mark_index end) blank_mark)))
AreMarked-changed time rows new marks end work change moves may h =
    let i = mark_index end in
    AreMarked-put i _ h (mark_index-within end) (λ j m other. IsMarked-Agrees (Agrees-Moves j moves other)) (IsMarked-changed time rows new end work change _ moves may (IsMarked-at i h (mark_index-within end)))

pub AreMarked-passed : (time : ℕ) (rows : List Span) (marks : List Mark) → (time + 1) % 64 ≡ 0 → AreMarked time rows marks → AreMarked (time + 1) rows (set marks (mark_index time) (passed time (get_or marks (mark_index time) blank_mark)))
AreMarked-passed time rows marks border h =
    let i = mark_index time in
    AreMarked-put i _ h (mark_index-within time) (λ j m other. IsMarked-later (omega arith)) (IsMarked-passed time rows _ border (IsMarked-at i h (mark_index-within time)))

pub AreMarked-later : {time later : ℕ} {rows : List Span} {marks : List Mark} → time ≤ later → AreMarked time rows marks → AreMarked later rows marks
AreMarked-later after h = record { length = h.length; each = λ j m at. IsMarked-later after (h.each j m at) }

pub AreMarked-Stays : {time : ℕ} {rows new : List Span} {marks : List Mark} → Stays rows new → AreMarked time rows marks → AreMarked time new marks
AreMarked-Stays stays h =
    record {
      length = h.length;
      each = λ j m at. IsMarked-Agrees (record { count = stays.sums (counts j); works = stays.sums (works j); pages = λ x of. stays.sums (in_page x) }) (h.each j m at);
    }

-- what a change puts among the marks
pub put_is : (marks new : List Mark) (i : ℕ) (f : Mark → Mark) → i < length marks → IfSome (slice_get marks i) (λ (m : Mark). new ≡ set marks i (f m)) → new ≡ set marks i (f (get_or marks i blank_mark))
put_is marks new i f within put = rw (slice_get-get_or marks i blank_mark within) at put

-- the numbers of marks are small: no more spans than there are, each with a work of at most 2 ^ 40
abbrev pub AreLight : List Span → Type 0
AreLight rows = AllByRecursion (λ (s : Span). s.work ≤ 2 ^ 40) rows

pub AreLight-FollowOn : (start : ℕ) (rows : List Span) → FollowOn start rows → AreLight rows
AreLight-FollowOn start [] follow = tt
AreLight-FollowOn start (s ∷ ss) follow = (follow.3, AreLight-FollowOn s.end ss follow.4)

pub AreLight-push : (rows : List Span) (s : Span) → AreLight rows → s.work ≤ 2 ^ 40 → AreLight (rows ++ s ∷ [])
AreLight-push [] s light few = (few, tt)
AreLight-push (r ∷ rs) s light few = (light.0, AreLight-push rs s light.1 few)

works_at-le : (j : ℕ) (rows : List Span) → AreLight rows → works_at j rows ≤ length rows * 2 ^ 40
works_at-le j [] light = omega arith
works_at-le j (s ∷ ss) light =
    omega (arith, of_all-cons (works j) s ss, cond-whole (eqb (mark_index s.end) j) s.work, light.0, works_at-le j ss light.1)

pub few_counts : {time : ℕ} {rows : List Span} {marks : List Mark} (x : ℕ) → AreMarked time rows marks → length rows ≤ 2 ^ 20 → IfSome (slice_get marks (mark_index x)) (λ (m : Mark). m.count ≤ 2 ^ 20)
few_counts {rows = rows} {marks = marks} x h few =
    let i = mark_index x in
    let own = IsMarked-at i h (mark_index-within x) in
    let count : (get_or marks i blank_mark).count ≤ 2 ^ 20 = omega (arith, own.count, few, count_by-le-length (λ (s : Span). eqb (mark_index s.end) i) rows) in
    rw (slice_get-get_or marks i blank_mark (omega (arith, h.length, mark_index-within x))) count

pub few_works : {time : ℕ} {rows : List Span} {marks : List Mark} (x : ℕ) → AreMarked time rows marks → AreLight rows → length rows ≤ 2 ^ 20 → IfSome (slice_get marks (mark_index x)) (λ (m : Mark). m.works ≤ 2 ^ 60)
few_works {rows = rows} {marks = marks} x h light few =
    let i = mark_index x in
    let own = IsMarked-at i h (mark_index-within x) in
    let work : (get_or marks i blank_mark).works ≤ 2 ^ 60 = omega (arith, own.works, few, works_at-le i rows light) in
    rw (slice_get-get_or marks i blank_mark (omega (arith, h.length, mark_index-within x))) work

-- marks of which so many are first_mark
pub record AreFirst (marks : List Mark) (n : ℕ) : Type 0 where
  pub length : length marks ≡ 512
  pub each : (j : ℕ) → j < n → get_or marks j blank_mark ≡ first_mark j

pub AreFirst-next : (marks : List Mark) (n : ℕ) (mark : Mark) → mark ≡ first_mark n → n < 512 → AreFirst marks n → AreFirst (set marks n mark) (n + 1)
AreFirst-next marks n mark is within h =
    record {
      length = length-set marks n mark ∙ h.length;
      each = λ j low.
          elim (cases_eq j n) [
            | inl here ↦ get_or-set_at marks n j mark blank_mark here (omega (arith, within, h.length)) ∙ is ∙ ap first_mark (sym here)
            | inr other ↦ get_or-set_other marks n j mark blank_mark other ∙ h.each j (omega (arith, low, other))
          ];
    }

pub AreMarked-AreFirst : (marks : List Mark) (n : ℕ) → 512 ≤ n → AreFirst marks n → AreMarked 0 [] marks
AreMarked-AreFirst marks n all h =
    record {
      length = h.length;
      each = λ j mark at.
          let low : j < n = omega (arith, slice_get_within marks j mark at, h.length, all) in
          let is : first_mark j ≡ mark = sym (h.each j low) ∙ get_or_from_slice_get marks j mark blank_mark at in
          subst (IsMarked 0 [] j) is (IsMarked-first_mark j);
    }
