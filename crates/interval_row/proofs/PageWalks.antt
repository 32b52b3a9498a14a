-- What a walk back leaves of spans, and pages of which all spans follow at once.
use Rattle.std.proofs.Common.{◌≡◌, ℕ, zero, suc, ◌+◌, ◌-◌, ◌*◌, ◌/◌, ◌%◌, ◌<◌, ◌≤◌, ◌^◌, ℤ, pos, ◌+ℤ◌, ◌≤ℤ◌, cond, eqb, ltb, List, [], ◌∷◌, length, take, drop, Some, inl, inr, FitsSigned, w64, refl, sym, subst, ◌∙◌, ap, arith}
use Rattle.std.specs.Prelude.{max, slice_get}
use Rattle.std.specs.List.{AllByRecursion}
use Rattle.std.proofs.lemmas.Bool.{cases_lt, eq-eqb, ne_eqb}
use Rattle.std.proofs.lemmas.Int.{ints, clamps, by_lt_z}
use Rattle.std.proofs.lemmas.Option.{same_Some, slice_get_within}
use Rattle.slot_core.specs.declared.jobs.Span.{Span}
use Rattle.node_chain.specs.declared.marks.Mark.{Mark}
use Rattle.spare_capacity.specs.Lending.{carry, raised, repaid}
use Rattle.spare_capacity.specs.Recurrence.{filled, FollowOn, first_start, last_end}
use Rattle.spare_capacity.proofs.Free.{rest-filled}
use Rattle.interval_row.specs.Changes.{ends_before}
use Rattle.interval_row.specs.Lifts.{raised_at, AreAtMost}
use Rattle.interval_row.specs.Marks.{count_at, mark_index, AreTimed}
use Rattle.interval_row.specs.Spans.{with_work_at, AreFilled}
use Rattle.interval_row.specs.Walks.{after_walk, others_between, walked, AreInPages, HaveAtMost, IsPageOf}
use Rattle.interval_row.specs.declared.walk_back.Walk.{Walk}
use Rattle.interval_row.proofs.CutTimes.{ends_before-ended, ends_before-later, ends_before-page, ends_before-start, AreInLap, IsInLap}
use Rattle.interval_row.proofs.Cycles.{last_end-some}
use Rattle.interval_row.proofs.Fillings.{first_start-filled, last_end-filled}
use Rattle.interval_row.proofs.Kept.{AreBare-with_work_at, AreFilled-AreBare}
use Rattle.interval_row.proofs.Works.{first_start-with_work_at, last_end-with_work_at}
use Rattle.interval_row.proofs.Marked.{of_all, of_all-cons, Moves-filled, Moves-with_work_at}
use Rattle.interval_row.proofs.WalkBack.{length-walked, walked-end, IsWithin, IsWithin-spare}

-- a walk back changes capacities alone
pub of_all-walked : (g : ℕ → ℕ → ℕ) (more : ℤ) (k : ℕ) (rows : List Span) → of_all g (walked more k rows) ≡ of_all g rows
of_all-walked g more zero rows = refl
of_all-walked g more (suc k) [] = refl
of_all-walked g more (suc k) (s ∷ ss) =
    of_all-cons g (raised (carry more (take k ss)) s) (walked more k ss) ∙ ap (λ n. g s.end s.work + n) (of_all-walked g more k ss) ∙ sym (of_all-cons g s ss)

pub ends_before-walked : (y : ℕ) (more : ℤ) (k : ℕ) (rows : List Span) → ends_before y (walked more k rows) ≡ ends_before y rows
ends_before-walked y more k rows = of_all-walked (λ end work. cond (ltb end y) 1 0) more k rows

pub count_at-walked : (j : ℕ) (more : ℤ) (k : ℕ) (rows : List Span) → count_at j (walked more k rows) ≡ count_at j rows
count_at-walked j more k rows = of_all-walked (λ end work. cond (eqb (mark_index end) j) 1 0) more k rows

pub FollowOn-walked : (start : ℕ) (more : ℤ) (k : ℕ) (rows : List Span) → FollowOn start (walked more k rows) → FollowOn start rows
FollowOn-walked start more zero rows h = h
FollowOn-walked start more (suc k) [] h = h
FollowOn-walked start more (suc k) (s ∷ ss) h = (h.0, h.1, h.2, h.3, FollowOn-walked s.end more k ss h.4)

pub first_start-walked : (more : ℤ) (k : ℕ) (rows : List Span) → first_start (walked more k rows) ≡ first_start rows
first_start-walked more zero rows = refl
first_start-walked more (suc k) [] = refl
first_start-walked more (suc k) (s ∷ ss) = refl

pub last_end-walked : (start : ℕ) (more : ℤ) (k : ℕ) (rows : List Span) → last_end start (walked more k rows) ≡ last_end start rows
last_end-walked start more zero rows = refl
last_end-walked start more (suc k) [] = refl
last_end-walked start more (suc k) (s ∷ ss) = last_end-walked s.end more k ss

-- a span ends where the one after it starts
pub meets : (start k : ℕ) (rows : List Span) (s t : Span) → FollowOn start rows → slice_get rows k ≡ Some s → slice_get rows (suc k) ≡ Some t → s.end ≡ t.start
meets start k [] s t follow at next = absurd (omega (arith, slice_get_within [] k s at))
meets start zero (r ∷ []) s t follow at next = absurd (omega (arith, slice_get_within (r ∷ []) 1 t next))
meets start zero (r ∷ u ∷ us) s t follow at next =
    omega (arith, ap (λ (x : Span). x.end) (same_Some r s at), ap (λ (x : Span). x.start) (same_Some u t next), follow.4.0)
meets start (suc k) (r ∷ rs) s t follow at next = meets r.end k rs s t follow.4 at next

-- rows follow on where they do at the end of a walk
pub follows-walk : (walk : Walk) (rows : List Span) → AreFilled (after_walk walk rows) → FollowOn (first_start rows) rows
follows-walk walk rows are =
    subst (λ n. FollowOn n rows) (first_start-walked walk.more walk.index rows) (FollowOn-walked (first_start (after_walk walk rows)) walk.more walk.index rows are.consecutive)

-- within a lap a span has the mark of a page where it ends in it
before-page : (time end page : ℕ) → time ≤ end → end < page * 64 → page < time / 64 + 512 → mark_index end ≡ page % 512 → ⊥
before-page time end page late early high same = omega (arith, late, early, high, same)

after-page : (time end page : ℕ) → (page + 1) * 64 ≤ end → end < (time / 64 + 512) * 64 → time / 64 ≤ page → mark_index end ≡ page % 512 → ⊥
after-page time end page after near low same = omega (arith, after, near, low, same)

-- an end between the borders of a page has its mark
pub in-page : (end page : ℕ) → page * 64 ≤ end → end < (page + 1) * 64 → mark_index end ≡ page % 512
in-page end page low high = omega (arith, low, high)

-- a span has no capacity that it could give, before and after so much more
abbrev pub GivesNone : ℤ → Span → Type 0
GivesNone more s = (s.spare ≤ℤ pos 0) × ((s.spare +ℤ more) ≤ℤ pos 0)

-- nor has any that ends in the pages of the mark at an index
abbrev pub PagesGiveNone : ℕ → ℤ → List Span → Type 0
PagesGiveNone j more spans = AllByRecursion (λ (s : Span). mark_index s.end ≡ j → GivesNone more s) spans

-- a bound below 0, before and after, is one on what spans give
pub PagesGiveNone-AreAtMost : (j : ℕ) (high more : ℤ) (rows : List Span) → high ≤ℤ pos 0 → (high +ℤ more) ≤ℤ pos 0 → AreAtMost j high rows → PagesGiveNone j more rows
PagesGiveNone-AreAtMost j high more [] low after h = tt
PagesGiveNone-AreAtMost j high more (s ∷ ss) low after h =
    (λ own. (omega (arith, ints, low, h.0 own), omega (arith, ints, after, h.0 own)), PagesGiveNone-AreAtMost j high more ss low after h.1)

-- spans in a lap from a time on, and one of its pages
pub record IsPageIn (time page : ℕ) : Type 0 where
  pub low : time / 64 ≤ page
  pub high : page < time / 64 + 512

-- a page leaves the spans after it
raised_at-later : (time start page : ℕ) (more : ℤ) (rows : List Span) → IsPageIn time page → FollowOn start rows → AllByRecursion (IsInLap time) rows → (page + 1) * 64 ≤ start → raised_at (page % 512) more rows ≡ rows
raised_at-later time start page more [] is follow all after = refl
raised_at-later time start page more (s ∷ ss) is follow all after =
    let late : (page + 1) * 64 ≤ s.end = omega (arith, follow.0, follow.1, after) in
    rw (ne_eqb (mark_index s.end) (page % 512) (after-page time s.end page late all.0.near is.low)) (ap (λ xs. s ∷ xs) (raised_at-later time s.end page more ss is follow.4 all.1 late))

-- spans of which the first ends in a page or later: those of the page follow as a whole
record FollowWhole (page : ℕ) (more : ℤ) (rows : List Span) : Type 0 where
  carry : carry more (take (ends_before ((page + 1) * 64) rows) rows) ≡ more
  spans : walked more (ends_before ((page + 1) * 64) rows) rows ≡ raised_at (page % 512) more rows

-- the first of them follows with those after it, whatever it gives
whole-spans : (time start page : ℕ) (more : ℤ) (s : Span) (ss : List Span) → IsPageIn time page → FollowOn start (s ∷ ss) → AllByRecursion (IsInLap time) (s ∷ ss) → page * 64 ≤ s.end → FollowWhole page more ss → walked more (ends_before ((page + 1) * 64) (s ∷ ss)) (s ∷ ss) ≡ raised_at (page % 512) more (s ∷ ss)
whole-spans time start page more s ss is follow all reached rest =
    let y = (page + 1) * 64 in
    elim (cases_lt s.end y) [
      | inl here ↦
          let own : mark_index s.end ≡ page % 512 = in-page s.end page reached here in
          let count : ends_before y (s ∷ ss) ≡ suc (ends_before y ss) = ends_before-ended y s ss here in
          rw (count, eq-eqb (mark_index s.end) (page % 512) own) (ap (λ c. raised c s ∷ walked more (ends_before y ss) ss) rest.carry ∙ ap (λ xs. raised more s ∷ xs) rest.spans)
      | inr late ↦
          let count : ends_before y (s ∷ ss) ≡ 0 = ends_before-later y s ss late ∙ ends_before-start s.end y ss follow.4 late in
          let same = raised_at-later time s.end page more ss is follow.4 all.1 late in
          rw (count, ne_eqb (mark_index s.end) (page % 512) (after-page time s.end page late all.0.near is.low)) (ap (λ xs. s ∷ xs) (sym same))
    ]

whole-first : (time start page : ℕ) (more : ℤ) (s : Span) (ss : List Span) → IsPageIn time page → FollowOn start (s ∷ ss) → AllByRecursion (IsInLap time) (s ∷ ss) → page * 64 ≤ s.end → PagesGiveNone (page % 512) more (s ∷ ss) → FollowWhole page more ss → FollowWhole page more (s ∷ ss)
whole-first time start page more s ss is follow all reached none rest =
    let y = (page + 1) * 64 in
    let spans = whole-spans time start page more s ss is follow all reached rest in
    elim (cases_lt s.end y) [
      | inl here ↦
          let own : mark_index s.end ≡ page % 512 = in-page s.end page reached here in
          let count : ends_before y (s ∷ ss) ≡ suc (ends_before y ss) = ends_before-ended y s ss here in
          let gives = none.0 own in
          let passes : repaid s.spare (s.spare +ℤ more) ≡ more = omega (arith, ints, clamps, gives.0, gives.1) in
          let on : repaid s.spare (s.spare +ℤ carry more (take (ends_before y ss) ss)) ≡ more = rw rest.carry passes in
          record { carry = rw count on; spans = spans }
      | inr late ↦
          let count : ends_before y (s ∷ ss) ≡ 0 = ends_before-later y s ss late ∙ ends_before-start s.end y ss follow.4 late in
          record { carry = rw count refl; spans = spans }
    ]

whole : (time start page : ℕ) (more : ℤ) (rows : List Span) → IsPageIn time page → FollowOn start rows → AllByRecursion (IsInLap time) rows → page * 64 ≤ start → PagesGiveNone (page % 512) more rows → FollowWhole page more rows
whole time start page more [] is follow all late none = record { carry = refl; spans = refl }
whole time start page more (s ∷ ss) is follow all late none =
    let reached : page * 64 ≤ s.end = omega (arith, follow.0, follow.1, late) in
    whole-first time start page more s ss is follow all reached none (whole time s.end page more ss is follow.4 all.1 reached none.1)

-- a page whose spans have nothing to give is passed at once: the spans before it follow what all of
-- them do
pub record PassesPage (page : ℕ) (more : ℤ) (rows : List Span) : Type 0 where
  pub carry :
      carry more (take (ends_before (page * 64) rows) (raised_at (page % 512) more rows))
      ≡ carry more (take (ends_before ((page + 1) * 64) rows) rows)
  pub spans :
      walked more (ends_before (page * 64) rows) (raised_at (page % 512) more rows)
      ≡ walked more (ends_before ((page + 1) * 64) rows) rows

-- a span that ends before the page follows what those after it do
PassesPage-spans : (time start page : ℕ) (more : ℤ) (s : Span) (ss : List Span) → IsPageIn time page → FollowOn start (s ∷ ss) → AllByRecursion (IsInLap time) (s ∷ ss) → s.end < page * 64 → PassesPage page more ss → walked more (ends_before (page * 64) (s ∷ ss)) (raised_at (page % 512) more (s ∷ ss)) ≡ walked more (ends_before ((page + 1) * 64) (s ∷ ss)) (s ∷ ss)
PassesPage-spans time start page more s ss is follow all early rest =
    let low : ends_before (page * 64) (s ∷ ss) ≡ suc (ends_before (page * 64) ss) = ends_before-ended (page * 64) s ss early in
    let high : ends_before ((page + 1) * 64) (s ∷ ss) ≡ suc (ends_before ((page + 1) * 64) ss) = ends_before-ended ((page + 1) * 64) s ss (omega (arith, early)) in
    let other = ne_eqb (mark_index s.end) (page % 512) (before-page time s.end page all.0.late early is.high) in
    rw (low, high, other) (ap (λ c. raised c s ∷ walked more (ends_before (page * 64) ss) (raised_at (page % 512) more ss)) rest.carry ∙ ap (λ xs. raised (carry more (take (ends_before ((page + 1) * 64) ss) ss)) s ∷ xs) rest.spans)

pub PassesPage-PagesGiveNone : (time start page : ℕ) (more : ℤ) (rows : List Span) → IsPageIn time page → FollowOn start rows → AllByRecursion (IsInLap time) rows → PagesGiveNone (page % 512) more rows → PassesPage page more rows
PassesPage-PagesGiveNone time start page more [] is follow all none = record { carry = refl; spans = refl }
PassesPage-PagesGiveNone time start page more (s ∷ ss) is follow all none =
    elim (cases_lt s.end (page * 64)) [
      | inl early ↦
          let rest = PassesPage-PagesGiveNone time s.end page more ss is follow.4 all.1 none.1 in
          let low : ends_before (page * 64) (s ∷ ss) ≡ suc (ends_before (page * 64) ss) = ends_before-ended (page * 64) s ss early in
          let high : ends_before ((page + 1) * 64) (s ∷ ss) ≡ suc (ends_before ((page + 1) * 64) ss) = ends_before-ended ((page + 1) * 64) s ss (omega (arith, early)) in
          let other = ne_eqb (mark_index s.end) (page % 512) (before-page time s.end page all.0.late early is.high) in
          record {
            carry = rw (low, high, other) (ap (λ c. repaid s.spare (s.spare +ℤ c)) rest.carry);
            spans = PassesPage-spans time start page more s ss is follow all early rest;
          }
      | inr reached ↦
          let low : ends_before (page * 64) (s ∷ ss) ≡ 0 = ends_before-later (page * 64) s ss reached ∙ ends_before-start s.end (page * 64) ss follow.4 reached in
          let all_of = whole-first time start page more s ss is follow all reached none (whole time s.end page more ss is follow.4 all.1 reached none.1) in
          record { carry = rw low (sym all_of.carry); spans = rw low (sym all_of.spans) }
    ]

-- the first of all spans may give: none stands before it
walked-PagesGiveNone : (time start page : ℕ) (more : ℤ) (rows : List Span) → IsPageIn time page → FollowOn start rows → AllByRecursion (IsInLap time) rows → PagesGiveNone (page % 512) more (drop 1 rows) → walked more (ends_before (page * 64) rows) (raised_at (page % 512) more rows) ≡ walked more (ends_before ((page + 1) * 64) rows) rows
walked-PagesGiveNone time start page more [] is follow all none = refl
walked-PagesGiveNone time start page more (s ∷ ss) is follow all none =
    elim (cases_lt s.end (page * 64)) [
      | inl early ↦
          PassesPage-spans time start page more s ss is follow all early (PassesPage-PagesGiveNone time s.end page more ss is follow.4 all.1 none)
      | inr reached ↦
          let low : ends_before (page * 64) (s ∷ ss) ≡ 0 = ends_before-later (page * 64) s ss reached ∙ ends_before-start s.end (page * 64) ss follow.4 reached in
          let spans = whole-spans time start page more s ss is follow all reached (whole time s.end page more ss is follow.4 all.1 reached none) in
          rw low (sym spans)
    ]

-- the spans that end before a page do not change with it
take-raised_at : (time start page : ℕ) (more : ℤ) (rows : List Span) → IsPageIn time page → FollowOn start rows → AllByRecursion (IsInLap time) rows → take (ends_before (page * 64) rows) (raised_at (page % 512) more rows) ≡ take (ends_before (page * 64) rows) rows
take-raised_at time start page more [] is follow all = refl
take-raised_at time start page more (s ∷ ss) is follow all =
    elim (cases_lt s.end (page * 64)) [
      | inl early ↦
          let low : ends_before (page * 64) (s ∷ ss) ≡ suc (ends_before (page * 64) ss) = ends_before-ended (page * 64) s ss early in
          let other = ne_eqb (mark_index s.end) (page % 512) (before-page time s.end page all.0.late early is.high) in
          rw (low, other) (ap (λ xs. s ∷ xs) (take-raised_at time s.end page more ss is follow.4 all.1))
      | inr reached ↦
          let low : ends_before (page * 64) (s ∷ ss) ≡ 0 = ends_before-later (page * 64) s ss reached ∙ ends_before-start s.end (page * 64) ss follow.4 reached in
          rw low refl
    ]

-- each span that ends in the pages of the mark at an index can have so much more capacity
abbrev pub MayRaise : ℕ → ℤ → List Span → Type 0
MayRaise j more spans = AllByRecursion (λ (s : Span). mark_index s.end ≡ j → FitsSigned w64 (s.spare +ℤ more)) spans

-- the spans of a mark can be raised where what they become has capacities within bounds
MayRaise-raised_at : (j : ℕ) (more : ℤ) (rows : List Span) → AllByRecursion (λ (s : Span). IsWithin s.spare) (raised_at j more rows) → MayRaise j more rows
MayRaise-raised_at j more [] all = tt
MayRaise-raised_at j more (s ∷ ss) all = (
  λ own.
      let near : IsWithin (s.spare +ℤ more) = rw (eq-eqb (mark_index s.end) j own) at all.0 in
      omega (arith, ints, near.low, near.high),
  MayRaise-raised_at j more ss all.1,
)

pub MayRaise-walked : (time start page : ℕ) (more : ℤ) (rows : List Span) → IsPageIn time page → FollowOn start rows → AllByRecursion (IsInLap time) rows → AllByRecursion (λ (s : Span). IsWithin s.spare) (walked more (ends_before (page * 64) rows) (raised_at (page % 512) more rows)) → MayRaise (page % 512) more rows
MayRaise-walked time start page more [] is follow all near = tt
MayRaise-walked time start page more (s ∷ ss) is follow all near =
    elim (cases_lt s.end (page * 64)) [
      | inl early ↦
          let low : ends_before (page * 64) (s ∷ ss) ≡ suc (ends_before (page * 64) ss) = ends_before-ended (page * 64) s ss early in
          let other = before-page time s.end page all.0.late early is.high in
          let rest = (rw low at near).1 in
          (λ own. absurd (other own), MayRaise-walked time s.end page more ss is follow.4 all.1 rest)
      | inr reached ↦
          let low : ends_before (page * 64) (s ∷ ss) ≡ 0 = ends_before-later (page * 64) s ss reached ∙ ends_before-start s.end (page * 64) ss follow.4 reached in
          MayRaise-raised_at (page % 512) more (s ∷ ss) (rw low at near)
    ]

AreAtMost-later : (time start page : ℕ) (high : ℤ) (rows : List Span) → IsPageIn time page → FollowOn start rows → AllByRecursion (IsInLap time) rows → (page + 1) * 64 ≤ start → AreAtMost (page % 512) high rows
AreAtMost-later time start page high [] is follow all after = tt
AreAtMost-later time start page high (s ∷ ss) is follow all after =
    let late : (page + 1) * 64 ≤ s.end = omega (arith, follow.0, follow.1, after) in
    (λ own. absurd (after-page time s.end page late all.0.near is.low own), AreAtMost-later time s.end page high ss is follow.4 all.1 late)

below-from : (time start page n : ℕ) (high : ℤ) (rows : List Span) → IsPageIn time page → FollowOn start rows → AllByRecursion (IsInLap time) rows → ends_before ((page + 1) * 64) rows ≡ n → HaveAtMost high (take n rows) → AreAtMost (page % 512) high rows
below-from time start page n high [] is follow all count up = tt
below-from time start page n high (s ∷ ss) is follow all count up =
    let y = (page + 1) * 64 in
    elim (cases_lt s.end y) [
      | inl here ↦
          let more : n ≡ suc (ends_before y ss) = sym count ∙ ends_before-ended y s ss here in
          let ups : HaveAtMost high (take (suc (ends_before y ss)) (s ∷ ss)) = rw more at up in
          (λ own. ups.0, below-from time s.end page (ends_before y ss) high ss is follow.4 all.1 refl ups.1)
      | inr late ↦
          (λ own. absurd (after-page time s.end page late all.0.near is.low own), AreAtMost-later time s.end page high ss is follow.4 all.1 late)
    ]

AreAtMost-HaveAtMost : (time start page n : ℕ) (high : ℤ) (rows : List Span) → IsPageIn time page → FollowOn start rows → AllByRecursion (IsInLap time) rows → ends_before ((page + 1) * 64) rows ≡ ends_before (page * 64) rows + n → HaveAtMost high (take n (drop (ends_before (page * 64) rows) rows)) → AreAtMost (page % 512) high rows
AreAtMost-HaveAtMost time start page n high [] is follow all count up = tt
AreAtMost-HaveAtMost time start page n high (s ∷ ss) is follow all count up =
    elim (cases_lt s.end (page * 64)) [
      | inl early ↦
          let low : ends_before (page * 64) (s ∷ ss) ≡ suc (ends_before (page * 64) ss) = ends_before-ended (page * 64) s ss early in
          let high_of : ends_before ((page + 1) * 64) (s ∷ ss) ≡ suc (ends_before ((page + 1) * 64) ss) = ends_before-ended ((page + 1) * 64) s ss (omega (arith, early)) in
          let rest : HaveAtMost high (take n (drop (ends_before (page * 64) ss) ss)) = rw low at up in
          (λ own. absurd (before-page time s.end page all.0.late early is.high own), AreAtMost-HaveAtMost time s.end page n high ss is follow.4 all.1 (omega (arith, count, low, high_of)) rest)
      | inr reached ↦
          let low : ends_before (page * 64) (s ∷ ss) ≡ 0 = ends_before-later (page * 64) s ss reached ∙ ends_before-start s.end (page * 64) ss follow.4 reached in
          below-from time start page n high (s ∷ ss) is follow all (omega (arith, count, low)) (rw low at up)
    ]

-- the spans between two places but the first of all, where that stands apart
pub others_between-next : (k n : ℕ) (s : Span) (ss : List Span) → others_between (suc k) (suc n) (s ∷ ss) ≡ take (n - k) (drop k ss)
others_between-next k n s ss =
    let later : max 1 (suc k) ≡ suc k = omega arith in
    let count : suc n - suc k ≡ n - k = omega arith in
    ap (λ m. take (suc n - m) (drop m (s ∷ ss))) later ∙ ap (λ d. take d (drop k ss)) count

pub others_between-first : (n : ℕ) (s : Span) (ss : List Span) → others_between 0 (suc n) (s ∷ ss) ≡ take n ss
others_between-first n s ss =
    let count : suc n - 1 ≡ n = omega arith in
    ap (λ d. take d ss) count

-- and with any capacity of the first of all spans, the bound is one on those after it
pub AreAtMost-others : (time start page n : ℕ) (high : ℤ) (rows : List Span) → IsPageIn time page → FollowOn start rows → AllByRecursion (IsInLap time) rows → ends_before (page * 64) rows ≤ n → ends_before ((page + 1) * 64) rows ≡ n → HaveAtMost high (others_between (ends_before (page * 64) rows) n rows) → AreAtMost (page % 512) high (drop 1 rows)
AreAtMost-others time start page n high [] is follow all less count up = tt
AreAtMost-others time start page n high (s ∷ ss) is follow all less count up =
    let y = (page + 1) * 64 in
    elim (cases_lt s.end (page * 64)) [
      | inl early ↦
          let low : ends_before (page * 64) (s ∷ ss) ≡ suc (ends_before (page * 64) ss) = ends_before-ended (page * 64) s ss early in
          let more : n ≡ suc (ends_before y ss) = sym count ∙ ends_before-ended y s ss (omega (arith, early)) in
          let ups : HaveAtMost high (others_between (suc (ends_before (page * 64) ss)) (suc (ends_before y ss)) (s ∷ ss)) = rw (low, more) at up in
          let rest = subst (HaveAtMost high) (others_between-next (ends_before (page * 64) ss) (ends_before y ss) s ss) ups in
          AreAtMost-HaveAtMost time s.end page (ends_before y ss - ends_before (page * 64) ss) high ss is follow.4 all.1 (omega (arith, less, low, more)) rest
      | inr reached ↦
          let low : ends_before (page * 64) (s ∷ ss) ≡ 0 = ends_before-later (page * 64) s ss reached ∙ ends_before-start s.end (page * 64) ss follow.4 reached in
          elim (cases_lt s.end y) [
            | inl here ↦
                let more : n ≡ suc (ends_before y ss) = sym count ∙ ends_before-ended y s ss here in
                let ups : HaveAtMost high (others_between 0 (suc (ends_before y ss)) (s ∷ ss)) = rw (low, more) at up in
                below-from time s.end page (ends_before y ss) high ss is follow.4 all.1 refl (subst (HaveAtMost high) (others_between-first (ends_before y ss) s ss) ups)
            | inr late ↦ AreAtMost-later time s.end page high ss is follow.4 all.1 late
          ]
    ]

-- rows of a lap, and one of its pages
pub record AreAtPage (page : ℕ) (rows : List Span) : Type 0 where
  pub is : IsPageIn (first_start rows) page
  pub follow : FollowOn (first_start rows) rows
  pub lap : AllByRecursion (IsInLap (first_start rows)) rows

pub AreAtPage-walk : (walk : Walk) (page : ℕ) (rows : List Span) (marks : List Mark) → AreInPages (after_walk walk rows) marks → IsPageOf (after_walk walk rows) page → AreAtPage page rows
AreAtPage-walk walk page rows marks pages is =
    let start = first_start rows in
    let same : first_start (after_walk walk rows) ≡ start = first_start-walked walk.more walk.index rows in
    let follow = follows-walk walk rows pages.filled in
    let some : 1 ≤ length rows = omega (arith, pages.filled.some, length-walked walk.more walk.index rows) in
    let end : last_end 0 (after_walk walk rows) ≡ last_end start rows = last_end-walked 0 walk.more walk.index rows ∙ last_end-some 0 start rows some in
    record {
      is = record { low = omega (arith, is.first, same); high = omega (arith, is.last, same) };
      follow = follow;
      lap = AreInLap start start rows follow (omega arith) (omega (arith, pages.lap, same, end));
    }

-- walks to the same end leave as many spans before a time
pub ends_before-walks : (y : ℕ) (walk from : Walk) (new rows : List Span) → after_walk walk new ≡ after_walk from rows → ends_before y new ≡ ends_before y rows
ends_before-walks y walk from new rows same =
    sym (ends_before-walked y walk.more walk.index new) ∙ ap (ends_before y) same ∙ ends_before-walked y from.more from.index rows

-- how many spans of a page there are, as its mark tells
pub count_at-page : (page : ℕ) (walk : Walk) (rows : List Span) (marks : List Mark) (mark : Mark) → AreInPages (after_walk walk rows) marks → AreAtPage page rows → slice_get marks (page % 512) ≡ Some mark → ends_before ((page + 1) * 64) rows ≡ ends_before (page * 64) rows + mark.count
count_at-page page walk rows marks mark pages at told =
    omega (arith, ends_before-page (first_start rows) page rows at.lap at.is.low at.is.high, pages.counts (page % 512) mark told, count_at-walked (page % 512) walk.more walk.index rows)

-- all capacities are within bounds
pub AreWithin : (start : ℕ) (rows : List Span) → FollowOn start rows → rows ≡ filled rows → length rows ≤ 2 ^ 20 → AllByRecursion (λ (s : Span). IsWithin s.spare) rows
AreWithin start [] follow e few = tt
AreWithin start (s ∷ ss) follow e few =
    (IsWithin-spare start (s ∷ ss) 0 follow e few (omega arith), AreWithin s.end ss follow.4 (rest-filled s ss e) (omega (arith, few)))

-- where a walk comes to a page whose spans, but for the first of all, give nothing, it passes the page
pub record PassesTo (walk : Walk) (page count : ℕ) (rows : List Span) : Type 0 where
  pub may : MayRaise (page % 512) walk.more rows
  pub spans :
      after_walk (record { index = walk.index - count; more = walk.more }) (raised_at (page % 512) walk.more rows)
      ≡ after_walk walk rows
  pub place : walk.index - count ≡ ends_before (page * 64) (raised_at (page % 512) walk.more rows)
  pub front : take (walk.index - count) (raised_at (page % 512) walk.more rows) ≡ take (walk.index - count) rows

pub PassesTo-PagesGiveNone : (walk : Walk) (page : ℕ) (mark : Mark) (rows : List Span) (marks : List Mark) → AreInPages (after_walk walk rows) marks → IsPageOf (after_walk walk rows) page → slice_get marks (page % 512) ≡ Some mark → walk.index ≡ ends_before ((page + 1) * 64) rows → PagesGiveNone (page % 512) walk.more (drop 1 rows) → PassesTo walk page mark.count rows
PassesTo-PagesGiveNone walk page mark rows marks pages is told place none =
    let at = AreAtPage-walk walk page rows marks pages is in
    let count = count_at-page page walk rows marks mark pages at told in
    let low : ends_before (page * 64) rows ≡ walk.index - mark.count = omega (arith, place, count) in
    let start = first_start rows in
    let new = raised_at (page % 512) walk.more rows in
    let passes = walked-PagesGiveNone start start page walk.more rows at.is at.follow at.lap none in
    let same : walked walk.more (ends_before (page * 64) rows) new ≡ after_walk walk rows = passes ∙ ap (λ n. walked walk.more n rows) (sym place) in
    let spans : walked walk.more (walk.index - mark.count) new ≡ after_walk walk rows = rw low at same in
    let within = AreWithin (first_start (after_walk walk rows)) (after_walk walk rows) pages.filled.consecutive pages.filled.filled pages.filled.few in
    let stays : take (ends_before (page * 64) rows) new ≡ take (ends_before (page * 64) rows) rows = take-raised_at start start page walk.more rows at.is at.follow at.lap in
    record {
      may = MayRaise-walked start start page walk.more rows at.is at.follow at.lap (subst (λ xs. AllByRecursion (λ (s : Span). IsWithin s.spare) xs) (sym same) within);
      spans = spans;
      place = sym low ∙ sym (ends_before-walks (page * 64) (record { index = walk.index - mark.count; more = walk.more }) walk new rows spans);
      front = rw low at stays;
    }

-- a walk has ended where nothing is repaid, or no span is left
pub walked-done : (walk : Walk) (rows : List Span) → ((walk.more ≡ pos 0 → ⊥) → walk.index ≡ 0) → after_walk walk rows ≡ rows
walked-done walk rows done =
    let left : (walk.more ≡ pos 0 → ⊥) → after_walk walk rows ≡ rows = (λ other. ap (λ k. walked walk.more k rows) (done other)) in
    by_lt_z walk.more (pos 0) (λ l. left (λ e. omega (arith, ints, l, e))) (λ l.
    by_lt_z (pos 0) walk.more (λ m. left (λ e. omega (arith, ints, m, e))) (λ m.
    let zero : walk.more ≡ pos 0 = omega (arith, ints, l, m) in
    ap (λ z. walked z walk.index rows) zero ∙ walked-end rows walk.index))

-- before the first page no span is left
pub none-before : (y : ℕ) (walk : Walk) (rows : List Span) → AreFilled (after_walk walk rows) → y ≤ first_start (after_walk walk rows) → ends_before y rows ≡ 0
none-before y walk rows are early =
    ends_before-start (first_start rows) y rows (follows-walk walk rows are) (omega (arith, early, first_start-walked walk.more walk.index rows))

-- what a walk asks of rows where one has another work
pub record CanWalk (start end : ℕ) (target : List Span) (marks : List Mark) : Type 0 where
  pub filled : AreFilled target
  pub starts : first_start target ≡ start
  pub ends : last_end 0 target ≡ end
  pub pages : end < (start / 64 + 512) * 64 → AreInPages target marks

pub CanWalk-AreTimed : {start end : ℕ} {rows : List Span} {marks : List Mark} (place work : ℕ) (span : Span) → AreTimed start end rows marks → slice_get rows place ≡ Some span → work ≤ 2 ^ 40 → CanWalk start end (filled (with_work_at place work rows)) marks
CanWalk-AreTimed {start = start} {end = end} {rows = rows} {marks = marks} place work span h at few =
    let new = with_work_at place work rows in
    let are = AreFilled-AreBare new (AreBare-with_work_at place work rows few h.filled) in
    let starts : first_start (filled new) ≡ start = first_start-filled new ∙ first_start-with_work_at place work rows ∙ sym h.starts in
    let ends : last_end 0 (filled new) ≡ end = last_end-filled 0 new ∙ last_end-with_work_at place work 0 rows ∙ sym h.ends in
    let moves = Moves-filled (Moves-with_work_at rows place work span at) in
    record {
      filled = are;
      starts = starts;
      ends = ends;
      pages = λ lap.
          record {
            filled = are;
            lap = omega (arith, lap, starts, ends);
            length = h.marked.length;
            counts = λ j mark told. omega (arith, (h.marked.each j mark told).count, moves.sums (λ end work. cond (eqb (mark_index end) j) 1 0));
          };
    }
