-- Pages under lifts that a walk back passes, each at once.
use Rattle.std.proofs.Common.{◌≡◌, ℕ, zero, suc, ◌+◌, ◌-◌, ◌*◌, ◌%◌, ◌<◌, ◌≤◌, ℤ, pos, ◌+ℤ◌, ◌≤ℤ◌, Bool, true, false, cond, eqb, List, [], ◌∷◌, length, get_or, set, slice_get, take, drop, Some, inl, inr, refl, sym, subst, ap, ◌∙◌, arith}
use Rattle.std.proofs.lemmas.Bool.{cases_eq, eq-eqb, ne_eqb}
use Rattle.std.proofs.lemmas.List.{drop-map, get_or-set_other, length-set}
use Rattle.std.proofs.lemmas.Option.{slice_get-get_or}
use Rattle.slot_core.specs.declared.jobs.Span.{Span}
use Rattle.node_chain.specs.declared.marks.Lift.{Lift}
use Rattle.node_chain.specs.declared.marks.Mark.{Mark}
use Rattle.node_chain.specs.Laps.{blank_lift, blank_mark}
use Rattle.node_chain.specs.Passes.{lift_passed, lift_raised, lifts_passed, spans_ending}
use Rattle.spare_capacity.specs.Recurrence.{first_start}
use Rattle.interval_row.specs.Changes.{ends_before}
use Rattle.interval_row.specs.Lifts.{lifted, lifted_in, AreAtMost, AreCovered}
use Rattle.interval_row.specs.Marks.{page_of}
use Rattle.interval_row.specs.Walks.{after_walk, walked, AreInPages, IsPageOf}
use Rattle.interval_row.specs.declared.walk_back.Walk.{Walk}
use Rattle.interval_row.proofs.LiftedSpans.{lifted-raised, AreAtMost-covered, AreCovered-raised}
use Rattle.interval_row.proofs.RunWalks.{take-fewer}
use Rattle.interval_row.proofs.PageWalks.{count_at-page, AreAtPage-walk, MayRaise, PagesGiveNone-AreAtMost, PassesTo, PassesTo-PagesGiveNone}

-- what can be raised can where the first is left out
MayRaise-drop : (j : ℕ) (more : ℤ) (lifts : List Lift) (spans : List Span) → MayRaise j more (lifted lifts spans) → MayRaise j more (lifted lifts (drop 1 spans))
MayRaise-drop j more lifts [] may = tt
MayRaise-drop j more lifts (s ∷ ss) may = may.1

-- a walk back has come to the end of a page of spans under lifts
pub record IsAtPage (walk : Walk) (page : ℕ) (mark : Mark) (lifts : List Lift) (spans : List Span) (marks : List Mark) : Type 0 where
  pub pages : AreInPages (after_walk walk (lifted lifts spans)) marks
  pub is : IsPageOf (after_walk walk (lifted lifts spans)) page
  pub place : walk.index ≡ ends_before ((page + 1) * 64) (lifted lifts spans)
  pub told : slice_get marks (page % 512) ≡ Some mark
  pub covered : AreCovered lifts (drop 1 spans)

-- a walk back has passed spans, down to a page, where lifts are raised
pub record HasPassed (walk : Walk) (page count : ℕ) (lifts after : List Lift) (kept : List Span) : Type 0 where
  pub within : count ≤ walk.index
  pub spans : after_walk (record { index = walk.index - count; more = walk.more }) (lifted after kept) ≡ after_walk walk (lifted lifts kept)
  pub place : walk.index - count ≡ ends_before (page * 64) (lifted after kept)
  pub front : take (walk.index - count) (lifted after kept) ≡ take (walk.index - count) (lifted lifts kept)
  pub covered : AreCovered after (drop 1 kept)

-- the lift of a page lets none of its spans give, but for the first of all
pub record LetsNoneGive (page : ℕ) (more : ℤ) (lift : Lift) (lifts : List Lift) : Type 0 where
  pub there : slice_get lifts (page % 512) ≡ Some lift
  pub before : lift.high ≤ℤ pos 0
  pub after : (lift.high +ℤ more) ≤ℤ pos 0

module _ {walk : Walk} {page : ℕ} {mark : Mark} {lifts : List Lift} {spans : List Span} {marks : List Mark} (at : IsAtPage walk page mark lifts spans marks) where
  abbrev rows : List Span
  rows = lifted lifts spans

  -- the mark tells how many spans the page has
  pub count-told : walk.index ≡ ends_before (page * 64) rows + mark.count
  count-told = at.place ∙ count_at-page page walk rows marks mark at.pages (AreAtPage-walk walk page rows marks at.pages at.is) at.told

  -- where no span ends in it, the walk has passed it
  pub HasPassed-none : mark.count ≡ 0 → HasPassed walk page mark.count lifts lifts spans
  HasPassed-none none =
      let same : walk.index - mark.count ≡ walk.index = omega (arith, none) in
      record {
        within = omega (arith, none);
        spans = ap (λ i. walked walk.more i rows) same;
        place = omega (arith, none, count-told);
        front = refl;
        covered = at.covered;
      }

  module _ {lift : Lift} (none : LetsNoneGive page walk.more lift lifts) where
    -- the lift bounds the spans of the page, but for the first of all
    bounded : AreAtMost (page % 512) lift.high (drop 1 rows)
    bounded =
        let others = AreAtMost-covered lifts (page % 512) lift none.there (drop 1 spans) at.covered in
        rw (drop-map (lifted_in lifts) 1 spans) others

    -- where those have nothing to give, the walk passes it
    passes : PassesTo walk page mark.count rows
    passes = PassesTo-PagesGiveNone walk page mark rows marks at.pages at.is at.told at.place (PagesGiveNone-AreAtMost (page % 512) lift.high walk.more (drop 1 rows) none.before none.after bounded)

    -- and its spans follow with the lift
    pub HasPassed-raised : HasPassed walk page mark.count lifts (set lifts (page % 512) (lift_raised walk.more lift)) spans
    HasPassed-raised =
        let same = lifted-raised lifts (page % 512) lift none.there walk.more spans passes.may in
        record {
          within = omega (arith, count-told);
          spans = ap (after_walk (record { index = walk.index - mark.count; more = walk.more })) same ∙ passes.spans;
          place = passes.place ∙ ap (ends_before (page * 64)) (sym same);
          front = ap (take (walk.index - mark.count)) same ∙ passes.front;
          covered = AreCovered-raised lifts (page % 512) lift none.there walk.more none.after (drop 1 spans) (MayRaise-drop (page % 512) walk.more lifts spans passes.may) at.covered;
        }

-- what is passed after that is passed too
HasPassed-on : {walk : Walk} {page low count more : ℕ} {lifts mid after : List Lift} {kept : List Span} → HasPassed walk page count lifts mid kept → HasPassed (record { index = walk.index - count; more = walk.more }) low more mid after kept → HasPassed walk low (count + more) lifts after kept
HasPassed-on {walk = walk} {count = count} {more = more} {lifts = lifts} {mid = mid} {after = after} {kept = kept} first next =
    let same : walk.index - (count + more) ≡ walk.index - count - more = omega arith in
    let front = next.front ∙ take-fewer (walk.index - count - more) (walk.index - count) (lifted mid kept) (lifted lifts kept) first.front (omega arith) in
    record {
      within = omega (arith, first.within, next.within);
      spans = ap (λ i. walked walk.more i (lifted after kept)) same ∙ next.spans ∙ first.spans;
      place = same ∙ next.place;
      front = subst (λ k. take k (lifted after kept) ≡ take k (lifted lifts kept)) (sym same) front;
      covered = next.covered;
    }

-- a walk back has come to the end of so many pages, whose lifts stand side by side from an index on,
-- and where a span ends in one, its lift lets none give
pub record IsAtRun (walk : Walk) (page low n : ℕ) (lifts : List Lift) (spans : List Span) (marks : List Mark) : Type 0 where
  pub pages : AreInPages (after_walk walk (lifted lifts spans)) marks
  pub first : page_of (first_start (after_walk walk (lifted lifts spans))) ≤ page
  pub last : page + n ≤ page_of (first_start (after_walk walk (lifted lifts spans))) + 512
  pub place : walk.index ≡ ends_before ((page + n) * 64) (lifted lifts spans)
  pub covered : AreCovered lifts (drop 1 spans)
  pub index : (k : ℕ) → k < n → (page + k) % 512 ≡ low + k
  pub within : low + n ≤ length lifts
  pub before : (k : ℕ) → k < n → 1 ≤ (get_or marks (low + k) blank_mark).count → (get_or lifts (low + k) blank_lift).high ≤ℤ pos 0
  pub after : (k : ℕ) → k < n → 1 ≤ (get_or marks (low + k) blank_mark).count → ((get_or lifts (low + k) blank_lift).high +ℤ walk.more) ≤ℤ pos 0

-- lifts of which one is put, or none, are as many
length-put : (b : Bool) (lifts : List Lift) (j : ℕ) (lift : Lift) → length (cond b lifts (set lifts j lift)) ≡ length lifts
length-put true lifts j lift = refl
length-put false lifts j lift = length-set lifts j lift

-- and any other is the same
get_or-put : (b : Bool) (lifts : List Lift) (j i : ℕ) (lift : Lift) → (i ≡ j → ⊥) → get_or (cond b lifts (set lifts j lift)) i blank_lift ≡ get_or lifts i blank_lift
get_or-put true lifts j i lift other = refl
get_or-put false lifts j i lift other = get_or-set_other lifts j i lift blank_lift other

-- the last of the pages, and those before it
module _ {walk : Walk} {page low n : ℕ} {lifts : List Lift} {spans : List Span} {marks : List Mark} (at : IsAtRun walk page low (suc n) lifts spans marks) where
  abbrev j : ℕ
  j = low + n

  abbrev last : Mark
  last = get_or marks j blank_mark

  abbrev lift : Lift
  lift = get_or lifts j blank_lift

  abbrev then : List Lift
  then = lift_passed walk.more marks j lifts

  -- the index of its lift and mark
  here : (page + n) % 512 ≡ j
  here = at.index n (omega arith)

  -- the walk is at its end
  at-last : IsAtPage walk (page + n) last lifts spans marks
  at-last =
      let next : page + suc n ≡ page + n + 1 = omega arith in
      record {
        pages = at.pages;
        is = record { first = omega (arith, at.first); last = omega (arith, at.last) };
        place = at.place ∙ ap (λ p. ends_before (p * 64) (lifted lifts spans)) next;
        told = ap (slice_get marks) here ∙ slice_get-get_or marks j blank_mark (omega (arith, here, at.pages.length));
        covered = at.covered;
      }

  -- and passes it
  HasPassed-last : HasPassed walk (page + n) last.count lifts then spans
  HasPassed-last =
      elim (cases_eq last.count 0) [
        | inl none ↦
            let same : then ≡ lifts = ap (λ b. cond b lifts (set lifts j (lift_raised walk.more lift))) (eq-eqb last.count 0 none) in
            subst (λ l. HasPassed walk (page + n) last.count lifts l spans) (sym same) (HasPassed-none at-last none)
        | inr other ↦
            let some : 1 ≤ last.count = omega (arith, other) in
            let gives : LetsNoneGive (page + n) walk.more lift lifts =
            record {
              there = ap (slice_get lifts) here ∙ slice_get-get_or lifts j blank_lift (omega (arith, at.within));
              before = at.before n (omega arith) some;
              after = at.after n (omega arith) some;
            } in
            let put : set lifts ((page + n) % 512) (lift_raised walk.more lift) ≡ set lifts j (lift_raised walk.more lift) = ap (λ i. set lifts i (lift_raised walk.more lift)) here in
            let same : then ≡ set lifts j (lift_raised walk.more lift) = ap (λ b. cond b lifts (set lifts j (lift_raised walk.more lift))) (ne_eqb last.count 0 other) in
            subst (λ l. HasPassed walk (page + n) last.count lifts l spans) (put ∙ sym same) (HasPassed-raised at-last gives)
      ]

  -- and is then at the end of the others
  at-rest : IsAtRun (record { index = walk.index - last.count; more = walk.more }) page low n then spans marks
  at-rest =
      let passed = HasPassed-last in
      let kept : (k : ℕ) → k < n → get_or then (low + k) blank_lift ≡ get_or lifts (low + k) blank_lift =
      λ k less. get_or-put (eqb last.count 0) lifts j (low + k) (lift_raised walk.more lift) (λ e. omega (arith, e, less)) in
      record {
        pages = rw passed.spans at.pages;
        first = rw passed.spans at.first;
        last = rw passed.spans (omega (arith, at.last));
        place = passed.place;
        covered = passed.covered;
        index = λ k less. at.index k (omega (arith, less));
        within = omega (arith, at.within, length-put (eqb last.count 0) lifts j (lift_raised walk.more lift));
        before = λ k less some. rw (kept k less) (at.before k (omega (arith, less)) some);
        after = λ k less some. rw (kept k less) (at.after k (omega (arith, less)) some);
      }

-- a walk back passes all of the pages, the last first
pub HasPassed-run : (n : ℕ) {walk : Walk} {page low : ℕ} {lifts : List Lift} {spans : List Span} {marks : List Mark} → IsAtRun walk page low n lifts spans marks → HasPassed walk page (spans_ending marks low n) lifts (lifts_passed walk.more marks low n lifts) spans
HasPassed-run zero {walk = walk} {page = page} {lifts = lifts} {spans = spans} at =
    let same : walk.index - 0 ≡ walk.index = omega arith in
    let whole : page + 0 ≡ page = omega arith in
    record {
      within = omega arith;
      spans = ap (λ i. walked walk.more i (lifted lifts spans)) same;
      place = same ∙ at.place ∙ ap (λ p. ends_before (p * 64) (lifted lifts spans)) whole;
      front = refl;
      covered = at.covered;
    }
HasPassed-run (suc n) at = HasPassed-on (HasPassed-last at) (HasPassed-run n (at-rest at))
