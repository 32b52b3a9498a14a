-- Runs of spans that follow at once in a walk back, each but the first with nothing to give.
use Rattle.std.proofs.Common.{◌≡◌, ℕ, zero, suc, ◌+◌, ◌-◌, ◌*◌, ◌%◌, ◌<◌, ◌≤◌, ℤ, pos, ◌+ℤ◌, ◌≤ℤ◌, T, leb, ltb, true, List, [], ◌∷◌, ◌++◌, length, get_or, map, set, take, drop, slice_get, Some, IfSome, FitsSigned, w64, int_le, inl, inr, refl, sym, subst, ◌∙◌, ap, arith}
use Rattle.std.specs.Int.{int_wrap}
use Rattle.std.specs.Int.Signed.{le_z_yes}
use Rattle.std.specs.List.{AllByRecursion}
use Rattle.std.specs.Prelude.{max}
use native.Mathlib.Numerals.{unary_clauses}
use Rattle.std.proofs.lemmas.Bool.{and_parts, cases_lt, leb-true}
use Rattle.std.proofs.lemmas.Int.{ints, clamps, int_wrap_fits, int_wrap-add_left}
use Rattle.std.proofs.lemmas.List.{drop-drop, drop-map, take-map, take-take}
use Rattle.std.proofs.lemmas.List.Elements.{All-drop, All-from_recursion, All-take, recursion_from_All}
use Rattle.std.proofs.lemmas.List.Sums.{count_by-le-length}
use Rattle.std.proofs.lemmas.Option.{same_Some, slice_get-get_or, slice_get_within}
use Rattle.slot_core.specs.declared.jobs.Span.{Span}
use Rattle.spare_capacity.specs.Lending.{carry, raised, repaid}
use Rattle.spare_capacity.specs.Recurrence.{first_start, FollowOn}
use Rattle.spare_capacity.proofs.Steps.{no_row}
use Rattle.node_chain.specs.declared.marks.Lift.{Lift}
use Rattle.node_chain.specs.declared.raises.Raise.{Raise}
use Rattle.node_chain.specs.Raises.{map_between, passes_on, spare_after, spare_under}
use Rattle.interval_row.specs.Changes.{ends_before}
use Rattle.interval_row.specs.Lifts.{lift_of, lifted, lifted_by, lifted_in, AreCovered}
use Rattle.interval_row.specs.Marks.{mark_index}
use Rattle.interval_row.specs.Spans.{AreFilled}
use Rattle.interval_row.specs.Walks.{after_walk, others_between, walked, HaveAtMost}
use Rattle.interval_row.specs.declared.walk_back.Walk.{Walk}
use Rattle.interval_row.proofs.CutTimes.{ends_before-ended, ends_before-inside, ends_before-later}
use Rattle.interval_row.proofs.LiftedSpans.{lift_of-set, lift_of-there, lifted_in-same, AreAtMost-covered, AreAtMost-more, AreCovered-set}
use Rattle.interval_row.proofs.PageWalks.{ends_before-walks, follows-walk, in-page, meets, others_between-first, others_between-next, AreWithin, GivesNone}
use Rattle.interval_row.proofs.WalkBack.{IsWithin}
use Rattle.interval_row.proofs.WalkPages.{ends_before-past, ends_before-short}

-- a lift of what is kept and one of its page add up, in either order
twice : (lifts : List Lift) (more : ℤ) (s : Span) → (lifted_in lifts (lifted_by more s)).spare ≡ int_wrap w64 ((lifted_in lifts s).spare +ℤ more)
twice lifts more s =
    let add = (lift_of lifts s).add in
    let sum : s.spare +ℤ more +ℤ add ≡ s.spare +ℤ add +ℤ more = omega (arith, ints) in
    int_wrap-add_left w64 (s.spare +ℤ more) add ∙ ap (int_wrap w64) sum ∙ sym (int_wrap-add_left w64 (s.spare +ℤ add) more)

-- what is kept of a span is raised: so is the span, where its capacity does not wrap
lifted-more : (lifts : List Lift) (more : ℤ) (s : Span) → IsWithin ((lifted_in lifts s).spare +ℤ more) → lifted_in lifts (lifted_by more s) ≡ raised more (lifted_in lifts s)
lifted-more lifts more s near =
    let fits : FitsSigned w64 ((lifted_in lifts s).spare +ℤ more) = omega (arith, ints, near.low, near.high) in
    ap (λ (x : ℤ). record s { spare = x }) (twice lifts more s ∙ int_wrap_fits w64 ((lifted_in lifts s).spare +ℤ more) fits)

-- the spans from one place up to another, each changed by f
abbrev each_between : (Span → Span) → ℕ → ℕ → List Span → List Span
each_between f k zero spans = spans
each_between f k (suc n) [] = []
each_between f zero (suc n) (s ∷ ss) = f s ∷ each_between f zero n ss
each_between f (suc k) (suc n) (s ∷ ss) = s ∷ each_between f k n ss

-- which is what they are by their parts
in_parts : (f : Span → Span) (k d n : ℕ) (spans : List Span) → k + d ≡ n → n ≤ length spans → take k spans ++ map f (take d (drop k spans)) ++ drop n spans ≡ each_between f k n spans
in_parts f zero zero zero spans sum few = refl
in_parts f zero zero (suc n) spans sum few = absurd (omega (arith, sum))
in_parts f zero (suc d) zero spans sum few = absurd (omega (arith, sum))
in_parts f zero (suc d) (suc n) [] sum few = absurd (omega (arith, few))
in_parts f zero (suc d) (suc n) (s ∷ ss) sum few = ap (λ ts. f s ∷ ts) (in_parts f zero d n ss (omega (arith, sum)) (omega (arith, few)))
in_parts f (suc k) d zero spans sum few = absurd (omega (arith, sum))
in_parts f (suc k) d (suc n) [] sum few = absurd (omega (arith, few))
in_parts f (suc k) d (suc n) (s ∷ ss) sum few = ap (λ ts. s ∷ ts) (in_parts f k d n ss (omega (arith, sum)) (omega (arith, few)))

-- so it is the map between these places
each_between-is : (f : Span → Span) (k n : ℕ) (spans : List Span) → k ≤ n → n ≤ length spans → map_between f k n spans ≡ each_between f k n spans
each_between-is f k n spans low few = in_parts f k (n - k) n spans (omega (arith, low)) few

-- spans that all have nothing to give pass on what they are repaid
record PassWhole (lifts : List Lift) (more : ℤ) (n : ℕ) (rows : List Span) : Type 0 where
  same : carry more (take n (lifted lifts rows)) ≡ more
  walk : lifted lifts (each_between (lifted_by more) zero n rows) ≡ walked more n (lifted lifts rows)

-- all of them pass it on
pass-whole : (lifts : List Lift) (more : ℤ) (n : ℕ) (rows : List Span) → ((i : ℕ) (s : Span) → i < n → slice_get rows i ≡ Some s → GivesNone more (lifted_in lifts s)) → AllByRecursion (λ (s : Span). IsWithin s.spare) (walked more n (lifted lifts rows)) → PassWhole lifts more n rows
pass-whole lifts more zero rows none near = record { same = refl; walk = refl }
pass-whole lifts more (suc n) [] none near = record { same = refl; walk = refl }
pass-whole lifts more (suc n) (s ∷ ss) none near =
    let rest = pass-whole lifts more n ss (λ i t l at. none (suc i) t (omega (arith, l)) at) near.1 in
    let row = lifted_in lifts s in
    let gives = none 0 s (omega arith) refl in
    let within : IsWithin (row.spare +ℤ more) = subst (λ c. IsWithin (row.spare +ℤ c)) rest.same near.0 in
    let passes : repaid row.spare (row.spare +ℤ more) ≡ more = omega (arith, ints, clamps, gives.0, gives.1) in
    record {
      same = ap (λ c. repaid row.spare (row.spare +ℤ c)) rest.same ∙ passes;
      walk =
          ap (λ (t : Span). t ∷ lifted lifts (each_between (lifted_by more) zero n ss)) (lifted-more lifts more s within)
          ∙ ap (λ ts. raised more row ∷ ts) rest.walk
          ∙ ap (λ c. raised c row ∷ walked more n (lifted lifts ss)) (sym rest.same);
    }

-- what the span before the first of a run is repaid
abbrev pub repaid_by : List Lift → ℤ → Span → ℤ
repaid_by lifts more first = repaid (lifted_in lifts first).spare ((lifted_in lifts first).spare +ℤ more)

-- a run follows at once: the spans before it follow what its first repays
record FollowsAs (lifts : List Lift) (more : ℤ) (k n : ℕ) (first : Span) (new rows : List Span) : Type 0 where
  within : IsWithin ((lifted_in lifts first).spare +ℤ more)
  same : carry (repaid_by lifts more first) (take k new) ≡ carry more (take n rows)
  walk : walked (repaid_by lifts more first) k new ≡ walked more n rows

-- the rows where what is kept of a run is raised
abbrev raised_run : List Lift → ℤ → ℕ → ℕ → List Span → List Span
raised_run lifts more k n rows = lifted lifts (each_between (lifted_by more) k n rows)

-- a run follows so where the rows it leads to have capacities within bounds
follows-run : (lifts : List Lift) (more : ℤ) (k n : ℕ) (first : Span) (rows : List Span) → k < n → slice_get rows k ≡ Some first → ((i : ℕ) (s : Span) → k < i → i < n → slice_get rows i ≡ Some s → GivesNone more (lifted_in lifts s)) → AllByRecursion (λ (s : Span). IsWithin s.spare) (walked more n (lifted lifts rows)) → FollowsAs lifts more k n first (raised_run lifts more k n rows) (lifted lifts rows)
follows-run lifts more k zero first rows low at none near = absurd (omega (arith, low))
follows-run lifts more k (suc n) first [] low at none near = absurd (omega (arith, slice_get_within [] k first at))
follows-run lifts more zero (suc n) first (s ∷ ss) low at none near =
    let rest = pass-whole lifts more n ss (λ i t l is. none (suc i) t (omega arith) (omega (arith, l)) is) near.1 in
    let row = lifted_in lifts s in
    let within : IsWithin (row.spare +ℤ more) = subst (λ c. IsWithin (row.spare +ℤ c)) rest.same near.0 in
    subst (λ t. FollowsAs lifts more zero (suc n) t (raised_run lifts more zero (suc n) (s ∷ ss)) (lifted lifts (s ∷ ss))) (same_Some s first at) (record {
      within = within;
      same = ap (λ c. repaid row.spare (row.spare +ℤ c)) (sym rest.same);
      walk =
          ap (λ (t : Span). t ∷ raised_run lifts more zero n ss) (lifted-more lifts more s within)
          ∙ ap (λ ts. raised more row ∷ ts) rest.walk
          ∙ ap (λ c. raised c row ∷ walked more n (lifted lifts ss)) (sym rest.same);
    })
follows-run lifts more (suc k) (suc n) first (s ∷ ss) low at none near =
    let rest = follows-run lifts more k n first ss (omega (arith, low)) at (λ i t l h is. none (suc i) t (omega (arith, l)) (omega (arith, h)) is) near.1 in
    let row = lifted_in lifts s in
    record {
      within = rest.within;
      same = ap (λ c. repaid row.spare (row.spare +ℤ c)) rest.same;
      walk =
          ap (λ c. raised c row ∷ walked (repaid_by lifts more first) k (raised_run lifts more k n ss)) rest.same
          ∙ ap (λ ts. raised (carry more (take n (lifted lifts ss))) row ∷ ts) rest.walk;
    }

-- a walk with a run raised leads to the same rows
pub record FollowsRun (lifts : List Lift) (more : ℤ) (k n : ℕ) (first : Span) (rows : List Span) : Type 0 where
  pub within : IsWithin ((lifted_in lifts first).spare +ℤ more)
  pub walk :
      walked (repaid_by lifts more first) k (lifted lifts (map_between (lifted_by more) k n rows))
      ≡ walked more n (lifted lifts rows)

-- they are, since these rows are filled
pub FollowsRun-AreFilled : (lifts : List Lift) (more : ℤ) (k n : ℕ) (first : Span) (rows : List Span) → k < n → n ≤ length rows → slice_get rows k ≡ Some first → ((i : ℕ) (s : Span) → k < i → i < n → slice_get rows i ≡ Some s → GivesNone more (lifted_in lifts s)) → AreFilled (walked more n (lifted lifts rows)) → FollowsRun lifts more k n first rows
FollowsRun-AreFilled lifts more k n first rows low few at none are =
    let target = walked more n (lifted lifts rows) in
    let all = follows-run lifts more k n first rows low at none (AreWithin (first_start target) target are.consecutive are.filled are.few) in
    record {
      within = all.within;
      walk = ap (λ xs. walked (repaid_by lifts more first) k (lifted lifts xs)) (each_between-is (lifted_by more) k n rows (omega (arith, low)) few) ∙ all.walk;
    }

-- the first of the run is raised with it
first-each : (more : ℤ) (k n : ℕ) (first : Span) (rows : List Span) → k < n → slice_get rows k ≡ Some first → slice_get (each_between (lifted_by more) k n rows) k ≡ Some (lifted_by more first)
first-each more k zero first rows low at = absurd (omega (arith, low))
first-each more k (suc n) first [] low at = absurd (omega (arith, slice_get_within [] k first at))
first-each more zero (suc n) first (s ∷ ss) low at = ap (λ t. Some (lifted_by more t)) (same_Some s first at)
first-each more (suc k) (suc n) first (s ∷ ss) low at = first-each more k n first ss (omega (arith, low)) at

-- so it stands there in the rows with the run raised
pub first-of-run : (more : ℤ) (k n : ℕ) (first : Span) (rows : List Span) → k < n → n ≤ length rows → slice_get rows k ≡ Some first → slice_get (map_between (lifted_by more) k n rows) k ≡ Some (lifted_by more first)
first-of-run more k n first rows low few at =
    ap (λ xs. slice_get xs k) (each_between-is (lifted_by more) k n rows (omega (arith, low)) few) ∙ first-each more k n first rows low at

-- a bound on the capacities of a run once it is raised, from some span of it on
up-each : (lifts : List Lift) (more high : ℤ) (k m d n : ℕ) (rows : List Span) → k ≤ m → m + d ≡ n → n ≤ length rows → ((i : ℕ) (s : Span) → m ≤ i → i < n → slice_get rows i ≡ Some s → int_wrap w64 ((lifted_in lifts s).spare +ℤ more) ≤ℤ high) → HaveAtMost high (take d (drop m (raised_run lifts more k n rows)))
up-each lifts more high k m zero n rows l sum few up = tt
up-each lifts more high k m (suc d) zero rows l sum few up = absurd (omega (arith, sum))
up-each lifts more high k m (suc d) (suc n) [] l sum few up = absurd (omega (arith, few))
up-each lifts more high (suc k) zero (suc d) (suc n) (s ∷ ss) l sum few up = absurd (omega (arith, l))
up-each lifts more high zero zero (suc d) (suc n) (s ∷ ss) l sum few up =
    (omega (arith, ints, twice lifts more s, up 0 s (omega arith) (omega arith) refl), up-each lifts more high zero zero d n ss l (omega (arith, sum)) (omega (arith, few)) (λ i t low top is. up (suc i) t (omega arith) (omega (arith, top)) is))
up-each lifts more high zero (suc m) (suc d) (suc n) (s ∷ ss) l sum few up =
    up-each lifts more high zero m (suc d) n ss (omega arith) (omega (arith, sum)) (omega (arith, few)) (λ i t low top is. up (suc i) t (omega (arith, low)) (omega (arith, top)) is)
up-each lifts more high (suc k) (suc m) (suc d) (suc n) (s ∷ ss) l sum few up =
    up-each lifts more high k m (suc d) n ss (omega (arith, l)) (omega (arith, sum)) (omega (arith, few)) (λ i t low top is. up (suc i) t (omega (arith, low)) (omega (arith, top)) is)

-- so it is one on the rows with the run raised
HaveAtMost-run : (lifts : List Lift) (more high : ℤ) (k m n : ℕ) (rows : List Span) → k ≤ m → m ≤ n → n ≤ length rows → ((i : ℕ) (s : Span) → m ≤ i → i < n → slice_get rows i ≡ Some s → int_wrap w64 ((lifted_in lifts s).spare +ℤ more) ≤ℤ high) → HaveAtMost high (take (n - m) (drop m (lifted lifts (map_between (lifted_by more) k n rows))))
HaveAtMost-run lifts more high k m n rows l low few up =
    subst (λ xs. HaveAtMost high (take (n - m) (drop m (lifted lifts xs)))) (sym (each_between-is (lifted_by more) k n rows (omega (arith, l, low)) few)) (up-each lifts more high k m (n - m) n rows l (omega (arith, low)) few up)

-- spans follow on where they do with their capacities lifted
pub FollowOn-lifted : (lifts : List Lift) (start : ℕ) (spans : List Span) → FollowOn start (lifted lifts spans) → FollowOn start spans
FollowOn-lifted lifts start [] h = h
FollowOn-lifted lifts start (s ∷ ss) h = (h.0, h.1, h.2, h.3, FollowOn-lifted lifts s.end ss h.4)

-- they start where they did
first_start-lifted : (lifts : List Lift) (spans : List Span) → first_start (lifted lifts spans) ≡ first_start spans
first_start-lifted lifts [] = refl
first_start-lifted lifts (s ∷ ss) = refl

-- so what is kept follows on where the spans do at the end of a walk
pub follows-lifted : (lifts : List Lift) (walk : Walk) (spans : List Span) → AreFilled (after_walk walk (lifted lifts spans)) → FollowOn (first_start spans) spans
follows-lifted lifts walk spans are =
    subst (λ n. FollowOn n spans) (first_start-lifted lifts spans) (FollowOn-lifted lifts (first_start (lifted lifts spans)) spans (follows-walk walk (lifted lifts spans) are))

-- and as many end before a time
pub ends_before-lifted : (lifts : List Lift) (y : ℕ) (spans : List Span) → ends_before y (lifted lifts spans) ≡ ends_before y spans
ends_before-lifted lifts y [] = refl
ends_before-lifted lifts y (s ∷ ss) =
    elim (cases_lt s.end y) [
      | inl early ↦
          ends_before-ended y (lifted_in lifts s) (lifted lifts ss) early ∙ ap suc (ends_before-lifted lifts y ss) ∙ sym (ends_before-ended y s ss early)
      | inr late ↦
          ends_before-later y (lifted_in lifts s) (lifted lifts ss) late ∙ ends_before-lifted lifts y ss ∙ sym (ends_before-later y s ss late)
    ]

-- a span with no fewer before it than end before a time ends then or later
ends-late : (start y i : ℕ) (rows : List Span) (s : Span) → FollowOn start rows → slice_get rows i ≡ Some s → ends_before y rows ≤ i → y ≤ s.end
ends-late start y i rows s follow at low =
    elim (cases_lt s.end y) [
      | inl early ↦ absurd (omega (arith, low, ends_before-past start y i rows s follow at early))
      | inr late ↦ late
    ]

-- and one with fewer before it, before
ends-early : (start y i : ℕ) (rows : List Span) (s : Span) → FollowOn start rows → slice_get rows i ≡ Some s → i < ends_before y rows → s.end < y
ends-early start y i rows s follow at low =
    elim (cases_lt s.end y) [
      | inl early ↦ early
      | inr late ↦ absurd (omega (arith, low, ends_before-short start y i rows s follow at late))
    ]

-- spans that are raised back in a page, from one that passes it on to another
pub record IsRun (lifts : List Lift) (page : ℕ) (lift : Lift) (raise : Raise) (k n : ℕ) (rows : List Span) : Type 0 where
  pub follow : FollowOn (first_start rows) rows
  pub told : slice_get lifts (page % 512) ≡ Some lift
  pub some : ends_before (page * 64) rows < n
  pub place : n ≤ ends_before ((page + 1) * 64) rows
  pub border : raise.border ≡ page * 64
  pub add : raise.add ≡ lift.add
  pub limit : raise.limit ≤ℤ pos 0
  pub after : (raise.limit +ℤ raise.more) ≤ℤ pos 0
  pub before : k < n
  pub passed : (i : ℕ) (s : Span) → k < i → i < n → slice_get rows i ≡ Some s → passes_on raise s ≡ true

-- a span that passes on what it is repaid starts at the border or later
passed-start : (raise : Raise) (s : Span) → passes_on raise s ≡ true → raise.border ≤ s.start
passed-start raise s e = leb-true raise.border s.start (and_parts (leb raise.border s.start) (int_le (spare_under raise.add s) raise.limit) e).0

-- and had no more capacity than the limit
passed-spare : (raise : Raise) (s : Span) → passes_on raise s ≡ true → spare_under raise.add s ≤ℤ raise.limit
passed-spare raise s e = le_z_yes (subst T (sym (and_parts (leb raise.border s.start) (int_le (spare_under raise.add s) raise.limit) e).1) tt)

module _ (lifts : List Lift) (page : ℕ) (lift : Lift) (raise : Raise) (k n : ℕ) (rows : List Span) (is : IsRun lifts page lift raise k n rows) where
  -- there are as many spans
  pub IsRun-within : n ≤ length rows
  IsRun-within = omega (arith, is.place, count_by-le-length (λ (s : Span). ltb s.end ((page + 1) * 64)) rows)

  -- each ends in the page
  run-late : (i : ℕ) (s : Span) → k ≤ i → i < n → slice_get rows i ≡ Some s → page * 64 ≤ s.end
  run-late i s low high at =
      elim (cases_lt (suc i) n) [
        | inl more ↦
            let t = get_or rows (suc i) no_row in
            let next : slice_get rows (suc i) ≡ Some t = slice_get-get_or rows (suc i) no_row (omega (arith, more, IsRun-within)) in
            let start = passed-start raise t (is.passed (suc i) t (omega (arith, low)) more next) in
            omega (arith, start, is.border, meets (first_start rows) i rows s t is.follow at next)
        | inr last ↦ ends-late (first_start rows) (page * 64) i rows s is.follow at (omega (arith, last, is.some))
      ]

  -- and has its lift
  pub IsRun-spare : (i : ℕ) (s : Span) → k ≤ i → i < n → slice_get rows i ≡ Some s → (lifted_in lifts s).spare ≡ spare_under raise.add s
  IsRun-spare i s low high at =
      let early = ends-early (first_start rows) ((page + 1) * 64) i rows s is.follow at (omega (arith, high, is.place)) in
      let there = lift_of-there lifts (page % 512) lift is.told s (in-page s.end page (run-late i s low high at) early) in
      ap (λ (l : Lift). int_wrap w64 (s.spare +ℤ l.add)) there ∙ ap (λ a. int_wrap w64 (s.spare +ℤ a)) (sym is.add)

  -- all but the first have nothing to give
  run-none : (i : ℕ) (s : Span) → k < i → i < n → slice_get rows i ≡ Some s → GivesNone raise.more (lifted_in lifts s)
  run-none i s low high at =
      let spare = IsRun-spare i s (omega (arith, low)) high at in
      let below = passed-spare raise s (is.passed i s low high at) in
      (omega (arith, ints, spare, below, is.limit), omega (arith, ints, spare, below, is.after))

  -- the spans before the page are left
  pub IsRun-reached : ends_before (page * 64) rows ≤ k
  IsRun-reached =
      let s = get_or rows k no_row in
      let at : slice_get rows k ≡ Some s = slice_get-get_or rows k no_row (omega (arith, is.before, IsRun-within)) in
      ends_before-short (first_start rows) (page * 64) k rows s is.follow at (run-late k s (omega arith) is.before at)

  -- those of the run follow
  pub IsRun-follows : (first : Span) → slice_get rows k ≡ Some first → AreFilled (walked raise.more n (lifted lifts rows)) → FollowsRun lifts raise.more k n first rows
  IsRun-follows first at are = FollowsRun-AreFilled lifts raise.more k n first rows is.before IsRun-within at run-none are

  -- a bound on all of it but the first of all spans
  pub IsRun-up : (high : ℤ) → ((i : ℕ) (s : Span) → 1 ≤ i → k ≤ i → i < n → slice_get rows i ≡ Some s → spare_after raise s ≤ℤ high) → HaveAtMost high (others_between k n (lifted lifts (map_between (lifted_by raise.more) k n rows)))
  IsRun-up high up =
      HaveAtMost-run lifts raise.more high k (max 1 k) n rows (omega arith) (omega (arith, is.before)) IsRun-within (λ i s low top at.
      let own : k ≤ i = omega (arith, low) in
      let later : 1 ≤ i = omega (arith, low) in
      subst (λ x. int_wrap w64 (x +ℤ raise.more) ≤ℤ high) (sym (IsRun-spare i s own top at)) (up i s later own top at))

-- walks to the same end leave as many of the kept spans before a time
pub ends_before-runs : (y : ℕ) (lifts : List Lift) (walk from : Walk) (new rows : List Span) → after_walk walk (lifted lifts new) ≡ after_walk from (lifted lifts rows) → ends_before y new ≡ ends_before y rows
ends_before-runs y lifts walk from new rows same =
    sym (ends_before-lifted lifts y new) ∙ ends_before-walks y walk from (lifted lifts new) (lifted lifts rows) same ∙ ends_before-lifted lifts y rows

-- a walk that has come to a span which starts at some time
module _ (lifts : List Lift) (walk : Walk) (start : ℕ) (rows : List Span) (are : AreFilled (after_walk walk (lifted lifts rows))) (within : walk.index < length rows) (here : IfSome (slice_get rows walk.index) (λ (s : Span). s.start ≡ start)) where
  -- that span
  come-to : (s : Span) × (slice_get rows walk.index ≡ Some s) × (s.start ≡ start)
  come-to =
      let s = get_or rows walk.index no_row in
      let at : slice_get rows walk.index ≡ Some s = slice_get-get_or rows walk.index no_row within in
      (s, at, subst (λ o. IfSome o (λ (t : Span). t.start ≡ start)) at here)

  -- where that is no earlier than y, the span before it does not end before y
  pub come-after : (y : ℕ) → 0 < walk.index → y ≤ start → ends_before y rows < walk.index
  come-after y some late =
      let k = walk.index - 1 in
      let next : suc k ≡ walk.index = omega (arith, some) in
      let s = get_or rows k no_row in
      let at : slice_get rows k ≡ Some s = slice_get-get_or rows k no_row (omega (arith, some, within)) in
      let after : slice_get rows (suc k) ≡ Some come-to.0 = ap (slice_get rows) next ∙ come-to.1 in
      let follow = follows-lifted lifts walk rows are in
      let ends = meets (first_start rows) k rows s come-to.0 follow at after in
      omega (arith, some, ends_before-short (first_start rows) y k rows s follow at (omega (arith, late, ends, come-to.2)))

  -- where it is earlier, all spans that end before y are those before it
  pub come-before : (y : ℕ) → ends_before y rows ≤ walk.index → start < y → walk.index ≡ ends_before y rows
  come-before y reached early =
      let follow = follows-lifted lifts walk rows are in
      let late = ends-late (first_start rows) y walk.index rows come-to.0 follow come-to.1 reached in
      sym (ends_before-inside (first_start rows) y walk.index rows come-to.0 follow come-to.1 (omega (arith, early, come-to.2)) late)

-- a bound is one that is greater
up-more : (low high : ℤ) (rows : List Span) → low ≤ℤ high → HaveAtMost low rows → HaveAtMost high rows
up-more low high [] l h = tt
up-more low high (s ∷ ss) l h = (omega (arith, ints, l, h.0), up-more low high ss l h.1)

-- a bound on some spans and on those after them is one on all
up-join : (high : ℤ) (a b c : ℕ) (rows : List Span) → a + b ≡ c → HaveAtMost high (take a rows) → HaveAtMost high (take b (drop a rows)) → HaveAtMost high (take c rows)
up-join high zero b c rows sum front rest =
    let same : b ≡ c = omega (arith, sum) in
    subst (λ n. HaveAtMost high (take n rows)) same rest
up-join high (suc a) b zero rows sum front rest = absurd (omega (arith, sum))
up-join high (suc a) b (suc c) [] sum front rest = tt
up-join high (suc a) b (suc c) (s ∷ ss) sum front rest = (front.0, up-join high a b c ss (omega (arith, sum)) front.1 rest)

-- a rest of a rest
drop-join : (k a n : ℕ) (rows : List Span) → k + a ≡ n → drop a (drop k rows) ≡ drop n rows
drop-join k a n rows sum = drop-drop a k rows ∙ ap (λ m. drop m rows) sum

-- lists that are the same from a place on are so from a later one on
pub drop-further : (k n : ℕ) (new rows : List Span) → drop k new ≡ drop k rows → k ≤ n → drop n new ≡ drop n rows
drop-further k n new rows same l =
    sym (drop-join k (n - k) n new (omega (arith, l))) ∙ ap (drop (n - k)) same ∙ drop-join k (n - k) n rows (omega (arith, l))

-- lists that are the same up to a place are so up to an earlier one
pub take-fewer : (j k : ℕ) (new rows : List Span) → take k new ≡ take k rows → j ≤ k → take j new ≡ take j rows
take-fewer j k new rows same l = sym (take-take j k new l) ∙ ap (take j) same ∙ take-take j k rows l

-- so are the spans that are kept so
pub take-lifted : (lifts : List Lift) (k : ℕ) (new rows : List Span) → take k new ≡ take k rows → take k (lifted lifts new) ≡ take k (lifted lifts rows)
take-lifted lifts k new rows same = take-map (lifted_in lifts) k new ∙ ap (lifted lifts) same ∙ sym (take-map (lifted_in lifts) k rows)

-- the greater of the bounds on a run and on the spans after it is one on all of them
HaveAtMost-runs : (lifts : List Lift) (low high top : ℤ) (j k n : ℕ) (new rows : List Span) → j ≤ k → k ≤ n → low ≤ℤ top → high ≤ℤ top → drop k new ≡ drop k rows → HaveAtMost high (take (k - j) (drop j (lifted lifts new))) → HaveAtMost low (take (n - k) (drop k (lifted lifts rows))) → HaveAtMost top (take (n - j) (drop j (lifted lifts new)))
HaveAtMost-runs lifts low high top j k n new rows l m under over same run rest =
    let after : drop k (lifted lifts rows) ≡ drop (k - j) (drop j (lifted lifts new)) =
    drop-map (lifted_in lifts) k rows ∙ ap (lifted lifts) (sym same) ∙ sym (drop-map (lifted_in lifts) k new)
    ∙ sym (drop-join j (k - j) k (lifted lifts new) (omega (arith, l))) in
    up-join top (k - j) (n - k) (n - j) (drop j (lifted lifts new)) (omega (arith, l, m)) (up-more high top (take (k - j) (drop j (lifted lifts new))) over run)
    (subst (λ xs. HaveAtMost top (take (n - k) xs)) after (up-more low top (take (n - k) (drop k (lifted lifts rows))) under rest))

-- so it is of all but the first of all spans
pub HaveAtMost-others : (lifts : List Lift) (low high top : ℤ) (j k n : ℕ) (new rows : List Span) → j < k → k ≤ n → low ≤ℤ top → high ≤ℤ top → drop k new ≡ drop k rows → HaveAtMost high (others_between j k (lifted lifts new)) → HaveAtMost low (others_between k n (lifted lifts rows)) → HaveAtMost top (others_between j n (lifted lifts new))
HaveAtMost-others lifts low high top j zero n new rows l m under over same run rest = absurd (omega (arith, l))
HaveAtMost-others lifts low high top j (suc k) n new rows l m under over same run rest =
    HaveAtMost-runs lifts low high top (max 1 j) (suc k) n new rows (omega (arith, l)) m under over same run
    (subst (λ m. HaveAtMost low (take (n - m) (drop m (lifted lifts rows)))) (omega arith) rest)

-- what holds of spans by their places holds of those between two
all-each : (P : Span → Type 0) (k d n : ℕ) (rows : List Span) → k + d ≡ n → ((i : ℕ) (s : Span) → k ≤ i → i < n → slice_get rows i ≡ Some s → P s) → AllByRecursion P (take d (drop k rows))
all-each P zero zero n rows sum each = tt
all-each P zero (suc d) n [] sum each = tt
all-each P zero (suc d) zero (s ∷ ss) sum each = absurd (omega (arith, sum))
all-each P zero (suc d) (suc n) (s ∷ ss) sum each =
    (each 0 s (omega arith) (omega arith) refl, all-each P zero d n ss (omega (arith, sum)) (λ i t l h is. each (suc i) t (omega arith) (omega (arith, h)) is))
all-each P (suc k) zero n [] sum each = tt
all-each P (suc k) (suc d) n [] sum each = tt
all-each P (suc k) d zero (s ∷ ss) sum each = absurd (omega (arith, sum))
all-each P (suc k) d (suc n) (s ∷ ss) sum each =
    all-each P k d n ss (omega (arith, sum)) (λ i t l h is. each (suc i) t (omega (arith, l)) (omega (arith, h)) is)

-- and what holds of those before, between and after them holds of all
all-join : (P : Span → Type 0) (k d n : ℕ) (rows : List Span) → k + d ≡ n → AllByRecursion P (take k rows) → AllByRecursion P (take d (drop k rows)) → AllByRecursion P (drop n rows) → AllByRecursion P rows
all-join P k d n [] sum front run rest = tt
all-join P zero zero zero (s ∷ ss) sum front run rest = rest
all-join P zero zero (suc n) (s ∷ ss) sum front run rest = absurd (omega (arith, sum))
all-join P zero (suc d) zero (s ∷ ss) sum front run rest = absurd (omega (arith, sum))
all-join P zero (suc d) (suc n) (s ∷ ss) sum front run rest = (run.0, all-join P zero d n ss (omega (arith, sum)) tt run.1 rest)
all-join P (suc k) d zero (s ∷ ss) sum front run rest = absurd (omega (arith, sum))
all-join P (suc k) d (suc n) (s ∷ ss) sum front run rest = (front.0, all-join P k d n ss (omega (arith, sum)) front.1 run rest)

-- spans with all before them that end before a page, and before those that end later, end in it
in-pages : (start page k n : ℕ) (rows : List Span) → FollowOn start rows → k ≤ n → ends_before (page * 64) rows ≤ k → n ≤ ends_before ((page + 1) * 64) rows → AllByRecursion (λ (s : Span). mark_index s.end ≡ page % 512) (take (n - k) (drop k rows))
in-pages start page k n rows follow l low high =
    all-each (λ (s : Span). mark_index s.end ≡ page % 512) k (n - k) n rows (omega (arith, l)) (λ i s above below at.
    in-page s.end page (ends-late start (page * 64) i rows s follow at (omega (arith, low, above))) (ends-early start ((page + 1) * 64) i rows s follow at (omega (arith, high, below))))

-- a lift that adds the same, and says no less
module _ (lifts : List Lift) (j : ℕ) (was : Lift) (at : slice_get lifts j ≡ Some was) (lift : Lift) (same : lift.add ≡ was.add) where
  abbrev IsCovered : Span → Type 0
  IsCovered s = (lifted_in (set lifts j lift) s).spare ≤ℤ (lift_of (set lifts j lift) s).high

  -- covers spans of its mark with no more capacity
  covered-run : (high : ℤ) (k d : ℕ) (rows : List Span) → high ≤ℤ lift.high → AllByRecursion (λ (s : Span). mark_index s.end ≡ j) (take d (drop k rows)) → HaveAtMost high (take d (drop k (lifted lifts rows))) → AllByRecursion IsCovered (take d (drop k rows))
  covered-run high zero zero rows l own up = tt
  covered-run high zero (suc d) [] l own up = tt
  covered-run high zero (suc d) (s ∷ ss) l own up =
      let top = ap (λ (t : Lift). t.high) (lift_of-set lifts j was at lift s own.0) in
      let spare = ap (λ (t : Span). t.spare) (lifted_in-same lifts j was at lift s same) in
      (omega (arith, ints, l, up.0, top, spare), covered-run high zero d ss l own.1 up.1)
  covered-run high (suc k) zero [] l own up = tt
  covered-run high (suc k) (suc d) [] l own up = tt
  covered-run high (suc k) d (s ∷ ss) l own up = covered-run high k d ss l own up

  -- and the spans before and after them, which were covered
  AreCovered-runs : (high : ℤ) (k n : ℕ) (new rows : List Span) → was.high ≤ℤ lift.high → high ≤ℤ lift.high → k ≤ n → AreCovered lifts rows → AllByRecursion (λ (s : Span). mark_index s.end ≡ j) (take (n - k) (drop k new)) → HaveAtMost high (take (n - k) (drop k (lifted lifts new))) → take k new ≡ take k rows → drop n new ≡ drop n rows → AreCovered (set lifts j lift) new
  AreCovered-runs high k n new rows more over l all own up front rest =
      let below = AreAtMost-more j was.high lift.high more (lifted lifts rows) (AreAtMost-covered lifts j was at rows all) in
      let still : AllByRecursion IsCovered rows = AreCovered-set lifts j was at lift same rows below all in
      let each = All-from_recursion IsCovered rows still in
      let first = recursion_from_All IsCovered (take k rows) (All-take IsCovered k rows each) in
      let last = recursion_from_All IsCovered (drop n rows) (All-drop IsCovered n rows each) in
      all-join IsCovered k (n - k) n new (omega (arith, l)) (subst (AllByRecursion IsCovered) (sym front) first) (covered-run high k (n - k) new over own up)
      (subst (AllByRecursion IsCovered) (sym rest) last)

  -- so are all but the first where the first need not be
  pub AreCovered-others : (high : ℤ) (k n : ℕ) (new rows : List Span) → was.high ≤ℤ lift.high → high ≤ℤ lift.high → k < n → AreCovered lifts (drop 1 rows) → AllByRecursion (λ (s : Span). mark_index s.end ≡ j) (take (n - k) (drop k new)) → HaveAtMost high (others_between k n (lifted lifts new)) → take k new ≡ take k rows → drop n new ≡ drop n rows → AreCovered (set lifts j lift) (drop 1 new)
  AreCovered-others high k n [] rows more over l all own up front rest = tt
  AreCovered-others high k zero (s ∷ ss) rows more over l all own up front rest = absurd (omega (arith, l))
  AreCovered-others high zero (suc n) (s ∷ ss) rows more over l all own up front rest =
      let count : n ≡ n - 0 = omega arith in
      let owns : AllByRecursion (λ (s : Span). mark_index s.end ≡ j) (take (suc n) (s ∷ ss)) = simp unary_clauses at own in
      let ups = subst (HaveAtMost high) (others_between-first n (lifted_in lifts s) (lifted lifts ss)) up in
      AreCovered-runs high zero n ss (drop 1 rows) more over (omega arith) all (rw (sym count) owns.1) (rw (sym count) ups) refl (rest ∙ sym (drop-join 1 n (suc n) rows (omega arith)))
  AreCovered-others high (suc k) (suc n) (s ∷ ss) [] more over l all own up front rest = absurd (omega (arith, ap length front))
  AreCovered-others high (suc k) (suc n) (s ∷ ss) (t ∷ ts) more over l all own up front rest =
      AreCovered-runs high k n ss ts more over (omega (arith, l)) all (simp unary_clauses at own) (subst (HaveAtMost high) (others_between-next k n (lifted_in lifts s) (lifted lifts ss)) up) (ap (drop 1) front) rest

-- a lifted span starts where it does
pub start-lifted : (lifts : List Lift) (start k : ℕ) (rows : List Span) → IfSome (slice_get rows k) (λ (s : Span). s.start ≡ start) → IfSome (slice_get (lifted lifts rows) k) (λ (s : Span). s.start ≡ start)
start-lifted lifts start k [] at = at
start-lifted lifts start zero (s ∷ ss) at = at
start-lifted lifts start (suc k) (s ∷ ss) at = start-lifted lifts start k ss at

-- spans of a walk end in a page where it leaves those before the page and has not come after it
pub in-walk : (lifts : List Lift) (walk from : Walk) (page : ℕ) (new rows : List Span) → AreFilled (after_walk from (lifted lifts rows)) → after_walk walk (lifted lifts new) ≡ after_walk from (lifted lifts rows) → walk.index ≤ from.index → ends_before (page * 64) rows ≤ walk.index → from.index ≤ ends_before ((page + 1) * 64) rows → AllByRecursion (λ (s : Span). mark_index s.end ≡ page % 512) (take (from.index - walk.index) (drop walk.index new))
in-walk lifts walk from page new rows are same l low high =
    let follow = follows-lifted lifts walk new (subst AreFilled (sym same) are) in
    in-pages (first_start new) page walk.index from.index new follow l (omega (arith, low, ends_before-runs (page * 64) lifts walk from new rows same)) (omega (arith, high, ends_before-runs ((page + 1) * 64) lifts walk from new rows same))
