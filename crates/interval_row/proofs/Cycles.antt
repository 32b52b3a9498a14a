-- Spans that are appended to others.
use Rattle.std.proofs.Math.Nat.{mul-le-mul_left}
use Rattle.std.proofs.Common.{◌≡◌, ℕ, suc, ◌+◌, ◌-◌, ◌*◌, ◌≤◌, ◌^◌, ℤ, pos, ◌≤ℤ◌, List, [], ◌∷◌, ◌++◌, length, map, get_or, take, take-suc, refl, sym, ◌∙◌, ap, arith, zero, zero-add, subst, ◌<◌}
use Rattle.std.proofs.lemmas.Int.{ints, clamps}
use Rattle.std.proofs.lemmas.List.{append_assoc, length-append, length-map, map-append}
use Rattle.slot_core.specs.declared.jobs.Span.{Span}
use Rattle.spare_capacity.specs.Recurrence.{filled, first_spare, with_spare, FollowOn, first_start, last_end}
use Rattle.spare_capacity.proofs.Steps.{no_row}
use Rattle.spare_capacity.specs.PlanSpans.{AreProper, ArePlanSpans}
use Rattle.interval_row.specs.Changes.{appended, copies_of, shifted}
use Rattle.interval_row.proofs.Fillings.{with_spare-LendsSame, LendsSame}

-- a shifted span has its capacity where the one that is not shifted has it
with_spare-shifted : (by : ℕ) (s : Span) (later : ℤ) → with_spare (shifted by s) later ≡ shifted by (with_spare s later)
with_spare-shifted by s later =
    let same : (s.end + by) - (s.start + by) ≡ s.end - s.start = omega arith in
    rw same refl

first_spare-shifted : (by : ℕ) (spans : List Span) → first_spare (map (shifted by) spans) ≡ first_spare spans
first_spare-shifted by [] = refl
first_spare-shifted by (s ∷ ss) = refl

-- shifted spans have their capacities
filled-shifted : (by : ℕ) (spans : List Span) → filled (map (shifted by) spans) ≡ map (shifted by) (filled spans)
filled-shifted by [] = refl
filled-shifted by (s ∷ ss) =
    let rest : filled (map (shifted by) ss) ≡ map (shifted by) (filled ss) = filled-shifted by ss in
    let later : first_spare (filled (map (shifted by) ss)) ≡ first_spare (filled ss) = ap first_spare rest ∙ first_spare-shifted by (filled ss) in
    ap (λ m. with_spare (shifted by s) m ∷ filled (map (shifted by) ss)) later
    ∙ ap (λ xs. with_spare (shifted by s) (first_spare (filled ss)) ∷ xs) rest
    ∙ ap (λ x. x ∷ map (shifted by) (filled ss)) (with_spare-shifted by s (first_spare (filled ss)))

-- what borrows nothing changes no capacity before it
LendsSame-append : (xs ys : List Span) → pos 0 ≤ℤ first_spare ys → LendsSame (first_spare (xs ++ ys)) (first_spare xs)
LendsSame-append [] ys h = omega (arith, ints, clamps)
LendsSame-append (s ∷ ss) ys h = refl

pub filled-append : (xs ys : List Span) → pos 0 ≤ℤ first_spare (filled ys) → filled (xs ++ ys) ≡ filled xs ++ filled ys
filled-append [] ys h = refl
filled-append (s ∷ ss) ys h =
    let rest : filled (ss ++ ys) ≡ filled ss ++ filled ys = filled-append ss ys h in
    ap (λ xs. with_spare s (first_spare xs) ∷ xs) rest
    ∙ ap (λ x. x ∷ (filled ss ++ filled ys)) (with_spare-LendsSame s (first_spare (filled ss ++ filled ys)) (first_spare (filled ss)) (LendsSame-append (filled ss) (filled ys) h))

pub FollowOn-append : (start : ℕ) (xs ys : List Span) → FollowOn start xs → FollowOn (last_end start xs) ys → FollowOn start (xs ++ ys)
FollowOn-append start [] ys h g = g
FollowOn-append start (s ∷ ss) ys h g = (h.0, h.1, h.2, h.3, FollowOn-append s.end ss ys h.4 g)

pub FollowOn-shifted : (start by : ℕ) (spans : List Span) → FollowOn start spans → FollowOn (start + by) (map (shifted by) spans)
FollowOn-shifted start by [] h = h
FollowOn-shifted start by (s ∷ ss) h = (ap (λ n. n + by) h.0, omega (arith, h.1), omega (arith, h.2), h.3, FollowOn-shifted s.end by ss h.4)

pub AreProper-append : (xs ys : List Span) → AreProper xs → AreProper ys → AreProper (xs ++ ys)
AreProper-append [] ys h g = g
AreProper-append (s ∷ ss) ys h g = (h.0, AreProper-append ss ys h.1 g)

pub AreProper-shifted : (by : ℕ) (spans : List Span) → AreProper spans → AreProper (map (shifted by) spans)
AreProper-shifted by [] h = h
AreProper-shifted by (s ∷ ss) h = (omega (arith, h.0), AreProper-shifted by ss h.1)

-- the last end does not depend on the start where there is a span
pub last_end-some : (a b : ℕ) (spans : List Span) → 1 ≤ length spans → last_end a spans ≡ last_end b spans
last_end-some a b [] l = absurd (omega arith)
last_end-some a b (s ∷ ss) l = refl

-- it is the end of the last span
pub last_end-last : (start : ℕ) (spans : List Span) → 1 ≤ length spans → (get_or spans (length spans - 1) no_row).end ≡ last_end start spans
last_end-last start [] l = absurd (omega arith)
last_end-last start (s ∷ []) l = refl
last_end-last start (s ∷ t ∷ ts) l =
    let here : length (s ∷ t ∷ ts) - 1 ≡ suc (length (t ∷ ts) - 1) = omega arith in
    rw here (last_end-last s.end (t ∷ ts) (omega arith))

-- consecutive spans end at most their number of times 2 ^ 40 after they start
pub last_end-le : (start : ℕ) (spans : List Span) → FollowOn start spans → last_end start spans ≤ start + length spans * 2 ^ 40
last_end-le start [] h = omega arith
last_end-le start (s ∷ ss) h = omega (arith, h.0, h.1, h.2, last_end-le s.end ss h.4)

pub first_start-append : (xs ys : List Span) → 1 ≤ length xs → first_start (xs ++ ys) ≡ first_start xs
first_start-append [] ys l = absurd (omega arith)
first_start-append (s ∷ ss) ys l = refl

-- rows with a plan's spans appended
pub filled-appended : (spans rows : List Span) → ArePlanSpans spans → rows ≡ filled rows → appended spans rows ≡ filled (appended spans rows)
filled-appended spans rows plan e =
    let by = last_end 0 rows in
    let own : filled (map (shifted by) spans) ≡ map (shifted by) spans = filled-shifted by spans ∙ ap (map (shifted by)) (sym plan.filled) in
    let first : first_spare (filled (map (shifted by) spans)) ≡ first_spare spans = ap first_spare own ∙ first_spare-shifted by spans in
    let high : pos 0 ≤ℤ first_spare (filled (map (shifted by) spans)) = rw first plan.first in
    ap (λ xs. xs ++ map (shifted by) spans) e ∙ ap (λ ys. filled rows ++ ys) (sym own) ∙ sym (filled-append rows (map (shifted by) spans) high)

pub length-appended : (spans rows : List Span) → length (appended spans rows) ≡ length rows + length spans
length-appended spans rows = simp (length-append, length-map)

-- one more of the spans is appended
pub appended-next : (by k : ℕ) (rows spans : List Span) → k < length spans → (rows ++ map (shifted by) (take k spans)) ++ shifted by (get_or spans k no_row) ∷ [] ≡ rows ++ map (shifted by) (take (k + 1) spans)
appended-next by k rows spans l =
    let s = get_or spans k no_row in
    let one : k + 1 ≡ suc k = omega arith in
    append_assoc rows (map (shifted by) (take k spans)) (shifted by s ∷ [])
    ∙ ap (λ ys. rows ++ ys) (sym (map-append (shifted by) (take k spans) (s ∷ [])))
    ∙ ap (λ ys. rows ++ map (shifted by) ys) (sym (take-suc spans k no_row l))
    ∙ ap (λ n. rows ++ map (shifted by) (take n spans)) (sym one)

-- copies of a plan's spans: consecutive from 0, proper, with their capacities, as many as they should be
pub record AreCopies (spans : List Span) (n : ℕ) (rows : List Span) : Type 0 where
  pub consecutive : FollowOn 0 rows
  pub proper : AreProper rows
  pub filled : rows ≡ filled rows
  pub count : length rows ≡ n * length spans

AreCopies-appended : (spans : List Span) (n : ℕ) (rows : List Span) → ArePlanSpans spans → AreCopies spans n rows → AreCopies spans (suc n) (appended spans rows)
AreCopies-appended spans n rows plan h =
    let by = last_end 0 rows in
    let follow : FollowOn by (map (shifted by) spans) = subst (λ k. FollowOn k (map (shifted by) spans)) (zero-add by) (FollowOn-shifted 0 by spans plan.consecutive) in
    record {
      consecutive = FollowOn-append 0 rows (map (shifted by) spans) h.consecutive follow;
      proper = AreProper-append rows (map (shifted by) spans) h.proper (AreProper-shifted by spans plan.proper);
      filled = filled-appended spans rows plan h.filled;
      count = omega (arith, h.count, length-appended spans rows);
    }

pub AreCopies-copies_of : (spans : List Span) (n : ℕ) → ArePlanSpans spans → AreCopies spans n (copies_of spans n)
AreCopies-copies_of spans zero plan = record { consecutive = tt; proper = tt; filled = refl; count = omega arith }
AreCopies-copies_of spans (suc n) plan = AreCopies-appended spans n (copies_of spans n) plan (AreCopies-copies_of spans n plan)

-- where not all copies stand there, one more fits the room of all
pub copies_fit : (n copies len room : ℕ) → n < copies → copies * len ≤ room → n * len + len ≤ room
copies_fit n copies len room l fits =
    let more : n + 1 ≤ copies = omega arith in
    omega (arith, fits, mul-le-mul_left len more)
