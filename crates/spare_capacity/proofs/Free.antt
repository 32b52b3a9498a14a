-- What is free up to a deadline, span by span: the sum that the code takes.
use Rattle.std.proofs.Common.{◌≡◌, ℕ, ◌+◌, ◌*◌, ◌^◌, ◌<◌, ◌≤◌, ℤ, pos, ◌+ℤ◌, ◌≤ℤ◌, cond, List, [], ◌∷◌, length, get_or, drop, nat_le, refl, sym, ap, ◌∙◌, subst, ⊎_elim, arith}
use Rattle.std.specs.Int.{int_min}
use Rattle.std.proofs.lemmas.Bool.{cases_lt, le-leb, lt-leb, lt-ltb, le-ltb}
use Rattle.std.proofs.lemmas.Int.{ints, clamps}
use Rattle.std.proofs.lemmas.List.{drop_more, drop_all}
use Rattle.slot_core.specs.declared.jobs.Span.{Span}
use Rattle.spare_capacity.specs.Recurrence.{filled, first_spare, room, first_start, FollowOn, AreConsecutive}
use Rattle.spare_capacity.specs.Available.{surplus, share, surplus_by, share_of_holder, available}
use Rattle.spare_capacity.proofs.Steps.{no_row}

-- what the spans have to give up to a deadline
abbrev pub free : ℕ → List Span → ℤ
free deadline [] = pos 0
free deadline (s ∷ ss) = cond (nat_le s.end deadline) (surplus s +ℤ free deadline ss) (share deadline s)

-- filled rows: the capacity of the first, and that the others are filled
pub spare-filled : (s : Span) (ss : List Span) → s ∷ ss ≡ filled (s ∷ ss) → s.spare ≡ room s +ℤ int_min (pos 0) (first_spare ss)
spare-filled s ss e =
    let rest : filled ss ≡ ss = sym (ap (drop 1) e) in
    ap first_spare e ∙ ap (λ xs. room s +ℤ int_min (pos 0) (first_spare xs)) rest

pub rest-filled : (s : Span) (ss : List Span) → s ∷ ss ≡ filled (s ∷ ss) → ss ≡ filled ss
rest-filled s ss e = ap (drop 1) e

-- consecutive filled spans that start by a deadline
pub record StartBy (deadline : ℕ) (spans : List Span) : Type 0 where
  pub start : ℕ
  pub early : start ≤ deadline
  pub follow : FollowOn start spans
  pub are_filled : spans ≡ filled spans

-- with one span more or less
pub StartBy-rest : (deadline : ℕ) (s : Span) (ss : List Span) → StartBy deadline (s ∷ ss) → s.end ≤ deadline → StartBy deadline ss
StartBy-rest deadline s ss h l = record { start = s.end; early = l; follow = h.follow.4; are_filled = rest-filled s ss h.are_filled }

pub start-early : (deadline : ℕ) (s : Span) (ss : List Span) → StartBy deadline (s ∷ ss) → s.start ≤ deadline
start-early deadline s ss h = omega (arith, h.early, h.follow.0)

-- a span gives no more than its length
pub surplus-small : (deadline : ℕ) (s : Span) (ss : List Span) → StartBy deadline (s ∷ ss) → surplus s ≤ℤ pos (2 ^ 40)
surplus-small deadline s ss h =
    omega (arith, ints, clamps, spare-filled s ss h.are_filled, h.follow.2)

pub free-ended : (deadline : ℕ) (s : Span) (ss : List Span) → s.end ≤ deadline → free deadline (s ∷ ss) ≡ surplus s +ℤ free deadline ss
free-ended deadline s ss l = rw (le-leb s.end deadline l) refl

pub free-holds : (deadline : ℕ) (s : Span) (ss : List Span) → deadline < s.end → free deadline (s ∷ ss) ≡ share deadline s
free-holds deadline s ss l = rw (lt-leb s.end deadline l) refl

-- spans that start later end later
surplus_by-later : (deadline start : ℕ) (spans : List Span) → deadline < start → FollowOn start spans → surplus_by deadline spans ≡ pos 0
surplus_by-later deadline start [] l h = refl
surplus_by-later deadline start (s ∷ ss) l h =
    let late : deadline < s.end = omega (arith, h.0, h.1) in
    let rest : surplus_by deadline ss ≡ pos 0 = surplus_by-later deadline s.end ss late h.4 in
    rw (lt-leb s.end deadline late) (omega (arith, ints, rest))

-- the sum of the rule, span by span
pub free-later : (deadline start : ℕ) (spans : List Span) → start ≤ deadline → FollowOn start spans → surplus_by deadline spans +ℤ share_of_holder deadline spans ≡ free deadline spans
free-later deadline start [] l h = refl
free-later deadline start (s ∷ ss) l h =
    let early : s.start ≤ deadline = omega (arith, h.0) in
    ⊎_elim
    (λ late.
    let none : surplus_by deadline ss ≡ pos 0 = surplus_by-later deadline s.end ss late h.4 in
    rw (lt-leb s.end deadline late, le-leb s.start deadline early, lt-ltb deadline s.end late) (omega (arith, ints, none)))
    (λ ended.
    let rest : surplus_by deadline ss +ℤ share_of_holder deadline ss ≡ free deadline ss = free-later deadline s.end ss ended h.4 in
    rw (le-leb s.end deadline ended, le-leb s.start deadline early, le-ltb deadline s.end ended) (omega (arith, ints, rest)))
    (cases_lt deadline s.end)

pub available-free : (deadline : ℕ) (spans : List Span) → AreConsecutive spans → first_start spans < deadline → pos 0 ≤ℤ first_spare spans → available spans deadline ≡ free deadline spans
available-free deadline [] h after first = refl
available-free deadline (s ∷ ss) h after first =
    let early : s.start ≤ deadline = omega arith in
    ⊎_elim
    (λ late. rw (lt-leb s.end deadline late, le-leb s.start deadline early, lt-ltb deadline s.end late) refl)
    (λ ended.
    let rest : surplus_by deadline ss +ℤ share_of_holder deadline ss ≡ free deadline ss = free-later deadline s.end ss ended h.4 in
    rw (le-leb s.end deadline ended, le-leb s.start deadline early, le-ltb deadline s.end ended) (omega (arith, ints, clamps, rest)))
    (cases_lt deadline s.end)

-- one turn of the sum: the span at a place starts by the deadline
pub StartBy-turn : (deadline i : ℕ) (spans : List Span) → i < length spans → StartBy deadline (drop i spans) → StartBy deadline (get_or spans i no_row ∷ drop (i + 1) spans)
StartBy-turn deadline i spans l h = subst (StartBy deadline) (drop_more spans i no_row l) h

-- and gives no more than 2 ^ 40 slots
pub part-small : (deadline part : ℕ) (s : Span) (ss : List Span) → StartBy deadline (s ∷ ss) → pos part ≡ cond (nat_le s.end deadline) (surplus s) (share deadline s) → part ≤ 2 ^ 40
part-small deadline part s ss h e =
    let most : surplus s ≤ℤ pos (2 ^ 40) = surplus-small deadline s ss h in
    ⊎_elim
    (λ late. let e' : pos part ≡ share deadline s = e ∙ ap (λ b. cond b (surplus s) (share deadline s)) (lt-leb s.end deadline late) in omega (arith, ints, clamps))
    (λ ended. let e' : pos part ≡ surplus s = e ∙ ap (λ b. cond b (surplus s) (share deadline s)) (le-leb s.end deadline ended) in omega (arith, ints))
    (cases_lt deadline s.end)

-- where it ends by the deadline, its part and those of the spans after it
pub free-turn : (deadline i taken part : ℕ) (spans : List Span) → i < length spans → (get_or spans i no_row).end ≤ deadline → pos part ≡ cond (nat_le (get_or spans i no_row).end deadline) (surplus (get_or spans i no_row)) (share deadline (get_or spans i no_row)) → pos taken +ℤ free deadline (drop i spans) ≡ free deadline spans → pos (taken + part) +ℤ free deadline (drop (i + 1) spans) ≡ free deadline spans
free-turn deadline i taken part spans l ended e before =
    let s = get_or spans i no_row in
    let rest = drop (i + 1) spans in
    let is : pos part ≡ surplus s = e ∙ ap (λ b. cond b (surplus s) (share deadline s)) (le-leb s.end deadline ended) in
    let split : free deadline (drop i spans) ≡ surplus s +ℤ free deadline rest = ap (free deadline) (drop_more spans i no_row l) ∙ free-ended deadline s rest ended in
    omega (arith, ints)

-- where it holds the deadline, its part is the last
pub free-last : (deadline i taken part : ℕ) (spans : List Span) → i < length spans → deadline < (get_or spans i no_row).end → pos part ≡ cond (nat_le (get_or spans i no_row).end deadline) (surplus (get_or spans i no_row)) (share deadline (get_or spans i no_row)) → pos taken +ℤ free deadline (drop i spans) ≡ free deadline spans → pos (taken + part) ≡ free deadline spans
free-last deadline i taken part spans l late e before =
    let s = get_or spans i no_row in
    let rest = drop (i + 1) spans in
    let is : pos part ≡ share deadline s = e ∙ ap (λ b. cond b (surplus s) (share deadline s)) (lt-leb s.end deadline late) in
    let split : free deadline (drop i spans) ≡ share deadline s = ap (free deadline) (drop_more spans i no_row l) ∙ free-holds deadline s rest late in
    omega (arith, ints)

-- after the last span nothing is left
pub free-all : (deadline i taken : ℕ) (spans : List Span) → length spans ≤ i → pos taken +ℤ free deadline (drop i spans) ≡ free deadline spans → pos taken ≡ free deadline spans
free-all deadline i taken spans l before =
    let none : free deadline (drop i spans) ≡ pos 0 = ap (free deadline) (drop_all i spans l) in
    omega (arith, ints)

pub StartBy-first : (deadline : ℕ) (spans : List Span) → AreConsecutive spans → spans ≡ filled spans → first_start spans < deadline → StartBy deadline spans
StartBy-first deadline [] h e after = record { start = 0; early = omega arith; follow = tt; are_filled = e }
StartBy-first deadline (s ∷ ss) h e after = record { start = s.start; early = omega arith; follow = h; are_filled = e }

-- all that is free fits a cast
pub free-small : (deadline : ℕ) (spans : List Span) → StartBy deadline spans → free deadline spans ≤ℤ pos (length spans * 2 ^ 40)
free-small deadline [] h = omega (arith, ints)
free-small deadline (s ∷ ss) h =
    let most : surplus s ≤ℤ pos (2 ^ 40) = surplus-small deadline s ss h in
    ⊎_elim
    (λ late. let is : free deadline (s ∷ ss) ≡ share deadline s = free-holds deadline s ss late in omega (arith, ints, clamps))
    (λ ended.
    let is : free deadline (s ∷ ss) ≡ surplus s +ℤ free deadline ss = free-ended deadline s ss ended in
    let rest : free deadline ss ≤ℤ pos (length ss * 2 ^ 40) = free-small deadline ss (StartBy-rest deadline s ss h ended) in
    omega (arith, ints))
    (cases_lt deadline s.end)
