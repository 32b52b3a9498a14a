-- What is free up to a deadline is the least slack from there on.
use Rattle.std.proofs.Common.{◌≡◌, ℕ, ◌+◌, ◌-◌, ◌<◌, ◌≤◌, ℤ, pos, ◌+ℤ◌, ◌-ℤ◌, ◌≤ℤ◌, cond, leb, List, [], ◌∷◌, refl, sym, ap, ◌∙◌, subst, ⊎_elim, arith}
use Rattle.std.specs.Int.{int_min}
use Rattle.std.proofs.lemmas.Bool.{cases_lt, le-leb, lt-leb}
use Rattle.std.proofs.lemmas.Int.{ints, clamps, by_lt_z}
use Rattle.std.proofs.lemmas.List.Sums.{sum_by-cons}
use Rattle.slot_core.specs.declared.jobs.Span.{Span}
use Rattle.spare_capacity.specs.Recurrence.{filled, first_spare, room, first_start, last_end, FollowOn, AreConsecutive}
use Rattle.spare_capacity.specs.Available.{surplus, share, available}
use Rattle.spare_capacity.specs.Laws.{work_until, slack_until, IsLeastSlack}
use Rattle.spare_capacity.proofs.Free.{free, spare-filled, rest-filled, free-ended, free-holds, available-free}

-- the slots from a start up to x, less the works of the spans that end by x
abbrev pub slack : ℕ → List Span → ℕ → ℤ
slack start spans x = pos (x - start) -ℤ pos (work_until spans x)

-- the least of those from a deadline to the last end
pub record IsLeastFrom (start : ℕ) (spans : List Span) (deadline : ℕ) (least : ℤ) : Type 0 where
  pub bound : (x : ℕ) → deadline ≤ x → x ≤ last_end start spans → least ≤ℤ slack start spans x
  pub reached : (x : ℕ) × (deadline ≤ x) × (x ≤ last_end start spans) × (least ≡ slack start spans x)

-- the work of a span counts from its end on
pub work_until-ended : (s : Span) (ss : List Span) (x : ℕ) → s.end ≤ x → work_until (s ∷ ss) x ≡ s.work + work_until ss x
work_until-ended s ss x l =
    sum_by-cons (λ (t : Span). cond (leb t.end x) t.work 0) s ss ∙ ap (λ b. cond b s.work 0 + work_until ss x) (le-leb s.end x l)

pub work_until-running : (s : Span) (ss : List Span) (x : ℕ) → x < s.end → work_until (s ∷ ss) x ≡ work_until ss x
work_until-running s ss x l =
    sum_by-cons (λ (t : Span). cond (leb t.end x) t.work 0) s ss ∙ ap (λ b. cond b s.work 0 + work_until ss x) (lt-leb s.end x l) ∙ omega arith

-- before the first start none counts
pub work_until-before : (start : ℕ) (spans : List Span) (x : ℕ) → x < start → FollowOn start spans → work_until spans x ≡ 0
work_until-before start [] x l h = refl
work_until-before start (s ∷ ss) x l h =
    let early : x < s.end = omega (arith, h.0, h.1) in
    work_until-running s ss x early ∙ work_until-before s.end ss x early h.4

-- within the first span the slack is all slots so far
slack-running : (start : ℕ) (s : Span) (ss : List Span) (x : ℕ) → x < s.end → FollowOn start (s ∷ ss) → slack start (s ∷ ss) x ≡ pos (x - start)
slack-running start s ss x l h =
    let none : work_until (s ∷ ss) x ≡ 0 = work_until-running s ss x l ∙ work_until-before s.end ss x l h.4 in
    omega (arith, ints)

-- after it, its room and the slack of the others
pub slack-ended : (start : ℕ) (s : Span) (ss : List Span) (x : ℕ) → s.end ≤ x → FollowOn start (s ∷ ss) → slack start (s ∷ ss) x ≡ room s +ℤ slack s.end ss x
slack-ended start s ss x l h =
    let work : work_until (s ∷ ss) x ≡ s.work + work_until ss x = work_until-ended s ss x l in
    let at : s.start ≡ start = h.0 in
    let rising : s.start ≤ s.end = h.1 in
    omega (arith, ints)

-- nothing is free up to the start
pub free-start : (start : ℕ) (spans : List Span) → FollowOn start spans → spans ≡ filled spans → free start spans ≡ pos 0
free-start start [] h e = refl
free-start start (s ∷ ss) h e =
    let at : s.start ≡ start = h.0 in
    let rising : s.start ≤ s.end = h.1 in
    let spare : s.spare ≡ room s +ℤ int_min (pos 0) (first_spare ss) = spare-filled s ss e in
    ⊎_elim
    (λ late. let is : free start (s ∷ ss) ≡ share start s = free-holds start s ss late in omega (arith, ints, clamps))
    (λ ended.
    let is : free start (s ∷ ss) ≡ surplus s +ℤ free start ss = free-ended start s ss ended in
    let same : s.end ≡ start = omega arith in
    let rest : free start ss ≡ pos 0 = subst (λ n. free n ss ≡ pos 0) same (free-start s.end ss h.4 (rest-filled s ss e)) in
    omega (arith, ints, clamps))
    (cases_lt start s.end)

-- one span before: a deadline that it holds
IsLeastFrom-holds : (start : ℕ) (s : Span) (ss : List Span) (deadline : ℕ) (m : ℤ) → FollowOn start (s ∷ ss) → start ≤ deadline → deadline < s.end → s.spare ≡ room s +ℤ m → IsLeastFrom s.end ss s.end m → IsLeastFrom start (s ∷ ss) deadline (int_min (pos 0) s.spare +ℤ share deadline s)
IsLeastFrom-holds start s ss deadline m h after late spare least = record { bound = bound; reached = reached }
  where
    bound : (x : ℕ) → deadline ≤ x → x ≤ last_end s.end ss → (int_min (pos 0) s.spare +ℤ share deadline s) ≤ℤ slack start (s ∷ ss) x
    bound x from to =
        let at : s.start ≡ start = h.0 in
        ⊎_elim
        (λ l. let is : slack start (s ∷ ss) x ≡ pos (x - start) = slack-running start s ss x l h in omega (arith, ints, clamps))
        (λ l.
        let is : slack start (s ∷ ss) x ≡ room s +ℤ slack s.end ss x = slack-ended start s ss x l h in
        let b : m ≤ℤ slack s.end ss x = least.bound x l to in
        omega (arith, ints, clamps))
        (cases_lt x s.end)

    reached : (x : ℕ) × (deadline ≤ x) × (x ≤ last_end s.end ss) × (int_min (pos 0) s.spare +ℤ share deadline s ≡ slack start (s ∷ ss) x)
    reached =
        let at : s.start ≡ start = h.0 in
        by_lt_z (pos (deadline - start)) s.spare
        (λ l.
        let is : slack start (s ∷ ss) deadline ≡ pos (deadline - start) = slack-running start s ss deadline late h in
        (deadline, omega arith, omega (arith, least.reached.1, least.reached.2), omega (arith, ints, clamps)))
        (λ l.
        let x = least.reached.0 in
        let is : slack start (s ∷ ss) x ≡ room s +ℤ slack s.end ss x = slack-ended start s ss x least.reached.1 h in
        let e : m ≡ slack s.end ss x = least.reached.3 in
        (x, omega (arith, least.reached.1), least.reached.2, omega (arith, ints, clamps)))

-- one span before: a deadline by which it has ended
IsLeastFrom-ended : (start : ℕ) (s : Span) (ss : List Span) (deadline : ℕ) (m : ℤ) → FollowOn start (s ∷ ss) → s.end ≤ deadline → IsLeastFrom s.end ss deadline m → IsLeastFrom start (s ∷ ss) deadline (room s +ℤ m)
IsLeastFrom-ended start s ss deadline m h ended least = record { bound = bound; reached = reached }
  where
    bound : (x : ℕ) → deadline ≤ x → x ≤ last_end s.end ss → (room s +ℤ m) ≤ℤ slack start (s ∷ ss) x
    bound x from to =
        let is : slack start (s ∷ ss) x ≡ room s +ℤ slack s.end ss x = slack-ended start s ss x (omega arith) h in
        let b : m ≤ℤ slack s.end ss x = least.bound x from to in
        omega (arith, ints)

    reached : (x : ℕ) × (deadline ≤ x) × (x ≤ last_end s.end ss) × (room s +ℤ m ≡ slack start (s ∷ ss) x)
    reached =
        let x = least.reached.0 in
        let is : slack start (s ∷ ss) x ≡ room s +ℤ slack s.end ss x = slack-ended start s ss x (omega (arith, least.reached.1)) h in
        let e : m ≡ slack s.end ss x = least.reached.3 in
        (x, least.reached.1, least.reached.2, omega (arith, ints))

pub last_end-above : (start : ℕ) (spans : List Span) → FollowOn start spans → start ≤ last_end start spans
last_end-above start [] h = omega arith
last_end-above start (s ∷ ss) h = omega (arith, h.0, h.1, last_end-above s.end ss h.4)

-- the least slack is what the first span lacks and what is free
pub free-least : (start : ℕ) (spans : List Span) (deadline : ℕ) → FollowOn start spans → spans ≡ filled spans → start ≤ deadline → deadline ≤ last_end start spans → IsLeastFrom start spans deadline (int_min (pos 0) (first_spare spans) +ℤ free deadline spans)
free-least start [] deadline h e after within =
    record {
      bound = λ x from to. omega (arith, ints, clamps);
      reached = (start, within, omega arith, omega (arith, ints, clamps));
    }
free-least start (s ∷ ss) deadline h e after within =
    let spare : s.spare ≡ room s +ℤ int_min (pos 0) (first_spare ss) = spare-filled s ss e in
    ⊎_elim
    (λ late.
    let none : free s.end ss ≡ pos 0 = free-start s.end ss h.4 (rest-filled s ss e) in
    let rest = free-least s.end ss s.end h.4 (rest-filled s ss e) (omega arith) (last_end-above s.end ss h.4) in
    let most : s.spare ≡ room s +ℤ (int_min (pos 0) (first_spare ss) +ℤ free s.end ss) = omega (arith, ints) in
    let is : int_min (pos 0) s.spare +ℤ share deadline s ≡ int_min (pos 0) s.spare +ℤ free deadline (s ∷ ss) = ap (λ z. int_min (pos 0) s.spare +ℤ z) (sym (free-holds deadline s ss late)) in
    subst (IsLeastFrom start (s ∷ ss) deadline) is (IsLeastFrom-holds start s ss deadline _ h after late most rest))
    (λ ended.
    let rest = free-least s.end ss deadline h.4 (rest-filled s ss e) ended within in
    let split : free deadline (s ∷ ss) ≡ surplus s +ℤ free deadline ss = free-ended deadline s ss ended in
    let is : room s +ℤ (int_min (pos 0) (first_spare ss) +ℤ free deadline ss) ≡ int_min (pos 0) s.spare +ℤ free deadline (s ∷ ss) = omega (arith, ints, clamps) in
    subst (IsLeastFrom start (s ∷ ss) deadline) is (IsLeastFrom-ended start s ss deadline _ h ended rest))
    (cases_lt deadline s.end)

-- so the capacity up to a deadline is the least slack, where the first capacity is not below 0
pub available-least : (spans : List Span) (deadline : ℕ) → AreConsecutive spans → spans ≡ filled spans → pos 0 ≤ℤ first_spare spans → first_start spans < deadline → deadline ≤ last_end 0 spans → IsLeastSlack spans deadline (available spans deadline)
available-least [] deadline h e first after within = absurd (omega arith)
available-least (s ∷ ss) deadline h e first after within =
    let least = free-least s.start (s ∷ ss) deadline h e (omega arith) within in
    let is : int_min (pos 0) s.spare +ℤ free deadline (s ∷ ss) ≡ available (s ∷ ss) deadline = omega (arith, ints, clamps, available-free deadline (s ∷ ss) h after first) in
    record {
      bound = λ x from to. subst (λ z. z ≤ℤ slack_until (s ∷ ss) x) is (least.bound x from to);
      reached = (least.reached.0, least.reached.1, least.reached.2, sym is ∙ least.reached.3);
    }
