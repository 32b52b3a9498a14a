-- Slots due before a time, and what stretches of times lack.
use Rattle.std.proofs.Common.{◌≡◌, ℕ, zero, suc, ◌+◌, ◌-◌, ◌*◌, ◌<◌, ◌≤◌, ◌⊎◌, ◌^◌, List, [], ◌∷◌, ◌++◌, length, take, get_or, set, cond, refl, sym, ap, subst, ◌∙◌, inl, inr, ⊎_elim, arith}
use Rattle.std.specs.Prelude.{max, nat_lt, sum}
use Rattle.std.proofs.Math.Seq.{take-set-lt}
use Rattle.std.proofs.lemmas.Bool.{cases_lt}
use Rattle.std.proofs.lemmas.Bool.Decides.{nat_tests}
use Rattle.std.proofs.lemmas.List.{get_or-take, get_or_append_left, get_or_at, get_or_read, get_or-set_other, get_or-set_same, length-append, length-set, length-take, take-set-le}
use Rattle.std.proofs.lemmas.List.Sums.{sum_by-set, sum_by-cons, sum_by_more}
use Rattle.trace_verify.specs.declared.dues.Stretch.{Stretch}
use Rattle.trace_verify.specs.Dues.{due_before, AreBlocks, IsLack, IsLackAfter, IsStretch}

-- by a later time no fewer are due
pub due_before-le : (due : List ℕ) (a b : ℕ) → a ≤ b → due_before due a ≤ due_before due b
due_before-le due zero b low = omega arith
due_before-le [] (suc a) b low = omega arith
due_before-le (x ∷ due) (suc a) zero low = absurd (omega arith)
due_before-le (x ∷ due) (suc a) (suc b) low =
    omega (arith, sum_by-cons (λ n. n) x (take a due), sum_by-cons (λ n. n) x (take b due), due_before-le due a b (omega arith))

-- a zero more changes nothing
pub due_before-zero : (due : List ℕ) (n : ℕ) → due_before (due ++ 0 ∷ []) n ≡ due_before due n
due_before-zero due zero = refl
due_before-zero [] (suc zero) = refl
due_before-zero [] (suc (suc n)) = refl
due_before-zero (x ∷ due) (suc n) =
    omega (arith, sum_by-cons (λ n. n) x (take n (due ++ 0 ∷ [])), sum_by-cons (λ n. n) x (take n due), due_before-zero due n)

-- where nothing is listed nothing is due
pub due_before-empty : (n : ℕ) → due_before [] n ≡ 0
due_before-empty zero = refl
due_before-empty (suc n) = refl

-- before a time that is written the same are due
pub due_before-set_low : (due : List ℕ) (at v n : ℕ) → n ≤ at → due_before (set due at v) n ≡ due_before due n
due_before-set_low due at v n low = ap sum (take-set-le n due at v low)

-- and after it those that are written in place of those that were there
pub due_before-set_high : (due : List ℕ) (at v n : ℕ) → at < length due → at < n → due_before (set due at v) n + get_or due at 0 ≡ due_before due n + v
due_before-set_high due at v n inside high =
    let front = take n due in
    let there : at < length front = omega (arith, length-take n due) in
    omega (arith, ap sum (take-set-lt n due at v high), sum_by-set (λ k. k) front at v 0 there, get_or-take n due at 0 high)

-- those due at a time
pub due_before-at : (due : List ℕ) (at x : ℕ) → at < length due → x ≡ get_or due at x → due_before due (at + 1) ≡ due_before due at + x
due_before-at due at x inside read =
    omega (arith, sum_by_more (λ n. n) due at 0 inside, get_or_read due at x inside read 0)

-- a number that counts from a time on
counts : (at n slots : ℕ) → at < n → cond (nat_lt at n) slots 0 ≡ slots
counts at n slots high = grind (arith, nat_tests)

counts_not : (at n slots : ℕ) → n ≤ at → cond (nat_lt at n) slots 0 ≡ 0
counts_not at n slots low = grind (arith, nat_tests)

pub counts-le : (at n slots : ℕ) → cond (nat_lt at n) slots 0 ≤ slots
counts-le at n slots = grind (arith, nat_tests)

-- so many more at a time
pub due_before-more : (due : List ℕ) (at x v slots n : ℕ) → at < length due → x ≡ get_or due at x → v ≡ x + slots → due_before (set due at v) n ≡ due_before due n + cond (nat_lt at n) slots 0
due_before-more due at x v slots n inside read is =
    ⊎_elim
    (λ (high : at < n). omega (arith, due_before-set_high due at v n inside high, get_or_read due at x inside read 0, counts at n slots high))
    (λ (low : n ≤ at). omega (arith, due_before-set_low due at v n low, counts_not at n slots low))
    (cases_lt at n)

-- and so many fewer
pub due_before-fewer : (due : List ℕ) (at x v slots n : ℕ) → at < length due → x ≡ get_or due at x → v + slots ≡ x → due_before due n ≡ due_before (set due at v) n + cond (nat_lt at n) slots 0
due_before-fewer due at x v slots n inside read is =
    ⊎_elim
    (λ (high : at < n). omega (arith, due_before-set_high due at v n inside high, get_or_read due at x inside read 0, counts at n slots high))
    (λ (low : n ≤ at). omega (arith, due_before-set_low due at v n low, counts_not at n slots low))
    (cases_lt at n)

-- at no time nothing is lacking
pub IsLack-none : (before : ℕ → ℕ) (base from : ℕ) → IsLack before base from from 0
IsLack-none before base from = record {
  bound = λ x low high. absurd (omega arith);
  reached = inl refl;
}

-- at one more time
pub IsLack-step : (before : ℕ → ℕ) (base from i work lack more : ℕ) → from ≤ i → IsLack before base from i lack → before (i + 1) ≡ before from + work → more ≡ max lack (work - (i - base)) → IsLack before base from (i + 1) more
IsLack-step before base from i work lack more low lacks is most = record { bound = bound; reached = reached }
  where
    bound : (x : ℕ) → from ≤ x → x < i + 1 → before (x + 1) ≤ before from + (more + (x - base))
    bound x at_least below =
        ⊎_elim
        (λ (earlier : x < i). omega (arith, lacks.bound x at_least earlier))
        (λ (last : i ≤ x). let same : x ≡ i = omega arith in omega (arith, ap (λ n. before (n + 1)) same))
        (cases_lt x i)

    reached : (more ≡ 0) ⊎ ((x : ℕ) × (from ≤ x) × (x < i + 1) × (before from + (more + (x - base)) ≤ before (x + 1)))
    reached =
        ⊎_elim
        (λ (above : lack < work - (i - base)). inr (i, low, omega arith, omega arith))
        (λ (within : work - (i - base) ≤ lack).
        ⊎_elim
        (λ none. inl (omega arith))
        (λ r. inr (r.0, r.1, omega (arith, r.2), omega (arith, r.3)))
        lacks.reached)
        (cases_lt lack (work - (i - base)))

-- and at those of one more stretch
pub IsLack-append : (before : ℕ → ℕ) (base from s end work lack block more : ℕ) → base ≤ s → from ≤ s → s < end → before s ≤ before (s + 1) → before s ≡ before from + work → IsLack before base from s lack → IsLack before s s end block → more ≡ max lack (work + block - (s - base)) → IsLack before base from end more
IsLack-append before base from s end work lack block more above low some rises is lacks blocks most = record { bound = bound; reached = reached }
  where
    bound : (x : ℕ) → from ≤ x → x < end → before (x + 1) ≤ before from + (more + (x - base))
    bound x at_least below =
        ⊎_elim
        (λ (earlier : x < s). omega (arith, lacks.bound x at_least earlier))
        (λ (later : s ≤ x). omega (arith, blocks.bound x later below))
        (cases_lt x s)

    reached : (more ≡ 0) ⊎ ((x : ℕ) × (from ≤ x) × (x < end) × (before from + (more + (x - base)) ≤ before (x + 1)))
    reached =
        ⊎_elim
        (λ (above : lack < work + block - (s - base)).
        ⊎_elim
        (λ none. inr (s, low, some, omega arith))
        (λ r. inr (r.0, omega (arith, r.1), r.2, omega (arith, r.1, r.3)))
        blocks.reached)
        (λ (within : work + block - (s - base) ≤ lack).
        ⊎_elim
        (λ none. inl (omega arith))
        (λ r. inr (r.0, r.1, omega (arith, r.2), omega (arith, r.3)))
        lacks.reached)
        (cases_lt lack (work + block - (s - base)))

-- with one slot more to each time
pub IsLack-from_next : (before : ℕ → ℕ) (e end lack less : ℕ) → IsLack before (e + 1) (e + 1) end lack → less ≡ lack - 1 → IsLack before e (e + 1) end less
IsLack-from_next before e end lack less lacks is = record {
  bound = λ x low high. omega (arith, lacks.bound x low high);
  reached =
      ⊎_elim
      (λ none. inl (omega arith))
      (λ r. ⊎_elim (λ (some : 0 < less). inr (r.0, r.1, r.2, omega (arith, r.1, r.3))) (λ (none : less ≤ 0). inl (omega arith)) (cases_lt 0 less))
      lacks.reached;
}

-- where nothing is due from the end on, the same without an end
pub IsLackAfter-from : (before : ℕ → ℕ) (e end lack : ℕ) → e + 1 < end → ((n : ℕ) → end ≤ n → before n ≡ before end) → IsLack before e (e + 1) end lack → IsLackAfter before e lack
IsLackAfter-from before e end lack some rest lacks = record {
  bound = bound;
  reached = ⊎_elim (λ none. inl none) (λ r. inr (r.0, omega (arith, r.1), r.3)) lacks.reached;
}
  where
    bound : (x : ℕ) → e < x → before (x + 1) ≤ before (e + 1) + (lack + (x - e))
    bound x after =
        ⊎_elim
        (λ (inside : x < end). lacks.bound x (omega arith) inside)
        (λ (past : end ≤ x).
        let last : end - 1 + 1 ≡ end = omega arith in
        omega (arith, rest (x + 1) (omega arith), ap before last, lacks.bound (end - 1) (omega arith) (omega arith)))
        (cases_lt x end)

pub IsLackAfter-none : (before : ℕ → ℕ) (e end : ℕ) → end ≤ e + 1 → ((n : ℕ) → end ≤ n → before n ≡ before end) → IsLackAfter before e 0
IsLackAfter-none before e end past rest = record {
  bound = λ x after. omega (arith, rest (x + 1) (omega arith), rest (e + 1) past);
  reached = inl refl;
}

-- where so many more or fewer are due before all of its times, a stretch tells the same
module _ (before other : ℕ → ℕ) (start end a v : ℕ) (low : start ≤ end) (moved : (n : ℕ) → start ≤ n → n ≤ end → other n + a ≡ before n + v) where
  IsLack-moved : (base lack : ℕ) → IsLack before base start end lack → IsLack other base start end lack
  IsLack-moved base lack lacks = record {
    bound = λ x at_least below. omega (arith, moved (x + 1) (omega arith) (omega arith), moved start (omega arith) low, lacks.bound x at_least below);
    reached =
        ⊎_elim
        (λ none. inl none)
        (λ r. inr (r.0, r.1, r.2, omega (arith, moved (r.0 + 1) (omega (arith, r.1)) (omega (arith, r.2)), moved start (omega arith) low, r.3)))
        lacks.reached;
  }

  pub IsStretch-moved : (b : Stretch) → IsStretch before start end b → IsStretch other start end b
  IsStretch-moved b is = record {
    work = omega (arith, moved start (omega arith) low, moved end low (omega arith), is.work);
    lack = IsLack-moved start b.lack is.lack;
  }

-- what a stretch lacks is due in it
pub stretch-few : (due : List ℕ) (start end : ℕ) (b : Stretch) → start ≤ end → IsStretch (due_before due) start end b → due_before due start + b.lack ≤ due_before due end
stretch-few due start end b low is =
    ⊎_elim
    (λ none. omega (arith, due_before-le due start end low))
    (λ r. omega (arith, r.3, due_before-le due (r.0 + 1) end (omega (arith, r.2))))
    is.lack.reached

-- no times and no blocks
pub AreBlocks-none : (due : List ℕ) (blocks : List Stretch) → due ≡ [] → blocks ≡ [] → AreBlocks due blocks
AreBlocks-none due blocks none no_blocks = record {
  within = omega (arith, ap length no_blocks);
  rest = λ n past. omega (arith, zero_at n, zero_at (64 * length blocks));
  each = λ k d inside. absurd (omega (arith, inside, ap length no_blocks));
  few = λ n. omega (arith, zero_at n);
}
  where
    zero_at : (n : ℕ) → due_before due n ≡ 0
    zero_at n = ap (λ xs. due_before xs n) none ∙ due_before-empty n

-- with zeros behind them
pub AreBlocks-same : (due other : List ℕ) (blocks : List Stretch) → AreBlocks due blocks → ((n : ℕ) → due_before other n ≡ due_before due n) → length due ≤ length other → AreBlocks other blocks
AreBlocks-same due other blocks are same longer = record {
  within = omega (arith, are.within);
  rest = λ n past. omega (arith, same n, same (64 * length blocks), are.rest n past);
  each =
      λ k d inside.
      IsStretch-moved (due_before due) (due_before other) (64 * k) (64 * k + 64) 0 0 (omega arith) (λ n low high. omega (arith, same n)) (get_or blocks k d) (are.each k d inside);
  few = λ n. omega (arith, same n, are.few n);
}

-- with one more block of zeros
pub AreBlocks-more : (due : List ℕ) (blocks : List Stretch) → AreBlocks due blocks → 64 * length blocks + 64 ≤ length due → AreBlocks due (blocks ++ record { work = 0; lack = 0 } ∷ [])
AreBlocks-more due blocks are longer = record {
  within = omega (arith, count);
  rest = λ n past. omega (arith, are.rest n (omega (arith, past, count)), are.rest (64 * length (blocks ++ none ∷ [])) (omega (arith, count)));
  each = λ k d inside. ⊎_elim (λ low. old k d low) (λ high. new k d (omega (arith, inside, count, high))) (cases_lt k (length blocks));
  few = are.few;
}
  where
    none : Stretch
    none = record { work = 0; lack = 0 }

    count : length (blocks ++ none ∷ []) ≡ length blocks + 1
    count = length-append blocks (none ∷ [])

    old : (k : ℕ) (d : Stretch) → k < length blocks → IsStretch (due_before due) (64 * k) (64 * k + 64) (get_or (blocks ++ none ∷ []) k d)
    old k d low =
        subst (IsStretch (due_before due) (64 * k) (64 * k + 64)) (sym (get_or_append_left blocks (none ∷ []) d k low)) (are.each k d low)

    empty : (k : ℕ) → k ≡ length blocks → IsStretch (due_before due) (64 * k) (64 * k + 64) none
    empty k is =
        let first : due_before due (64 * k) ≡ due_before due (64 * length blocks) = ap (λ n. due_before due (64 * n)) is in
        record {
          work = omega (arith, first, are.rest (64 * k + 64) (omega arith));
          lack = record {
            bound = λ x low high. omega (arith, first, are.rest (x + 1) (omega arith));
            reached = inl refl;
          };
        }

    new : (k : ℕ) (d : Stretch) → k ≡ length blocks → IsStretch (due_before due) (64 * k) (64 * k + 64) (get_or (blocks ++ none ∷ []) k d)
    new k d is =
        subst (IsStretch (due_before due) (64 * k) (64 * k + 64)) (sym (get_or_at blocks none [] d k (sym is))) (empty k is)

-- with another number at a time, of whose block it is told anew
pub AreBlocks-put : (due : List ℕ) (blocks : List Stretch) (at v k : ℕ) (b : Stretch) → AreBlocks due blocks → 64 * k ≤ at → at < 64 * k + 64 → k < length blocks → IsStretch (due_before (set due at v)) (64 * k) (64 * k + 64) b → ((n : ℕ) → due_before (set due at v) n ≤ 2 ^ 62) → AreBlocks (set due at v) (set blocks k b)
AreBlocks-put due blocks at v k b are above below block is few = record {
  within = omega (arith, are.within, count, length-set due at v);
  rest = λ n past. omega (arith, high n (omega (arith, past, count)), high (64 * length (set blocks k b)) (omega (arith, count)), are.rest n (omega (arith, past, count)), are.rest (64 * length (set blocks k b)) (omega (arith, count)));
  each = λ j d inside. ⊎_elim (λ less. before j d less (omega (arith, inside, count))) (λ more. ⊎_elim (λ greater. after j d greater (omega (arith, inside, count))) (λ last. here j d (omega arith)) (cases_lt k j)) (cases_lt j k);
  few = few;
}
  where
    count : length (set blocks k b) ≡ length blocks
    count = length-set blocks k b

    high : (n : ℕ) → at < n → due_before (set due at v) n + get_or due at 0 ≡ due_before due n + v
    high n later = due_before-set_high due at v n (omega (arith, are.within)) later

    other : (j : ℕ) (d : Stretch) → (j ≡ k → ⊥) → get_or (set blocks k b) j d ≡ get_or blocks j d
    other j d differs = get_or-set_other blocks k j b d differs

    before : (j : ℕ) (d : Stretch) → j < k → j < length blocks → IsStretch (due_before (set due at v)) (64 * j) (64 * j + 64) (get_or (set blocks k b) j d)
    before j d less inside =
        subst
        (IsStretch (due_before (set due at v)) (64 * j) (64 * j + 64))
        (sym (other j d (λ same. absurd (omega arith))))
        (IsStretch-moved (due_before due) (due_before (set due at v)) (64 * j) (64 * j + 64) 0 0 (omega arith) (λ n from by. omega (arith, due_before-set_low due at v n (omega arith))) (get_or blocks j d) (are.each j d inside))

    after : (j : ℕ) (d : Stretch) → k < j → j < length blocks → IsStretch (due_before (set due at v)) (64 * j) (64 * j + 64) (get_or (set blocks k b) j d)
    after j d greater inside =
        subst
        (IsStretch (due_before (set due at v)) (64 * j) (64 * j + 64))
        (sym (other j d (λ same. absurd (omega arith))))
        (IsStretch-moved (due_before due) (due_before (set due at v)) (64 * j) (64 * j + 64) (get_or due at 0) v (omega arith) (λ n from by. high n (omega arith)) (get_or blocks j d) (are.each j d inside))

    here : (j : ℕ) (d : Stretch) → j ≡ k → IsStretch (due_before (set due at v)) (64 * j) (64 * j + 64) (get_or (set blocks k b) j d)
    here j d same =
        subst
        (λ i. IsStretch (due_before (set due at v)) (64 * i) (64 * i + 64) (get_or (set blocks k b) i d))
        (sym same)
        (subst (IsStretch (due_before (set due at v)) (64 * k) (64 * k + 64)) (sym (get_or-set_same blocks k b d block)) is)

-- what is lacking after a time in the rest of its block
pub lack-first : (due : List ℕ) (from start end first less : ℕ) (b : Stretch) → IsStretch (due_before due) start end b → start ≡ from + 1 → end ≡ 64 * first → less ≡ b.lack - 1 → IsLack (due_before due) from (from + 1) (64 * first) less
lack-first due from start end first less b is starts ends one =
    IsLack-from_next (due_before due) from (64 * first) b.lack less
    (subst (λ e. IsLack (due_before due) (from + 1) (from + 1) e b.lack) ends (subst (λ s. IsLack (due_before due) s s end b.lack) starts is.lack))
    one

-- and with one more block
pub lack-next : (due : List ℕ) (blocks : List Stretch) (from k work lack more room : ℕ) (b : Stretch) → AreBlocks due blocks → from + 1 ≤ 64 * k → k < length blocks → due_before due (64 * k) ≡ due_before due (from + 1) + work → IsLack (due_before due) from (from + 1) (64 * k) lack → b ≡ get_or blocks k b → room ≡ 64 * k - from → more ≡ max lack (work + b.lack - room) → IsLack (due_before due) from (from + 1) (64 * (k + 1)) more
lack-next due blocks from k work lack more room b are low inside is lacks read rooms most =
    let block = subst (IsStretch (due_before due) (64 * k) (64 * k + 64)) (sym read) (are.each k b inside) in
    let end : 64 * k + 64 ≡ 64 * (k + 1) = omega arith in
    let most_here : more ≡ max lack (work + b.lack - (64 * k - from)) = omega arith in
    subst
    (λ e. IsLack (due_before due) from (from + 1) e more)
    end
    (IsLack-append (due_before due) from (from + 1) (64 * k) (64 * k + 64) work lack b.lack more (omega arith) low (omega arith) (due_before-le due (64 * k) (64 * k + 1) (omega arith)) is lacks block.lack most_here)

-- so many are due before its end
pub work-next : (due : List ℕ) (blocks : List Stretch) (from k work : ℕ) (b : Stretch) → AreBlocks due blocks → k < length blocks → due_before due (64 * k) ≡ due_before due (from + 1) + work → b ≡ get_or blocks k b → due_before due (64 * (k + 1)) ≡ due_before due (from + 1) + (work + b.work)
work-next due blocks from k work b are inside is read =
    let block = subst (IsStretch (due_before due) (64 * k) (64 * k + 64)) (sym read) (are.each k b inside) in
    let end : 64 * k + 64 ≡ 64 * (k + 1) = omega arith in
    omega (arith, ap (due_before due) end, block.work)

-- which with those that it lacks are few
pub lack-fits : (due : List ℕ) (blocks : List Stretch) (from k work : ℕ) (b : Stretch) → AreBlocks due blocks → k < length blocks → due_before due (64 * k) ≡ due_before due (from + 1) + work → b ≡ get_or blocks k b → work + b.lack ≤ due_before due (64 * k + 64)
lack-fits due blocks from k work b are inside is read =
    let block = subst (IsStretch (due_before due) (64 * k) (64 * k + 64)) (sym read) (are.each k b inside) in
    omega (arith, stretch-few due (64 * k) (64 * k + 64) b (omega arith) block)
