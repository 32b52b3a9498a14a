-- The longest chains before and after a task, and the task, take no more slots than all tasks together.
use Rattle.std.proofs.Common.{◌≡◌, ℕ, zero, suc, ◌+◌, ◌<◌, ◌≤◌, Bool, true, cond, List, [], ◌∷◌, ◌++◌, length, inl, inr, arith, refl}
use Rattle.std.specs.Prelude.{sum_by, nat_lt, ◌&&◌, map, flat_map, fold, max, ◌⊎◌, ⊤}
use Rattle.std.specs.List.{AllByRecursion, range_with_len}
use Rattle.std.proofs.lemmas.Bool.{cases_lt, lt-ltb}
use Rattle.std.proofs.lemmas.Bool.Decides.{nat_tests}
use Rattle.std.proofs.lemmas.List.Elements.{recursion_from_All, filter_passes}
use Rattle.std.proofs.lemmas.List.Sums.{sum_by-cons}
use Rattle.slot_core.specs.declared.tasks.Task.{Task}
use Rattle.slot_core.specs.Offline.Precedence.{wcet_of, comes_after, predecessors, successors, chains, longest_before, longest_after}
use Rattle.slot_facts.proofs.Offline.Chains.{HasNoLoop, longest_before-step, longest_after-step}

-- the greatest sum of a list of chains
abbrev greatest : (ℕ → ℕ) → List (List ℕ) → ℕ
greatest slots cs = fold max 0 (map (sum_by slots) cs)

fold-max : (a : ℕ) (xs : List ℕ) → fold max a xs ≡ max a (fold max 0 xs)
fold-max a [] = omega arith
fold-max a (x ∷ xs) = omega (arith, fold-max (max a x) xs, fold-max (max 0 x) xs)

greatest-cons : (slots : ℕ → ℕ) (c : List ℕ) (cs : List (List ℕ)) → greatest slots (c ∷ cs) ≡ max (sum_by slots c) (greatest slots cs)
greatest-cons slots c cs = omega (arith, fold-max (max 0 (sum_by slots c)) (map (sum_by slots) cs))

greatest-append : (slots : ℕ → ℕ) (cs ds : List (List ℕ)) → greatest slots (cs ++ ds) ≡ max (greatest slots cs) (greatest slots ds)
greatest-append slots [] ds = omega arith
greatest-append slots (c ∷ cs) ds =
    omega (arith, greatest-cons slots c (cs ++ ds), greatest-cons slots c cs, greatest-append slots cs ds)

-- a chain that goes on with one more task
greatest-extend : (slots : ℕ → ℕ) (s : ℕ) (c : List ℕ) (cs : List (List ℕ)) → greatest slots (map (λ chain. s ∷ chain) (c ∷ cs)) ≡ slots s + greatest slots (c ∷ cs)
greatest-extend slots s c [] = omega (arith, sum_by-cons slots s c)
greatest-extend slots s c (d ∷ cs) =
    omega (arith, greatest-cons slots (s ∷ c) (map (λ chain. s ∷ chain) (d ∷ cs)), greatest-cons slots c (d ∷ cs), greatest-extend slots s d cs, sum_by-cons slots s c)

greatest-chains_extend : (slots : ℕ → ℕ) (step : ℕ → List ℕ) (n s : ℕ) → greatest slots (map (λ chain. s ∷ chain) (chains step n s)) ≡ slots s + greatest slots (chains step n s)
greatest-chains_extend slots step zero s = greatest-extend slots s [] []
greatest-chains_extend slots step (suc n) s = greatest-extend slots s [] (flat_map (λ r. map (λ chain. r ∷ chain) (chains step n r)) (step s))

-- the chains of at most n further tasks that go on by each of these tasks
abbrev extended : (ℕ → List ℕ) → ℕ → List ℕ → List (List ℕ)
extended step n ss = flat_map (λ s. map (λ chain. s ∷ chain) (chains step n s)) ss

greatest-extended_cons : (slots : ℕ → ℕ) (step : ℕ → List ℕ) (n s : ℕ) (ss : List ℕ) → greatest slots (extended step n (s ∷ ss)) ≡ max (slots s + greatest slots (chains step n s)) (greatest slots (extended step n ss))
greatest-extended_cons slots step n s ss =
    omega (arith, greatest-append slots (map (λ chain. s ∷ chain) (chains step n s)) (extended step n ss), greatest-chains_extend slots step n s)

greatest-extended_more : (slots : ℕ → ℕ) (step : ℕ → List ℕ) (n : ℕ) → ((t : ℕ) → greatest slots (chains step n t) ≤ greatest slots (chains step (suc n) t)) → (ss : List ℕ) → greatest slots (extended step n ss) ≤ greatest slots (extended step (suc n) ss)
greatest-extended_more slots step n more [] = omega arith
greatest-extended_more slots step n more (s ∷ ss) =
    omega (arith, greatest-extended_cons slots step n s ss, greatest-extended_cons slots step (suc n) s ss, more s, greatest-extended_more slots step n more ss)

-- longer chains have no smaller greatest sum
greatest-chains_more : (slots : ℕ → ℕ) (step : ℕ → List ℕ) (n t : ℕ) → greatest slots (chains step n t) ≤ greatest slots (chains step (suc n) t)
greatest-chains_more slots step zero t = omega arith
greatest-chains_more slots step (suc n) t =
    greatest-extended_more slots step n (greatest-chains_more slots step n) (step t)

-- the greatest sum is 0, or is reached by a chain that goes on by a task with property P
record IsReached (P : ℕ → Type 0) (slots : ℕ → ℕ) (step : ℕ → List ℕ) (n sum : ℕ) : Type 0 where
  next : ℕ
  has : P next
  reached : sum ≤ slots next + greatest slots (chains step n next)

greatest-extended_reached : (P : ℕ → Type 0) (slots : ℕ → ℕ) (step : ℕ → List ℕ) (n : ℕ) (ss : List ℕ) → AllByRecursion P ss → (greatest slots (extended step n ss) ≡ 0) ⊎ IsReached P slots step n (greatest slots (extended step n ss))
greatest-extended_reached P slots step n [] all = inl refl
greatest-extended_reached P slots step n (s ∷ ss) all =
    by_order (cases_lt here rest) (greatest-extended_reached P slots step n ss all.1)
  where
    here : ℕ
    here = slots s + greatest slots (chains step n s)

    rest : ℕ
    rest = greatest slots (extended step n ss)

    by_order : (here < rest) ⊎ (rest ≤ here) → (rest ≡ 0) ⊎ IsReached P slots step n rest → (greatest slots (extended step n (s ∷ ss)) ≡ 0) ⊎ IsReached P slots step n (greatest slots (extended step n (s ∷ ss)))
    by_order (inr le) _ =
        inr
        (record { next = s; has = all.0; reached = omega (arith, greatest-extended_cons slots step n s ss) })
    by_order (inl lt) (inl none) = absurd (omega arith)
    by_order (inl lt) (inr r) =
        inr
        (record { next = r.next; has = r.has; reached = omega (arith, greatest-extended_cons slots step n s ss, r.reached) })

greatest-chains_reached : (P : ℕ → Type 0) (slots : ℕ → ℕ) (step : ℕ → List ℕ) (n t : ℕ) → AllByRecursion P (step t) → (greatest slots (chains step n t) ≡ 0) ⊎ IsReached P slots step n (greatest slots (chains step n t))
greatest-chains_reached P slots step zero t all = inl refl
greatest-chains_reached P slots step (suc n) t all =
    wider (greatest-extended_reached P slots step n (step t) all)
  where
    wider : (greatest slots (extended step n (step t)) ≡ 0) ⊎ IsReached P slots step n (greatest slots (extended step n (step t))) → (greatest slots (extended step n (step t)) ≡ 0) ⊎ IsReached P slots step (suc n) (greatest slots (extended step n (step t)))
    wider (inl none) = inl none
    wider (inr r) =
        inr
        (record { next = r.next; has = r.has; reached = omega (arith, r.reached, greatest-chains_more slots step n r.next) })

-- the longest chain before a task is 0, or is reached through a predecessor
longest_before-reached : (tasks : List Task) (t : ℕ) → (longest_before tasks t ≡ 0) ⊎ IsReached (λ p. comes_after tasks t p ≡ true) (wcet_of tasks) (predecessors tasks) (length tasks) (longest_before tasks t)
longest_before-reached tasks t =
    greatest-chains_reached _ (wcet_of tasks) (predecessors tasks) (length tasks) t (recursion_from_All _ _ (filter_passes (λ p. comes_after tasks t p) (range_with_len 0 (length tasks))))

-- the longest chain after a task is 0, or is reached through a successor
longest_after-reached : (tasks : List Task) (t : ℕ) → (longest_after tasks t ≡ 0) ⊎ IsReached (λ s. comes_after tasks s t ≡ true) (wcet_of tasks) (successors tasks) (length tasks) (longest_after tasks t)
longest_after-reached tasks t =
    greatest-chains_reached _ (wcet_of tasks) (successors tasks) (length tasks) t (recursion_from_All _ _ (filter_passes (λ s. comes_after tasks s t) (range_with_len 0 (length tasks))))

-- f 0 + .. + f (n - 1)
abbrev pub sum_below : (ℕ → ℕ) → ℕ → ℕ
sum_below f zero = 0
sum_below f (suc n) = f 0 + sum_below (λ k. f (suc k)) n

sum_below-add : (f g h : ℕ → ℕ) (n : ℕ) → ((k : ℕ) → f k + g k ≤ h k) → sum_below f n + sum_below g n ≤ sum_below h n
sum_below-add f g h zero each = omega arith
sum_below-add f g h (suc n) each =
    omega (arith, each 0, sum_below-add (λ k. f (suc k)) (λ k. g (suc k)) (λ k. h (suc k)) n (λ k. each (suc k)))

-- two sums and c more, where one term has room for c
sum_below-room : (f g h : ℕ → ℕ) (n p c : ℕ) → p < n → ((k : ℕ) → f k + g k ≤ h k) → f p + g p + c ≤ h p → sum_below f n + sum_below g n + c ≤ sum_below h n
sum_below-room f g h zero p c within each room = absurd (omega arith)
sum_below-room f g h (suc n) zero c within each room =
    omega (arith, room, sum_below-add (λ k. f (suc k)) (λ k. g (suc k)) (λ k. h (suc k)) n (λ k. each (suc k)))
sum_below-room f g h (suc n) (suc p) c within each room =
    omega (arith, each 0, sum_below-room (λ k. f (suc k)) (λ k. g (suc k)) (λ k. h (suc k)) n p c (omega arith) (λ k. each (suc k)) room)

-- the slots of task q, where its chain is below v and it passes the test
abbrev slots_below : (ℕ → ℕ) → (ℕ → ℕ) → (ℕ → Bool) → ℕ → ℕ → ℕ
slots_below chain slots test v q = cond (nat_lt (chain q) v && test q) (slots q) 0

-- the chain of task p goes on by a task that passes the test and has the property
record GoesOn (chain slots : ℕ → ℕ) (test : ℕ → Bool) (P : ℕ → Type 0) (n p : ℕ) : Type 0 where
  next : ℕ
  within : next < n
  passes : test next ≡ true
  has : P next
  some : 1 ≤ slots next
  exact : chain p ≡ slots next + chain next

wider : (c u v w : ℕ) (b : Bool) → u ≤ v → cond (nat_lt c u && b) w 0 + 0 ≤ cond (nat_lt c v && b) w 0
wider c u v w b h = grind (arith, nat_tests)

joins : (c v w : ℕ) (b : Bool) → c < v → b ≡ true → cond (nat_lt c c && b) w 0 + 0 + w ≤ cond (nat_lt c v && b) w 0
joins c v w b h e = grind (arith, nat_tests)

-- the tasks whose chains are below v have at least v slots, where a chain is as long
fills : (chain slots : ℕ → ℕ) (test : ℕ → Bool) (P : ℕ → Type 0) (n : ℕ) → ((p : ℕ) → P p → (chain p ≡ 0) ⊎ GoesOn chain slots test P n p) → (fuel p v : ℕ) → P p → chain p ≤ fuel → v ≤ chain p → v ≤ sum_below (slots_below chain slots test v) n
fills chain slots test P n goes zero p v has low h = omega arith
fills chain slots test P n goes (suc fuel) p v has low h =
    by_next (goes p has) (λ s u has_s below le. fills chain slots test P n goes fuel s u has_s below le)
  where
    by_next : (chain p ≡ 0) ⊎ GoesOn chain slots test P n p → ((s u : ℕ) → P s → chain s ≤ fuel → u ≤ chain s → u ≤ sum_below (slots_below chain slots test u) n) → v ≤ sum_below (slots_below chain slots test v) n
    by_next (inl none) filled = omega arith
    by_next (inr g) filled = by_order (cases_lt (chain g.next) v)
      where
        below : chain g.next ≤ fuel
        below = omega (arith, g.exact, g.some)

        by_order : (chain g.next < v) ⊎ (v ≤ chain g.next) → v ≤ sum_below (slots_below chain slots test v) n
        by_order (inr le) = filled g.next v g.has below le
        by_order (inl lt) =
            omega (arith, g.exact, filled g.next (chain g.next) g.has below (omega arith), sum_below-room (slots_below chain slots test (chain g.next)) (λ _. 0) (slots_below chain slots test v) n g.next (slots g.next) g.within (λ q. wider (chain q) (chain g.next) v (slots q) (test q) (omega arith)) (joins (chain g.next) v (slots g.next) (test g.next) lt g.passes))

-- the chain of successors goes on by a successor
after_goes_on : (tasks : List Task) (p : ℕ) → HasNoLoop tasks → ((t : ℕ) → t < length tasks → 1 ≤ wcet_of tasks t) → (longest_after tasks p ≡ 0) ⊎ GoesOn (longest_after tasks) (wcet_of tasks) (λ _. true) (λ _. ⊤) (length tasks) p
after_goes_on tasks p sound some = by_reached (longest_after-reached tasks p)
  where
    by_reached : (longest_after tasks p ≡ 0) ⊎ IsReached (λ s. comes_after tasks s p ≡ true) (wcet_of tasks) (successors tasks) (length tasks) (longest_after tasks p) → (longest_after tasks p ≡ 0) ⊎ GoesOn (longest_after tasks) (wcet_of tasks) (λ _. true) (λ _. ⊤) (length tasks) p
    by_reached (inl none) = inl none
    by_reached (inr r) =
        let within = (sound.named r.next p r.has).0 in
        inr
        (record {
          next = r.next;
          within = within;
          passes = refl;
          has = tt;
          some = some r.next within;
          exact = omega (arith, r.reached, longest_after-step tasks r.next p sound r.has);
        })

-- the chain of predecessors goes on by a predecessor, whose chain of successors is longer
before_goes_on : (tasks : List Task) (after p : ℕ) → HasNoLoop tasks → ((t : ℕ) → t < length tasks → 1 ≤ wcet_of tasks t) → after ≤ longest_after tasks p → (longest_before tasks p ≡ 0) ⊎ GoesOn (longest_before tasks) (wcet_of tasks) (λ q. nat_lt after (longest_after tasks q)) (λ q. after ≤ longest_after tasks q) (length tasks) p
before_goes_on tasks after p sound some low = by_reached (longest_before-reached tasks p)
  where
    by_reached : (longest_before tasks p ≡ 0) ⊎ IsReached (λ q. comes_after tasks p q ≡ true) (wcet_of tasks) (predecessors tasks) (length tasks) (longest_before tasks p) → (longest_before tasks p ≡ 0) ⊎ GoesOn (longest_before tasks) (wcet_of tasks) (λ q. nat_lt after (longest_after tasks q)) (λ q. after ≤ longest_after tasks q) (length tasks) p
    by_reached (inl none) = inl none
    by_reached (inr r) =
        let within = sound.named p r.next r.has in
        let longer : longest_after tasks p + wcet_of tasks p ≤ longest_after tasks r.next = longest_after-step tasks p r.next sound r.has in
        let some_p : 1 ≤ wcet_of tasks p = some p within.0 in
        inr
        (record {
          next = r.next;
          within = within.1;
          passes = lt-ltb after (longest_after tasks r.next) (omega arith);
          has = omega arith;
          some = some r.next within.1;
          exact = omega (arith, r.reached, longest_before-step tasks p r.next sound r.has);
        })

-- no task counts on both sides
apart : (before after b a w : ℕ) → cond (nat_lt b before && nat_lt after a) w 0 + cond (nat_lt a after && true) w 0 ≤ w
apart before after b a w = grind (arith, nat_tests)

between : (b a w : ℕ) → cond (nat_lt b b && nat_lt a a) w 0 + cond (nat_lt a a && true) w 0 + w ≤ w
between b a w = grind (arith, nat_tests)

-- the longest chains before and after a task, and the task, have room in the slots of all tasks
pub chain_room : (tasks : List Task) (p : ℕ) → HasNoLoop tasks → ((t : ℕ) → t < length tasks → 1 ≤ wcet_of tasks t) → p < length tasks → longest_before tasks p + wcet_of tasks p + longest_after tasks p ≤ sum_below (wcet_of tasks) (length tasks)
chain_room tasks p sound some within =
    let before = longest_before tasks p in
    let after = longest_after tasks p in
    let goes_back = λ (q : ℕ). nat_lt after (longest_after tasks q) in
    let all = λ (q : ℕ). true in
    omega (arith, fills (longest_before tasks) (wcet_of tasks) goes_back (λ q. after ≤ longest_after tasks q) (length tasks) (λ q has. before_goes_on tasks after q sound some has) before p before (omega arith) (omega arith) (omega arith), fills (longest_after tasks) (wcet_of tasks) all (λ _. ⊤) (length tasks) (λ q _. after_goes_on tasks q sound some) after p after tt (omega arith) (omega arith), sum_below-room (slots_below (longest_before tasks) (wcet_of tasks) goes_back before) (slots_below (longest_after tasks) (wcet_of tasks) all after) (wcet_of tasks) (length tasks) p (wcet_of tasks p) within (λ q. apart before after (longest_before tasks q) (longest_after tasks q) (wcet_of tasks q)) (between before after (wcet_of tasks p)))
