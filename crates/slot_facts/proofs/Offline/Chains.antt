-- The longest chains along precedence, where no task is on a loop.
use Rattle.std.proofs.Common.{◌≡◌, ℕ, zero, suc, ◌+◌, ◌-◌, ◌<◌, ◌≤◌, max, true, false, List, [], ◌∷◌, length, map, refl, sym, ap, ◌∙◌, subst, inl, inr, eqb, arith}
use Rattle.std.specs.Prelude.{fold, sum_by}
use Rattle.std.specs.List.{range_with_len, IsDistinct}
use Rattle.std.proofs.lemmas.Bool.{eqb-true, false_from_ne_true, both_ways}
use Rattle.std.proofs.lemmas.List.Sums.{sum_by-cons}
use Rattle.std.proofs.lemmas.Map.Steps.{length-le_from_distinct_below}
use Rattle.slot_core.specs.declared.tasks.Task.{Task}
use Rattle.slot_core.specs.Offline.Precedence.{wcet_of, after_of, comes_after, predecessors, successors, chains, leads_to, is_on_loop, longest_before, longest_after}
use Rattle.slot_facts.proofs.Lists.Members.{Has, Has-map, Has-map_cases, Has-flat_map, Has-flat_map_cases, Has-filter, Has-filter_passes, Has-range_with_len, Has-range_with_len_bounds, list_any-from_Has, Has-from_list_any, AllByRecursion-from_Has, fold_max-at, fold_max-le}

-- no task of the list is on a loop, and each `after` entry names one of them
pub record HasNoLoop (tasks : List Task) : Type 0 where
  pub loopless : (t : ℕ) → t < length tasks → is_on_loop tasks t ≡ false
  pub named : (t p : ℕ) → comes_after tasks t p ≡ true → (t < length tasks) × (p < length tasks)

-- the list goes on from t step by step
abbrev IsChain : (ℕ → List ℕ) → ℕ → List ℕ → Type 0
IsChain step t [] = Unit
IsChain step t (s ∷ chain) = Has (step t) s × IsChain step s chain

-- the chains of at most n tasks are the lists that go on step by step and are no longer
Has-chains : (step : ℕ → List ℕ) (n t : ℕ) (chain : List ℕ) → IsChain step t chain → length chain ≤ n → Has (chains step n t) chain
Has-chains step zero t [] goes short = inl refl
Has-chains step zero t (s ∷ chain) goes short = absurd (omega arith)
Has-chains step (suc n) t [] goes short = inl refl
Has-chains step (suc n) t (s ∷ chain) goes short =
    inr
    (Has-flat_map
    (λ q. map (λ rest. q ∷ rest) (chains step n q))
    (step t)
    s
    (s ∷ chain)
    goes.0
    (Has-map (λ rest. s ∷ rest) (chains step n s) chain (Has-chains step n s chain goes.1 (omega arith))))

IsChain-from_chains : (step : ℕ → List ℕ) (n t : ℕ) (chain : List ℕ) → Has (chains step n t) chain → IsChain step t chain × (length chain ≤ n)
IsChain-from_chains step zero t chain (inl e) = subst (λ c. IsChain step t c × (length c ≤ 0)) e (tt, omega arith)
IsChain-from_chains step zero t chain (inr h) = absurd h
IsChain-from_chains step (suc n) t chain (inl e) =
    subst (λ c. IsChain step t c × (length c ≤ suc n)) e (tt, omega arith)
IsChain-from_chains step (suc n) t chain (inr h) =
    let r = Has-flat_map_cases (λ q. map (λ rest. q ∷ rest) (chains step n q)) (step t) chain h in
    let m = Has-map_cases (λ rest. r.0 ∷ rest) (chains step n r.0) chain r.2 in
    let i = IsChain-from_chains step n r.0 m.0 m.1 in
    subst (λ c. IsChain step t c × (length c ≤ suc n)) m.2 ((r.1, i.0), omega (arith, i.1))

-- steps between numbers below n, and walks of k steps along them, none of which comes back to its start
record IsLoopless (step : ℕ → List ℕ) (n : ℕ) (Walk : ℕ → ℕ → ℕ → Type 0) : Type 0 where
  below : (t s : ℕ) → Has (step t) s → (t < n) × (s < n)
  one : (t s : ℕ) → Has (step t) s → Walk 1 t s
  more : (k t s u : ℕ) → Has (step t) s → Walk k s u → Walk (suc k) t u
  no_loop : (k t : ℕ) → t < n → 1 ≤ k → k ≤ n → Walk k t t → ⊥

module _ (step : ℕ → List ℕ) (n : ℕ) (Walk : ℕ → ℕ → ℕ → Type 0) (loopless : IsLoopless step n Walk) where
  -- a walk leads to each task of a chain
  walk_to : (t s : ℕ) (chain : List ℕ) → IsChain step t chain → Has chain s → (k : ℕ) × (1 ≤ k) × (k ≤ length chain) × Walk k t s
  walk_to t s [] goes h = absurd h
  walk_to t s (q ∷ chain) goes (inl e) =
      (1, omega arith, omega arith, loopless.one t s (subst (λ x. Has (step t) x) e goes.0))
  walk_to t s (q ∷ chain) goes (inr h) =
      let r = walk_to q s chain goes.1 h in
      (suc r.0, omega arith, omega (arith, r.2), loopless.more r.0 t q s goes.0 r.3)

  -- the tasks of a chain are below n
  chain_below : (t s : ℕ) (chain : List ℕ) → t < n → IsChain step t chain → Has (t ∷ chain) s → s < n
  chain_below t s chain low goes (inl e) = omega arith
  chain_below t s [] low goes (inr h) = absurd h
  chain_below t s (q ∷ chain) low goes (inr h) =
      chain_below q s chain (loopless.below t q goes.0).1 goes.1 h

  -- a chain in which no task stands twice has at most n tasks
  distinct_length : (t : ℕ) (chain : List ℕ) → t < n → IsChain step t chain → IsDistinct eqb (t ∷ chain) → length (t ∷ chain) ≤ n
  distinct_length t chain low goes distinct =
      length-le_from_distinct_below (t ∷ chain) n distinct
      λ q found.
      let r = Has-from_list_any (eqb q) (t ∷ chain) found in
      let same : q ≡ r.0 = eqb-true q r.0 r.2 in
      let under : r.0 < n = chain_below t r.0 chain low goes r.1 in
      omega arith

  -- no task stands twice in a chain
  distinct : (t : ℕ) (chain : List ℕ) → t < n → IsChain step t chain → IsDistinct eqb (t ∷ chain)
  unfolding IsDistinct
  distinct t [] low goes = (tt, tt)
  distinct t (q ∷ chain) low goes =
      let under : q < n = (loopless.below t q goes.0).1 in
      let later = distinct q chain under goes.1 in
      let short = distinct_length q chain under goes.1 later in
      let apart = λ (y : ℕ) (h : Has (q ∷ chain) y). false_from_ne_true (eqb t y) λ e.
      let walk = walk_to t y (q ∷ chain) goes h in
      let back : Walk walk.0 t t = subst (λ x. Walk walk.0 t x) (sym (eqb-true t y e)) walk.3 in
      loopless.no_loop walk.0 t low walk.1 (omega (arith, walk.2)) back in
      (AllByRecursion-from_Has (λ y. eqb t y ≡ false) (q ∷ chain) apart, later)

  -- the sum of a chain with the task before it is at most the greatest sum from there
  sum-le : (weight : ℕ → ℕ) (t p : ℕ) (chain : List ℕ) → Has (step t) p → IsChain step p chain → sum_by weight chain + weight p ≤ fold max 0 (map (sum_by weight) (chains step n t))
  sum-le weight t p chain h goes =
      let under : p < n = (loopless.below t p h).1 in
      let short = distinct_length p chain under goes (distinct p chain under goes) in
      let listed = Has-map (sum_by weight) (chains step n t) (p ∷ chain) (Has-chains step n t (p ∷ chain) (h, goes) short) in
      omega (arith, fold_max-at 0 (map (sum_by weight) (chains step n t)) (sum_by weight (p ∷ chain)) listed, sum_by-cons weight p chain)

  -- the greatest sum of a chain holds each next task and the greatest sum of a chain from it
  greatest-step : (weight : ℕ → ℕ) (t p : ℕ) → Has (step t) p → fold max 0 (map (sum_by weight) (chains step n p)) + weight p ≤ fold max 0 (map (sum_by weight) (chains step n t))
  greatest-step weight t p h =
      let m = fold max 0 (map (sum_by weight) (chains step n t)) in
      let each = λ (x : ℕ) (at : Has (map (sum_by weight) (chains step n p)) x).
      let c = Has-map_cases (sum_by weight) (chains step n p) x at in
      let le : x ≤ m - weight p = omega (arith, sum-le weight t p c.0 h (IsChain-from_chains step n p c.0 c.1).0, c.2) in
      le in
      omega (arith, sum-le weight t p [] h tt, fold_max-le 0 (m - weight p) (map (sum_by weight) (chains step n p)) (omega arith) each)

-- an `after` entry is a walk of one entry, and goes before a walk and after one
leads_to_one : (tasks : List Task) (a b : ℕ) → comes_after tasks a b ≡ true → leads_to tasks 1 a b ≡ true
leads_to_one tasks a b h = h

pub leads_to_more : (tasks : List Task) (k a b c : ℕ) → comes_after tasks a b ≡ true → leads_to tasks k b c ≡ true → leads_to tasks (suc k) a c ≡ true
leads_to_more tasks k a b c first rest =
    let r = Has-from_list_any (λ q. eqb q b) (after_of tasks a) first in
    list_any-from_Has
    (λ q. leads_to tasks k q c)
    (after_of tasks a)
    r.0
    r.1
    (ap (λ q. leads_to tasks k q c) (eqb-true r.0 b r.2) ∙ rest)

pub leads_to_push : (tasks : List Task) (k a b c : ℕ) → leads_to tasks k a b ≡ true → comes_after tasks b c ≡ true → leads_to tasks (suc k) a c ≡ true
leads_to_push tasks zero a b c rest last = ap (λ q. comes_after tasks q c) (eqb-true a b rest) ∙ last
leads_to_push tasks (suc k) a b c rest last =
    let r = Has-from_list_any (λ q. leads_to tasks k q b) (after_of tasks a) rest in
    list_any-from_Has
    (λ q. leads_to tasks (suc k) q c)
    (after_of tasks a)
    r.0
    r.1
    (leads_to_push tasks k r.0 b c r.2 last)

-- no walk of at most as many entries as there are tasks leads back to its start
no_walk_back : (tasks : List Task) (k t : ℕ) → HasNoLoop tasks → t < length tasks → 1 ≤ k → k ≤ length tasks → leads_to tasks k t t ≡ true → ⊥
no_walk_back tasks k t sound low some short walk =
    both_ways
    (is_on_loop tasks t)
    (sound.loopless t low)
    (list_any-from_Has
    (λ n. leads_to tasks n t t)
    (range_with_len 1 (length tasks))
    k
    (Has-range_with_len 1 (length tasks) k some (omega arith))
    walk)

-- both directions of precedence are steps without loops
IsLoopless-predecessors : (tasks : List Task) → HasNoLoop tasks → IsLoopless (predecessors tasks) (length tasks) (λ k a b. leads_to tasks k a b ≡ true)
IsLoopless-predecessors tasks sound =
    let after = λ (t s : ℕ) (h : Has (predecessors tasks t) s).
    (Has-filter_passes (λ p. comes_after tasks t p) (range_with_len 0 (length tasks)) s h).1 in
    record {
      below = λ t s h. sound.named t s (after t s h);
      one = λ t s h. leads_to_one tasks t s (after t s h);
      more = λ k t s u h walk. leads_to_more tasks k t s u (after t s h) walk;
      no_loop = λ k t. no_walk_back tasks k t sound;
    }

IsLoopless-successors : (tasks : List Task) → HasNoLoop tasks → IsLoopless (successors tasks) (length tasks) (λ k a b. leads_to tasks k b a ≡ true)
IsLoopless-successors tasks sound =
    let after = λ (t s : ℕ) (h : Has (successors tasks t) s).
    (Has-filter_passes (λ q. comes_after tasks q t) (range_with_len 0 (length tasks)) s h).1 in
    record {
      below = λ t s h. let named = sound.named s t (after t s h) in (named.1, named.0);
      one = λ t s h. leads_to_one tasks s t (after t s h);
      more = λ k t s u h walk. leads_to_push tasks k u s t walk (after t s h);
      no_loop = λ k t. no_walk_back tasks k t sound;
    }

-- the longest chain before a task holds each predecessor and the longest chain before it
pub longest_before-step : (tasks : List Task) (t p : ℕ) → HasNoLoop tasks → comes_after tasks t p ≡ true → longest_before tasks p + wcet_of tasks p ≤ longest_before tasks t
longest_before-step tasks t p sound step =
    let listed = Has-range_with_len 0 (length tasks) p (omega arith) (omega (arith, sound.named t p step)) in
    greatest-step
    (predecessors tasks)
    (length tasks)
    (λ k a b. leads_to tasks k a b ≡ true)
    (IsLoopless-predecessors tasks sound)
    (wcet_of tasks)
    t
    p
    (Has-filter (λ q. comes_after tasks t q) (range_with_len 0 (length tasks)) p listed step)

-- and no more than the most of them
pub longest_before-le : (tasks : List Task) (t m : ℕ) → ((p : ℕ) → comes_after tasks t p ≡ true → p < length tasks → longest_before tasks p + wcet_of tasks p ≤ m) → longest_before tasks t ≤ m
longest_before-le tasks t m each =
    fold_max-le 0 m (map weight (chains step (length tasks) t)) (omega arith) λ x at.
    let c = Has-map_cases weight (chains step (length tasks) t) x at in
    let i = IsChain-from_chains step (length tasks) t c.0 c.1 in
    omega (arith, c.2, of_chain c.0 i.0 i.1)
  where
    step : ℕ → List ℕ
    step = predecessors tasks

    weight : List ℕ → ℕ
    weight = sum_by (wcet_of tasks)

    of_chain : (chain : List ℕ) → IsChain (predecessors tasks) t chain → length chain ≤ length tasks → sum_by (wcet_of tasks) chain ≤ m
    of_chain [] goes short = omega arith
    of_chain (p ∷ chain) goes short =
        let f = Has-filter_passes (λ q. comes_after tasks t q) (range_with_len 0 (length tasks)) p goes.0 in
        let below = Has-range_with_len_bounds 0 (length tasks) p f.0 in
        let before = each p f.1 (omega (arith, below.1)) in
        let listed = Has-chains (predecessors tasks) (length tasks) p chain goes.1 (omega (arith, short)) in
        let most = fold_max-at 0 (map (sum_by (wcet_of tasks)) (chains (predecessors tasks) (length tasks) p)) (sum_by (wcet_of tasks) chain) (Has-map (sum_by (wcet_of tasks)) (chains (predecessors tasks) (length tasks) p) chain listed) in
        omega (arith, before, most, sum_by-cons (wcet_of tasks) p chain)

-- the longest chain after a task holds each successor and the longest chain after it
pub longest_after-step : (tasks : List Task) (t p : ℕ) → HasNoLoop tasks → comes_after tasks t p ≡ true → longest_after tasks t + wcet_of tasks t ≤ longest_after tasks p
longest_after-step tasks t p sound step =
    let listed = Has-range_with_len 0 (length tasks) t (omega arith) (omega (arith, sound.named t p step)) in
    greatest-step
    (successors tasks)
    (length tasks)
    (λ k a b. leads_to tasks k b a ≡ true)
    (IsLoopless-successors tasks sound)
    (wcet_of tasks)
    p
    t
    (Has-filter (λ q. comes_after tasks q p) (range_with_len 0 (length tasks)) t listed step)
