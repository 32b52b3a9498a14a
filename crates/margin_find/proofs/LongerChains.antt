-- Chains of tasks that are no longer.
use Rattle.std.proofs.Common.{◌≡◌, ℕ, zero, suc, ◌≤◌, max, Bool, List, [], ◌∷◌, length, map, refl, ap, ◌∙◌, arith}
use Rattle.std.specs.Prelude.{sum_by, flat_map, filter, fold, ◌==◌}
use Rattle.std.specs.List.{list_any, range_with_len}
use Rattle.std.proofs.lemmas.List.Sums.{sum_by-le-sum_by}
use Rattle.slot_core.specs.declared.tasks.Task.{Task}
use Rattle.slot_core.specs.Offline.Precedence.{after_of, wcet_of, comes_after, predecessors, successors, chains, longest_before, longest_after}
use Rattle.margin_find.specs.Laws.{Pairwise}
use Rattle.margin_find.proofs.Pairs.{Pairwise-at, Pairwise-length}

-- the first task is the second, with no more slots in the worst case
pub record IsNoLonger (task longer : Task) : Type 0 where
  pub name : task.name ≡ longer.name
  pub after : task.after ≡ longer.after
  pub wcet : task.wcet ≤ longer.wcet

-- tests that agree pass the same items, and steps that agree make the same chains
filter-agree : (p q : ℕ → Bool) (xs : List ℕ) → ((n : ℕ) → p n ≡ q n) → filter p xs ≡ filter q xs
filter-agree p q [] same = refl
filter-agree p q (x ∷ xs) same =
    let later = filter-agree p q xs same in
    rw (same x, later) refl

flat_map-agree : {Y : Type 0} (f g : ℕ → List Y) (xs : List ℕ) → ((n : ℕ) → f n ≡ g n) → flat_map f xs ≡ flat_map g xs
flat_map-agree f g [] same = refl
flat_map-agree f g (x ∷ xs) same =
    let later = flat_map-agree f g xs same in
    rw (same x, later) refl

chains-agree : (step other : ℕ → List ℕ) (n t : ℕ) → ((s : ℕ) → step s ≡ other s) → chains step n t ≡ chains other n t
chains-agree step other zero t same = refl
chains-agree step other (suc n) t same =
    ap (λ cs. [] ∷ cs) (
    flat_map-agree (λ s. map (λ chain. s ∷ chain) (chains step n s)) (λ s. map (λ chain. s ∷ chain) (chains other n s)) (step t) (λ s. ap (map (λ chain. s ∷ chain)) (chains-agree step other n s same))
    ∙ ap (flat_map (λ s. map (λ chain. s ∷ chain) (chains other n s))) (same t)
    )

-- the greatest of sums that are no more is no more
fold_max-rises : {X : Type 0} (f g : X → ℕ) (a b : ℕ) (xs : List X) → a ≤ b → ((x : X) → f x ≤ g x) → fold max a (map f xs) ≤ fold max b (map g xs)
fold_max-rises f g a b [] low each = low
fold_max-rises f g a b (x ∷ xs) low each =
    let here = each x in
    fold_max-rises f g (max a (f x)) (max b (g x)) xs (omega arith) each

pub after_of-same : (tasks longer : List Task) (t : ℕ) → Pairwise IsNoLonger tasks longer → after_of tasks t ≡ after_of longer t
after_of-same tasks longer t h =
    Pairwise-at IsNoLonger (λ x y. x ≡ y) (λ (t : Task). t.after) (λ (t : Task). t.after) [] t tasks longer (λ x y r. r.after) refl h

wcet_of-rises : (tasks longer : List Task) (t : ℕ) → Pairwise IsNoLonger tasks longer → wcet_of tasks t ≤ wcet_of longer t
wcet_of-rises tasks longer t h =
    Pairwise-at IsNoLonger (λ x y. x ≤ y) (λ (t : Task). t.wcet) (λ (t : Task). t.wcet) 0 t tasks longer (λ x y r. r.wcet) (omega arith) h

pub comes_after-same : (tasks longer : List Task) (t p : ℕ) → Pairwise IsNoLonger tasks longer → comes_after tasks t p ≡ comes_after longer t p
comes_after-same tasks longer t p h = ap (list_any (λ a. a == p)) (after_of-same tasks longer t h)

predecessors-same : (tasks longer : List Task) (t : ℕ) → Pairwise IsNoLonger tasks longer → predecessors tasks t ≡ predecessors longer t
predecessors-same tasks longer t h =
    filter-agree (λ p. comes_after tasks t p) (λ p. comes_after longer t p) (range_with_len 0 (length tasks)) (λ p. comes_after-same tasks longer t p h)
    ∙ ap (λ n. filter (λ p. comes_after longer t p) (range_with_len 0 n)) (Pairwise-length IsNoLonger tasks longer h)

successors-same : (tasks longer : List Task) (t : ℕ) → Pairwise IsNoLonger tasks longer → successors tasks t ≡ successors longer t
successors-same tasks longer t h =
    filter-agree (λ s. comes_after tasks s t) (λ s. comes_after longer s t) (range_with_len 0 (length tasks)) (λ s. comes_after-same tasks longer s t h)
    ∙ ap (λ n. filter (λ s. comes_after longer s t) (range_with_len 0 n)) (Pairwise-length IsNoLonger tasks longer h)

-- the longest chain of the same steps
longest-rises : (tasks longer : List Task) (step other : ℕ → List ℕ) (t : ℕ) → ((s : ℕ) → step s ≡ other s) → Pairwise IsNoLonger tasks longer → fold max 0 (map (sum_by (wcet_of tasks)) (chains step (length tasks) t)) ≤ fold max 0 (map (sum_by (wcet_of longer)) (chains other (length longer) t))
longest-rises tasks longer step other t same h =
    let list : chains step (length tasks) t ≡ chains other (length longer) t = chains-agree step other (length tasks) t same ∙ ap (λ n. chains other n t) (Pairwise-length IsNoLonger tasks longer h) in
    let most = fold_max-rises (sum_by (wcet_of tasks)) (sum_by (wcet_of longer)) 0 0 (chains step (length tasks) t) (omega arith) (λ chain. sum_by-le-sum_by (wcet_of tasks) (wcet_of longer) chain (λ s. wcet_of-rises tasks longer s h)) in
    rw (← list) most

pub longest_before-rises : (tasks longer : List Task) (t : ℕ) → Pairwise IsNoLonger tasks longer → longest_before tasks t ≤ longest_before longer t
longest_before-rises tasks longer t h =
    longest-rises tasks longer (predecessors tasks) (predecessors longer) t (λ s. predecessors-same tasks longer s h) h

pub longest_after-rises : (tasks longer : List Task) (t : ℕ) → Pairwise IsNoLonger tasks longer → longest_after tasks t ≤ longest_after longer t
longest_after-rises tasks longer t h =
    longest-rises tasks longer (successors tasks) (successors longer) t (λ s. successors-same tasks longer s h) h
