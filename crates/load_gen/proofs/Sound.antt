-- Each load's set is sound.
use Rattle.std.proofs.Common.{◌≡◌, ℕ, zero, suc, ◌+◌, ◌/◌, ◌%◌, ◌<◌, ◌≤◌, Bool, true, false, List, [], ◌∷◌, ◌++◌, codes, map, refl, ap, ap₂, ◌∙◌, inl, inr, arith}
use Rattle.std.specs.Prelude.{decimal, nat_lt, if◌then◌else◌}
use Rattle.std.specs.List.{list_all, range_with_len}
use Rattle.std.proofs.lemmas.Bool.{cases_lt, lt-ltb}
use Rattle.std.proofs.lemmas.Bool.Decides.{nat_tests}
use Rattle.std.proofs.lemmas.Fmt.{decimal_digit, decimal_step}
use Rattle.slot_core.specs.declared.tasks.Graph.{Graph}
use Rattle.slot_core.specs.declared.tasks.TaskSet.{TaskSet}
use Rattle.slot_core.specs.Sets.Names.{is_name}
use Rattle.slot_core.specs.Sets.Ranges.{is_sound}
use Rattle.slot_facts.proofs.Lists.Members.{Has-range_with_len, passes_from_list_all}
use Rattle.load_gen.specs.Loads.{load_graph, load_set}

-- the digits of a number below 100
abbrev two_digits : ℕ → List ℕ
two_digits n = if nat_lt n 10 then (48 + n) ∷ [] else ((48 + n / 10) ∷ (48 + n % 10) ∷ [])

decimal-two : (n : ℕ) → n < 100 → decimal n ≡ two_digits n
decimal-two n small =
    elim (cases_lt n 10) [
      | inl one ↦ let e : nat_lt n 10 ≡ true = lt-ltb n 10 one in rw e (decimal_digit n one)
      | inr two ↦
          let e : nat_lt n 10 ≡ false = grind (arith, nat_tests) in
          rw e (decimal_step n two (omega arith) ∙ ap (λ ds. ds ++ (48 + n % 10) ∷ []) (decimal_digit (n / 10) (omega arith)))
    ]

-- the set with its names spelled so
abbrev short_graph : ℕ → Graph
short_graph i = record (load_graph i) { name = codes "g" ++ two_digits i }

abbrev short_set : ℕ → TaskSet
short_set n = record (load_set n) { graphs = map short_graph (range_with_len 0 n) }

graphs-same : (a n : ℕ) → a + n ≤ 100 → map load_graph (range_with_len a n) ≡ map short_graph (range_with_len a n)
graphs-same a zero small = refl
graphs-same a (suc n) small =
    ap₂ (λ (name : List ℕ) (gs : List Graph). record (load_graph a) { name = codes "g" ++ name } ∷ gs)
    (decimal-two a (omega arith))
    (graphs-same (a + 1) n (omega arith))

-- a test that passes along a range passes at each number of it
in_range : (p : ℕ → Bool) (a n k : ℕ) → list_all p (range_with_len a n) ≡ true → a ≤ k → k < a + n → p k ≡ true
in_range p a n k all low high =
    passes_from_list_all p (range_with_len a n) k all (Has-range_with_len a n k low high)

-- all 32 loads by computing
short_set-sound : (n : ℕ) → 1 ≤ n → n ≤ 32 → is_sound (short_set n) ≡ true
short_set-sound n some few = in_range (λ n. is_sound (short_set n)) 1 32 n refl some (omega arith)

pub load_set-sound : (n : ℕ) → 1 ≤ n → n ≤ 32 → is_sound (load_set n) ≡ true
load_set-sound n some few =
    ap (λ (graphs : List Graph). is_sound (record (load_set n) { graphs = graphs })) (graphs-same 0 n (omega arith))
    ∙ short_set-sound n some few

-- and so with the names of graphs
short_name-is_name : (i : ℕ) → i < 32 → is_name (codes "g" ++ two_digits i) ≡ true
short_name-is_name i low = in_range (λ i. is_name (codes "g" ++ two_digits i)) 0 32 i refl (omega arith) (omega arith)

pub graph_name-is_name : (i : ℕ) → i < 32 → is_name (codes "g" ++ decimal i) ≡ true
graph_name-is_name i low = ap (λ ds. is_name (codes "g" ++ ds)) (decimal-two i (omega arith)) ∙ short_name-is_name i low
