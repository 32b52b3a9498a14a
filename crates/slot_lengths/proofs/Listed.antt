-- A length with which there is a set in slots is listed.
use Rattle.std.proofs.Common.{◌≡◌, ◌+◌, ◌-◌, ◌*◌, ◌/◌, ◌%◌, ◌<◌, ◌≤◌, ℕ, List, [], ◌∷◌, Ok, true, refl, subst, inl, length, arith}
use Rattle.std.specs.Prelude.{Contains, flat_map, ◌==◌, nat_le, nat_lt}
use Rattle.std.specs.List.{range_with_len}
use Rattle.std.proofs.Math.Nat.{mul-mod_left, mul-div_cancel_left}
use Rattle.std.proofs.lemmas.Bool.{and_from}
use Rattle.slot_core.specs.declared.TheConstants.{SLOT_LIMIT}
use Rattle.slot_core.specs.declared.tasks.Graph.{Graph}
use Rattle.slot_facts.proofs.Lists.Members.{Has, Has-flat_map, Has-range_with_len, Contains-from_Has}
use Rattle.clock_units.specs.declared.sets.PhysicalGraph.{PhysicalGraph}
use Rattle.clock_units.specs.Derived.{each, graph_of}
use Rattle.clock_units.proofs.Parts.{GraphParts-from_Ok, SetParts-from_Ok, same, step}
use Rattle.slot_lengths.specs.Checks.{with_slot}
use Rattle.slot_lengths.specs.Lengths.{divides_all, first_period, is_length, length_at}
use Rattle.slot_lengths.specs.Laws.{EachLengthIsListed}
use Rattle.slot_lengths.proofs.Loops.{lengths-of}

-- a multiple has no rest
no-rest : (slot k period : ℕ) → k * slot ≡ period → (period % slot == 0) ≡ true
no-rest slot k period is =
    let rest : period % slot ≡ 0 = subst (λ p. p % slot ≡ 0) is (mul-mod_left k slot) in
    rw rest refl

-- the slot divides the periods of all graphs that are derived
divides : (slot worth n : ℕ) (gs : List PhysicalGraph) (ys : List Graph) → each (graph_of slot worth) n gs ≡ Ok ys → divides_all slot gs ≡ true
divides slot worth n [] ys h = refl
divides slot worth n (g ∷ gs) ys h =
    step (same (graph_of slot worth n g)) h (λ y here rest.
    step (same (each (graph_of slot worth) (n + 1) gs)) rest (λ more others last.
    let parts = GraphParts-from_Ok slot worth n g y here in
    and_from _ _ (no-rest slot y.period g.period parts.period) (divides slot worth (n + 1) gs more others)))

-- the first period as so many slots
record FirstPeriod (slot : ℕ) (gs : List PhysicalGraph) : Type 0 where
  slots : ℕ
  is : slots * slot ≡ first_period gs
  least : 1 ≤ slots
  most : slots ≤ SLOT_LIMIT

first : (slot worth n : ℕ) (gs : List PhysicalGraph) (ys : List Graph) → 0 < length gs → each (graph_of slot worth) n gs ≡ Ok ys → FirstPeriod slot gs
first slot worth n [] ys some h = absurd (omega (arith, some))
first slot worth n (g ∷ gs) ys some h =
    step (same (graph_of slot worth n g)) h (λ y here rest.
    let parts = GraphParts-from_Ok slot worth n g y here in
    record { slots = y.period; is = parts.period; least = parts.some.0; most = parts.some.1 })

-- a length that passes the test is the one of which the period has so many
length-at : (slot k from to : ℕ) (gs : List PhysicalGraph) → 1 ≤ k → k * slot ≡ first_period gs → is_length from to gs slot ≡ true → Has (length_at from to gs k) slot
length-at slot k from to gs some is good =
    let cut : first_period gs / k ≡ slot = subst (λ p. p / k ≡ slot) is (mul-div_cancel_left slot some) in
    let whole : (slot * k == first_period gs) ≡ true = test slot k (first_period gs) is in
    rw (cut, whole, good) (inl refl)
  where
    test : (s k p : ℕ) → k * s ≡ p → (s * k == p) ≡ true
    test s k p is = grind arith

-- it passes the test
passes : (slot from to : ℕ) (gs : List PhysicalGraph) → 0 < slot → from ≤ slot → slot ≤ to → divides_all slot gs ≡ true → is_length from to gs slot ≡ true
passes slot from to gs some low high divided =
    and_from _ _ (and_from _ _ (and_from _ _ (above slot some) (below from slot low)) (below slot to high)) divided
  where
    above : (s : ℕ) → 0 < s → nat_lt 0 s ≡ true
    above s h = grind arith

    below : (a b : ℕ) → a ≤ b → nat_le a b ≡ true
    below a b h = grind arith

pub each-listed : EachLengthIsListed
each-listed set tasks slot from to some derived low high =
    let parts = SetParts-from_Ok (with_slot slot set) tasks derived in
    let gs = set.graphs in
    let p = first slot (slot - set.overhead) 0 gs tasks.graphs some parts.graphs in
    let divided = divides slot (slot - set.overhead) 0 gs tasks.graphs parts.graphs in
    let positive : 0 < slot = omega (arith, parts.below) in
    let good = passes slot from to gs positive low high divided in
    let range = Has-range_with_len 1 SLOT_LIMIT p.slots p.least (omega (arith, p.most)) in
    let listed = Has-flat_map (length_at from to gs) (range_with_len 1 SLOT_LIMIT) p.slots slot range (length-at slot p.slots from to gs p.least p.is good) in
    subst (λ (ls : List ℕ). Contains ls slot) (lengths-of SLOT_LIMIT from to gs) (Contains-from_Has (flat_map (length_at from to gs) (range_with_len 1 SLOT_LIMIT)) slot listed)
