-- The entries of each of the four tasks name one of them.
use Rattle.std.proofs.Common.{◌≡◌, ℕ, zero, suc, ◌<◌, true, List, [], ◌∷◌, codes, sym, subst, ◌==◌, eqb-true, rules}
use Rattle.std.specs.Prelude.{All}
use Rattle.std.proofs.lemmas.List.Elements.{All-contains}
use Rattle.std.proofs.lemmas.Map.Views.{Contains-from_any}
use Rattle.slot_core.specs.declared.tasks.Task.{Task}
use Rattle.sample_sets.specs.Sets.{task}
use Rattle.slot_core.specs.Offline.Precedence.{comes_after}
use Rattle.sample_sets.proofs.graphs.four_tasks.Goals as goal

-- four such tasks
abbrev four : List ℕ → List ℕ → List ℕ → List ℕ → List Task
four a b c d =
    task (codes "a") 1 a ∷ task (codes "b") 1 b ∷ task (codes "c") 1 c ∷ task (codes "d") 1 d ∷ []

below :
    (entries : List ℕ) (p : ℕ) → All (λ q. q < 4) entries
    → comes_after (task (codes "a") 1 entries ∷ []) 0 p ≡ true → p < 4
below entries p all h =
    let same : (x y : ℕ) → (y == x) ≡ true → x ≡ y = λ x y e. sym (eqb-true y x e) in
    All-contains (λ q. q < 4) entries p all (Contains-from_any {eq = λ x y. y == x} same p entries h)

named :
    (a b c d : List ℕ) → All (λ q. q < 4) a → All (λ q. q < 4) b → All (λ q. q < 4) c
    → All (λ q. q < 4) d → (t p : ℕ) → comes_after (four a b c d) t p ≡ true → p < 4
named a b c d in_a in_b in_c in_d zero p h = below a p in_a h
named a b c d in_a in_b in_c in_d (suc zero) p h = below b p in_b h
named a b c d in_a in_b in_c in_d (suc (suc zero)) p h = below c p in_c h
named a b c d in_a in_b in_c in_d (suc (suc (suc zero))) p h = below d p in_d h
named a b c d in_a in_b in_c in_d (suc (suc (suc (suc t)))) p h = cc

pub returns-clause-named : goal.returns-clause-named
returns-clause-named c =
    let tasks : c.plain_graph.result.tasks ≡ four c.args.a.now c.args.b.now c.args.c.now c.args.d.now = search rules in
    λ t p h. rw tasks (named c.args.a.now c.args.b.now c.args.c.now c.args.d.now c.requires.a c.requires.b c.requires.c c.requires.d t p (subst (λ ts. comes_after ts t p ≡ true) tasks h))
