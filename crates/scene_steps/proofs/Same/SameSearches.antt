-- Searches in lists of the same jobs, where at most one passes.
use Rattle.std.proofs.Common.{◌≡◌, Bool, true, false, cond, List, [], ◌∷◌, map, Option, Some, None, refl, sym, ap, ◌∙◌}
use Rattle.std.specs.Prelude.{find, option_map}
use Rattle.std.proofs.lemmas.Bool.{both_ways}
use Rattle.slot_core.specs.declared.jobs.Key.{Key}
use Rattle.slot_core.specs.declared.jobs.Job.{Job}
use Rattle.slot_core.specs.Offline.Keys.{same_key}
use Rattle.slot_core.specs.Runs.Matches.{HaveSameItems}
use Rattle.slot_facts.proofs.Choice.Earliest.{same_from_key}
use Rattle.slot_facts.proofs.Lists.ApartKeys.{same_member-from_apart}
use Rattle.slot_facts.proofs.Lists.Members.{Has}
use Rattle.slot_facts.proofs.Lists.Permuted.{Has-permuted}
use Rattle.slot_facts.proofs.Lists.SameItems.{same-sym, jobs-same_items}
use Rattle.slot_facts.proofs.Lists.Tests.{find-Some}
use Rattle.slot_facts.proofs.Offline.DistinctKeys.{IsApart}
use Rattle.slot_facts.proofs.Sets.Faults.{find-None}

-- a job of one list is one of each list with the same jobs
pub Has-same : (xs ys : List Job) (job : Job) → HaveSameItems xs ys → Has xs job → Has ys job
Has-same xs ys job same at = Has-permuted xs ys job ((jobs-same_items xs ys).0 same) at

-- a search in two lists of the same members finds the same, where at most one passes
pub find-members : {X : Type 0} (p : X → Bool) (xs ys : List X) → ((x : X) → Has xs x → Has ys x) → ((x : X) → Has ys x → Has xs x) → ((x y : X) → Has xs x → Has xs y → p x ≡ true → p y ≡ true → x ≡ y) → find p xs ≡ find p ys
find-members {X} p xs ys there back one = by_found (find p xs) (find p ys) refl refl
  where
    by_found : (o r : Option X) → find p xs ≡ o → find p ys ≡ r → o ≡ r
    by_found None None e f = refl
    by_found (Some x) None e f =
        let found = find-Some p xs x e in
        absurd (both_ways (p x) (find-None p ys x f (there x found.0)) found.1)
    by_found None (Some y) e f =
        let found = find-Some p ys y f in
        absurd (both_ways (p y) (find-None p xs y e (back y found.0)) found.1)
    by_found (Some x) (Some y) e f =
        let first = find-Some p xs x e in
        let second = find-Some p ys y f in
        ap Some (one x y first.0 (back y second.0) first.1 second.1)

-- a search for a key in lists of the same jobs, whose keys are apart, finds the same
pub find-key : (key : Key) (xs ys : List Job) → IsApart (λ (j : Job). j.key) xs → HaveSameItems xs ys → find (λ (j : Job). same_key j.key key) xs ≡ find (λ (j : Job). same_key j.key key) ys
find-key key xs ys apart same =
    find-members
    (λ (j : Job). same_key j.key key)
    xs
    ys
    (λ job at. Has-same xs ys job same at)
    (λ job at. Has-same ys xs job (same-sym xs ys same) at)
    (λ a b at_a at_b a_keyed b_keyed.
    same_member-from_apart (λ (j : Job). j.key) xs a b apart at_a at_b (same_from_key a.key key a_keyed ∙ sym (same_from_key b.key key b_keyed)))

-- a search in a mapped list
pub find-map : {X Y : Type 0} (p : Y → Bool) (f : X → Y) (xs : List X) → find p (map f xs) ≡ option_map f (find (λ x. p (f x)) xs)
find-map p f [] = refl
find-map {X} {Y} p f (x ∷ xs) = by_test (p (f x)) (find-map p f xs)
  where
    by_test : (b : Bool) → find p (map f xs) ≡ option_map f (find (λ x. p (f x)) xs) → cond b (Some (f x)) (find p (map f xs)) ≡ option_map f (cond b (Some x) (find (λ x. p (f x)) xs))
    by_test true rest = refl
    by_test false rest = rest
