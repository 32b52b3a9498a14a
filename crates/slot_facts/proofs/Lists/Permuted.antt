-- The members of a list, and of the list in another order.
use Rattle.std.proofs.Common.{List}
use Rattle.std.specs.Prelude.{Contains, IsPermutation}
use Rattle.std.specs.List.{AllByRecursion}
use Rattle.std.proofs.lemmas.List.Elements.{recursion_from_All, All-from_recursion}
use Rattle.std.proofs.lemmas.List.Sorted.{All-permutation, Contains-permutation, IsPermutation-sym}
use Rattle.slot_facts.proofs.Lists.Members.{Has, Has-from_Contains, Contains-from_Has}

-- a member of the list is one of it in another order
pub Has-permuted : {X : Type 0} (xs ys : List X) (x : X) → IsPermutation xs ys → Has xs x → Has ys x
Has-permuted xs ys x permuted at =
    Has-from_Contains ys x (Contains-permutation xs ys x permuted (Contains-from_Has xs x at))

-- and the list contains each member of it in another order
pub Contains-from_permuted : {X : Type 0} (xs ys : List X) (x : X) → IsPermutation xs ys → Has ys x → Contains xs x
Contains-from_permuted xs ys x permuted at =
    Contains-permutation ys xs x (IsPermutation-sym xs ys permuted) (Contains-from_Has ys x at)

-- what holds of all of the list holds of all of it in another order
pub AllByRecursion-permuted : {X : Type 0} (P : X → Type 0) (xs ys : List X) → IsPermutation xs ys → AllByRecursion P xs → AllByRecursion P ys
AllByRecursion-permuted P xs ys permuted all =
    recursion_from_All P ys (All-permutation P xs ys permuted (All-from_recursion P xs all))
