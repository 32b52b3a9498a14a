-- Maps by key: the order of keys that the code compares by is that of the definitions.
use Rattle.std.proofs.Common.{◌≡◌, Ordering, Less, Equal, Greater, nat_cmp, refl, ap}
use Rattle.std.specs.Ordering.{ordering_then}
use Rattle.std.specs.Cmp.Lexicographic.{slice_cmp}
use Rattle.std.proofs.Math.Path.{fun_ext}
use Rattle.slot_core.specs.contracts.jobs.KeyOrd.TheImpl as key_ord
use Rattle.slot_core.specs.declared.jobs.Key.{Key}
use Rattle.slot_core.specs.declared.jobs.Key.TheVariants.{Offline, Sporadic, Firm, Soft}
use Rattle.slot_core.specs.Offline.Keys.{key_order}

-- nothing more to compare
then-equal : (o : Ordering) → o ≡ ordering_then o Equal
then-equal Less = refl
then-equal Equal = refl
then-equal Greater = refl

-- the order of keys that the code compares by
abbrev pub key_cmp : Key → Key → Ordering
key_cmp = (key_ord.ghosts).cmp

key_cmp-at : (a b : Key) → key_cmp a b ≡ slice_cmp nat_cmp (key_order a) (key_order b)
key_cmp-at (Offline g t k) (Offline h u l) =
    ap (λ o. ordering_then (nat_cmp g h) (ordering_then (nat_cmp t u) o)) (then-equal (nat_cmp k l))
key_cmp-at (Sporadic i r) (Sporadic j s) =
    ap (λ o. ordering_then (nat_cmp i j) o) (then-equal (nat_cmp r s))
key_cmp-at (Firm r) (Firm s) = then-equal (nat_cmp r s)
key_cmp-at (Soft r) (Soft s) = then-equal (nat_cmp r s)
key_cmp-at a b = refl

-- it is the order of the lists of their numbers
pub key_cmp-by_order : key_cmp ≡ (λ a b. slice_cmp nat_cmp (key_order a) (key_order b))
key_cmp-by_order = fun_ext (λ a. fun_ext (key_cmp-at a))
