-- The fields of a row by their places.
use Rattle.std.proofs.Common.{◌≡◌, ℕ, zero, suc, Bor, List, [], ◌∷◌, drop, Option, Some, None, refl, sym}
use Rattle.std.specs.Prelude.{option_map}
use Rattle.csv.specs.Records.{field_at}

-- the fields from the place of a field on
from_field : (fields : List (List ℕ)) (i : ℕ) (field : List ℕ) → field_at fields i ≡ Some field → drop i fields ≡ field ∷ drop (suc i) fields
unfolding field_at
from_field [] i field at = cc
from_field (first ∷ fields) zero field at = let same : first ≡ field = cc in rw same refl
from_field (first ∷ fields) (suc i) field at = from_field fields i field at

-- the fields from a place on that has none
from_no_field : (fields : List (List ℕ)) (i : ℕ) → field_at fields i ≡ None → drop i fields ≡ []
unfolding field_at
from_no_field [] zero at = refl
from_no_field [] (suc i) at = refl
from_no_field (first ∷ fields) zero at = cc
from_no_field (first ∷ fields) (suc i) at = from_no_field fields i at

-- the fields from a place on at which a field was found
pub drop-found : (fields : List (List ℕ)) (i : ℕ) (found : Option (Bor (List ℕ))) (field : Bor (List ℕ)) → option_map (λ s. s.now) found ≡ field_at fields i → found ≡ Some field → drop i fields ≡ field.now ∷ drop (suc i) fields
drop-found fields i found field at is = from_field fields i field.now (sym (rw is at at))

-- the fields from a place on at which none was found
pub drop-none : (fields : List (List ℕ)) (i : ℕ) (found : Option (Bor (List ℕ))) → option_map (λ s. s.now) found ≡ field_at fields i → found ≡ None → drop i fields ≡ []
drop-none fields i found at is = from_no_field fields i (sym (rw is at at))
