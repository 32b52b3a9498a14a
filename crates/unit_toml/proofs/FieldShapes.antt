-- What is read at a key has its shape.
use Rattle.std.proofs.Common.{◌≡◌, ℕ, Bool, true, false, nat_le, nat_lt, if◌then◌else◌, List, length, Option, Some, None, Ok, Err, ◌==◌, refl, inl, inr, arith}
use Rattle.std.proofs.lemmas.Bool.{cases_Bool}
use Rattle.std.proofs.lemmas.Bool.Decides.{nat_tests}
use Rattle.toml.specs.Data.{Data, string, Items, Members}
use Rattle.slot_core.specs.Calls.Results.{◌>>=◌}
use Rattle.unit_toml.specs.declared.keys.UnitPlace.{UnitPlace}
use Rattle.unit_toml.specs.declared.faults.UnitsFault.{UnitsFault}
use Rattle.unit_toml.specs.declared.faults.UnitsFault.TheVariants.{Missing, WrongKind}
use Rattle.slot_core.specs.Sets.Names.{is_name}
use Rattle.slot_core.specs.Sets.Ranges.{is_between}
use Rattle.unit_toml.specs.UnitFields.{Read, or_fault, name_at}
use Rattle.unit_toml.specs.Reading.{all_tables, all_texts, at_most, items_at, texts_at, tables_at, some_tables_at}

-- a choice between a value and a fault that gave a value
if_Ok : {X : Type 0} (b : Bool) (x y : X) (fault : UnitsFault) → (if b then Ok x else Err fault) ≡ Ok y → (b ≡ true) × (x ≡ y)
if_Ok true x y fault h = (refl, cc)
if_Ok false x y fault h = cc

-- a name, a list of texts and a list of tables
pub name_at-Ok : (place : UnitPlace) (d : Option Data) (name : List ℕ) → name_at place d ≡ Ok name → is_name name ≡ true
name_at-Ok place None name h = cc
name_at-Ok place (Some (string text)) name h = let (good, same) = if_Ok (is_name text) text name _ h in rw (← same) good
name_at-Ok place (Some d) name h = cc

-- a list of at most so many items, where it is read from others
at_most-Ok : {X : Type 0} (place : UnitPlace) (limit : ℕ) (r : Read (List X)) (xs : List X) → (r >>= at_most place limit) ≡ Ok xs → nat_le (length xs) limit ≡ true
at_most-Ok place limit (Err fault) xs h = cc
at_most-Ok place limit (Ok all) xs h =
    elim (cases_Bool (nat_lt limit (length all))) [
      | inl long ↦ let bad = rw long at h in cc
      | inr short ↦ let good = rw short at h in let same : all ≡ xs = cc in rw (← same) (grind (arith, nat_tests))
    ]

pub texts_at-Ok : (place : UnitPlace) (limit : ℕ) (d : Option Data) (texts : List (List ℕ)) → texts_at place limit d ≡ Ok texts → nat_le (length texts) limit ≡ true
texts_at-Ok place limit d texts h = by_items (items_at place d) h
  where
    by_items : (r : Read Items) → (r >>= (λ items. or_fault (WrongKind place) (all_texts items) >>= at_most place limit)) ≡ Ok texts → nat_le (length texts) limit ≡ true
    by_items (Err fault) h = cc
    by_items (Ok items) h = at_most-Ok place limit (or_fault (WrongKind place) (all_texts items)) texts h

pub tables_at-Ok : (place : UnitPlace) (limit : ℕ) (d : Option Data) (tables : List Members) → tables_at place limit d ≡ Ok tables → nat_le (length tables) limit ≡ true
tables_at-Ok place limit d tables h = by_items (items_at place d) h
  where
    by_items : (r : Read Items) → (r >>= (λ items. or_fault (WrongKind place) (all_tables items) >>= at_most place limit)) ≡ Ok tables → nat_le (length tables) limit ≡ true
    by_items (Err fault) h = cc
    by_items (Ok items) h = at_most-Ok place limit (or_fault (WrongKind place) (all_tables items)) tables h

pub some_tables_at-Ok : (place : UnitPlace) (limit : ℕ) (d : Option Data) (tables : List Members) → some_tables_at place limit d ≡ Ok tables → is_between 1 limit (length tables) ≡ true
some_tables_at-Ok place limit d tables h = by_tables (tables_at place limit d) refl h
  where
    by_tables : (r : Read (List Members)) → tables_at place limit d ≡ r → (r >>= (λ ts. if length ts == 0 then Err (Missing place) else Ok ts)) ≡ Ok tables → is_between 1 limit (length tables) ≡ true
    by_tables (Err fault) is h = cc
    by_tables (Ok all) is h =
        elim (cases_Bool (length all == 0)) [
          | inl none ↦ let bad = rw none at h in cc
          | inr some ↦
              let few = tables_at-Ok place limit d all is in
              let good = rw some at h in
              let same : all ≡ tables = cc in
              rw (← same) (grind (arith, nat_tests))
        ]
