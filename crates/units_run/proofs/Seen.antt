-- What contracts see of files in a read, and in two reads, one after the other.
use Rattle.std.proofs.Common.{◌≡◌, ◌<◌, ℕ, List, length, Option, Some, refl, subst}
use Rattle.slot_io.specs.Files.{Held}
use Rattle.units_run.specs.Runs.{FilesSeen, IsReadTo, IsTooLong, seen}

-- a first read that fails nowhere, and leaves what is held, does not show
pub seen-on : {F : Type 0} (held : F → Option Held) (blamed : F → Option (List ℕ)) (given : F → Option (List ℕ × ℕ)) (faults : F → ℕ) (first between last : F) → held between ≡ held first → faults between ≡ faults first → seen held blamed given faults between last ≡ seen held blamed given faults first last
seen-on held blamed given faults first between last same well = rw (same, well) refl

-- a read that gave more bytes than the limit
pub too-long : (limit count : ℕ) (name bytes : List ℕ) (files : FilesSeen) → count ≡ length bytes → files.given ≡ Some (name, count) → IsReadTo limit files.held name bytes → limit < length bytes → IsTooLong limit name files
too-long limit count name bytes files same given read long =
    record {
      bytes = bytes;
      given = subst (λ (n : ℕ). files.given ≡ Some (name, n)) same given;
      read = read;
      long = long;
    }
