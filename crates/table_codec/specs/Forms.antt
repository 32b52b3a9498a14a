-- Forms: how a part of a table is spelled and how it is read, in one.
use Rattle.std.specs.Prelude.{ℕ, ℤ, ◌==◌, nat_le, pos, slice_index, Bool, List, [], ◌∷◌, ◌++◌, length, flat_map, if◌then◌else◌, Result, Ok, Err, ⊤}
use Rattle.std.specs.Int.{Width, w16, w32, byte_len, from_le_bytes, to_le_bytes, cast_signed, cast_unsigned}
use Rattle.slot_core.specs.declared.TheConstants.{NAME_LIMIT}
use Rattle.slot_core.specs.declared.faults.Part.{Part}
use Rattle.slot_core.specs.declared.faults.Field.{Field}
use Rattle.slot_core.specs.declared.faults.Field.TheVariants.{Name}
use Rattle.slot_core.specs.declared.faults.TaskFault.TheVariants.{Missing, OutOfRange, BadName, TooMany}
use Rattle.slot_core.specs.Sets.Names.{is_name}
use Rattle.slot_core.specs.Sets.Ranges.{is_between}
use Rattle.faults.specs.declared.table_fault.TableFault.{TableFault}
use Rattle.faults.specs.declared.table_fault.TableFault.TheVariants.{BadSource}
use Rattle.table_codec.specs.Readers.{Reader, go_on, settled, bytes_at, end_at, each_at, same_at}

-- how a part of a whole is spelled and read: its value in the whole, the bytes that it writes of
-- the whole, and the reading of it
pub record Form (X A : Type 0) : Type 0 where
  pub told : X → A
  pub written : X → List ℕ
  pub read : Reader A

infixl 10 ◌>>=◌
-- one form after the other, which may know the value of the first
abbrev pub ◌>>=◌ : {X A B : Type 0} → Form X A → (A → Form X B) → Form X B
f >>= g = record {
  told = λ x. (g (f.told x)).told x;
  written = λ x. f.written x ++ (g (f.told x)).written x;
  read = λ input. go_on (f.read input) (λ a. (g a).read);
}

-- a value that takes no bytes: a result, or its fault
abbrev pub given : {A : Type 0} → Result A TableFault → Form A A
given result = record { told = λ a. a; written = λ _. []; read = settled result }

-- the value of the whole, once its parts are known
abbrev pub done : {X A : Type 0} → A → Form X A
done a = record { told = λ _. a; written = λ _. []; read = settled (Ok a) }

-- the form of a part of the whole
abbrev pub part : {X Y A : Type 0} → (X → Y) → Form Y A → Form X A
part field f = record {
  told = λ x. f.told (field x);
  written = λ x. f.written (field x);
  read = f.read;
}

-- a form whose value is another's, there and back
abbrev pub coded : {X Y : Type 0} → (X → Y) → (Y → X) → Form Y Y → Form X X
coded there back f = record {
  told = λ x. x;
  written = λ x. f.written (there x);
  read = λ input. go_on (f.read input) (λ y. settled (Ok (back y)));
}

-- a form whose value passes a test when it is read, or else is a fault
abbrev pub tested : {A : Type 0} → Form A A → (A → Bool) → (A → TableFault) → Form A A
tested f test fault = record f {
  read = λ input.
      go_on (f.read input) (λ a. settled (if test a then Ok a else Err (fault a)));
}

-- n bytes
abbrev pub bytes_form : ℕ → Form (List ℕ) (List ℕ)
bytes_form n = record { told = λ text. text; written = λ text. text; read = bytes_at n }

-- nothing, at the end of all bytes
abbrev pub end_form : {X : Type 0} → Form X ⊤
end_form = record { told = λ _. tt; written = λ _. []; read = end_at }

-- so many things; their places matter to the faults of their reading alone, so all are written as
-- the first would be
abbrev pub each : {X : Type 0} → (ℕ → Form X X) → ℕ → Form (List X) (List X)
each f count = record {
  told = λ xs. xs;
  written = flat_map (f 0).written;
  read = each_at (λ i. (f i).read) 0 count;
}

-- things that are stored, where they are the computed ones, each at its place
abbrev pub stored :
    {X : Type 0} → Form X X → (X → X → Bool) → (ℕ → X → X → TableFault) → List X
    → Form (List X) (List X)
stored f is_same wrong computed = record {
  told = λ xs. xs;
  written = flat_map f.written;
  read = λ input.
      go_on (same_at f.read is_same wrong 0 computed input) (λ _. settled (Ok computed));
}

-- a number of this width, the least byte first
abbrev pub number_form : Width → Form ℕ ℕ
number_form w = coded (to_le_bytes w) (from_le_bytes w) (bytes_form (byte_len w))

-- a number that may be negative, in two's complement
abbrev pub signed_form : Width → Form ℤ ℤ
signed_form w = coded (cast_unsigned w) (cast_signed w) (number_form w)

-- one byte
abbrev pub byte_form : Form ℕ ℕ
byte_form = coded (λ n. n ∷ []) (λ text. slice_index text 0) (bytes_form 1)

-- a number of the set, from low to high
abbrev pub within : Width → Part → Field → ℕ → ℕ → Form ℕ ℕ
within w place field low high =
    tested (number_form w) (is_between low high) (λ n.
    BadSource (OutOfRange (record { part = place; field = field }) (pos n)))

-- a count, no more than the limit
abbrev pub up_to : Part → Field → ℕ → Form ℕ ℕ
up_to place field limit =
    tested (number_form w16) (λ n. nat_le n limit) (λ n.
    BadSource (TooMany (record { part = place; field = field }) n))

-- a count of one or more, no more than the limit
abbrev pub one_up_to : Part → Field → ℕ → Form ℕ ℕ
one_up_to place field limit =
    tested (up_to place field limit) (nat_le 1) (λ _.
    BadSource (Missing (record { part = place; field = field })))

-- a count of stored things, the same as the computed one
abbrev pub same_count : (ℕ → ℕ → TableFault) → ℕ → Form ℕ ℕ
same_count wrong computed =
    tested (number_form w32) (λ n. n == computed) (λ n. wrong n computed)

-- the fault of a name that is none
abbrev pub bad_name : Part → TableFault
bad_name place = BadSource (BadName (record { part = place; field = Name }))

-- the text of a name of this length
abbrev pub text_form : Part → ℕ → Form (List ℕ) (List ℕ)
text_form place n = tested (bytes_form n) is_name (λ _. bad_name place)

-- a name: its length in one byte, and its text
abbrev pub name_form : Part → Form (List ℕ) (List ℕ)
name_form place = do
  n ← part length (tested byte_form (is_between 1 NAME_LIMIT) (λ _. bad_name place))
  text_form place n
