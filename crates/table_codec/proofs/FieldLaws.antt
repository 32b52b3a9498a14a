-- Fields: what is read was written so, and what is written so is read.
use Rattle.std.proofs.Common.{◌≡◌, ℕ, ◌^◌, ◌<◌, ℤ, true, List, [], ◌∷◌, ◌++◌, length, Ok, FitsSigned, refl, sym, ap, subst, ◌∙◌, arith}
use Rattle.std.specs.Prelude.{nat_le, ◌==◌, slice_index, ⊤}
use Rattle.std.specs.Int.{Width, w16, w32, w64, byte_len, from_le_bytes, to_le_bytes, cast_signed, cast_unsigned}
use Rattle.std.proofs.lemmas.Bool.{ltb-true, leb-true, and_parts}
use Rattle.std.proofs.lemmas.Bool.Decides.{nat_tests}
use Rattle.std.proofs.lemmas.Int.{ints, to_z-of_z, of_z-to_z}
use Rattle.std.proofs.lemmas.Nat.{le_bytes_2, le_bytes_4, le_bytes_8, from_le_bytes-to_le_bytes_2, from_le_bytes-to_le_bytes_4, from_le_bytes-to_le_bytes_8}
use Rattle.slot_core.specs.declared.TheConstants.{NAME_LIMIT}
use Rattle.slot_core.specs.declared.faults.Part.{Part}
use Rattle.slot_core.specs.declared.faults.Field.{Field}
use Rattle.slot_core.specs.Sets.Names.{is_name}
use Rattle.slot_core.specs.Sets.Ranges.{is_between}
use Rattle.slot_facts.proofs.Sets.Ranges.{bounds}
use Rattle.faults.specs.declared.table_fault.TableFault.{TableFault}
use Rattle.table_codec.specs.declared.layout.Layout.{Layout}
use Rattle.table_codec.specs.declared.layout.NumberWidth.{NumberWidth}
use Rattle.table_codec.specs.declared.layout.NumberWidth.TheVariants.{Two, Four}
use Rattle.table_codec.specs.declared.layout.SpareWidth.{SpareWidth}
use Rattle.table_codec.specs.declared.layout.SpareWidth.TheVariants.{Four as FourSpare, Eight}
use Rattle.table_codec.specs.Readers.{Unread, settled, bytes_at}
use Rattle.table_codec.specs.Forms.{tested, byte_form, number_form, signed_form, up_to, one_up_to, same_count, bad_name, text_form, name_form}
use Rattle.table_codec.specs.Grammar.{number_width, spare_width, slots_form, range_form, index_form, spare_form}
use Rattle.table_codec.specs.Sizes.{number_bound, Fits}
use Rattle.table_codec.proofs.FormLaws.{IsBytes, Takes, Takes-then, step, settles, value_same, ReadsWhole, ReadsBack, tested_whole, tested_back, bytes_takes, bytes_whole, bytes_back}

-- ---- numbers

-- a width of whole bytes, of which each number below the limit is spelled in one way
pub record IsWide (w : Width) (limit : ℕ) : Type 0 where
  pub len : (n : ℕ) → length (to_le_bytes w n) ≡ byte_len w
  pub back : (bytes : List ℕ) → length bytes ≡ byte_len w → IsBytes bytes → to_le_bytes w (from_le_bytes w bytes) ≡ bytes
  pub again : (n : ℕ) → n < limit → from_le_bytes w (to_le_bytes w n) ≡ n
  pub below : (bytes : List ℕ) → IsBytes bytes → from_le_bytes w bytes < limit

pub wide16 : IsWide w16 (2 ^ 16)
wide16 = record {
  len = λ n. refl;
  back = λ bytes len small. le_bytes_2 bytes (from_le_bytes w16 bytes) len small refl;
  again = λ n lt. from_le_bytes-to_le_bytes_2 n lt;
  below = λ bytes small. omega (arith, small 0, small 1);
}

pub wide32 : IsWide w32 (2 ^ 32)
wide32 = record {
  len = λ n. refl;
  back = λ bytes len small. le_bytes_4 bytes (from_le_bytes w32 bytes) len small refl;
  again = λ n lt. from_le_bytes-to_le_bytes_4 n lt;
  below = λ bytes small. omega (arith, small 0, small 1, small 2, small 3);
}

wide64 : IsWide w64 (2 ^ 64)
wide64 = record {
  len = λ n. refl;
  back = λ bytes len small. le_bytes_8 bytes (from_le_bytes w64 bytes) len small refl;
  again = λ n lt. from_le_bytes-to_le_bytes_8 n lt;
  below = λ bytes small. omega (arith, small 0, small 1, small 2, small 3, small 4, small 5, small 6, small 7);
}

-- the field of a length or time is one
wide_number : (w : NumberWidth) → IsWide (number_width w) (number_bound w)
wide_number Two = wide16
wide_number Four = wide32

-- it has room for the numbers of two bytes
pub Fits-small : (layout : Layout) (n : ℕ) → n < 2 ^ 16 → Fits layout n
Fits-small layout n lt = by_width layout.number
  where
    by_width : (w : NumberWidth) → n < number_bound w
    by_width Two = lt
    by_width Four = omega (arith, lt)

number_parts : (w : Width) (limit : ℕ) → IsWide w limit → (input : Unread) (n : ℕ) (rest : Unread) → (number_form w).read input ≡ Ok (n, rest) → Takes input (to_le_bytes w n) rest × (IsBytes input.left → n < limit)
number_parts w limit wide input n rest h =
    step (bytes_at (byte_len w) input) {f = λ text. settled (Ok (from_le_bytes w text))} h (λ text after taken h.
    let (is, same) = settles (Ok (from_le_bytes w text)) after n rest h in
    let value : from_le_bytes w text ≡ n = value_same (from_le_bytes w text) n is in
    let (t, len, small) = bytes_takes (byte_len w) input text after taken in
    let takes : Takes input (to_le_bytes w (from_le_bytes w text)) after = record {
      parts = λ bytes. t.parts bytes ∙ ap (λ x. x ++ after.left) (sym (wide.back text len (small bytes)));
      whole = t.whole;
      bytes = t.bytes;
    } in
    let below : IsBytes input.left → from_le_bytes w text < limit = λ bytes. wide.below text (small bytes) in
    let all : Takes input (to_le_bytes w (from_le_bytes w text)) rest = subst (λ i. Takes input (to_le_bytes w (from_le_bytes w text)) i) same takes in
    subst (λ m. Takes input (to_le_bytes w m) rest × (IsBytes input.left → m < limit)) value (all, below))

number_whole : (w : Width) (limit : ℕ) → IsWide w limit → ReadsWhole (number_form w) (λ _. ⊤)
number_whole w limit wide = record { of_read = λ input n rest h. ((number_parts w limit wide input n rest h).0, tt) }

number_back : (w : Width) (limit : ℕ) → IsWide w limit → (n : ℕ) → n < limit → ReadsBack (number_form w) n
number_back w limit wide n lt = record {
  again = λ whole tail.
      rw ((bytes_back (byte_len w) (to_le_bytes w n) (wide.len n)).again whole tail, wide.again n lt) refl;
}

-- an index, and a length or a time
pub index_whole : ReadsWhole index_form (λ _. ⊤)
index_whole = number_whole w16 (2 ^ 16) wide16

pub index_back : (n : ℕ) → n < 2 ^ 16 → ReadsBack index_form n
index_back = number_back w16 (2 ^ 16) wide16

pub slots_whole : (layout : Layout) → ReadsWhole (slots_form layout) (λ _. ⊤)
slots_whole layout = number_whole (number_width layout.number) (number_bound layout.number) (wide_number layout.number)

pub slots_back : (layout : Layout) (n : ℕ) → Fits layout n → ReadsBack (slots_form layout) n
slots_back layout = number_back (number_width layout.number) (number_bound layout.number) (wide_number layout.number)

-- of the set
pub range_whole : (layout : Layout) (place : Part) (field : Field) (low high : ℕ) → ReadsWhole (range_form layout place field low high) (λ n. (is_between low high n ≡ true) × ⊤)
range_whole layout place field low high = tested_whole _ _ (slots_whole layout)

pub range_back : (layout : Layout) (place : Part) (field : Field) (low high n : ℕ) → high < 2 ^ 16 → is_between low high n ≡ true → ReadsBack (range_form layout place field low high) n
range_back layout place field low high n small inside =
    tested_back _ _ (slots_back layout n (Fits-small layout n (omega (arith, bounds low high n inside)))) inside

-- counts
pub up_to_whole : (place : Part) (field : Field) (limit : ℕ) → ReadsWhole (up_to place field limit) (λ n. (nat_le n limit ≡ true) × ⊤)
up_to_whole place field limit = tested_whole _ _ index_whole

pub up_to_back : (place : Part) (field : Field) (limit n : ℕ) → limit < 2 ^ 16 → nat_le n limit ≡ true → ReadsBack (up_to place field limit) n
up_to_back place field limit n small few =
    tested_back _ _ (index_back n (omega (arith, leb-true n limit few))) few

pub one_up_to_whole : (place : Part) (field : Field) (limit : ℕ) → ReadsWhole (one_up_to place field limit) (λ n. (nat_le 1 n ≡ true) × ((nat_le n limit ≡ true) × ⊤))
one_up_to_whole place field limit = tested_whole _ _ (up_to_whole place field limit)

pub one_up_to_back : (place : Part) (field : Field) (limit n : ℕ) → limit < 2 ^ 16 → is_between 1 limit n ≡ true → ReadsBack (one_up_to place field limit) n
one_up_to_back place field limit n small inside =
    let (least, most) = and_parts (nat_le 1 n) (nat_le n limit) inside in
    tested_back _ _ (up_to_back place field limit n small most) least

-- of stored things
pub same_count_whole : (wrong : ℕ → ℕ → TableFault) (computed : ℕ) → ReadsWhole (same_count wrong computed) (λ n. ((n == computed) ≡ true) × ⊤)
same_count_whole wrong computed = tested_whole _ _ (number_whole w32 (2 ^ 32) wide32)

pub same_count_back : (wrong : ℕ → ℕ → TableFault) (n : ℕ) → n < 2 ^ 32 → ReadsBack (same_count wrong n) n
same_count_back wrong n lt = tested_back _ _ (number_back w32 (2 ^ 32) wide32 n lt) (itself n)
  where
    itself : (m : ℕ) → (m == m) ≡ true
    itself m = grind (arith, nat_tests)

-- ---- capacities

signed_whole : (w : Width) (limit : ℕ) → IsWide w limit → ((n : ℕ) → n < limit → cast_unsigned w (cast_signed w n) ≡ n) → ReadsWhole (signed_form w) (λ _. ⊤)
signed_whole w limit wide there = record {
  of_read = λ input z rest h.
      step ((number_form w).read input) {f = λ bits. settled (Ok (cast_signed w bits))} h (λ bits after read h.
      let (is, same) = settles (Ok (cast_signed w bits)) after z rest h in
      let value : cast_signed w bits ≡ z = value_same (cast_signed w bits) z is in
      let (t, small) = number_parts w limit wide input bits after read in
      let takes : Takes input (to_le_bytes w (cast_unsigned w (cast_signed w bits))) after = record {
        parts = λ bytes. t.parts bytes ∙ ap (λ n. to_le_bytes w n ++ after.left) (sym (there bits (small bytes)));
        whole = t.whole;
        bytes = t.bytes;
      } in
      let all : Takes input (to_le_bytes w (cast_unsigned w (cast_signed w bits))) rest = subst (λ i. Takes input (to_le_bytes w (cast_unsigned w (cast_signed w bits))) i) same takes in
      subst (λ y. Takes input (to_le_bytes w (cast_unsigned w y)) rest × ⊤) value (all, tt));
}

signed_back : (w : Width) (limit : ℕ) → IsWide w limit → (z : ℤ) → cast_unsigned w z < limit → cast_signed w (cast_unsigned w z) ≡ z → ReadsBack (signed_form w) z
signed_back w limit wide z lt there = record {
  again = λ whole tail.
      rw ((number_back w limit wide (cast_unsigned w z) lt).again whole tail, there) refl;
}

bits-lt_32 : (z : ℤ) → FitsSigned w32 z → cast_unsigned w32 z < 2 ^ 32
bits-lt_32 z fits = omega (arith, ints)

bits-lt_64 : (z : ℤ) → FitsSigned w64 z → cast_unsigned w64 z < 2 ^ 64
bits-lt_64 z fits = omega (arith, ints)

pub spare_whole : (layout : Layout) → ReadsWhole (spare_form layout) (λ _. ⊤)
spare_whole layout = by_width layout.spare
  where
    by_width : (w : SpareWidth) → ReadsWhole (signed_form (spare_width w)) (λ _. ⊤)
    by_width FourSpare = signed_whole w32 (2 ^ 32) wide32 (λ n lt. of_z-to_z w32 n lt)
    by_width Eight = signed_whole w64 (2 ^ 64) wide64 (λ n lt. of_z-to_z w64 n lt)

pub spare_back : (layout : Layout) (z : ℤ) → FitsSigned (spare_width layout.spare) z → ReadsBack (spare_form layout) z
spare_back layout z = by_width layout.spare
  where
    by_width : (w : SpareWidth) → FitsSigned (spare_width w) z → ReadsBack (signed_form (spare_width w)) z
    by_width FourSpare fits = signed_back w32 (2 ^ 32) wide32 z (bits-lt_32 z fits) (to_z-of_z w32 z fits)
    by_width Eight fits = signed_back w64 (2 ^ 64) wide64 z (bits-lt_64 z fits) (to_z-of_z w64 z fits)

-- ---- names

byte_whole : ReadsWhole byte_form (λ _. ⊤)
byte_whole = record {
  of_read = λ input n rest h.
      step (bytes_at 1 input) {f = λ text. settled (Ok (slice_index text 0))} h (λ text after read h.
      let (is, same) = settles (Ok (slice_index text 0)) after n rest h in
      let value : slice_index text 0 ≡ n = value_same (slice_index text 0) n is in
      let (takes, one, _) = bytes_takes 1 input text after read in
      let first : Takes input (slice_index text 0 ∷ []) after = subst (λ t. Takes input t after) (sym (single text one)) takes in
      let all : Takes input (slice_index text 0 ∷ []) rest = subst (λ i. Takes input (slice_index text 0 ∷ []) i) same first in
      subst (λ m. Takes input (m ∷ []) rest × ⊤) value (all, tt));
}
  where
    single : (text : List ℕ) → length text ≡ 1 → slice_index text 0 ∷ [] ≡ text
    single [] one = absurd (omega arith)
    single (a ∷ []) one = refl
    single (a ∷ b ∷ text) one = absurd (omega arith)

byte_back : (n : ℕ) → ReadsBack byte_form n
byte_back n = record { again = λ whole tail. rw ((bytes_back 1 (n ∷ []) refl).again whole tail) refl }

pub name_whole : (place : Part) → ReadsWhole (name_form place) (λ name. is_name name ≡ true)
name_whole place = record {
  of_read = λ input name rest h.
      let size = tested byte_form (is_between 1 NAME_LIMIT) (λ _. bad_name place) in
      step (size.read input) {f = λ n. (text_form place n).read} h (λ n after here h.
      let first : ReadsWhole size (λ m. (is_between 1 NAME_LIMIT m ≡ true) × ⊤) = tested_whole _ _ byte_whole in
      let second : ReadsWhole (text_form place n) (λ text. (is_name text ≡ true) × (length text ≡ n)) = tested_whole _ _ (bytes_whole n) in
      let (front, _) = first.of_read input n after here in
      let (back, made) = second.of_read after name rest h in
      let both : Takes input ((n ∷ []) ++ name) rest = Takes-then front back in
      (subst (λ m. Takes input ((m ∷ []) ++ name) rest) (sym made.1) both, made.0));
}

length-name : (name : List ℕ) → is_name name ≡ true → is_between 1 NAME_LIMIT (length name) ≡ true
length-name [] named = cc
length-name (first ∷ rest) named =
    let short : length rest < NAME_LIMIT = ltb-true (length rest) NAME_LIMIT (and_parts _ _ (and_parts _ _ named).0).1 in
    grind (arith, nat_tests, short)

pub name_back : (place : Part) (name : List ℕ) → is_name name ≡ true → ReadsBack (name_form place) name
name_back place name named = record {
  again = λ whole tail.
      rw (
        (byte_back (length name)).again whole (name ++ tail),
        length-name name named,
        (bytes_back (length name) name refl).again whole tail,
        named,
      ) refl;
}
