-- A record takes a byte, so a text has no more records than bytes.
use Rattle.std.proofs.Common.{◌≡◌, ℕ, zero, suc, ◌+◌, ◌<◌, ◌≤◌, Bool, true, false, cond, ◌==◌, List, [], ◌∷◌, ◌++◌, length, Bor, Option, Some, None, refl, ap, ◌∙◌, inl, add-one, arith}
use Rattle.csv.specs.declared.parser.State.{State}
use Rattle.csv.specs.declared.parser.State.TheVariants as st
use Rattle.csv.specs.declared.parser.Action.{Action}
use Rattle.csv.specs.declared.parser.Action.TheVariants as act
use Rattle.csv.specs.declared.parser.Terminator.TheVariants as term
use Rattle.csv.specs.declared.reader.Reader.{Reader}
use Rattle.csv.specs.Machine.{Read, step, in_field, start_field, start_record, ends_with, ends_at_end, is_end, fields_after, field_after, next_record}
use Rattle.csv.specs.Reading.{NextIs, ReadsNext, ReadRecord, default_config, records_from, records_next, pending_of, took_first}
use Rattle.arrival_csv.specs.Rows.{HasRows, TakesRow}
use Rattle.key_texts.proofs.PlaceLemmas.{Some_same}

-- the byte of a state and an action that ends a record leaves none open
abbrev Closes : State × Action → Type 0
Closes after = is_end after.1 ≡ true → ends_at_end after.0 ≡ false

-- a byte in a field that ends a record leaves none open
in_field_closes : (c : ℕ) → Closes (in_field default_config c)
in_field_closes c = by_tests (c == 44) (ends_with term.CRLF c) (c == 13)
  where
    by_tests : (separates ends returns : Bool) → Closes (cond separates (st.StartField, act.EndField) (cond ends (cond returns st.AfterCr st.StartRecord, act.EndRecord) (st.InField, act.Copy)))
    by_tests true ends returns h = cc
    by_tests false true true h = refl
    by_tests false true false h = refl
    by_tests false false returns h = cc

-- one of two steps that leave none open
either_closes : (test : Bool) (a b : State × Action) → Closes a → Closes b → Closes (cond test a b)
either_closes true a b first second = first
either_closes false a b first second = second

-- a byte at the start of a field
start_field_closes : (c : ℕ) → Closes (start_field default_config c)
start_field_closes c = either_closes (c == 34) (st.InQuoted, act.Skip) (in_field default_config c) (λ ends. cc) (in_field_closes c)

-- a byte at the start of a record
start_record_closes : (c : ℕ) → Closes (start_record default_config c)
start_record_closes c = either_closes (ends_with term.CRLF c) (st.StartRecord, act.Skip) (start_field default_config c) (λ ends. cc) (start_field_closes c)

-- a byte in any state that ends a record leaves none open
step_closes : (s : State) (c : ℕ) → Closes (step default_config s c)
step_closes st.StartRecord c = start_record_closes c
step_closes st.StartField c = start_field_closes c
step_closes st.InField c = in_field_closes c
step_closes st.InQuoted c = either_closes (c == 34) (st.AfterQuote, act.Skip) (st.InQuoted, act.Copy) (λ ends. cc) (λ ends. cc)
step_closes st.InEscape c = λ ends. cc
step_closes st.AfterQuote c = either_closes (c == 34) (st.InQuoted, act.Copy) (in_field default_config c) (λ ends. cc) (in_field_closes c)
step_closes st.InComment c = either_closes (c == 10) (st.StartRecord, act.Skip) (st.InComment, act.Skip) (λ ends. cc) (λ ends. cc)
step_closes st.AfterCr c = either_closes (c == 10) (st.StartRecord, act.Skip) (start_record default_config c) (λ ends. cc) (start_record_closes c)

-- what a record leaves: no more bytes, and no record open
abbrev LeavesOf : List ℕ → Read → Type 0
LeavesOf xs p = (length p.2 ≤ length xs) × (ends_at_end p.1 ≡ false)

-- one byte, where what is read after it leaves no more and none open
byte_leaves : (s : State) (fields : List (List ℕ)) (field : List ℕ) (c : ℕ) (rest : List ℕ) (p : Read)
    → (next_record default_config (step default_config s c).0 (fields_after (step default_config s c).1 fields field) (field_after (step default_config s c).1 c field) rest ≡ Some p → LeavesOf rest p)
    → next_record default_config s fields field (c ∷ rest) ≡ Some p → LeavesOf rest p
unfolding next_record
byte_leaves s fields field c rest p later read = by_end (is_end (step default_config s c).1) refl read
  where
    by_end : (b : Bool) → is_end (step default_config s c).1 ≡ b
        → cond b (Some (fields_after (step default_config s c).1 fields field, (step default_config s c).0, rest)) (next_record default_config (step default_config s c).0 (fields_after (step default_config s c).1 fields field) (field_after (step default_config s c).1 c field) rest) ≡ Some p
        → LeavesOf rest p
    by_end true ends read =
        let same : (fields_after (step default_config s c).1 fields field, (step default_config s c).0, rest) ≡ p = Some_same read in
        rw (← same) (omega arith, step_closes s c ends)
    by_end false more read = later read

-- a record leaves no more bytes than there were, and none open
next_record_leaves : (s : State) (fields : List (List ℕ)) (field : List ℕ) (xs : List ℕ) (p : Read) → next_record default_config s fields field xs ≡ Some p → LeavesOf xs p
unfolding next_record
next_record_leaves s fields field [] p read = by_end (ends_at_end s) read
  where
    by_end : (b : Bool) → cond b (Some (fields ++ (field ∷ []), st.StartRecord, [])) None ≡ Some p → LeavesOf [] p
    by_end true read = let same : (fields ++ (field ∷ []), st.StartRecord, []) ≡ p = cc in rw (← same) (omega arith, refl)
    by_end false read = cc
next_record_leaves s fields field (c ∷ rest) p read =
    let later = next_record_leaves (step default_config s c).0 (fields_after (step default_config s c).1 fields field) (field_after (step default_config s c).1 c field) rest p in
    let (few, closed) = byte_leaves s fields field c rest p later read in
    (omega arith, closed)

-- what is read of a text before which no record is open takes a byte of it
next_record-shorter : (s : State) (xs : List ℕ) (p : Read) → ends_at_end s ≡ false → next_record default_config s [] [] xs ≡ Some p → (length p.2 < length xs) × (ends_at_end p.1 ≡ false)
unfolding next_record
next_record-shorter s [] p closed read = let none = rw closed at read in cc
next_record-shorter s (c ∷ rest) p closed read =
    let later = next_record_leaves (step default_config s c).0 (fields_after (step default_config s c).1 [] []) (field_after (step default_config s c).1 c []) rest p in
    let (few, shut) = byte_leaves s [] [] c rest p later read in
    (omega arith, shut)

-- what is read, and records after it that are the same
same_next : (f g : State → List ℕ → List (List (List ℕ))) (o : Option Read) → ((p : Read) → o ≡ Some p → f p.1 p.2 ≡ g p.1 p.2) → records_next f o ≡ records_next g o
same_next f g None same = refl
same_next f g (Some p) same = ap (λ rest. p.0 ∷ rest) (same p refl)

-- the records of a text are the same for any counts above its bytes
same_records : (m n : ℕ) (s : State) (xs : List ℕ) → ends_at_end s ≡ false → length xs < m → length xs < n → records_from default_config m s xs ≡ records_from default_config n s xs
unfolding records_from
same_records zero n s xs closed few fewer = absurd (omega arith)
same_records (suc m) zero s xs closed few fewer = absurd (omega arith)
same_records (suc m) (suc n) s xs closed few fewer =
    same_next (records_from default_config m) (records_from default_config n) (next_record default_config s [] [] xs) (λ p read.
    let (less, shut) = next_record-shorter s xs p closed read in
    same_records m n p.1 p.2 shut (omega arith) (omega arith))

-- the records of a text: what is read first, and the records of what is left
pub records-step : (s : State) (xs : List ℕ) → ends_at_end s ≡ false → records_from default_config (length xs + 1) s xs ≡ records_next (λ s2 ys. records_from default_config (length ys + 1) s2 ys) (next_record default_config s [] [] xs)
unfolding records_from
records-step s xs closed =
    ap (λ n. records_from default_config n s xs) (add-one (length xs)) ∙ same_next (records_from default_config (length xs)) (λ s2 ys. records_from default_config (length ys + 1) s2 ys) (next_record default_config s [] [] xs) (λ p read.
    let (less, shut) = next_record-shorter s xs p closed read in
    same_records (length xs) (length p.2 + 1) p.1 p.2 shut (omega arith) (omega arith))

-- a read takes the first row that the reader has left, or finds none
pub TakesRow-from_read : (a b : Reader (Bor (List ℕ))) (found : Bool) (fields : List (List ℕ)) (rows : List (List (List ℕ))) → HasRows a rows → ReadRecord (λ (s : Bor (List ℕ)). Some s.now) a b found fields → took_first b ≡ true → TakesRow b found fields rows
TakesRow-from_read a b found fields rows has read first =
    by_pending (pending_of (Some b.rdr.now) b) refl (rw (has.config, has.source) at read.0)
  where
    left : rows ≡ records_next (λ s2 ys. records_from default_config (length ys + 1) s2 ys) (next_record default_config a.state [] [] has.bytes)
    left = has.left ∙ records-step a.state has.bytes has.between

    by_next : (ys : List ℕ) → pending_of (Some b.rdr.now) b ≡ Some ys → (o : Option Read) → next_record default_config a.state [] [] has.bytes ≡ o → NextIs o found fields b.state ys → TakesRow b found fields rows
    by_next ys pending None is none = rw none (left ∙ ap (records_next (λ s2 ys. records_from default_config (length ys + 1) s2 ys)) is)
    by_next ys pending (Some p) is (there, same, state, rest) =
        let taken = left ∙ ap (records_next (λ s2 ys. records_from default_config (length ys + 1) s2 ys)) is in
        let (less, shut) = next_record-shorter a.state has.bytes p has.between is in
        rw there (
          records_from default_config (length ys + 1) b.state ys,
          rw (same, state, rest) taken,
          record {
            config = read.2 ∙ has.config;
            untrimmed = read.3 ∙ has.untrimmed;
            ready = inl first;
            between = rw state shut;
            bytes = ys;
            source = rw read.1 pending;
            left = refl;
          },
        )

    by_pending : (k : Option (List ℕ)) → pending_of (Some b.rdr.now) b ≡ k → ReadsNext default_config a.state (Some has.bytes) k found fields b.state → TakesRow b found fields rows
    by_pending None pending next = absurd next
    by_pending (Some ys) pending next = by_next ys pending (next_record default_config a.state [] [] has.bytes) refl next
