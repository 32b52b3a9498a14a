-- What is heard of an input by its bytes before a line feed.
use Rattle.std.proofs.Common.{◌≡◌, ◌≢◌, ◌<◌, ◌≤◌, ◌+◌, ◌-◌, ℕ, false, List, [], ◌∷◌, ◌++◌, length, length-append, take, take_all, nat_le, nat_lt, Option, Some, None, refl, sym, ap, ◌∙◌, inl, inr, arith, ne_eqb}
use Rattle.std.specs.Prelude.{if◌then◌else◌}
use Rattle.std.specs.Io.BufRead.{drop_through, first_piece, strip_last, take_through}
use Rattle.std.specs.Io.KnownBytes.{Consumes, Keeps}
use Rattle.std.proofs.BufReadLemmas.{drop_through-append, take_through-append}
use Rattle.std.proofs.KnownBytes.{Consumes-kept, Consumes-nil, Consumes-trans}
use Rattle.std.proofs.Math.Seq.{get_or-append_seam, take-append_seam}
use Rattle.std.proofs.lemmas.Bool.{cases_Bool, cases_lt, le-leb, lt-ltb, ltb-true, leb-true}
use Rattle.std.proofs.lemmas.List.{take-append-le, append-nil}
use Rattle.std.proofs.lemmas.List.Elements.{All-nil, All-push}
use Rattle.live_lines.specs.declared.TheConstants.{HEARD_LIMIT}
use Rattle.live_lines.specs.declared.source.Given.{Given}
use Rattle.live_lines.specs.declared.source.Given.TheVariants.{Line, TooLong, NoMore}
use Rattle.live_lines.specs.Lines.{line, too_long, ended, extended, extended_line, heard, heard_first, within_limit, GivesByte, GivesOne, IsPlain, LosesFront}

-- a byte at the end is taken away
strip_last-byte : (front : List ℕ) → strip_last 10 (front ++ 10 ∷ []) ≡ front
strip_last-byte front =
    let count : length (front ++ 10 ∷ []) ≡ length front + 1 = length-append front (10 ∷ []) in
    let less : length (front ++ 10 ∷ []) - 1 ≡ length front = omega (arith, count) in
    let some = lt-ltb 0 (length (front ++ 10 ∷ [])) (omega (arith, count)) in
    rw (some, less, get_or-append_seam front 10 [] 0) (take-append_seam front (10 ∷ []))

-- another one is not
strip_last-plain : (front : List ℕ) → IsPlain front → strip_last 10 front ≡ front
strip_last-plain [] plain = refl
strip_last-plain (b ∷ bs) plain =
    let some = lt-ltb 0 (length (b ∷ bs)) (omega arith) in
    rw (some, ne_eqb _ 10 (plain (length (b ∷ bs) - 1) 0 (omega arith))) refl

-- the first piece of bytes that have no line feed is all of them
first_piece-plain : (front : List ℕ) → IsPlain front → first_piece 10 front ≡ front
first_piece-plain front plain =
    ap (strip_last 10) (ap (take_through 10) (sym (append-nil front)) ∙ take_through-append 10 front [] plain ∙ append-nil front)
    ∙ strip_last-plain front plain

-- the first piece ends before the first line feed
first_piece-ended : (front rest : List ℕ) → IsPlain front → first_piece 10 (front ++ 10 ∷ rest) ≡ front
first_piece-ended front rest plain =
    ap (strip_last 10) (take_through-append 10 front (10 ∷ rest) plain) ∙ strip_last-byte front

-- what a line is by now, by its bytes so far
abbrev pub given_of : List ℕ → Given
given_of [] = NoMore
given_of bytes = if nat_le (length bytes) HEARD_LIMIT then Line else TooLong

-- tests that fail
not_lt : (a b : ℕ) → b ≤ a → nat_lt a b ≡ false
not_lt a b le =
    elim (cases_Bool (nat_lt a b)) [
      | inl lt ↦ absurd (omega (arith, le, ltb-true a b lt))
      | inr other ↦ other
    ]

not_le : (a b : ℕ) → b < a → nat_le a b ≡ false
not_le a b lt =
    elim (cases_Bool (nat_le a b)) [
      | inl le ↦ absurd (omega (arith, lt, leb-true a b le))
      | inr other ↦ other
    ]

-- of a line that is not too long, and of one that is
given_of-short : (b : ℕ) (bs : List ℕ) → length (b ∷ bs) ≤ HEARD_LIMIT → given_of (b ∷ bs) ≡ Line
given_of-short b bs short = rw (le-leb (length (b ∷ bs)) HEARD_LIMIT short) refl

given_of-long : (b : ℕ) (bs : List ℕ) → HEARD_LIMIT < length (b ∷ bs) → given_of (b ∷ bs) ≡ TooLong
given_of-long b bs long = rw (not_le (length (b ∷ bs)) HEARD_LIMIT long) refl

-- a line with room goes on, one without is too long, and stays so
grows : (given : Given) (kept : List ℕ) (byte : ℕ) → given ≡ Line → length kept < HEARD_LIMIT
    → (extended given kept ≡ Line) × (extended_line given kept byte ≡ kept ++ byte ∷ [])
grows Line kept byte is room = rw (lt-ltb (length kept) HEARD_LIMIT room) (refl, refl)
grows TooLong kept byte is room = cc
grows NoMore kept byte is room = cc

overflows : (given : Given) (kept : List ℕ) (byte : ℕ) → given ≡ Line → HEARD_LIMIT ≤ length kept
    → (extended given kept ≡ TooLong) × (extended_line given kept byte ≡ kept)
overflows Line kept byte is full = rw (not_lt (length kept) HEARD_LIMIT full) (refl, refl)
overflows TooLong kept byte is full = cc
overflows NoMore kept byte is full = cc

stays : (given : Given) (kept : List ℕ) (byte : ℕ) → given ≡ TooLong
    → (extended given kept ≡ TooLong) × (extended_line given kept byte ≡ kept)
stays TooLong kept byte is = (refl, refl)
stays Line kept byte is = cc
stays NoMore kept byte is = cc

-- what a line is, and what is kept of it, goes on with a byte
pub pushed : (front : List ℕ) (byte : ℕ)
    → (extended (given_of front) (take HEARD_LIMIT front) ≡ given_of (front ++ byte ∷ []))
    × (extended_line (given_of front) (take HEARD_LIMIT front) byte ≡ take HEARD_LIMIT (front ++ byte ∷ []))
pushed [] byte = (refl, refl)
pushed (b ∷ bs) byte =
    let front = b ∷ bs in
    let count : length (bs ++ byte ∷ []) ≡ length bs + 1 = length-append bs (byte ∷ []) in
    elim (cases_lt (length front) HEARD_LIMIT) [
      | inl room ↦
          let whole = take_all HEARD_LIMIT front (omega (arith, room)) in
          let (goes, kept) = grows (given_of front) (take HEARD_LIMIT front) byte (given_of-short b bs (omega (arith, room))) (omega (arith, room, ap length whole)) in
          let more = take_all HEARD_LIMIT (front ++ byte ∷ []) (omega (arith, room, count)) in
          (goes ∙ sym (given_of-short b (bs ++ byte ∷ []) (omega (arith, room, count))), kept ∙ ap (λ l. l ++ byte ∷ []) whole ∙ sym more)
      | inr full ↦
          let long = given_of-long b (bs ++ byte ∷ []) (omega (arith, full, count)) in
          let same = take-append-le HEARD_LIMIT front (byte ∷ []) full in
          elim (cases_lt HEARD_LIMIT (length front)) [
            | inl past ↦
                let (goes, kept) = stays (given_of front) (take HEARD_LIMIT front) byte (given_of-long b bs past) in
                (goes ∙ sym long, kept ∙ sym same)
            | inr short ↦
                let whole = take_all HEARD_LIMIT front short in
                let (goes, kept) = overflows (given_of front) (take HEARD_LIMIT front) byte (given_of-short b bs short) (omega (arith, full, ap length whole)) in
                (goes ∙ sym long, kept ∙ sym same)
          ]
    ]

-- what is heard of a line that has begun
heard-line : (given : Given) (kept : List ℕ) → given ≡ Line → (heard given kept ≡ line kept) × (ended given ≡ given)
heard-line Line kept is = (refl, refl)
heard-line TooLong kept is = cc
heard-line NoMore kept is = cc

heard-long : (given : Given) (kept : List ℕ) → given ≡ TooLong → (heard given kept ≡ too_long) × (ended given ≡ given)
heard-long TooLong kept is = (refl, refl)
heard-long Line kept is = cc
heard-long NoMore kept is = cc

begun : (b : ℕ) (bs : List ℕ) → let front = b ∷ bs in
    (heard (given_of front) (take HEARD_LIMIT front) ≡ within_limit front) × (ended (given_of front) ≡ given_of front)
begun b bs =
    let front = b ∷ bs in
    elim (cases_lt HEARD_LIMIT (length front)) [
      | inl past ↦
          let (long, same) = heard-long (given_of front) (take HEARD_LIMIT front) (given_of-long b bs past) in
          (long ∙ rw (not_le (length front) HEARD_LIMIT past) refl, same)
      | inr short ↦
          let (whole, same) = heard-line (given_of front) (take HEARD_LIMIT front) (given_of-short b bs short) in
          (whole ∙ ap line (take_all HEARD_LIMIT front short) ∙ rw (le-leb (length front) HEARD_LIMIT short) refl, same)
    ]

-- where bytes end that have no line feed, they are a line, or there is none
pub heard-at_end : (front : List ℕ) → IsPlain front → heard (given_of front) (take HEARD_LIMIT front) ≡ heard_first front
heard-at_end [] plain = refl
heard-at_end (b ∷ bs) plain = (begun b bs).0 ∙ ap within_limit (sym (first_piece-plain (b ∷ bs) plain))

-- where a line feed follows them, they are a line
pub heard-at_feed : (front rest : List ℕ) → IsPlain front → heard (ended (given_of front)) (take HEARD_LIMIT front) ≡ heard_first (front ++ 10 ∷ rest)
heard-at_feed [] rest plain = refl
heard-at_feed (b ∷ bs) rest plain =
    let (whole, same) = begun b bs in
    ap (λ given. heard given (take HEARD_LIMIT (b ∷ bs))) same ∙ whole ∙ ap within_limit (sym (first_piece-ended (b ∷ bs) rest plain))

-- known bytes have lost these, none a line feed, of which so many were kept
pub record HasFront (before now : Option (List ℕ)) (given : Given) (kept : List ℕ) : Type 0 where
  pub front : List ℕ
  pub lost : Consumes before now front
  pub plain : IsPlain front
  pub is : given ≡ given_of front
  pub most : kept ≡ take HEARD_LIMIT front

-- at the start none is lost
pub HasFront-start : (before : Option (List ℕ)) (kept : List ℕ) → kept ≡ [] → HasFront before before NoMore kept
HasFront-start before kept none = record { front = []; lost = Consumes-nil before; plain = All-nil (λ b. b ≢ 10); is = refl; most = none }

-- one more that is no line feed
pub HasFront-byte : (before now after : Option (List ℕ)) (given : Given) (kept : List ℕ) (byte : ℕ)
    → HasFront before now given kept → byte ≢ 10 → GivesByte now (Some byte) after
    → HasFront before after (extended given kept) (extended_line given kept byte)
HasFront-byte before now after given kept byte h other lost = record {
  front = h.front ++ byte ∷ [];
  lost = Consumes-trans before now after h.front (byte ∷ []) h.lost lost;
  plain = All-push (λ b. b ≢ 10) h.front byte h.plain other;
  is = rw (h.is, h.most) (pushed h.front byte).0;
  most = rw (h.is, h.most) (pushed h.front byte).1;
}

-- where nothing more is read
pub LosesFront-kept : (before now after : Option (List ℕ)) (given : Given) (kept : List ℕ)
    → HasFront before now given kept → Keeps now after → LosesFront before after
LosesFront-kept before now after given kept h same =
    (h.front, Consumes-kept before now after h.front h.lost same, h.plain)

-- at the end of the bytes
pub GivesOne-at_end : (before now after : Option (List ℕ)) (given : Given) (kept : List ℕ)
    → HasFront before now given kept → GivesByte now None after → GivesOne before after (heard given kept)
GivesOne-at_end None now after given kept h over = tt
GivesOne-at_end (Some xs) None after given kept h over = elim h.lost [ ]
GivesOne-at_end (Some xs) (Some ys) None given kept h over = elim over.1 [ ]
GivesOne-at_end (Some xs) (Some ys) (Some zs) given kept h over =
    let none : ys ≡ [] = over.0 in
    let whole : xs ≡ h.front = h.lost ∙ ap (λ l. h.front ++ l) none ∙ append-nil h.front in
    let left : drop_through 10 xs ≡ zs =
    ap (drop_through 10) h.lost ∙ drop_through-append 10 h.front ys h.plain ∙ ap (drop_through 10) none ∙ sym none ∙ over.1 in
    (rw (h.is, h.most) (heard-at_end h.front h.plain ∙ ap heard_first (sym whole)), ap Some (sym left))

-- at a line feed
pub GivesOne-at_feed : (before now after : Option (List ℕ)) (given : Given) (kept : List ℕ)
    → HasFront before now given kept → GivesByte now (Some 10) after → GivesOne before after (heard (ended given) kept)
GivesOne-at_feed None now after given kept h fed = tt
GivesOne-at_feed (Some xs) None after given kept h fed = elim h.lost [ ]
GivesOne-at_feed (Some xs) (Some ys) None given kept h fed = elim fed [ ]
GivesOne-at_feed (Some xs) (Some ys) (Some zs) given kept h fed =
    let whole : xs ≡ h.front ++ 10 ∷ zs = h.lost ∙ ap (λ l. h.front ++ l) fed in
    let left : drop_through 10 xs ≡ zs = ap (drop_through 10) whole ∙ drop_through-append 10 h.front (10 ∷ zs) h.plain in
    (rw (h.is, h.most) (heard-at_feed h.front zs h.plain ∙ ap heard_first (sym whole)), ap Some (sym left))
