-- Forms: what is read was written so, and what is written so is read.
use Rattle.std.proofs.Common.{◌≡◌, ℕ, zero, suc, ◌+◌, ◌<◌, ◌≤◌, Bool, true, false, cond, List, [], ◌∷◌, ◌++◌, length, get_or, take, drop, Result, Ok, Err, refl, sym, ap, subst, ◌∙◌, append_assoc, arith, inl, inr}
use Rattle.std.specs.Prelude.{flat_map, nat_lt, if◌then◌else◌, ⊤}
use Rattle.std.specs.List.{list_all, AllByRecursion}
use Rattle.std.proofs.lemmas.Bool.{and_from, cases_lt, ltb-false, le-ltb}
use Rattle.std.proofs.lemmas.List.{take_at, drop_at, take-append-drop, length-append, length-take, get_or-drop, get_or-take, get_or_past}
use Rattle.std.proofs.lemmas.List.Concat.{flat_map-cons}
use Rattle.faults.specs.declared.table_fault.TableFault.{TableFault}
use Rattle.faults.specs.declared.table_fault.TableFault.TheVariants.{Short}
use Rattle.table_codec.specs.Readers.{Unread, Read, Reader, go_on, settled, bytes_at, each_at, same_at}
use Rattle.table_codec.specs.Forms.{Form, given, tested, bytes_form, each, stored}

-- ---- bytes

abbrev pub IsBytes : List ℕ → Type 0
IsBytes bytes = (i : ℕ) → get_or bytes i 0 < 256

IsBytes-drop : (n : ℕ) (bytes : List ℕ) → IsBytes bytes → IsBytes (drop n bytes)
IsBytes-drop n bytes h i = rw get_or-drop (h (n + i))

IsBytes-take : (n : ℕ) (bytes : List ℕ) → IsBytes bytes → IsBytes (take n bytes)
IsBytes-take n bytes h i =
    elim (cases_lt i n) [
      | inl lt ↦ rw (get_or-take n bytes i 0 lt) (h i)
      | inr le ↦ rw (get_or_past (take n bytes) i 0 (omega (arith, length-take n bytes))) (omega arith)
    ]

-- what a reader took from the front of the unread bytes
pub record Takes (input : Unread) (text : List ℕ) (rest : Unread) : Type 0 where
  pub parts : IsBytes input.left → input.left ≡ text ++ rest.left
  pub whole : rest.whole ≡ input.whole
  pub bytes : IsBytes input.left → IsBytes rest.left

pub Takes-then : {a b d : Unread} {x y : List ℕ} → Takes a x b → Takes b y d → Takes a (x ++ y) d
Takes-then {d = d} {x = x} {y = y} p q =
    record {
      parts = λ h. p.parts h ∙ (ap (λ t. x ++ t) (q.parts (p.bytes h)) ∙ sym (append_assoc x y d.left));
      whole = q.whole ∙ p.whole;
      bytes = λ h. q.bytes (p.bytes h);
    }

pub takes_nothing : (input : Unread) → Takes input [] input
takes_nothing input = record { parts = λ _. refl; whole = refl; bytes = λ h. h }

-- the unread bytes, once those in front are read
abbrev pub at : ℕ → List ℕ → Unread
at whole left = record { whole = whole; left = left }

-- ---- steps

-- a reading that gave a value took its first step
pub step : {X Y P : Type 0} (r : Read X) {f : X → Reader Y} {y : Y × Unread} → go_on r f ≡ Ok y → ((x : X) (rest : Unread) → r ≡ Ok (x, rest) → f x rest ≡ Ok y → P) → P
step (Ok x) h next = next x.0 x.1 refl h
step (Err fault) h next = cc

-- the value and the rest that are read
pub ok_same : {X : Type 0} (a b : X × Unread) → ◌≡◌ {A = Read X} (Ok a) (Ok b) → a ≡ b
ok_same a b h = cc

-- what is settled is the result, and takes nothing
pub settles : {X : Type 0} (r : Result X TableFault) (input : Unread) (x : X) (rest : Unread) → settled r input ≡ Ok (x, rest) → (r ≡ Ok x) × (input ≡ rest)
settles {X = X} (Ok y) input x rest h =
    let same = ok_same (y, input) (x, rest) h in
    (ap (λ (p : X × Unread). Ok p.0) same, ap (λ (p : X × Unread). p.1) same)
settles (Err fault) input x rest h = cc

pub value_same : {X : Type 0} (x y : X) → ◌≡◌ {A = Result X TableFault} (Ok x) (Ok y) → x ≡ y
value_same x y h = cc

-- a test that was passed
pub passes : {X : Type 0} (b : Bool) (x y : X) (fault : TableFault) → ◌≡◌ {A = Result X TableFault} (cond b (Ok x) (Err fault)) (Ok y) → (b ≡ true) × (x ≡ y)
passes true x y fault h = (refl, value_same x y h)
passes false x y fault h = cc

-- ---- what is read was written so

-- of a whole: what is read was written of it, and it is as is said
pub record ReadsWhole {X : Type 0} (form : Form X X) (Made : X → Type 0) : Type 0 where
  pub of_read : (input : Unread) (x : X) (rest : Unread) → form.read input ≡ Ok (x, rest) → Takes input (form.written x) rest × Made x

-- what is given
pub given_whole : {A : Type 0} (r : Result A TableFault) → ReadsWhole (given r) (λ a. r ≡ Ok a)
given_whole r = record {
  of_read = λ input a rest h.
      let (same, after) = settles r input a rest h in
      (subst (λ i. Takes input [] i) after (takes_nothing input), same);
}

-- a value that passes a test
pub tested_whole : {A : Type 0} {f : Form A A} {M : A → Type 0} (test : A → Bool) (fault : A → TableFault) → ReadsWhole f M → ReadsWhole (tested f test fault) (λ a. (test a ≡ true) × M a)
tested_whole {f = f} {M = M} test fault law = record {
  of_read = λ input y rest h.
      step (f.read input) {f = λ a. settled (if test a then Ok a else Err (fault a))} h (λ a after here h.
      let (is, same) = settles (if test a then Ok a else Err (fault a)) after y rest h in
      let (passed, value) = passes (test a) a y (fault a) is in
      let (takes, made) = law.of_read input a after here in
      let all : Takes input (f.written a) rest = subst (λ i. Takes input (f.written a) i) same takes in
      subst (λ b. Takes input (f.written b) rest × ((test b ≡ true) × M b)) value (all, (passed, made)));
}

-- so many bytes
enough : {X : Type 0} (b : Bool) (fault : TableFault) (x y : X × Unread) → cond b (Err fault) (Ok x) ≡ Ok y → (b ≡ false) × (x ≡ y)
enough true fault x y h = cc
enough false fault x y h = (refl, cc)

pub bytes_takes : (n : ℕ) (input : Unread) (text : List ℕ) (rest : Unread) → bytes_at n input ≡ Ok (text, rest) → Takes input text rest × (length text ≡ n) × (IsBytes input.left → IsBytes text)
bytes_takes n input text rest h =
    let g = enough (nat_lt (length input.left) n) (Short input.whole) (take n input.left, record input { left = drop n input.left }) (text, rest) h in
    let long : n ≤ length input.left = ltb-false (length input.left) n g.0 in
    let front : take n input.left ≡ text = ap (λ (p : List ℕ × Unread). p.0) g.1 in
    let after : record input { left = drop n input.left } ≡ rest = ap (λ (p : List ℕ × Unread). p.1) g.1 in
    rw (← front, ← after) (
      record { parts = λ _. sym (take-append-drop n input.left); whole = refl; bytes = IsBytes-drop n input.left },
      omega (arith, length-take n input.left),
      IsBytes-take n input.left,
    )

pub bytes_whole : (n : ℕ) → ReadsWhole (bytes_form n) (λ text. length text ≡ n)
bytes_whole n = record {
  of_read = λ input text rest h.
      let (takes, len, _) = bytes_takes n input text rest h in (takes, len);
}

-- things in a row
each_takes : {X : Type 0} (f : ℕ → Form X X) (p : X → Bool) → ((i : ℕ) (x : X) → (f i).written x ≡ (f 0).written x) → ((i : ℕ) → ReadsWhole (f i) (λ x. p x ≡ true)) → (i n : ℕ) (input : Unread) (xs : List X) (rest : Unread) → each_at (λ j. (f j).read) i n input ≡ Ok (xs, rest) → Takes input (flat_map (f 0).written xs) rest × ((length xs ≡ n) × (list_all p xs ≡ true))
each_takes {X = X} f p same one i zero input xs rest h =
    subst (λ (y : List X × Unread). Takes input (flat_map (f 0).written y.0) y.1 × ((length y.0 ≡ 0) × (list_all p y.0 ≡ true))) (ok_same ([], input) (xs, rest) h) (takes_nothing input, (refl, refl))
each_takes {X = X} f p same one i (suc n) input xs rest h =
    step ((f i).read input) h (λ x after here h.
    step (each_at (λ j. (f j).read) (i + 1) n after) h (λ others last later h.
    let (first, passed) = (one i).of_read input x after here in
    let (rests, counted) = each_takes f p same one (i + 1) n after others last later in
    let both : Takes input ((f 0).written x ++ flat_map (f 0).written others) last = Takes-then (subst (λ text. Takes input text after) (same i x) first) rests in
    let whole : Takes input (flat_map (f 0).written (x ∷ others)) last = subst (λ text. Takes input text last) (sym (flat_map-cons (f 0).written x others)) both in
    subst (λ (y : List X × Unread). Takes input (flat_map (f 0).written y.0) y.1 × ((length y.0 ≡ suc n) × (list_all p y.0 ≡ true))) (ok_same (x ∷ others, last) (xs, rest) h) (whole, (ap suc counted.0, and_from (p x) (list_all p others) passed counted.1))))

pub each_whole : {X : Type 0} (f : ℕ → Form X X) (p : X → Bool) → ((i : ℕ) (x : X) → (f i).written x ≡ (f 0).written x) → ((i : ℕ) → ReadsWhole (f i) (λ x. p x ≡ true)) → (n : ℕ) → ReadsWhole (each f n) (λ xs. (length xs ≡ n) × (list_all p xs ≡ true))
each_whole f p same one n = record { of_read = each_takes f p same one 0 n }

-- stored things
same_takes : {X : Type 0} (f : Form X X) (is_same : X → X → Bool) (wrong : ℕ → X → X → TableFault) → ReadsWhole f (λ _. ⊤) → ((a b : X) → is_same a b ≡ true → a ≡ b) → (i : ℕ) (xs : List X) (input : Unread) (u : ⊤) (rest : Unread) → same_at f.read is_same wrong i xs input ≡ Ok (u, rest) → Takes input (flat_map f.written xs) rest
same_takes f is_same wrong law exact i [] input u rest h =
    subst (λ (y : ⊤ × Unread). Takes input [] y.1) (ok_same (tt, input) (u, rest) h) (takes_nothing input)
same_takes f is_same wrong law exact i (x ∷ xs) input u rest h =
    step (f.read input) h (λ y after here h.
    let (same, h) = goes (is_same y x) (same_at f.read is_same wrong (i + 1) xs after) (wrong i y x) (u, rest) h in
    let first : Takes input (f.written x) after = subst (λ z. Takes input (f.written z) after) (exact y x same) (law.of_read input y after here).0 in
    let others = same_takes f is_same wrong law exact (i + 1) xs after u rest h in
    let both : Takes input (f.written x ++ flat_map f.written xs) rest = Takes-then first others in
    subst (λ text. Takes input text rest) (sym (flat_map-cons f.written x xs)) both)
  where
    goes : (b : Bool) (r : Read ⊤) (fault : TableFault) (y : ⊤ × Unread) → cond b r (Err fault) ≡ Ok y → (b ≡ true) × (r ≡ Ok y)
    goes true r fault y h = (refl, h)
    goes false r fault y h = cc

pub stored_whole : {X : Type 0} {f : Form X X} (is_same : X → X → Bool) (wrong : ℕ → X → X → TableFault) → ReadsWhole f (λ _. ⊤) → ((a b : X) → is_same a b ≡ true → a ≡ b) → (computed : List X) → ReadsWhole (stored f is_same wrong computed) (λ xs. computed ≡ xs)
stored_whole {f = f} is_same wrong law exact computed = record {
  of_read = λ input xs rest h.
      step (same_at f.read is_same wrong 0 computed input) {f = λ _. settled (Ok computed)} h (λ u after here h.
      let (is, same) = settles (Ok computed) after xs rest h in
      let value : computed ≡ xs = value_same computed xs is in
      let takes : Takes input (flat_map f.written computed) rest = subst (λ i. Takes input (flat_map f.written computed) i) same (same_takes f is_same wrong law exact 0 computed input u after here) in
      (subst (λ ys. Takes input (flat_map f.written ys) rest) value takes, value));
}

-- ---- what is written so is read

-- what is written of the whole is read as its value there, with the rest unread
pub record ReadsBack {X A : Type 0} (form : Form X A) (x : X) : Type 0 where
  pub again : (whole : ℕ) (tail : List ℕ) → form.read (at whole (form.written x ++ tail)) ≡ Ok (form.told x, at whole tail)

-- what is given
pub given_back : {A : Type 0} (r : Result A TableFault) (a : A) → r ≡ Ok a → ReadsBack (given r) a
given_back r a is = record { again = λ whole tail. rw is refl }

-- a value that passes a test
pub tested_back : {A : Type 0} {f : Form A A} {a : A} (test : A → Bool) (fault : A → TableFault) → ReadsBack f a → test (f.told a) ≡ true → ReadsBack (tested f test fault) a
tested_back test fault back passed = record { again = λ whole tail. rw (back.again whole tail, passed) refl }

-- so many bytes
pub bytes_back : (n : ℕ) (text : List ℕ) → length text ≡ n → ReadsBack (bytes_form n) text
bytes_back n text len = record {
  again = λ whole tail.
      let long : nat_lt (length (text ++ tail)) n ≡ false = le-ltb _ _ (omega (arith, length-append text tail)) in
      rw (long, take_at text tail n len, drop_at text tail n len) refl;
}

-- things in a row
each_again : {X : Type 0} (f : ℕ → Form X X) → ((i : ℕ) (x : X) → (f i).written x ≡ (f 0).written x) → ((i : ℕ) (x : X) → (f i).told x ≡ x) → (i : ℕ) (xs : List X) → AllByRecursion (λ x. (j : ℕ) → ReadsBack (f j) x) xs → (whole : ℕ) (tail : List ℕ) → each_at (λ j. (f j).read) i (length xs) (at whole (flat_map (f 0).written xs ++ tail)) ≡ Ok (xs, at whole tail)
each_again f same told i [] all whole tail = refl
each_again f same told i (x ∷ xs) all whole tail =
    let others = flat_map (f 0).written xs ++ tail in
    let text : flat_map (f 0).written (x ∷ xs) ++ tail ≡ (f i).written x ++ others = ap (λ t. t ++ tail) (flat_map-cons (f 0).written x xs) ∙ append_assoc ((f 0).written x) (flat_map (f 0).written xs) tail ∙ ap (λ t. t ++ others) (sym (same i x)) in
    let first : (f i).read (at whole ((f i).written x ++ others)) ≡ Ok (x, at whole others) = (all.0 i).again whole others ∙ ap (λ y. Ok (y, at whole others)) (told i x) in
    rw (text, first, each_again f same told (i + 1) xs all.1 whole tail) refl

pub each_back : {X : Type 0} (f : ℕ → Form X X) → ((i : ℕ) (x : X) → (f i).written x ≡ (f 0).written x) → ((i : ℕ) (x : X) → (f i).told x ≡ x) → (xs : List X) → AllByRecursion (λ x. (j : ℕ) → ReadsBack (f j) x) xs → ReadsBack (each f (length xs)) xs
each_back f same told xs all = record { again = each_again f same told 0 xs all }

-- stored things
same_again : {X : Type 0} (f : Form X X) (is_same : X → X → Bool) (wrong : ℕ → X → X → TableFault) → ((x : X) → is_same x x ≡ true) → (i : ℕ) (xs : List X) → AllByRecursion (λ x. ReadsBack f x × (f.told x ≡ x)) xs → (whole : ℕ) (tail : List ℕ) → same_at f.read is_same wrong i xs (at whole (flat_map f.written xs ++ tail)) ≡ Ok (tt, at whole tail)
same_again f is_same wrong itself i [] all whole tail = refl
same_again f is_same wrong itself i (x ∷ xs) all whole tail =
    let others = flat_map f.written xs ++ tail in
    let text : flat_map f.written (x ∷ xs) ++ tail ≡ f.written x ++ others = ap (λ t. t ++ tail) (flat_map-cons f.written x xs) ∙ append_assoc (f.written x) (flat_map f.written xs) tail in
    let first : f.read (at whole (f.written x ++ others)) ≡ Ok (x, at whole others) = all.0.0.again whole others ∙ ap (λ y. Ok (y, at whole others)) all.0.1 in
    rw (text, first, itself x) (same_again f is_same wrong itself (i + 1) xs all.1 whole tail)

pub stored_back : {X : Type 0} (f : Form X X) (is_same : X → X → Bool) (wrong : ℕ → X → X → TableFault) → ((x : X) → is_same x x ≡ true) → (xs : List X) → AllByRecursion (λ x. ReadsBack f x × (f.told x ≡ x)) xs → ReadsBack (stored f is_same wrong xs) xs
stored_back f is_same wrong itself xs all = record { again = λ whole tail. rw (same_again f is_same wrong itself 0 xs all whole tail) refl }
