-- Steps one after the other.
use Rattle.std.proofs.Common.{◌≡◌, ℕ, Bool, true, false, List, Option, Some, Ok, Err, refl, sym, ap, subst, ◌∙◌, inl, inr}
use Rattle.slot_core.specs.Calls.Results.{◌>>=◌}
use Rattle.slot_io.specs.Files.{Held}
use Rattle.command_line.specs.declared.file.File.{File}
use Rattle.command_line.specs.declared.file.File.TheVariants.{Tasks as TaskFile, Table as TableFile, Second as SecondFile, Arrivals as ArrivalsFile, Trace as TraceFile}
use Rattle.command_line.specs.declared.refusal.Refusal.{Refusal}
use Rattle.command_line.specs.declared.refusal.Refusal.TheVariants.{Unreadable, TooLarge, Memory}
use Rattle.command_line.specs.Refusals.{Outcome, is_found, same_file}
use Rattle.run_steps.specs.Steps.{IsStep, IsUnreadable, IsReading}
use Rattle.run_steps.proofs.StageLemmas.{AllFound, is_of_bytes}

pub same_file_itself : (file : File) → same_file file file ≡ true
same_file_itself TaskFile = refl
same_file_itself TableFile = refl
same_file_itself SecondFile = refl
same_file_itself ArrivalsFile = refl
same_file_itself TraceFile = refl

-- so a file that cannot be read is the one that was to be read
pub unreadable_itself : (file : File) → IsUnreadable (same_file file) (Unreadable file)
unreadable_itself file = (file, same_file_itself file, refl)

pub bind_Ok : {X Y : Type 0} (due : Outcome X) (next : X → Outcome Y) (x : X) → due ≡ Ok x → (due >>= next) ≡ next x
bind_Ok due next x ok = ap (λ o. o >>= next) ok

pub bind_Err : {X Y : Type 0} (due : Outcome X) (next : X → Outcome Y) (e : Refusal) → due ≡ Err e → (due >>= next) ≡ Err e
bind_Err due next e is = ap (λ o. o >>= next) is

-- a step over bytes that ends the run ends it whatever comes after
pub due-refused : {A B X Y : Type 0} (due : Outcome X) (next : X → Outcome Y) (e : Refusal) (view : A → X) (after : B → Y) → IsStep due (Err e) view → IsStep (due >>= next) (Err e) after
due-refused due next e view after (inl memory) = inl memory
due-refused due next e view after (inr is) = inr (bind_Err due next e is)

-- where it gives its value, the next step answers
pub due-then : {B X Y : Type 0} (due : Outcome X) (next : X → Outcome Y) (x : X) (result : Outcome B) (after : B → Y) → due ≡ Ok x → IsStep (next x) result after → IsStep (due >>= next) result after
due-then due next x (Ok b) after ok is = bind_Ok due next x ok ∙ is
due-then due next x (Err e) after ok (inl memory) = inl memory
due-then due next x (Err e) after ok (inr is) = inr (bind_Ok due next x ok ∙ is)

-- a reading that ends the run ends it whatever comes after
pub reading-refused : {S A B X Y : Type 0} {given : S → Option (List ℕ × ℕ)} (held : S → Option Held) (faults : S → ℕ) (blamed : S → Option (List ℕ)) (old new : S) (words : List (List ℕ)) (may : File → Bool) (due : Held → Outcome X) (next : X → Outcome Y) (e : Refusal) (view : A → X) (after : B → Y) → IsReading held faults blamed given old new words may due (Err e) view → IsReading held faults blamed given old new words may (λ files. due files >>= next) (Err e) after
reading-refused held faults blamed old new words may due next e view after first =
    record {
      answers = λ files told. elim (first.answers files told) [
        | inl fault ↦ inl fault
        | inr (inl memory) ↦ inr (inl memory)
        | inr (inr is) ↦ inr (inr (bind_Err (due files) next e is))
      ];
      refuses = first.refuses;
      blames = λ file is. first.blames file (ap Err (let same : e ≡ Unreadable file = cc in same));
      sizes = λ file is. first.sizes file (ap Err (let same : e ≡ TooLarge file = cc in same));
      keeps = first.keeps;
      counts = tt;
    }

-- what a step over bytes refuses is found in them, or want of memory
found-due : {X : Type 0} (due : Outcome X) (e : Refusal) → AllFound due → due ≡ Err e → is_of_bytes e ≡ true
found-due due e all is = subst AllFound is all

found-of_bytes : (e : Refusal) → is_of_bytes e ≡ true → is_found e ≡ true
found-of_bytes (TooLarge file) found = refl
found-of_bytes e found = found

small : (file : File) (e : Refusal) → is_of_bytes e ≡ true → e ≡ TooLarge file → ⊥
small file e found is = let P : Refusal → Type 0 = λ r. is_of_bytes r ≡ true in let h : false ≡ true = subst P is found in cc

not_large : (file : File) (e : Refusal) → e ≡ Memory → e ≡ TooLarge file → ⊥
not_large file e memory is = let h : Memory ≡ TooLarge file = sym memory ∙ is in cc

readable : (file : File) (e : Refusal) → is_found e ≡ true → e ≡ Unreadable file → ⊥
readable file e found is = let P : Refusal → Type 0 = λ r. is_found r ≡ true in let h : false ≡ true = subst P is found in cc

not_memory : (file : File) (e : Refusal) → e ≡ Memory → e ≡ Unreadable file → ⊥
not_memory file e memory is = let h : Memory ≡ Unreadable file = sym memory ∙ is in cc

-- a step over bytes that are given is a reading that reads no file
pub reading-over : {S B Y : Type 0} {given : S → Option (List ℕ × ℕ)} (held : S → Option Held) (faults : S → ℕ) (blamed : S → Option (List ℕ)) (old new : S) (words : List (List ℕ)) (may : File → Bool) (due : Held → Outcome Y) (step : Outcome Y) (result : Outcome B) (after : B → Y) → ((files : Held) → held old ≡ Some files → due files ≡ step) → held new ≡ held old → faults new ≡ faults old → AllFound step → IsStep step result after → IsReading held faults blamed given old new words may due result after
reading-over held faults blamed old new words may due step (Ok b) after same keeps counts found is =
    record {
      answers = λ files told. same files told ∙ is;
      refuses = tt;
      blames = λ file unread. cc;
      sizes = λ file large. cc;
      keeps = keeps;
      counts = counts;
    }
reading-over held faults blamed old new words may due step (Err e) after same keeps counts found (inl memory) =
    record {
      answers = λ files told. inr (inl memory);
      refuses = inr (inl memory);
      blames = λ file unread. absurd (not_memory file e memory (let is : e ≡ Unreadable file = cc in is));
      sizes = λ file large. absurd (not_large file e memory (let is : e ≡ TooLarge file = cc in is));
      keeps = keeps;
      counts = tt;
    }
reading-over held faults blamed old new words may due step (Err e) after same keeps counts found (inr is) =
    let of_bytes = found-due step e found is in
    let e_found = found-of_bytes e of_bytes in
    record {
      answers = λ files told. inr (inr (same files told ∙ is));
      refuses = inr (inr e_found);
      blames = λ file unread. absurd (readable file e e_found (let is : e ≡ Unreadable file = cc in is));
      sizes = λ file large. absurd (small file e of_bytes (let is : e ≡ TooLarge file = cc in is));
      keeps = keeps;
      counts = tt;
    }

-- where a reading gives its value, the next step over bytes answers
pub reading-then : {S A B X Y : Type 0} {given : S → Option (List ℕ × ℕ)} (held : S → Option Held) (faults : S → ℕ) (blamed : S → Option (List ℕ)) (old new : S) (words : List (List ℕ)) (may : File → Bool) (due : Held → Outcome X) (next : X → Outcome Y) (a : A) (view : A → X) (result : Outcome B) (after : B → Y) → IsReading held faults blamed given old new words may due (Ok a) view → AllFound (next (view a)) → IsStep (next (view a)) result after → IsReading held faults blamed given old new words may (λ files. due files >>= next) result after
reading-then held faults blamed old new words may due next a view result after first found is =
    reading-over held faults blamed old new words may (λ files. due files >>= next) (next (view a)) result after (λ files told. bind_Ok (due files) next (view a) (first.answers files told)) first.keeps first.counts found is

-- a reading of the same outcome, which may read more files
pub reading-as : {S A X : Type 0} {given : S → Option (List ℕ × ℕ)} (held : S → Option Held) (faults : S → ℕ) (blamed : S → Option (List ℕ)) (old new : S) (words : List (List ℕ)) (may more : File → Bool) (due other : Held → Outcome X) (result : Outcome A) (view : A → X) → ((file : File) → may file ≡ true → more file ≡ true) → ((files : Held) → other files ≡ due files) → IsReading held faults blamed given old new words may due result view → IsReading held faults blamed given old new words more other result view
reading-as held faults blamed old new words may more due other (Ok a) view wider same reading =
    record {
      answers = λ files told. same files ∙ reading.answers files told;
      refuses = tt;
      blames = λ file unread. cc;
      sizes = λ file large. cc;
      keeps = reading.keeps;
      counts = reading.counts;
    }
reading-as held faults blamed old new words may more due other (Err e) view wider same reading =
    let wider_unreadable = λ (u : IsUnreadable may e). let (file, in_may, is) = u in let w : IsUnreadable more e = (file, wider file in_may, is) in w in
    record {
      answers = λ files told. elim (reading.answers files told) [
        | inl fault ↦ inl (wider_unreadable fault)
        | inr (inl memory) ↦ inr (inl memory)
        | inr (inr is) ↦ inr (inr (same files ∙ is))
      ];
      refuses = elim reading.refuses [
        | inl fault ↦ inl (wider_unreadable fault)
        | inr other_way ↦ inr other_way
      ];
      blames = λ file unread. let (in_may, rose, name) = reading.blames file unread in (wider file in_may, rose, name);
      sizes = λ file large. let (in_may, gave) = reading.sizes file large in (wider file in_may, gave);
      keeps = reading.keeps;
      counts = tt;
    }

-- a reading after one that gave its value is a reading from before it
pub reading-since : {S A X : Type 0} {given : S → Option (List ℕ × ℕ)} (held : S → Option Held) (faults : S → ℕ) (blamed : S → Option (List ℕ)) (old mid new : S) (words : List (List ℕ)) (may : File → Bool) (due : Held → Outcome X) (result : Outcome A) (view : A → X) → held mid ≡ held old → faults mid ≡ faults old → IsReading held faults blamed given mid new words may due result view → IsReading held faults blamed given old new words may due result view
reading-since held faults blamed old mid new words may due (Ok a) view keeps counts since =
    record {
      answers = λ files told. since.answers files (keeps ∙ told);
      refuses = tt;
      blames = λ file unread. cc;
      sizes = λ file large. cc;
      keeps = since.keeps ∙ keeps;
      counts = since.counts ∙ counts;
    }
reading-since held faults blamed old mid new words may due (Err e) view keeps counts since =
    record {
      answers = λ files told. since.answers files (keeps ∙ told);
      refuses = since.refuses;
      blames = λ file unread. rw (← counts) (since.blames file unread);
      sizes = since.sizes;
      keeps = since.keeps ∙ keeps;
      counts = tt;
    }
