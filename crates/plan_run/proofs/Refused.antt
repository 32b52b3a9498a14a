-- Each refusal has its cause.
use Rattle.std.proofs.Common.{◌≡◌, ℕ, Bool, true, false, List, Option, Some, None, Ok, Err, refl, sym, ap, subst, ◌∙◌, inl, inr}
use Rattle.std.specs.Prelude.{IfErr, IfSome}
use Rattle.std.specs.Option.{option_map_or}
use Rattle.std.proofs.lemmas.Bool.{false≢true}
use Rattle.slot_core.specs.Calls.Counts.{Rose}
use Rattle.slot_io.specs.Files.{Held}
use Rattle.command_line.specs.declared.file.File.{File}
use Rattle.command_line.specs.declared.file.File.TheVariants.{Tasks}
use Rattle.command_line.specs.declared.refusal.Refusal.{Refusal}
use Rattle.command_line.specs.declared.refusal.Refusal.TheVariants.{Usage, Unreadable, TooLarge, BadTasks, Infeasible, BadTable, BadArrivals, NotVerified, BadSecond, SecondInfeasible, NoRow, NotCycleEnd, NoChange, WriteFault, Memory}
use Rattle.command_line.specs.declared.status.Status.{Status}
use Rattle.command_line.specs.Refusals.{Outcome, is_found, refusal_status, same_file}
use Rattle.run_steps.specs.Steps.{IsOfReading, IsReading}
use Rattle.plan_run.specs.declared.questions.Question.{Question}
use Rattle.plan_run.specs.Answers.{answer_due, answer_from}
use Rattle.plan_run.specs.Causes.{IsCause}
use Rattle.plan_run.specs.Questions.{question_of}

-- what holds of what the files hold, where they tell it
pub if_held : {H : Type 0} {P : H → Type 0} (o : Option H) → ((files : H) → o ≡ Some files → P files) → IfSome o P
if_held None each = tt
if_held (Some files) each = each files refl

-- a refusal of a reading that is no fault of a file nor want of memory is the one that is due
due-of : {S A X : Type 0} {given : S → Option (List ℕ × ℕ)} (held : S → Option Held) (faults : S → ℕ) (blamed : S → Option (List ℕ)) (before after : S) (words : List (List ℕ)) (due : Held → Outcome X) (e : Refusal) (view : A → X) → IsReading held faults blamed given before after words (same_file Tasks) due (Err e) view → ((file : File) → e ≡ Unreadable file → ⊥) → (e ≡ Memory → ⊥) → is_found e ≡ true → (is_found e ≡ true) × IfSome (held before) (λ files. due files ≡ Err e)
due-of held faults blamed before after words due e view reading readable enough found = (
  found,
  if_held (held before) (λ files told. elim (reading.answers files told) [
    | inl unreadable ↦ (let (file, may, is) = unreadable in absurd (readable file is))
    | inr rest ↦ elim rest [
      | inl memory ↦ absurd (enough memory)
      | inr answer ↦ answer
    ]
  ]),
)

-- a refusal that no bytes call for comes of no reading
unfound : (e : Refusal) (may : File → Bool) → ((file : File) → e ≡ Unreadable file → ⊥) → (e ≡ Memory → ⊥) → is_found e ≡ false → IsOfReading may e → ⊥
unfound e may readable enough never (inl (file, passes, is)) = readable file is
unfound e may readable enough never (inr (inl memory)) = enough memory
unfound e may readable enough never (inr (inr found)) = false≢true (sym never ∙ found)

-- each refusal of a reading has its cause
pub reading-cause : {S A X : Type 0} {given : S → Option (List ℕ × ℕ)} (held : S → Option Held) (faults : S → ℕ) (blamed : S → Option (List ℕ)) (before after : S) (words : List (List ℕ)) (due : Held → Outcome X) (of_output : ℕ × ℕ) (e : Refusal) (view : A → X) → IsReading held faults blamed given before after words (same_file Tasks) due (Err e) view → IsCause words due (held before) (blamed after) (faults before, faults after) of_output e
reading-cause held faults blamed before after words due of_output (Unreadable file) view reading = reading.blames file refl
reading-cause held faults blamed before after words due of_output Memory view reading = tt
reading-cause held faults blamed before after words due of_output (TooLarge x) view reading = due-of held faults blamed before after words due (TooLarge x) view reading (λ file is. cc is) (λ is. cc is) refl
reading-cause held faults blamed before after words due of_output (BadTasks x) view reading = due-of held faults blamed before after words due (BadTasks x) view reading (λ file is. cc is) (λ is. cc is) refl
reading-cause held faults blamed before after words due of_output (Infeasible x) view reading = due-of held faults blamed before after words due (Infeasible x) view reading (λ file is. cc is) (λ is. cc is) refl
reading-cause held faults blamed before after words due of_output (BadTable x) view reading = due-of held faults blamed before after words due (BadTable x) view reading (λ file is. cc is) (λ is. cc is) refl
reading-cause held faults blamed before after words due of_output (BadArrivals x) view reading = due-of held faults blamed before after words due (BadArrivals x) view reading (λ file is. cc is) (λ is. cc is) refl
reading-cause held faults blamed before after words due of_output (NotVerified x) view reading = due-of held faults blamed before after words due (NotVerified x) view reading (λ file is. cc is) (λ is. cc is) refl
reading-cause held faults blamed before after words due of_output (BadSecond x) view reading = due-of held faults blamed before after words due (BadSecond x) view reading (λ file is. cc is) (λ is. cc is) refl
reading-cause held faults blamed before after words due of_output (SecondInfeasible x) view reading = due-of held faults blamed before after words due (SecondInfeasible x) view reading (λ file is. cc is) (λ is. cc is) refl
reading-cause held faults blamed before after words due of_output (NoRow x) view reading = due-of held faults blamed before after words due (NoRow x) view reading (λ file is. cc is) (λ is. cc is) refl
reading-cause held faults blamed before after words due of_output (NotCycleEnd x) view reading = due-of held faults blamed before after words due (NotCycleEnd x) view reading (λ file is. cc is) (λ is. cc is) refl
reading-cause held faults blamed before after words due of_output (NoChange x) view reading = absurd (unfound (NoChange x) (same_file Tasks) (λ file is. cc is) (λ is. cc is) refl reading.refuses)
reading-cause held faults blamed before after words due of_output Usage view reading = unfound Usage (same_file Tasks) (λ file is. cc is) (λ is. cc is) refl reading.refuses
reading-cause held faults blamed before after words due of_output WriteFault view reading = absurd (unfound WriteFault (same_file Tasks) (λ file is. cc is) (λ is. cc is) refl reading.refuses)

-- no reading is refused for a failed write
pub reading-unwritten : {S A X : Type 0} {given : S → Option (List ℕ × ℕ)} (held : S → Option Held) (faults : S → ℕ) (blamed : S → Option (List ℕ)) (before after : S) (words : List (List ℕ)) (due : Held → Outcome X) (e : Refusal) (view : A → X) → IsReading held faults blamed given before after words (same_file Tasks) due (Err e) view → e ≡ WriteFault → ⊥
reading-unwritten held faults blamed before after words due e view reading is =
    unfound e (same_file Tasks) (λ file other. cc (sym is ∙ other)) (λ other. cc (sym is ∙ other)) (ap is_found is) reading.refuses

-- a cause does not depend on how the outcome that is due is told
pub cause-as : {X : Type 0} (words : List (List ℕ)) (due other : Held → Outcome X) (held : Option Held) (blamed : Option (List ℕ)) (of_files of_output : ℕ × ℕ) (e : Refusal) → ((files : Held) → other files ≡ due files) → IsCause words due held blamed of_files of_output e → IsCause words other held blamed of_files of_output e
cause-as words due other held blamed of_files of_output e same cause =
    by_refusal e cause
  where
    found-as : (x : Refusal) (o : Option Held) → (is_found x ≡ true) × IfSome o (λ files. due files ≡ Err x) → (is_found x ≡ true) × IfSome o (λ files. other files ≡ Err x)
    found-as x None (found, is) = (found, tt)
    found-as x (Some files) (found, is) = (found, same files ∙ is)

    by_refusal : (x : Refusal) → IsCause words due held blamed of_files of_output x → IsCause words other held blamed of_files of_output x
    by_refusal Usage c = c
    by_refusal (Unreadable file) c = c
    by_refusal WriteFault c = c
    by_refusal Memory c = c
    by_refusal (TooLarge x) c = found-as (TooLarge x) held c
    by_refusal (BadTasks x) c = found-as (BadTasks x) held c
    by_refusal (Infeasible x) c = found-as (Infeasible x) held c
    by_refusal (BadTable x) c = found-as (BadTable x) held c
    by_refusal (BadArrivals x) c = found-as (BadArrivals x) held c
    by_refusal (NotVerified x) c = found-as (NotVerified x) held c
    by_refusal (BadSecond x) c = found-as (BadSecond x) held c
    by_refusal (SecondInfeasible x) c = found-as (SecondInfeasible x) held c
    by_refusal (NoRow x) c = found-as (NoRow x) held c
    by_refusal (NotCycleEnd x) c = found-as (NotCycleEnd x) held c
    by_refusal (NoChange x) c = found-as (NoChange x) held c

-- a refusal whose status is a failed write is one
pub write-by_status : (e : Refusal) → refusal_status e ≡ Status.WriteFault → e ≡ WriteFault
write-by_status WriteFault is = refl
write-by_status Usage is = cc is
write-by_status (Unreadable x) is = cc is
write-by_status (TooLarge x) is = cc is
write-by_status (BadTasks x) is = cc is
write-by_status (Infeasible x) is = cc is
write-by_status (BadTable x) is = cc is
write-by_status (BadArrivals x) is = cc is
write-by_status (NotVerified x) is = cc is
write-by_status (BadSecond x) is = cc is
write-by_status (SecondInfeasible x) is = cc is
write-by_status (NoRow x) is = cc is
write-by_status (NotCycleEnd x) is = cc is
write-by_status (NoChange x) is = cc is
write-by_status Memory is = cc is

-- faulty words are no cause
pub cause-no_usage : {X : Type 0} (words : List (List ℕ)) (due : Held → Outcome X) (held : Option Held) (blamed : Option (List ℕ)) (of_files of_output : ℕ × ℕ) (e : Refusal) → IsCause words due held blamed of_files of_output e → refusal_status e ≡ Status.Usage → ⊥
cause-no_usage words due held blamed of_files of_output Usage cause usage = cause
cause-no_usage words due held blamed of_files of_output (Unreadable x) cause usage = cc usage
cause-no_usage words due held blamed of_files of_output (TooLarge x) cause usage = cc usage
cause-no_usage words due held blamed of_files of_output (BadTasks x) cause usage = cc usage
cause-no_usage words due held blamed of_files of_output (Infeasible x) cause usage = cc usage
cause-no_usage words due held blamed of_files of_output (BadTable x) cause usage = cc usage
cause-no_usage words due held blamed of_files of_output (BadArrivals x) cause usage = cc usage
cause-no_usage words due held blamed of_files of_output (NotVerified x) cause usage = cc usage
cause-no_usage words due held blamed of_files of_output (BadSecond x) cause usage = cc usage
cause-no_usage words due held blamed of_files of_output (SecondInfeasible x) cause usage = cc usage
cause-no_usage words due held blamed of_files of_output (NoRow x) cause usage = cc usage
cause-no_usage words due held blamed of_files of_output (NotCycleEnd x) cause usage = cc usage
cause-no_usage words due held blamed of_files of_output (NoChange x) cause usage = cc usage
cause-no_usage words due held blamed of_files of_output WriteFault cause usage = cc usage
cause-no_usage words due held blamed of_files of_output Memory cause usage = cc usage

-- a write that fails is the cause of its refusal
pub write-cause : {T X : Type 0} (words : List (List ℕ)) (due : Held → Outcome X) (held : Option Held) (blamed : Option (List ℕ)) (of_files : ℕ × ℕ) (before after : ℕ) (r : Outcome T) → IfErr r (λ e. (e ≡ WriteFault) × Rose before after) → IfErr r (IsCause words due held blamed of_files (before, after))
write-cause words due held blamed of_files before after (Ok t) failed = tt
write-cause words due held blamed of_files before after (Err e) (is, rose) = subst (IsCause words due held blamed of_files (before, after)) (sym is) rose

-- what is due to words that ask this question
pub due-of_question : (held : Held) (words : List (List ℕ)) (question : Question) → question_of words ≡ Some question → answer_due held words ≡ answer_from held words question
due-of_question held words question is = ap (λ (o : Option Question). option_map_or (answer_from held words) o (Err Usage)) is
