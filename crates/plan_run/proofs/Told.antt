-- What is written of the supply tells it.
use Rattle.std.proofs.Common.{◌≡◌, ℕ, ◌<◌, ◌≤◌, Bool, true, false, ◌==◌, List, length, Option, Some, None, Ok, Err, refl, sym, subst, ◌∙◌, arith}
use Rattle.std.specs.Prelude.{IfSome, codes, nat_lt, if◌then◌else◌}
use Rattle.std.proofs.lemmas.Bool.Decides.{nat_tests}
use Rattle.std.specs.Option.{option_map}
use Rattle.std.specs.Str.{bytes_eq}
use Rattle.std.specs.Str.Parse.{digits_value}
use Rattle.slot_core.specs.declared.TheConstants.{OFFER_LIMIT}
use Rattle.slot_core.specs.Calls.Results.{◌>>=◌}
use Rattle.slot_core.specs.Sets.Ranges.{is_between}
use Rattle.slot_facts.proofs.Sets.Ranges.{bounds}
use Rattle.key_texts.specs.Numbers.{is_number, within as within_range}
use Rattle.slot_core.specs.Keeping.Plans.{PlanParts, IsPlan}
use Rattle.slot_core.specs.Sets.Cycles.{cycle_of}
use Rattle.slot_core.specs.declared.tasks.TaskSet.{TaskSet}
use Rattle.slot_core.specs.Feasibility.Feasible.{IsFeasible}
use Rattle.slot_io.specs.Files.{Held}
use Rattle.command_line.specs.declared.commands.Source.TheVariants.{Tasks}
use Rattle.command_line.specs.Refusals.{Outcome, word_at}
use Rattle.run_steps.specs.Readings.{plan_from}
use Rattle.run_steps.proofs.SourcePlans.{IsPlan-from}
use Rattle.supply_find.specs.Found.{supply_of}
use Rattle.supply_lines.specs.Lines.{far_line, line_of, lines_of, supply_text, within_text, LineTellsWithin, LinesTellSupply}
use Rattle.plan_run.specs.declared.questions.Question.TheVariants.{Load, Who, Header, Supply, SupplyWithin}
use Rattle.plan_run.specs.declared.questions.Question.{Question}
use Rattle.plan_run.specs.Answers.{answer_due}
use Rattle.plan_run.specs.Questions.{question_named, question_numbered, question_of, within_question}
use Rattle.plan_run.specs.Supplies.{SupplyIsTold, SupplyIsToldWithin}
use Rattle.plan_run.proofs.Refused.{due-of_question}

-- the plan of an answer over it
planned : (f : PlanParts → List ℕ) (o : Outcome PlanParts) (text : List ℕ) → (let r : Outcome (List ℕ) = o >>= (λ plan. Ok (f plan)) in r) ≡ Ok text → (plan : PlanParts) × (o ≡ Ok plan) × (text ≡ f plan)
planned f (Ok plan) text is = let same : f plan ≡ text = cc is in (plan, refl, sym same)
planned f (Err e) text is = cc is

feasible-of : (plan : PlanParts) → IsPlan plan → IsFeasible plan.tasks (cycle_of plan.tasks)
feasible-of plan is = subst (IsFeasible plan.tasks) is.cycle is.feasible

pub told : LinesTellSupply → (held : Held) (words : List (List ℕ)) (text : List ℕ) → question_of words ≡ Some Supply → answer_due held words ≡ Ok text → SupplyIsTold held words text
told tells held words text asked due =
    let (plan, from, is) = planned (λ plan. supply_text plan.tasks) (plan_from held words Tasks) text (sym (due-of_question held words Supply asked) ∙ due) in
    let good = IsPlan-from held words Tasks plan tt from in
    (plan, from, lines_of plan.tasks, is, tells plan.tasks good.sound (feasible-of plan good))

-- the number of a question is at least 1
abbrev IsPositive : Option Question → Type 0
IsPositive o = (within : ℕ) → o ≡ Some (SupplyWithin within) → 1 ≤ within

either : (b : Bool) (x y : Option Question) → IsPositive x → IsPositive y → IsPositive (if b then x else y)
either true x y one other = one
either false x y one other = other

positive-within : (n : ℕ) (b : Bool) → is_between 1 OFFER_LIMIT n ≡ b → IsPositive (option_map SupplyWithin (if b then Some n else None))
positive-within n true is within same = let one : n ≡ within = cc same in subst (λ x. 1 ≤ x) one (bounds 1 OFFER_LIMIT n is).0
positive-within n false is within same = absurd (cc same)

positive-number : (number : List ℕ) (b : Bool) → IsPositive (option_map SupplyWithin (if b then within_range 1 OFFER_LIMIT (digits_value 10 number) else None))
positive-number number true = positive-within (digits_value 10 number) (is_between 1 OFFER_LIMIT (digits_value 10 number)) refl
positive-number number false = λ within same. absurd (cc same)

positive-named : (word : List ℕ) → IsPositive (question_named word)
positive-named word =
    either
    (bytes_eq word (codes "load"))
    (Some Load)
    _
    (λ within same. absurd (cc same))
    (
    either
    (bytes_eq word (codes "who"))
    (Some Who)
    _
    (λ within same. absurd (cc same))
    (
    either
    (bytes_eq word (codes "header"))
    (Some Header)
    _
    (λ within same. absurd (cc same))
    (either (bytes_eq word (codes "supply")) (Some Supply) None (λ within same. absurd (cc same)) (λ within same. absurd (cc same)))
    )
    )

positive-question : (words : List (List ℕ)) → IsPositive (question_of words)
positive-question words =
    either
    (length words == 2)
    (question_named (word_at words 0))
    _
    (positive-named (word_at words 0))
    (
    either
    (length words == 3)
    (question_numbered (word_at words 0) (word_at words 2))
    None
    (
    either
    (bytes_eq (word_at words 0) (codes "supply"))
    (within_question (word_at words 2))
    None
    (positive-number (word_at words 2) (is_number (word_at words 2)))
    (λ within same. absurd (cc same))
    )
    (λ within same. absurd (cc same))
    )

-- the line within a number of slots, where it is near and where it is far
near-line : (set : TaskSet) (within : ℕ) → within ≤ cycle_of set → within_text set within ≡ line_of (within, supply_of set within)
near-line set within near =
    let test : nat_lt (cycle_of set) within ≡ false = grind (arith, nat_tests) in
    rw test refl

past-line : (set : TaskSet) (within : ℕ) → cycle_of set < within → within_text set within ≡ far_line within (cycle_of set)
past-line set within past =
    let test : nat_lt (cycle_of set) within ≡ true = grind (arith, nat_tests) in
    rw test refl

pub told-within : LineTellsWithin → (held : Held) (words : List (List ℕ)) (text : List ℕ) (within : ℕ) → question_of words ≡ Some (SupplyWithin within) → answer_due held words ≡ Ok text → SupplyIsToldWithin held words within text
told-within tells held words text within asked due =
    let (plan, from, is) = planned (λ plan. within_text plan.tasks within) (plan_from held words Tasks) text (sym (due-of_question held words (SupplyWithin within) asked) ∙ due) in
    let good = IsPlan-from held words Tasks plan tt from in (
      plan,
      from,
      λ near. (supply_of plan.tasks within, is ∙ near-line plan.tasks within near, tells plan.tasks within good.sound (feasible-of plan good) (positive-question words within asked) near),
      λ past. is ∙ past-line plan.tasks within past,
    )

-- the same, of what files hold, where they tell it
pub told-held : (A : List ℕ → Type 0) → LinesTellSupply → (o : Option Held) (words : List (List ℕ)) → question_of words ≡ Some Supply → IfSome o (λ held. (text : List ℕ) × (answer_due held words ≡ Ok text) × A text) → IfSome o (λ held. (text : List ℕ) × SupplyIsTold held words text × A text)
told-held A tells None words asked written = tt
told-held A tells (Some held) words asked (text, due, appended) = (text, told tells held words text asked due, appended)

pub told-held_within : (A : List ℕ → Type 0) → LineTellsWithin → (o : Option Held) (words : List (List ℕ)) (within : ℕ) → question_of words ≡ Some (SupplyWithin within) → IfSome o (λ held. (text : List ℕ) × (answer_due held words ≡ Ok text) × A text) → IfSome o (λ held. (text : List ℕ) × SupplyIsToldWithin held words within text × A text)
told-held_within A tells None words within asked written = tt
told-held_within A tells (Some held) words within asked (text, due, appended) =
    (text, told-within tells held words text within asked due, appended)
