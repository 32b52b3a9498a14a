-- What the answer to a recorded trace says: a text passes exactly where it is that of a lawful trace, and a fault names what the set has.
use Rattle.std.proofs.Common.{◌≡◌, ℕ, ◌≤◌, true, List, Ok, Err, refl, sym, ◌∙◌, subst}
use Rattle.std.specs.Prelude.{◌≢◌, Result, ⊤, IfErr, OnOk}
use Rattle.slot_core.specs.declared.TheConstants.{REPLAY_LIMIT}
use Rattle.slot_core.specs.declared.events.Arrival.{Arrival}
use Rattle.slot_core.specs.Keeping.Plans.{PlanParts, IsPlan}
use Rattle.slot_core.specs.Runs.Arrivals.{are_fitting}
use Rattle.trace_verify.specs.Laws.{IsLawfulText}
use Rattle.trace_verify.specs.Verdicts.{AnswersAs, verdict}
use Rattle.trace_verify.proofs.FromVerdict.{lawful-from_verdict}
use Rattle.trace_verify.proofs.NamedFaults.{names_known-verdict}
use Rattle.trace_verify.proofs.ToVerdict.{verdict-from_lawful}
use Rattle.faults.specs.VerifyTexts.{names_known}
use Rattle.faults.specs.declared.verify_fault.VerifyFault.{VerifyFault}
use Rattle.faults.specs.declared.verify_fault.VerifyFault.TheVariants.{Memory, Short, NoRun, NotReady, Differs, Late, Trailing}

-- where the fault is that of the verdict or want of memory, it names what the set has
names_known-fault : (plan : PlanParts) (arrivals : List Arrival) (slots : ℕ) (text : List ℕ) (e : VerifyFault) → IsPlan plan → are_fitting plan.tasks slots arrivals ≡ true → (e ≢ Memory → verdict plan.tasks plan.cycle arrivals slots text ≡ Err e) → names_known plan.tasks e ≡ true
names_known-fault plan arrivals slots text Memory p fits told = refl
names_known-fault plan arrivals slots text (Short n) p fits told = refl
names_known-fault plan arrivals slots text (NoRun n) p fits told = refl
names_known-fault plan arrivals slots text (NotReady n key) p fits told =
    names_known-verdict plan arrivals slots text (NotReady n key) p fits (told (λ is. cc))
names_known-fault plan arrivals slots text (Differs n) p fits told = refl
names_known-fault plan arrivals slots text (Late n key) p fits told =
    names_known-verdict plan arrivals slots text (Late n key) p fits (told (λ is. cc))
names_known-fault plan arrivals slots text (Trailing n) p fits told = refl

-- where it is Ok, the text is that of a lawful trace
pub lawful-answer : (plan : PlanParts) (arrivals : List Arrival) (slots : ℕ) (text : List ℕ) (r : Result ⊤ VerifyFault) → IsPlan plan → AnswersAs (λ _. tt) r (verdict plan.tasks plan.cycle arrivals slots text) → OnOk r (IsLawfulText plan.tasks arrivals slots text)
lawful-answer plan arrivals slots text (Ok x) p told =
    lawful-from_verdict plan.tasks arrivals slots text (subst (λ c. verdict plan.tasks c arrivals slots text ≡ Ok tt) p.cycle told)
lawful-answer plan arrivals slots text (Err e) p told = tt

-- where it is a fault of the text, the text is that of none
unlawful-fault : (plan : PlanParts) (arrivals : List Arrival) (slots : ℕ) (text : List ℕ) (e : VerifyFault) → IsPlan plan → slots ≤ REPLAY_LIMIT → are_fitting plan.tasks slots arrivals ≡ true → verdict plan.tasks plan.cycle arrivals slots text ≡ Err e → ¬ (IsLawfulText plan.tasks arrivals slots text)
unlawful-fault plan arrivals slots text e p small fits told lawful =
    let passes = verdict-from_lawful plan.tasks arrivals slots text p.sound small fits lawful in
    let fails = subst (λ c. verdict plan.tasks c arrivals slots text ≡ Err e) p.cycle told in
    cc (sym passes ∙ fails)

pub unlawful-answer : (plan : PlanParts) (arrivals : List Arrival) (slots : ℕ) (text : List ℕ) (r : Result ⊤ VerifyFault) → IsPlan plan → slots ≤ REPLAY_LIMIT → are_fitting plan.tasks slots arrivals ≡ true → AnswersAs (λ _. tt) r (verdict plan.tasks plan.cycle arrivals slots text) → IfErr r (λ e. e ≢ Memory → ¬ (IsLawfulText plan.tasks arrivals slots text))
unlawful-answer plan arrivals slots text (Ok x) p small fits told = tt
unlawful-answer plan arrivals slots text (Err e) p small fits told =
    λ is. unlawful-fault plan arrivals slots text e p small fits (told is)

-- and its fault names what the set has
pub named-answer : (plan : PlanParts) (arrivals : List Arrival) (slots : ℕ) (text : List ℕ) (r : Result ⊤ VerifyFault) → IsPlan plan → are_fitting plan.tasks slots arrivals ≡ true → AnswersAs (λ _. tt) r (verdict plan.tasks plan.cycle arrivals slots text) → IfErr r (λ e. names_known plan.tasks e ≡ true)
named-answer plan arrivals slots text (Ok x) p fits told = tt
named-answer plan arrivals slots text (Err e) p fits told = names_known-fault plan arrivals slots text e p fits told
