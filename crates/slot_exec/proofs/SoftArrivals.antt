-- Soft work that arrives, in the parts of an executive.
use Rattle.std.proofs.Common.{◌≡◌, ℕ, ◌-◌, ◌<◌, ◌≤◌, true, false, ◌==◌, List, [], ◌∷◌, ◌++◌, length, drop, length-append, refl, sym, ap, ◌∙◌, subst, arith}
use Rattle.std.proofs.lemmas.Bool.{eqb-false}
use Rattle.slot_core.specs.declared.TheConstants.{OFFER_LIMIT}
use Rattle.slot_core.specs.declared.events.Event.TheVariants.{Soft as SoftEvent}
use Rattle.slot_core.specs.declared.events.Soft.TheVariants.{Taken, Full}
use Rattle.slot_core.specs.declared.events.What.TheVariants.{Soft}
use Rattle.slot_core.specs.declared.jobs.SoftJob.{SoftJob}
use Rattle.slot_core.specs.declared.jobs.Span.{Span}
use Rattle.slot_core.specs.declared.tasks.Sporadic.{Sporadic}
use Rattle.slot_core.specs.Keeping.Executives.{Executive, Does}
use Rattle.slot_core.specs.Runs.Traces.{arrive}
use Rattle.slot_facts.proofs.Legal.Executives.{every_executive_is_kept}
use Rattle.circular_buffer.specs.Buffer.{keep_last}
use Rattle.scene_steps.proofs.Ends.EndEvents.{Does-soft_full, Does-soft_taken}
use Rattle.slot_exec.specs.declared.rooms.Remembered.{Remembered}
use Rattle.slot_exec.specs.Parts.{IsExecutive}
use Rattle.slot_exec.proofs.EventParts.{IsExecutive-after}

-- the executive with more soft jobs, or the same, and another last row
abbrev pub with_waiting : Executive → List SoftJob → ℕ → Executive
with_waiting exec waiting row =
    record exec { scene = record exec.scene { soft = waiting }; last_row = row }

-- the last items of a list that is no longer than so many are the list
keep_last-whole : {X : Type 0} (n : ℕ) (xs : List X) → length xs ≤ n → keep_last n xs ≡ xs
keep_last-whole n xs few =
    let none : length xs - n ≡ 0 = omega arith in
    ap (λ k. drop k xs) none

-- a ring with a place keeps all its jobs
pub keep_last-free : (exec : Executive) (rows : List Span) (reserved : List Sporadic) (limit capacity most : ℕ) (job : SoftJob) {known : Remembered} → IsExecutive exec rows reserved limit capacity most known → (length exec.scene.soft == most) ≡ false → keep_last most (exec.scene.soft ++ job ∷ []) ≡ exec.scene.soft ++ job ∷ []
keep_last-free exec rows reserved limit capacity most job is free =
    let few = (every_executive_is_kept exec is.plan is.stands).soft.few in
    let fewer = eqb-false (length exec.scene.soft) most free in
    keep_last-whole most (exec.scene.soft ++ job ∷ []) (omega (arith, length-append exec.scene.soft (job ∷ []), is.ring))

-- a full ring: soft work is refused, and the parts agree
pub refused-soft : (exec now : Executive) (rows : List Span) (reserved : List Sporadic) (limit capacity most row slots n : ℕ) {known : Remembered} → IsExecutive exec rows reserved limit capacity most known → exec ≡ now → now.last_row < row → 1 ≤ slots → slots ≤ OFFER_LIMIT → (length exec.scene.soft == most) ≡ true → n ≡ exec.plan.tasks.soft_limit → let after = with_waiting exec exec.scene.soft row in Does now after (arrive row (SoftEvent slots)) (Soft row slots (Full n)) × IsExecutive after rows reserved limit capacity most known
refused-soft exec now rows reserved limit capacity most row slots n is same later some few full e =
    let after = with_waiting exec exec.scene.soft row in
    let last : exec.last_row < row = subst (λ (b : Executive). b.last_row < row) (sym same) later in
    let does = Does-soft_full exec row slots is.plan is.stands last some few (ap (λ n. length exec.scene.soft == n) (sym is.ring) ∙ full) in (
      subst
          (λ (b : Executive). Does b after (arrive row (SoftEvent slots)) (Soft row slots (Full n)))
          same
          (subst (λ k. Does exec after (arrive row (SoftEvent slots)) (Soft row slots (Full k))) (sym e) does),
      IsExecutive-after exec after _ _ rows rows reserved limit capacity most limit capacity most _ _ is does is.early is.spans refl refl refl is.remembers,
    )

-- a ring with a place: one more waits, and the parts agree
pub taken-soft : (exec now : Executive) (rows : List Span) (reserved : List Sporadic) (limit capacity most row slots room : ℕ) (waiting : List SoftJob) {known : Remembered} → IsExecutive exec rows reserved limit capacity most known → exec ≡ now → now.last_row < row → 1 ≤ slots → slots ≤ OFFER_LIMIT → (length exec.scene.soft == most) ≡ false → waiting ≡ keep_last most (exec.scene.soft ++ record { row = row; left = slots; declared = slots } ∷ []) → room ≡ most → let after = with_waiting exec waiting row in Does now after (arrive row (SoftEvent slots)) (Soft row slots Taken) × IsExecutive after rows reserved limit capacity room known
taken-soft exec now rows reserved limit capacity most row slots room waiting is same later some few free e stays =
    let after = with_waiting exec waiting row in
    let job : SoftJob = record { row = row; left = slots; declared = slots } in
    let last : exec.last_row < row = subst (λ (b : Executive). b.last_row < row) (sym same) later in
    let does = Does-soft_taken exec row slots is.plan is.stands last some few (ap (λ n. length exec.scene.soft == n) (sym is.ring) ∙ free) in
    let own = subst (λ (ss : List SoftJob). Does exec (with_waiting exec ss row) (arrive row (SoftEvent slots)) (Soft row slots Taken)) (sym (e ∙ keep_last-free exec rows reserved limit capacity most job is free)) does in (
      subst (λ (b : Executive). Does b after (arrive row (SoftEvent slots)) (Soft row slots Taken)) same own,
      IsExecutive-after exec after _ _ rows rows reserved limit capacity most limit capacity room _ _ is own is.early is.spans refl refl stays is.remembers,
    )
