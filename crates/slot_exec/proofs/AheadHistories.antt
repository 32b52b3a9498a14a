-- One slot more of which the same is told.
use Rattle.std.proofs.Common.{◌≡◌, ℕ, zero, suc, ◌+◌, ◌∷◌, refl, sym, subst, add-one}
use Rattle.slot_core.specs.declared.tasks.TaskSet.{TaskSet}
use Rattle.slot_core.specs.declared.events.What.{What}
use Rattle.slot_core.specs.Runs.Histories.{History}
use Rattle.slot_core.specs.Runs.Traces.{slot, told_of}
use Rattle.slot_exec.specs.Ahead.{history_ahead, TellsAhead}

-- the history with one slot more
longer : (what : What) (n : ℕ) (h : History) → what ∷ history_ahead what n h ≡ history_ahead what (suc n) h
longer what zero h = refl
longer what (suc n) h = longer what n (what ∷ h)

pub history_ahead-more : (what : What) (n : ℕ) (h : History) → what ∷ history_ahead what n h ≡ history_ahead what (n + 1) h
history_ahead-more what n h =
    subst (λ m. what ∷ history_ahead what n h ≡ history_ahead what m h) (sym (add-one n)) (longer what n h)

-- where the same is told of that slot too, it is told of all
tells : (set : TaskSet) (cycle : ℕ) (what : What) (n : ℕ) (h : History) → TellsAhead set cycle what n h → what ≡ told_of set cycle (history_ahead what n h) slot → TellsAhead set cycle what (suc n) h
tells set cycle what zero h ahead last = (last, tt)
tells set cycle what (suc n) h ahead last = (ahead.0, tells set cycle what n (what ∷ h) ahead.1 last)

pub TellsAhead-more : (set : TaskSet) (cycle : ℕ) (what : What) (n : ℕ) (h : History) → TellsAhead set cycle what n h → what ≡ told_of set cycle (history_ahead what n h) slot → TellsAhead set cycle what (n + 1) h
TellsAhead-more set cycle what n h ahead last =
    subst (λ m. TellsAhead set cycle what m h) (sym (add-one n)) (tells set cycle what n h ahead last)
