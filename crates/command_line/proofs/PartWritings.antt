-- Texts that are written in two parts, one after the other, or whole.
use Rattle.std.proofs.Common.{◌≡◌, ℕ, ◌≤◌, Bool, true, List, [], ◌++◌, Option, Result, Ok, Err, refl, sym, ap, subst, inl, inr, arith}
use Rattle.std.proofs.KnownBytes.{Appends-nil, Appends-trans}
use Rattle.std.specs.Io.KnownBytes.{Appends}
use Rattle.slot_core.specs.Calls.Counts.{Rose}
use Rattle.slot_core.specs.declared.jobs.Evidence.{Evidence}
use Rattle.slot_io.specs.Sinks.{AppendsPart}
use Rattle.slot_io.proofs.SinkParts.{AppendsPart-more, AppendsPart-on}
use Rattle.command_line.specs.declared.refusal.Refusal.TheVariants.{Usage, Unreadable, TooLarge, BadTasks, Infeasible, BadTable, BadArrivals, NotVerified, BadSecond, SecondInfeasible, NoRow, NotCycleEnd, NoChange, WriteFault, Memory}
use Rattle.command_line.specs.Refusals.{Outcome}
use Rattle.command_line.specs.Writings.{Writing, IsPartWriting, IsRestWriting, IsWriting, all_after, in_whole}

-- a part of the front is a part of all
part_of_front : (front : List ℕ) (rest : Result (List ℕ) Evidence) (before after : Option (List ℕ)) → AppendsPart before after front → AppendsPart before after (all_after front rest)
part_of_front front (Ok rest) before after part =
    AppendsPart-more before before after [] front rest (front ++ rest) refl (Appends-nil before) part
part_of_front front (Err e) before after part = part

-- a writing that ends in its front
pub parts-front : (X : Type 0) {T : Type 0} (written : T → Option (List ℕ)) (failed : T → ℕ) (w : Writing) (before after : T) → AppendsPart (written before) (written after) w.front → Rose (failed before) (failed after) → IsPartWriting {X = X} written failed true w (Err WriteFault) before after
parts-front X written failed w before after part rose = (part_of_front w.front w.rest (written before) (written after) part, rose)

-- a count that rose later rose since
rose-since : (before mid after : ℕ) → before ≤ mid → Rose mid after → Rose before after
rose-since before mid after kept rose = omega (arith, kept, rose)

-- a writing whose front is put, and then its rest
pub parts-rest : {T X : Type 0} (written : T → Option (List ℕ)) (failed : T → ℕ) (front : List ℕ) (rest : Result (List ℕ) Evidence) (result : Outcome X) (before mid after : T) → Appends (written before) (written mid) front → failed before ≤ failed mid → IsRestWriting written failed rest result mid after → IsPartWriting written failed true (record { front = front; rest = rest }) result before after
parts-rest written failed front rest (Ok done) before mid after first kept (text, is, put) =
    (text, is, Appends-trans (written before) (written mid) (written after) front text first put)
parts-rest written failed front rest (Err WriteFault) before mid after first kept (text, is, part, rose) =
    let whole = AppendsPart-on (written before) (written mid) (written after) front text (front ++ text) refl first part in
    (subst (λ (t : List ℕ). AppendsPart (written before) (written after) t) (sym (ap (all_after front) is)) whole, rose-since (failed before) (failed mid) (failed after) kept rose)
parts-rest written failed front rest (Err Memory) before mid after first kept same =
    inr (refl, subst (λ s. Appends (written before) (written s) front) (sym same) first)
parts-rest written failed front rest (Err (NoChange e)) before mid after first kept (is, same) =
    (refl, is, subst (λ s. Appends (written before) (written s) front) (sym same) first)
parts-rest written failed front rest (Err Usage) before mid after first kept writing = absurd writing
parts-rest written failed front rest (Err (Unreadable file)) before mid after first kept writing = absurd writing
parts-rest written failed front rest (Err (TooLarge file)) before mid after first kept writing = absurd writing
parts-rest written failed front rest (Err (BadTasks fault)) before mid after first kept writing = absurd writing
parts-rest written failed front rest (Err (Infeasible window)) before mid after first kept writing = absurd writing
parts-rest written failed front rest (Err (BadTable fault)) before mid after first kept writing = absurd writing
parts-rest written failed front rest (Err (BadArrivals fault)) before mid after first kept writing = absurd writing
parts-rest written failed front rest (Err (NotVerified reason)) before mid after first kept writing = absurd writing
parts-rest written failed front rest (Err (BadSecond fault)) before mid after first kept writing = absurd writing
parts-rest written failed front rest (Err (SecondInfeasible window)) before mid after first kept writing = absurd writing
parts-rest written failed front rest (Err (NoRow row)) before mid after first kept writing = absurd writing
parts-rest written failed front rest (Err (NotCycleEnd cycle)) before mid after first kept writing = absurd writing

-- a rest that is a text
pub rest-of_text : {T X : Type 0} (written : T → Option (List ℕ)) (failed : T → ℕ) (text : List ℕ) (result : Outcome X) (before after : T) → IsWriting written failed text result before after → IsRestWriting written failed (Ok text) result before after
rest-of_text written failed text (Ok done) before after writing = (text, refl, writing)
rest-of_text written failed text (Err WriteFault) before after (part, rose) = (text, refl, part, rose)
rest-of_text written failed text (Err Memory) before after writing = writing
rest-of_text written failed text (Err (NoChange e)) before after writing = absurd writing
rest-of_text written failed text (Err Usage) before after writing = absurd writing
rest-of_text written failed text (Err (Unreadable file)) before after writing = absurd writing
rest-of_text written failed text (Err (TooLarge file)) before after writing = absurd writing
rest-of_text written failed text (Err (BadTasks fault)) before after writing = absurd writing
rest-of_text written failed text (Err (Infeasible window)) before after writing = absurd writing
rest-of_text written failed text (Err (BadTable fault)) before after writing = absurd writing
rest-of_text written failed text (Err (BadArrivals fault)) before after writing = absurd writing
rest-of_text written failed text (Err (NotVerified reason)) before after writing = absurd writing
rest-of_text written failed text (Err (BadSecond fault)) before after writing = absurd writing
rest-of_text written failed text (Err (SecondInfeasible window)) before after writing = absurd writing
rest-of_text written failed text (Err (NoRow row)) before after writing = absurd writing
rest-of_text written failed text (Err (NotCycleEnd cycle)) before after writing = absurd writing

-- a text that is written whole is a writing of both parts
pub parts-of_whole : {T X : Type 0} (written : T → Option (List ℕ)) (failed : T → ℕ) (parts : Bool) (text : List ℕ) (result : Outcome X) (before after : T) → IsWriting written failed text result before after → IsPartWriting written failed parts (in_whole text) result before after
parts-of_whole written failed parts text (Ok done) before after writing = (text, refl, writing)
parts-of_whole written failed parts text (Err WriteFault) before after writing = writing
parts-of_whole written failed parts text (Err Memory) before after writing = inl writing
parts-of_whole written failed parts text (Err (NoChange e)) before after writing = absurd writing
parts-of_whole written failed parts text (Err Usage) before after writing = absurd writing
parts-of_whole written failed parts text (Err (Unreadable file)) before after writing = absurd writing
parts-of_whole written failed parts text (Err (TooLarge file)) before after writing = absurd writing
parts-of_whole written failed parts text (Err (BadTasks fault)) before after writing = absurd writing
parts-of_whole written failed parts text (Err (Infeasible window)) before after writing = absurd writing
parts-of_whole written failed parts text (Err (BadTable fault)) before after writing = absurd writing
parts-of_whole written failed parts text (Err (BadArrivals fault)) before after writing = absurd writing
parts-of_whole written failed parts text (Err (NotVerified reason)) before after writing = absurd writing
parts-of_whole written failed parts text (Err (BadSecond fault)) before after writing = absurd writing
parts-of_whole written failed parts text (Err (SecondInfeasible window)) before after writing = absurd writing
parts-of_whole written failed parts text (Err (NoRow row)) before after writing = absurd writing
parts-of_whole written failed parts text (Err (NotCycleEnd cycle)) before after writing = absurd writing
