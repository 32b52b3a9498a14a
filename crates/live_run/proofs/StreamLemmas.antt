-- Texts that are put one after the other.
use Rattle.std.proofs.Common.{◌≡◌, ℕ, ◌≤◌, List, [], ◌++◌, Option, Ok, Err, inl, inr, refl, sym, subst, arith}
use Rattle.std.specs.Prelude.{IfErr, OnErr, Result}
use Rattle.std.proofs.KnownBytes.{Appends-nil, Appends-trans}
use Rattle.std.specs.Io.KnownBytes.{Appends}
use Rattle.slot_core.specs.Calls.Counts.{Rose}
use Rattle.slot_io.specs.Sinks.{AppendsPart}
use Rattle.slot_io.proofs.Counts.{Rose-after, Rose-before}
use Rattle.live_run.specs.declared.streams.DialogueFault.{DialogueFault}
use Rattle.live_run.specs.declared.streams.DialogueFault.TheVariants.{Record, Output}
use Rattle.live_run.specs.Streams.{Texts, Seen, AreFaultsTold, ArePut, ArePutInPart, BreaksAt, BreaksInAnswer, BreaksInRow, IsCounted}

-- texts, and then others
abbrev pub joined : Texts → Texts → Texts
joined a b = record {
  answers = a.answers ++ b.answers;
  rows = a.rows ++ b.rows;
  faults = a.faults ++ b.faults;
}

-- no texts are put where nothing is
pub IsCounted-same : (s : Seen) → IsCounted s s
IsCounted-same s = record { answers = omega arith; rows = omega arith; faults = omega arith }

-- counts that do not fall one after the other do not fall
pub IsCounted-trans : (a b c : Seen) → IsCounted a b → IsCounted b c → IsCounted a c
IsCounted-trans a b c first later =
    record {
      answers = omega (arith, first.answers, later.answers);
      rows = omega (arith, first.rows, later.rows);
      faults = omega (arith, first.faults, later.faults);
    }

-- what is told one after the other is told
AreFaultsTold-trans : (a b c : Seen) (first later : List ℕ) → AreFaultsTold a b first → AreFaultsTold b c later → a.faults_lost ≤ b.faults_lost → b.faults_lost ≤ c.faults_lost → AreFaultsTold a c (first ++ later)
AreFaultsTold-trans a b c first later (inl x) (inl y) kept more = inl (Appends-trans a.faults b.faults c.faults first later x y)
AreFaultsTold-trans a b c first later (inr x) other kept more = inr (Rose-before a.faults_lost b.faults_lost c.faults_lost x more)
AreFaultsTold-trans a b c first later (inl x) (inr y) kept more = inr (Rose-after a.faults_lost b.faults_lost c.faults_lost kept y)

-- texts that are put one after the other are put
pub ArePut-trans : (a b c : Seen) (first later : Texts) → ArePut a b first → ArePut b c later → ArePut a c (joined first later)
ArePut-trans a b c first later x y =
    record {
      answers = Appends-trans a.answers b.answers c.answers first.answers later.answers x.answers y.answers;
      rows = Appends-trans a.rows b.rows c.rows first.rows later.rows x.rows y.rows;
      faults = AreFaultsTold-trans a b c first.faults later.faults x.faults y.faults x.counted.faults y.counted.faults;
      counted = IsCounted-trans a b c x.counted y.counted;
    }

-- an answer and a row are put, and no fault is told
pub ArePut-row : (before : Seen) (answers rows : Option (List ℕ)) (answers_lost rows_lost : ℕ) (answer row : List ℕ)
    → Appends before.answers answers answer → Appends before.rows rows row → before.answers_lost ≤ answers_lost → before.rows_lost ≤ rows_lost
    → ArePut before (record before { answers = answers; answers_lost = answers_lost; rows = rows; rows_lost = rows_lost }) (record { answers = answer; rows = row; faults = [] })
ArePut-row before answers rows answers_lost rows_lost answer row told kept counted more =
    record {
      answers = told;
      rows = kept;
      faults = inl (Appends-nil before.faults);
      counted = record { answers = counted; rows = more; faults = omega arith };
    }

-- so an answer without a row is put
pub ArePut-lines : (before : Seen) (answers : Option (List ℕ)) (answers_lost : ℕ) (answer : List ℕ)
    → Appends before.answers answers answer → before.answers_lost ≤ answers_lost
    → ArePut before (record before { answers = answers; answers_lost = answers_lost }) (record { answers = answer; rows = []; faults = [] })
ArePut-lines before answers answers_lost answer told counted =
    ArePut-row before answers before.rows answers_lost before.rows_lost answer [] told (Appends-nil before.rows) counted (omega arith)

-- a put of the row fails, before any of the answer
pub ArePutInPart-row : (fault : DialogueFault) (before : Seen) (rows : Option (List ℕ)) (rows_lost : ℕ) (answer row : List ℕ)
    → fault ≡ Record → AppendsPart before.rows rows row → before.rows_lost ≤ rows_lost → Rose before.rows_lost rows_lost
    → ArePutInPart fault before (record before { rows = rows; rows_lost = rows_lost }) (record { answers = answer; rows = row; faults = [] })
ArePutInPart-row fault before rows rows_lost answer row is part counted failed =
    let after : Seen = record before { rows = rows; rows_lost = rows_lost } in
    let texts : Texts = record { answers = answer; rows = row; faults = [] } in
    let breaks : BreaksInRow before after texts = record { rows = part; answers = refl; failed = failed } in
    record {
      breaks = subst (λ (f : DialogueFault). BreaksAt f before after texts) (sym is) breaks;
      faults = inl (Appends-nil before.faults);
      counted = record { answers = omega arith; rows = counted; faults = omega arith };
    }

-- or one of the answer, after the row
pub ArePutInPart-answer : (fault : DialogueFault) (before : Seen) (answers rows : Option (List ℕ)) (answers_lost rows_lost : ℕ) (answer row : List ℕ)
    → fault ≡ Output → AppendsPart before.answers answers answer → Appends before.rows rows row → before.answers_lost ≤ answers_lost → before.rows_lost ≤ rows_lost → Rose before.answers_lost answers_lost
    → ArePutInPart fault before (record before { answers = answers; answers_lost = answers_lost; rows = rows; rows_lost = rows_lost }) (record { answers = answer; rows = row; faults = [] })
ArePutInPart-answer fault before answers rows answers_lost rows_lost answer row is part kept counted more failed =
    let after : Seen = record before { answers = answers; answers_lost = answers_lost; rows = rows; rows_lost = rows_lost } in
    let texts : Texts = record { answers = answer; rows = row; faults = [] } in
    let breaks : BreaksInAnswer before after texts = record { rows = kept; answers = part; failed = failed } in
    record {
      breaks = subst (λ (f : DialogueFault). BreaksAt f before after texts) (sym is) breaks;
      faults = inl (Appends-nil before.faults);
      counted = record { answers = counted; rows = more; faults = omega arith };
    }

-- so of an answer without a row
pub ArePutInPart-lines : (fault : DialogueFault) (before : Seen) (answers : Option (List ℕ)) (answers_lost : ℕ) (answer : List ℕ)
    → fault ≡ Output → AppendsPart before.answers answers answer → before.answers_lost ≤ answers_lost → Rose before.answers_lost answers_lost
    → ArePutInPart fault before (record before { answers = answers; answers_lost = answers_lost }) (record { answers = answer; rows = []; faults = [] })
ArePutInPart-lines fault before answers answers_lost answer is part counted failed =
    ArePutInPart-answer fault before answers before.rows answers_lost before.rows_lost answer [] is part (Appends-nil before.rows) counted (omega arith) failed

-- the fault that is answered
pub at-fault : {X : Type 0} (r : Result X DialogueFault) (fault : DialogueFault) (P : DialogueFault → Type 0) → r ≡ Err fault → P fault → IfErr r P
at-fault {X} r fault P is holds = subst (λ (r : Result X DialogueFault). IfErr r P) (sym is) holds

-- what a put of the answers that failed tells, with its fault
pub at-output : {X P Q : Type 0} (r : Result X DialogueFault) (R : DialogueFault → Type 0) → OnErr r P → OnErr r Q → IfErr r (λ fault. fault ≡ Output) → ((fault : DialogueFault) → fault ≡ Output → P → Q → R fault) → IfErr r R
at-output (Ok x) R part failed is gives = tt
at-output (Err fault) R part failed is gives = gives fault is part failed
