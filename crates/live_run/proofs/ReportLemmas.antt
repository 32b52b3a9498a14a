-- What is told of a record that cannot be written.
use Rattle.std.proofs.Common.{◌≡◌, ℕ, false, List, [], ◌∷◌, ◌++◌, codes, Option, inl, inr, sym, subst}
use Rattle.command_line.specs.Reports.{IsTold}
use Rattle.live_run.specs.Calls.{record_name}
use Rattle.live_run.specs.declared.refusal.LiveRefusal.{LiveRefusal}
use Rattle.live_run.specs.Refusals.{is_fixed, live_line}
use Rattle.live_run.specs.Runs.{IsLiveReport, IsRecordReport}

-- a line that is told, by another name
pub told-same : (line other : List ℕ) (before after : Option (List ℕ)) (f g : ℕ) → line ≡ other → IsTold line before after f g → IsTold other before after f g
told-same line other before after f g same told = subst (λ l. IsTold l before after f g) same told

-- a refusal with the line of the record, or want of memory in its place
pub live-report : (words names : List (List ℕ)) (refusal reported : LiveRefusal) (before after : Option (List ℕ)) (f g : ℕ)
    → IsRecordReport words refusal reported before after f g → live_line words names refusal ≡ codes "cannot write " ++ record_name words ++ 10 ∷ []
    → is_fixed refusal ≡ false → IsLiveReport words names refusal reported before after f g
live-report words names refusal reported before after f g (inl done) line values = record {
  kept = inl done.0;
  told = rw done.0 (told-same _ _ before after f g (sym line) done.1);
}
live-report words names refusal reported before after f g (inr dry) line values = record {
  kept = inr (dry.0, values);
  told = rw dry.0 dry.1;
}
