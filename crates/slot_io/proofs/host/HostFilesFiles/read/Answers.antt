use Rattle.std.proofs.Common.{◌≡◌, ◌≢◌, ◌∙◌, Result, Ok, Err, Some, refl, ap, arith}
use Rattle.std.proofs.Math.Nat.{le_refl}
use Rattle.std.proofs.lemmas.Result.{err_from_is_err_and}
use Rattle.std.specs.Result.{IsErrAnd}
use Rattle.slot_io.specs.declared.files.ReadFault.{ReadFault}
use Rattle.slot_io.specs.declared.files.ReadFault.TheVariants.{Memory, Failed}
use Rattle.slot_io.proofs.host.HostFilesFiles.read.Goals as goal

-- an answer of bytes is no failure
bytes_have_not_failed : {A : Type 0} (bytes : A) → ◌≢◌ {A = Result A ReadFault} (Ok bytes) (Err Failed)
bytes_have_not_failed bytes fails = cc

-- where the error is want of memory, that is the answer
answer_is : {A : Type 0} (answer : Result A ReadFault) → IsErrAnd answer (λ fault. fault ≡ Memory) → answer ≡ Err Memory
answer_is answer ends = let fault = err_from_is_err_and answer ends in fault.1 ∙ ap Err fault.2

-- and such an answer is no failure
memory_has_not_failed : {A : Type 0} (answer : Result A ReadFault) → IsErrAnd answer (λ fault. fault ≡ Memory) → answer ≢ Err Failed
memory_has_not_failed answer ends fails = let is = answer_is answer ends in cc

pub returns-in_err-copy : goal.returns-in_err-copy
returns-in_err-copy g c = record {
  short = rw (answer_is c.from_residual.result c.from_residual.ensures.1) tt;
  first = rw (answer_is c.from_residual.result c.from_residual.ensures.1) tt;
  keeps = refl;
  counted = le_refl _;
  failed = λ fails. absurd (memory_has_not_failed c.from_residual.result c.from_residual.ensures.1 fails);
  named = λ fails. absurd (memory_has_not_failed c.from_residual.result c.from_residual.ensures.1 fails);
  no_fault = λ _. refl;
  no_blame = λ _. refl;
  gives = rw (answer_is c.from_residual.result c.from_residual.ensures.1) tt;
  gives_none = rw (answer_is c.from_residual.result c.from_residual.ensures.1) refl;
}

pub returns-in-Ok : goal.returns-in-Ok
returns-in-Ok g c = record {
  short = c.in-Ok.ensures;
  first = tt;
  keeps = refl;
  counted = le_refl _;
  failed = λ fails. absurd (bytes_have_not_failed c.in-Ok.bytes fails);
  named = λ fails. absurd (bytes_have_not_failed c.in-Ok.bytes fails);
  no_fault = λ _. refl;
  no_blame = λ _. refl;
  gives =
      ap (λ name. Some (name, c.len-self.result)) c.in_ok-copy.ensures.ok
      ∙ ap (λ length. Some (c.args.name.now, length)) c.len-self.ensures;
  gives_none = tt;
}

pub returns-in-Err-Memory : goal.returns-in-Err-Memory
returns-in-Err-Memory g c = record {
  short = tt;
  first = tt;
  keeps = refl;
  counted = le_refl _;
  failed = λ fails. absurd (memory_has_not_failed _ refl fails);
  named = λ fails. absurd (memory_has_not_failed _ refl fails);
  no_fault = λ _. refl;
  no_blame = λ _. refl;
  gives = tt;
  gives_none = refl;
}

pub returns-in-Err-Failed : goal.returns-in-Err-Failed
returns-in-Err-Failed g c = record {
  short = tt;
  first = tt;
  keeps = refl;
  counted = omega arith;
  failed = λ _. rw c.one_more-self.ensures (le_refl _);
  named = λ _. ap Some c.in_ok-copy.ensures.ok;
  no_fault = λ other. absurd (other refl);
  no_blame = λ other. absurd (other refl);
  gives = tt;
  gives_none = refl;
}
