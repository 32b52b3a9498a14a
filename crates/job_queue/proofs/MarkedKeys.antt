-- Counts of marks: they stay those of the jobs, and where one is zero no job has a key of that mark.
use Rattle.std.proofs.Common.{◌≡◌, ℕ, ◌+◌, ◌-◌, ◌<◌, ◌==◌, cond, List, [], length, replicate, get_or, set, sym, ap, ◌∙◌, inl, inr, arith}
use Rattle.std.specs.Prelude.{count_by, sum_by}
use Rattle.std.proofs.lemmas.Bool.{cases_eq, cond-true, cond-false, eq-eqb, false_from_ne_true, ne_eqb}
use Rattle.std.proofs.lemmas.List.{get_or-replicate, get_or-set_same, get_or-set_other, length-replicate, length-set}
use Rattle.slot_core.specs.declared.jobs.Key.{Key}
use Rattle.slot_core.specs.declared.jobs.Job.{Job}
use Rattle.slot_facts.proofs.Choice.Earliest.{same_from_key}
use Rattle.slot_facts.proofs.Lists.Apart.{count-none}
use Rattle.slot_facts.proofs.Lists.SameItems.{counted}
use Rattle.job_queue.specs.declared.marked.TheConstants.{MARK_COUNT}
use Rattle.job_queue.specs.Marks.{AreCounted, key_mark}
use Rattle.job_queue.specs.Queues.{after_run_at}
use Rattle.job_queue.proofs.KeptQueues.{sum_by-after_run_at}
use Rattle.job_queue.proofs.Searches.{has_key}

-- no job has a mark
pub AreCounted-none : (counts : List ℕ) (n : ℕ) → counts ≡ replicate n 0 → n ≡ MARK_COUNT → AreCounted [] counts
AreCounted-none counts n zeros all =
    record {
      all = ap length zeros ∙ length-replicate n 0 ∙ all;
      counted = λ mark d low told. ap (λ ns. get_or ns mark d) zeros ∙ get_or-replicate n mark 0 d (omega arith);
    }

-- a job is counted at its mark
own : (mark : ℕ) (job : Job) → mark ≡ key_mark job.key → cond {A = ℕ} (key_mark job.key == mark) 1 0 ≡ 1
own mark job same =
    cond-true {A = ℕ} (key_mark job.key == mark) 1 0 (eq-eqb (key_mark job.key) mark (sym same))

-- and at no other
not_own : (mark : ℕ) (job : Job) → (mark ≡ key_mark job.key → ⊥) → cond {A = ℕ} (key_mark job.key == mark) 1 0 ≡ 0
not_own mark job other =
    cond-false {A = ℕ} (key_mark job.key == mark) 1 0 (ne_eqb (key_mark job.key) mark (λ e. other (sym e)))

-- one job more
pub AreCounted-more : (old new : List Job) (counts : List ℕ) (job : Job) (m count value : ℕ) → AreCounted old counts → m ≡ key_mark job.key → m < MARK_COUNT → ((f : Job → ℕ) → sum_by f new ≡ sum_by f old + f job) → count ≡ get_or counts m count → (value < 255 → value ≡ count + 1) → AreCounted new (set counts m value)
AreCounted-more old new counts job m count value marked its low more is next =
    record {
      all = length-set counts m value ∙ marked.all;
      counted = λ mark d inside told.
          let grown = more (λ (j : Job). cond (key_mark j.key == mark) 1 0) in
          elim (cases_eq mark m) [
            | inl same ↦
                let here = ap (λ k. get_or (set counts m value) k d) same ∙ get_or-set_same counts m value d (omega (arith, marked.all)) in
                let was = ap (λ k. get_or counts k count) same ∙ sym is in
                let step = next (omega (arith, told, here)) in
                let before = marked.counted mark count inside (omega (arith, told, here, was, step)) in
                omega (arith, here, was, step, before, grown, own mark job (same ∙ its))
            | inr other ↦
                let kept = get_or-set_other counts m mark value d other in
                let before = marked.counted mark d inside (omega (arith, told, kept)) in
                omega (arith, kept, before, grown, not_own mark job (λ e. other (e ∙ sym its)))
          ];
    }

-- one job less
pub AreCounted-less : (old new : List Job) (counts : List ℕ) (job : Job) (m count value : ℕ) → AreCounted old counts → m ≡ key_mark job.key → m < MARK_COUNT → ((f : Job → ℕ) → sum_by f new + f job ≡ sum_by f old) → count ≡ get_or counts m count → (value < 255 → (count < 255) × (value ≡ count - 1)) → AreCounted new (set counts m value)
AreCounted-less old new counts job m count value marked its low less is next =
    record {
      all = length-set counts m value ∙ marked.all;
      counted = λ mark d inside told.
          let shrunk = less (λ (j : Job). cond (key_mark j.key == mark) 1 0) in
          elim (cases_eq mark m) [
            | inl same ↦
                let here = ap (λ k. get_or (set counts m value) k d) same ∙ get_or-set_same counts m value d (omega (arith, marked.all)) in
                let was = ap (λ k. get_or counts k count) same ∙ sym is in
                let step = next (omega (arith, told, here)) in
                let before = marked.counted mark count inside (omega (arith, was, step.0)) in
                omega (arith, here, was, step.1, before, shrunk, own mark job (same ∙ its))
            | inr other ↦
                let kept = get_or-set_other counts m mark value d other in
                let before = marked.counted mark d inside (omega (arith, told, kept)) in
                omega (arith, kept, before, shrunk, not_own mark job (λ e. other (e ∙ sym its)))
          ];
    }

-- one that has run
pub AreCounted-run : (jobs : List Job) (counts : List ℕ) (i : ℕ) → AreCounted jobs counts → AreCounted (after_run_at i jobs) counts
AreCounted-run jobs counts i marked =
    record {
      all = marked.all;
      counted = λ mark d inside told.
          omega (arith, marked.counted mark d inside told, sum_by-after_run_at (λ (k : Key). cond (key_mark k == mark) 1 0) i jobs);
    }

-- no job has a key whose mark none has
pub count_by-unmarked : (key : Key) (jobs : List Job) (counts : List ℕ) (m count : ℕ) → AreCounted jobs counts → m ≡ key_mark key → m < MARK_COUNT → count ≡ get_or counts m count → count ≡ 0 → count_by (has_key key) jobs ≡ 0
count_by-unmarked key jobs counts m count marked its inside is none =
    let has_mark = λ (j : Job). key_mark j.key == m in
    let all = marked.counted m count inside (omega (arith, is, none)) in
    count-none (has_key key) jobs (λ o at. false_from_ne_true (has_key key o) (λ same. absurd (omega (arith, all, is, none, counted has_mark jobs o at (eq-eqb (key_mark o.key) m (ap key_mark (same_from_key o.key key same) ∙ sym its))))))
