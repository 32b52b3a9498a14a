-- Stored jobs and spans: what is read was written so, and what is written so is read.
use Rattle.std.proofs.Common.{◌≡◌, ℕ, ◌^◌, ◌<◌, true, List, [], ◌∷◌, ◌++◌, length, Ok, refl, sym, ap, subst, ◌∙◌, append_assoc, arith}
use Rattle.std.specs.Prelude.{flat_map, ◌==◌, ⊤}
use Rattle.std.specs.Int.{w32}
use Rattle.std.specs.List.{AllByRecursion}
use Rattle.std.specs.Ordering.{int_eq}
use Rattle.std.proofs.lemmas.Bool.{and_from, and_parts, eqb-true}
use Rattle.std.proofs.lemmas.Bool.Decides.{Decides-int_eq, nat_tests}
use Rattle.std.proofs.lemmas.Slice.Eq.{bytes_eq-Decides}
use Rattle.slot_core.specs.declared.jobs.Key.{Key}
use Rattle.slot_core.specs.declared.jobs.Key.TheVariants.{Offline, Sporadic, Firm, Soft}
use Rattle.slot_core.specs.declared.jobs.Job.{Job}
use Rattle.slot_core.specs.declared.jobs.Span.{Span}
use Rattle.slot_core.specs.Offline.Keys.{key_order}
use Rattle.slot_facts.proofs.Choice.Earliest.{same_from_order}
use Rattle.faults.specs.declared.table_fault.TableFault.{TableFault}
use Rattle.faults.specs.declared.table_fault.TableFault.TheVariants.{WrongJobCount, WrongJob, WrongSpanCount, WrongSpan}
use Rattle.table_codec.specs.declared.layout.Layout.{Layout}
use Rattle.table_codec.specs.Readers.{Unread}
use Rattle.table_codec.specs.Forms.{number_form, same_count, stored}
use Rattle.table_codec.specs.Grammar.{index_form, slots_form, spare_form, key_form, job_form, span_form, is_same_job, is_same_span, jobs_form, spans_form}
use Rattle.table_codec.specs.Sizes.{FitsKey, FitsJob, FitsSpan}
use Rattle.table_codec.proofs.FormLaws.{Takes, Takes-then, takes_nothing, at, step, ok_same, ReadsWhole, ReadsBack, stored_whole, stored_back}
use Rattle.table_codec.proofs.FieldLaws.{index_whole, index_back, slots_whole, slots_back, spare_whole, spare_back, same_count_whole, same_count_back}

-- ---- the same things

-- jobs with the same numbers are one
same_numbers : (a b : ℕ) → (a == b) ≡ true → a ≡ b
same_numbers a b h = eqb-true a b h

same_job : (a b : Job) → is_same_job a b ≡ true → a ≡ b
same_job a b h =
    let (h, declared) = and_parts _ (a.declared == b.declared) h in
    let (h, left) = and_parts _ (a.left == b.left) h in
    let (h, dl) = and_parts _ (a.dl == b.dl) h in
    let (key, est) = and_parts _ (a.est == b.est) h in
    let keys : a.key ≡ b.key = same_from_order a.key b.key ((bytes_eq-Decides (key_order a.key) (key_order b.key)).0 key) in
    λ i. record {
      key = keys i;
      est = same_numbers a.est b.est est i;
      dl = same_numbers a.dl b.dl dl i;
      left = same_numbers a.left b.left left i;
      declared = same_numbers a.declared b.declared declared i;
    }

itself : (n : ℕ) → (n == n) ≡ true
itself n = grind (arith, nat_tests)

same_job-itself : (a : Job) → is_same_job a a ≡ true
same_job-itself a =
    let key = (bytes_eq-Decides (key_order a.key) (key_order a.key)).1 refl in
    and_from _ _ (and_from _ _ (and_from _ _ (and_from _ _ key (itself a.est)) (itself a.dl)) (itself a.left)) (itself a.declared)

-- so are spans
same_span : (a b : Span) → is_same_span a b ≡ true → a ≡ b
same_span a b h =
    let (h, spare) = and_parts _ (int_eq a.spare b.spare) h in
    let (h, work) = and_parts _ (a.work == b.work) h in
    let (start, end) = and_parts (a.start == b.start) (a.end == b.end) h in
    λ i. record {
      start = same_numbers a.start b.start start i;
      end = same_numbers a.end b.end end i;
      work = same_numbers a.work b.work work i;
      spare = (Decides-int_eq a.spare b.spare).0 spare i;
    }

same_span-itself : (a : Span) → is_same_span a a ≡ true
same_span-itself a =
    and_from _ _ (and_from _ _ (and_from _ _ (itself a.start) (itself a.end)) (itself a.work)) ((Decides-int_eq a.spare a.spare).1 refl)

-- ---- a job

key_whole : (layout : Layout) → ReadsWhole (key_form layout) (λ _. ⊤)
key_whole layout = record {
  of_read = λ input key rest h.
      step (index_form.read input) h (λ graph i1 r1 h.
      step (index_form.read i1) h (λ task i2 r2 h.
      step ((slots_form layout).read i2) h (λ instance i3 r3 h.
      let made = Offline graph task instance in
      let same = ok_same (made, i3) (key, rest) h in
      let (t1, _) = index_whole.of_read input graph i1 r1 in
      let (t2, _) = index_whole.of_read i1 task i2 r2 in
      let (t3, _) = (slots_whole layout).of_read i2 instance i3 r3 in
      let takes : Takes input ((key_form layout).written made) i3 = Takes-then t1 (Takes-then t2 (Takes-then t3 (takes_nothing i3))) in
      subst (λ (y : Key × Unread). Takes input ((key_form layout).written y.0) y.1 × ⊤) same (takes, tt))));
}

key_back : (layout : Layout) (key : Key) → FitsKey layout key → ReadsBack (key_form layout) key
key_back layout (Offline graph task instance) fits = record {
  again = λ whole tail.
      let a = (slots_form layout).written instance in
      let b = index_form.written task in
      let d = index_form.written graph in
      let text : (key_form layout).written (Offline graph task instance) ++ tail ≡ d ++ (b ++ (a ++ tail)) = simp append_assoc in
      ap (λ left. (key_form layout).read (at whole left)) text ∙ rw (
        (index_back graph fits.0).again whole (b ++ (a ++ tail)),
        (index_back task fits.1).again whole (a ++ tail),
        (slots_back layout instance fits.2).again whole tail,
      ) refl;
}
key_back layout (Sporadic index row) fits = absurd fits
key_back layout (Firm row) fits = absurd fits
key_back layout (Soft row) fits = absurd fits

told_key : (layout : Layout) (key : Key) → FitsKey layout key → (key_form layout).told key ≡ key
told_key layout (Offline graph task instance) fits = refl
told_key layout (Sporadic index row) fits = absurd fits
told_key layout (Firm row) fits = absurd fits
told_key layout (Soft row) fits = absurd fits

job_whole : (layout : Layout) → ReadsWhole (job_form layout) (λ _. ⊤)
job_whole layout = record {
  of_read = λ input job rest h.
      step ((key_form layout).read input) h (λ key i1 r1 h.
      step ((slots_form layout).read i1) h (λ est i2 r2 h.
      step ((slots_form layout).read i2) h (λ dl i3 r3 h.
      step ((slots_form layout).read i3) h (λ declared i4 r4 h.
      let made : Job = record { key = key; est = est; dl = dl; left = declared; declared = declared } in
      let same = ok_same (made, i4) (job, rest) h in
      let (t1, _) = (key_whole layout).of_read input key i1 r1 in
      let (t2, _) = (slots_whole layout).of_read i1 est i2 r2 in
      let (t3, _) = (slots_whole layout).of_read i2 dl i3 r3 in
      let (t4, _) = (slots_whole layout).of_read i3 declared i4 r4 in
      let takes : Takes input ((job_form layout).written made) i4 = Takes-then t1 (Takes-then t2 (Takes-then t3 (Takes-then t4 (takes_nothing i4)))) in
      subst (λ (y : Job × Unread). Takes input ((job_form layout).written y.0) y.1 × ⊤) same (takes, tt)))));
}

-- a job that is stored: its numbers have room, and it has all its slots left
pub record IsStoredJob (layout : Layout) (job : Job) : Type 0 where
  pub fits : FitsJob layout job
  pub fresh : job.left ≡ job.declared

job_back : (layout : Layout) (job : Job) → FitsJob layout job → ReadsBack (job_form layout) job
job_back layout job fits = record {
  again = λ whole tail.
      let key = (key_form layout).written job.key in
      let est = (slots_form layout).written job.est in
      let dl = (slots_form layout).written job.dl in
      let declared = (slots_form layout).written job.declared in
      let text : (job_form layout).written job ++ tail ≡ key ++ (est ++ (dl ++ (declared ++ tail))) = regroup key est dl declared tail in
      ap (λ left. (job_form layout).read (at whole left)) text ∙ rw (
        (key_back layout job.key fits.key).again whole (est ++ (dl ++ (declared ++ tail))),
        (slots_back layout job.est fits.est).again whole (dl ++ (declared ++ tail)),
        (slots_back layout job.dl fits.dl).again whole (declared ++ tail),
        (slots_back layout job.declared fits.declared).again whole tail,
      ) refl;
}
  where
    regroup : (a b d e tail : List ℕ) → (a ++ (b ++ (d ++ (e ++ [])))) ++ tail ≡ a ++ (b ++ (d ++ (e ++ tail)))
    regroup a b d e tail = simp append_assoc

told_job : (layout : Layout) (job : Job) → IsStoredJob layout job → (job_form layout).told job ≡ job
told_job layout job stored =
    λ i. record job { key = told_key layout job.key stored.fits.key i; left = sym stored.fresh i }

-- ---- a span

span_whole : (layout : Layout) → ReadsWhole (span_form layout) (λ _. ⊤)
span_whole layout = record {
  of_read = λ input span rest h.
      step ((slots_form layout).read input) h (λ start i1 r1 h.
      step ((slots_form layout).read i1) h (λ end i2 r2 h.
      step ((slots_form layout).read i2) h (λ work i3 r3 h.
      step ((spare_form layout).read i3) h (λ spare i4 r4 h.
      let made : Span = record { start = start; end = end; work = work; spare = spare } in
      let same = ok_same (made, i4) (span, rest) h in
      let (t1, _) = (slots_whole layout).of_read input start i1 r1 in
      let (t2, _) = (slots_whole layout).of_read i1 end i2 r2 in
      let (t3, _) = (slots_whole layout).of_read i2 work i3 r3 in
      let (t4, _) = (spare_whole layout).of_read i3 spare i4 r4 in
      let takes : Takes input ((span_form layout).written made) i4 = Takes-then t1 (Takes-then t2 (Takes-then t3 (Takes-then t4 (takes_nothing i4)))) in
      subst (λ (y : Span × Unread). Takes input ((span_form layout).written y.0) y.1 × ⊤) same (takes, tt)))));
}

span_back : (layout : Layout) (span : Span) → FitsSpan layout span → ReadsBack (span_form layout) span
span_back layout span fits = record {
  again = λ whole tail.
      let start = (slots_form layout).written span.start in
      let end = (slots_form layout).written span.end in
      let work = (slots_form layout).written span.work in
      let spare = (spare_form layout).written span.spare in
      let text : (span_form layout).written span ++ tail ≡ start ++ (end ++ (work ++ (spare ++ tail))) = regroup start end work spare tail in
      ap (λ left. (span_form layout).read (at whole left)) text ∙ rw (
        (slots_back layout span.start fits.start).again whole (end ++ (work ++ (spare ++ tail))),
        (slots_back layout span.end fits.end).again whole (work ++ (spare ++ tail)),
        (slots_back layout span.work fits.work).again whole (spare ++ tail),
        (spare_back layout span.spare fits.spare).again whole tail,
      ) refl;
}
  where
    regroup : (a b d e tail : List ℕ) → (a ++ (b ++ (d ++ (e ++ [])))) ++ tail ≡ a ++ (b ++ (d ++ (e ++ tail)))
    regroup a b d e tail = simp append_assoc

-- ---- lists

-- a count that is the computed one
count_takes : (wrong : ℕ → ℕ → TableFault) (n : ℕ) (input : Unread) (m : ℕ) (rest : Unread) → (same_count wrong n).read input ≡ Ok (m, rest) → Takes input ((number_form w32).written n) rest
count_takes wrong n input m rest h =
    let (takes, same) = (same_count_whole wrong n).of_read input m rest h in
    subst (λ k. Takes input ((number_form w32).written k) rest) (same_numbers m n same.0) takes

-- the jobs of a table
pub jobs_whole : (layout : Layout) (computed : List Job) → ReadsWhole (jobs_form layout computed) (λ jobs. computed ≡ jobs)
jobs_whole layout computed = record {
  of_read = λ input jobs rest h.
      step ((same_count WrongJobCount (length computed)).read input) {f = λ _. (stored (job_form layout) is_same_job WrongJob computed).read} h (λ n after r1 h.
      let first = count_takes WrongJobCount (length computed) input n after r1 in
      let (second, same) = (stored_whole is_same_job WrongJob (job_whole layout) same_job computed).of_read after jobs rest h in
      let first : Takes input ((number_form w32).written (length jobs)) after = subst (λ (js : List Job). Takes input ((number_form w32).written (length js)) after) same first in
      (Takes-then first second, same));
}

pub jobs_back : (layout : Layout) (jobs : List Job) → length jobs < 2 ^ 32 → AllByRecursion (IsStoredJob layout) jobs → ReadsBack (jobs_form layout jobs) jobs
jobs_back layout jobs few all = record {
  again = λ whole tail.
      let count = (number_form w32).written (length jobs) in
      let listed = flat_map (job_form layout).written jobs in
      ap (λ left. (jobs_form layout jobs).read (at whole left)) (append_assoc count listed tail)
      ∙ rw ((same_count_back WrongJobCount (length jobs) few).again whole (listed ++ tail)) ((stored_back (job_form layout) is_same_job WrongJob same_job-itself jobs (each_job jobs all)).again whole tail);
}
  where
    each_job : (js : List Job) → AllByRecursion (IsStoredJob layout) js → AllByRecursion (λ j. ReadsBack (job_form layout) j × ((job_form layout).told j ≡ j)) js
    each_job [] all = tt
    each_job (j ∷ js) all = ((job_back layout j all.0.fits, told_job layout j all.0), each_job js all.1)

-- and the spans
pub spans_whole : (layout : Layout) (computed : List Span) → ReadsWhole (spans_form layout computed) (λ spans. computed ≡ spans)
spans_whole layout computed = record {
  of_read = λ input spans rest h.
      step ((same_count WrongSpanCount (length computed)).read input) {f = λ _. (stored (span_form layout) is_same_span WrongSpan computed).read} h (λ n after r1 h.
      let first = count_takes WrongSpanCount (length computed) input n after r1 in
      let (second, same) = (stored_whole is_same_span WrongSpan (span_whole layout) same_span computed).of_read after spans rest h in
      let first : Takes input ((number_form w32).written (length spans)) after = subst (λ (ss : List Span). Takes input ((number_form w32).written (length ss)) after) same first in
      (Takes-then first second, same));
}

pub spans_back : (layout : Layout) (spans : List Span) → length spans < 2 ^ 32 → AllByRecursion (FitsSpan layout) spans → ReadsBack (spans_form layout spans) spans
spans_back layout spans few all = record {
  again = λ whole tail.
      let count = (number_form w32).written (length spans) in
      let listed = flat_map (span_form layout).written spans in
      ap (λ left. (spans_form layout spans).read (at whole left)) (append_assoc count listed tail)
      ∙ rw ((same_count_back WrongSpanCount (length spans) few).again whole (listed ++ tail)) ((stored_back (span_form layout) is_same_span WrongSpan same_span-itself spans (each_span spans all)).again whole tail);
}
  where
    each_span : (ss : List Span) → AllByRecursion (FitsSpan layout) ss → AllByRecursion (λ s. ReadsBack (span_form layout) s × ((span_form layout).told s ≡ s)) ss
    each_span [] all = tt
    each_span (s ∷ ss) all = ((span_back layout s all.0, refl), each_span ss all.1)
