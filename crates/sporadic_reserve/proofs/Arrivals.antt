-- What the arrival of a task changes.
use Rattle.std.proofs.Common.{◌≡◌, ℕ, zero, suc, ◌+◌, ◌<◌, List, [], ◌∷◌, ◌++◌, length, map, get_or, take, drop, Some, refl, ap, ◌∙◌, subst, arith}
use Rattle.std.specs.Prelude.{slice_get, slice_set, IfSome}
use Rattle.std.proofs.Math.Seq.{take-append_seam}
use Rattle.slot_core.specs.declared.tasks.Sporadic.{Sporadic}
use Rattle.sporadic_reserve.specs.declared.rates.Rate.{Rate}
use Rattle.sporadic_reserve.specs.Reserves.{Reserved}
use Rattle.sporadic_reserve.specs.Rates.{reserved, task_of}
use Rattle.sporadic_reserve.proofs.Demands.{no_rate}

-- the task at a place is that of the rate there
pub task_at : (rates : List Rate) (i : ℕ) → i < length (map task_of rates) → slice_get (map task_of rates) i ≡ Some (task_of (get_or rates i no_rate))
task_at [] i within = absurd (omega arith)
task_at (rate ∷ rates) zero within = refl
task_at (rate ∷ rates) (suc i) within = task_at rates i (omega arith)

-- rates that were written whole are what was written
pub written_whole : (rates written : List Rate) → length written ≡ length rates → take (length rates) (written ++ drop (length written) rates) ≡ written
written_whole rates written same =
    subst (λ n. take n (written ++ drop (length written) rates) ≡ written) same (take-append_seam written (drop (length written) rates))

-- rates of which one is due a separation later stand for the tasks with that next arrival
pub Reserved-arrived : (rates read after kept : List Rate) (before : Reserved) (i t separation : ℕ) → reserved rates ≡ before → read ≡ rates → kept ≡ after → i < length before.sporadics → separation ≡ (get_or read i no_rate).separation → (reserved after).sporadics ≡ (reserved rates).sporadics → (reserved after).nexts ≡ slice_set (reserved rates).nexts i (t + separation) → IfSome (slice_get before.sporadics i) (λ (s : Sporadic). reserved kept ≡ record before { nexts = slice_set before.nexts i (t + s.separation) })
Reserved-arrived rates read after kept before i t separation view same is within gap tasks nexts =
    let tasks_are : (reserved rates).sporadics ≡ before.sporadics = ap (λ (r : Reserved). r.sporadics) view in
    let nexts_are : (reserved rates).nexts ≡ before.nexts = ap (λ (r : Reserved). r.nexts) view in
    let found : slice_get before.sporadics i ≡ Some (task_of (get_or rates i no_rate)) = subst (λ (ss : List Sporadic). i < length ss → slice_get ss i ≡ Some (task_of (get_or rates i no_rate))) tasks_are (task_at rates i) within in
    let gap' : separation ≡ (get_or rates i no_rate).separation = rw same at gap in
    let nexts_after : (reserved after).nexts ≡ slice_set before.nexts i (t + (get_or rates i no_rate).separation) = nexts ∙ ap (λ (ns : List ℕ). slice_set ns i (t + separation)) nexts_are ∙ ap (λ n. slice_set before.nexts i (t + n)) gap' in
    let stays : (reserved after).sporadics ≡ before.sporadics = tasks ∙ tasks_are in
    let now : reserved kept ≡ reserved after = ap reserved is in
    rw found (cc)
