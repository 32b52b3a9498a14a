-- The densest arrivals of a sporadic task, one after the other, and those of all tasks.
use Rattle.std.proofs.Common.{◌≡◌, ℕ, zero, suc, ◌+◌, ◌*◌, ◌/◌, ◌<◌, ◌≤◌, max, true, List, [], ◌∷◌, ◌++◌, append-nil, append_assoc, drop, get_or, length, map, Some, subst, refl, sym, ap, ap₂, ◌∙◌, arith}
use Rattle.std.specs.Prelude.{slice_get}
use Rattle.std.specs.List.{range_with_len}
use Rattle.std.proofs.Math.Nat.{div-mul-le_self}
use Rattle.std.proofs.lemmas.List.Elements.{recursion_from_All}
use Rattle.std.proofs.lemmas.Option.{slice_get_read}
use Rattle.slot_core.specs.declared.TheConstants.{HORIZON_LIMIT, TIME_LIMIT}
use Rattle.slot_core.specs.declared.tasks.Sporadic.{Sporadic}
use Rattle.slot_core.specs.declared.tasks.TaskSet.{TaskSet}
use Rattle.slot_core.specs.Keeping.Executives.{Executive, IsKept}
use Rattle.slot_core.specs.Runs.Scenes.{horizon}
use Rattle.slot_core.specs.Sets.Ranges.{is_sound, sporadic_in_range}
use Rattle.slot_core.specs.Feasibility.Sporadics.{arrivals_due, densest_arrivals, densest_pattern}
use Rattle.slot_facts.proofs.Demand.Arrivals.{arrivals_due-none}
use Rattle.slot_facts.proofs.Lists.Members.{AllByRecursion-at_Has, Has-from_slice_get, passes_from_list_all}
use Rattle.slot_facts.proofs.Offline.Jobs.{cycle-at_most, cycle-positive}
use Rattle.slot_facts.proofs.Sets.Ranges.{SetRanges-from_sound}
use Rattle.slot_facts.proofs.Patterns.Counts.{arrivals_due-first, arrivals_due-from}

-- so many arrivals of a task from a time on
abbrev spaced : ℕ → Sporadic → ℕ → ℕ → List (ℕ × ℕ)
spaced i s b n = map (λ m. (i, b + m * s.separation)) (range_with_len 0 n)

-- the densest ones are so many
densest-spaced : (i : ℕ) (s : Sporadic) (next r x : ℕ) → densest_arrivals i s next r x ≡ spaced i s (max r next) (arrivals_due s 0 (max r next) x)
densest-spaced i s next r x = ap (spaced i s (max r next)) (arrivals_due-from s next r x)

-- the first of them comes as soon as it may
pub densest-start : (i : ℕ) (s : Sporadic) (next r x : ℕ) → densest_arrivals i s next r x ≡ densest_arrivals i s 0 (max r next) x
densest-start i s next r x =
    let same : max r next ≡ max (max r next) 0 = omega arith in
    densest-spaced i s next r x
    ∙ ap (λ b. spaced i s b (arrivals_due s 0 b x)) same
    ∙ sym (densest-spaced i s 0 (max r next) x)

-- counted from the next place on, they are those from a separation later
later-places : (i a b n : ℕ) (s : Sporadic) → map {B = ℕ × ℕ} (λ m. (i, b + m * s.separation)) (range_with_len (a + 1) n) ≡ map {B = ℕ × ℕ} (λ m. (i, (b + s.separation) + m * s.separation)) (range_with_len a n)
later-places i a b zero s = refl
later-places i a b (suc n) s =
    let same : b + (a + 1) * s.separation ≡ (b + s.separation) + a * s.separation = omega arith in
    ap₂ (λ t ts. (i, t) ∷ ts) same (later-places i (a + 1) b n s)

-- one that is due comes first, and the others from a separation later on
pub densest-first : (i : ℕ) (s : Sporadic) (b x : ℕ) → 1 ≤ s.separation → b + s.deadline ≤ x → densest_arrivals i s 0 b x ≡ (i, b) ∷ densest_arrivals i s 0 (b + s.separation) x
densest-first i s b x apart due =
    let n = arrivals_due s 0 (b + s.separation) x in
    let here : max b 0 ≡ b = omega arith in
    let there : b + s.separation ≡ max (b + s.separation) 0 = omega arith in
    let first : b + 0 * s.separation ≡ b = omega arith in
    let more : 1 + n ≡ suc n = omega arith in
    densest-spaced i s 0 b x
    ∙ ap (λ t. spaced i s t (arrivals_due s 0 t x)) here
    ∙ ap (spaced i s b) (arrivals_due-first s b x apart due ∙ more)
    ∙ ap₂ (λ t ts. (i, t) ∷ ts) first (later-places i 0 b n s)
    ∙ ap (λ ts. (i, b) ∷ ts) (ap (λ t. spaced i s t (arrivals_due s 0 t x)) there ∙ sym (densest-spaced i s 0 (b + s.separation) x))

-- where the first is due later there is none
pub densest-none : (i : ℕ) (s : Sporadic) (b x : ℕ) → x < b + s.deadline → densest_arrivals i s 0 b x ≡ []
densest-none i s b x late =
    let here : max b 0 ≡ b = omega arith in
    densest-spaced i s 0 b x
    ∙ ap (λ t. spaced i s t (arrivals_due s 0 t x)) here
    ∙ ap (spaced i s b) (arrivals_due-none s b x late)

-- one more arrival is listed
pub listed-more : (i : ℕ) (s : Sporadic) (b later x : ℕ) (old new whole : List (ℕ × ℕ)) → 1 ≤ s.separation → b + s.deadline ≤ x → b + s.separation ≡ later → old ++ densest_arrivals i s 0 b x ≡ whole → new ≡ old ++ (i, b) ∷ [] → new ++ densest_arrivals i s 0 later x ≡ whole
listed-more i s b later x old new whole apart due next listed pushed =
    ap₂ (λ xs t. xs ++ densest_arrivals i s 0 t x) pushed (sym next)
    ∙ append_assoc old ((i, b) ∷ []) (densest_arrivals i s 0 (b + s.separation) x)
    ∙ ap (λ xs. old ++ xs) (sym (densest-first i s b x apart due))
    ∙ listed

-- all are listed where the next one is due later
pub listed-all : (i : ℕ) (s : Sporadic) (b x : ℕ) (old whole : List (ℕ × ℕ)) → x < b + s.deadline → old ++ densest_arrivals i s 0 b x ≡ whole → old ≡ whole
listed-all i s b x old whole late listed =
    sym (append-nil old) ∙ ap (λ xs. old ++ xs) (sym (densest-none i s b x late)) ∙ listed

-- an item at its place is the first of those from there on
drop-at : {X : Type 0} (xs : List X) (k : ℕ) (x : X) → slice_get xs k ≡ Some x → drop k xs ≡ x ∷ drop (k + 1) xs
drop-at xs k x at =
    let next : suc k ≡ k + 1 = omega arith in
    at_place xs k x at ∙ ap (λ n. x ∷ drop n xs) next
  where
    at_place : {X : Type 0} (xs : List X) (k : ℕ) (x : X) → slice_get xs k ≡ Some x → drop k xs ≡ x ∷ drop (suc k) xs
    at_place [] k x at = absurd (cc at)
    at_place (y ∷ xs) zero x at = let same : y ≡ x = cc at in ap (λ z. z ∷ xs) same
    at_place (y ∷ xs) (suc k) x at = at_place xs k x at

-- the arrivals of one task more are listed
pub tasks-more : (k : ℕ) (ss : List Sporadic) (ns : List ℕ) (s : Sporadic) (n r x : ℕ) (old new whole : List (ℕ × ℕ)) → slice_get ss k ≡ Some s → slice_get ns k ≡ Some n → old ++ densest_pattern k (drop k ss) (drop k ns) r x ≡ whole → new ≡ old ++ densest_arrivals k s n r x → new ++ densest_pattern (k + 1) (drop (k + 1) ss) (drop (k + 1) ns) r x ≡ whole
tasks-more k ss ns s n r x old new whole task next listed pushed =
    let rest = densest_pattern (k + 1) (drop (k + 1) ss) (drop (k + 1) ns) r x in
    ap (λ xs. xs ++ rest) pushed
    ∙ append_assoc old (densest_arrivals k s n r x) rest
    ∙ ap₂ (λ ts us. old ++ densest_pattern k ts us r x) (sym (drop-at ss k s task)) (sym (drop-at ns k n next))
    ∙ listed

-- the next legal arrival of a task that an executive keeps is near
pub next-near : (exec : Executive) (index next : ℕ) → IsKept exec → exec.scene.time ≤ TIME_LIMIT → slice_get exec.scene.nexts index ≡ Some next → next < HORIZON_LIMIT
next-near exec index next kept early at =
    let reach = AllByRecursion-at_Has (λ next. next ≤ exec.scene.time + exec.plan.cycle) exec.scene.nexts next (recursion_from_All _ exec.scene.nexts kept.bounds.reach) (Has-from_slice_get exec.scene.nexts index next at) in
    omega (arith, reach, kept.plan.cycle, cycle-at_most exec.plan.tasks kept.plan.sound)

-- the time up to which arrivals are shown is near too
pub until-near : (exec : Executive) (until : ℕ) → IsKept exec → exec.scene.time ≤ TIME_LIMIT → until ≤ horizon exec.plan.cycle exec.scene.time → until < HORIZON_LIMIT
until-near exec until kept early near =
    let t = exec.scene.time in
    let cycle = exec.plan.cycle in
    let some : 1 ≤ cycle = omega (arith, kept.plan.cycle, cycle-positive exec.plan.tasks kept.plan.sound) in
    let most : t / cycle * cycle ≤ t = div-mul-le_self t cycle in
    omega (arith, near, most, kept.plan.cycle, cycle-at_most exec.plan.tasks kept.plan.sound)

-- the tasks of a sound set are in range
pub task-in_range : (set : TaskSet) (index : ℕ) (s : Sporadic) → is_sound set ≡ true → slice_get set.sporadics index ≡ Some s → sporadic_in_range s ≡ true
task-in_range set index s sound at =
    passes_from_list_all sporadic_in_range set.sporadics s (SetRanges-from_sound set sound).sporadics (Has-from_slice_get set.sporadics index s at)

-- the task that a loop over the tasks of a set has come to
pub task-at : (set tasks : TaskSet) (items : List Sporadic) (index : ℕ) (task : Sporadic) → items ≡ tasks.sporadics → tasks ≡ set → index < length items → task ≡ get_or items index task → slice_get set.sporadics index ≡ Some task
task-at set tasks items index task lent same within read =
    subst
    (λ (ss : List Sporadic). slice_get ss index ≡ Some task)
    (lent ∙ ap (λ (t : TaskSet). t.sporadics) same)
    (slice_get_read items (length items) index task refl within read)
