-- A turn of a change: what it is by the parts, and what it changes in them.
use Rattle.std.proofs.Common.{◌≡◌, ℕ, ◌≤◌, true, false, List, [], ◌∷◌, length, Option, Some, None, cond, refl, sym, ap, ap₂, subst, ◌∙◌, inl, arith}
use Rattle.std.specs.Prelude.{All, nat_le, slice_get}
use Rattle.std.proofs.lemmas.List.Elements.{recursion_from_All}
use Rattle.slot_core.specs.declared.jobs.Key.{Key}
use Rattle.slot_core.specs.declared.jobs.Job.{Job}
use Rattle.slot_core.specs.Claims.Safety.{after_run, after_slot}
use Rattle.slot_core.specs.Offline.Keys.{is_offline, same_key}
use Rattle.slot_core.specs.Runs.Choice.{earliest, ready}
use Rattle.slot_core.specs.Runs.Matches.{HaveSameItems}
use Rattle.slot_facts.proofs.Choice.Earliest.{IsEarliest-from_earliest}
use Rattle.slot_facts.proofs.Choice.Runs.{run_of_another, run_of_first}
use Rattle.slot_facts.proofs.Choice.SameEarliest.{earliest_of, one_key-earliest}
use Rattle.slot_facts.proofs.Lists.ApartKeys.{same_key-itself, same_member-from_apart}
use Rattle.slot_facts.proofs.Lists.Members.{Has, Has-filter_passes}
use Rattle.slot_facts.proofs.Lists.Permuted.{Has-permuted}
use Rattle.slot_facts.proofs.Lists.SameItems.{counted, jobs-same_items, same-after_run, same-sym}
use Rattle.slot_facts.proofs.Offline.DistinctKeys.{IsApart}
use Rattle.mode_switch.specs.Keeping.{HasItsJob, carried_after, carried_left, front_run, own_after}
use Rattle.mode_switch.specs.Runs.{ran_in, turn_between}
use Rattle.mode_switch.specs.declared.turns.Turn.{Turn}
use Rattle.mode_switch.specs.declared.turns.Turn.TheVariants.{Idle, Old, New}
use Rattle.scene_steps.proofs.Same.SameSearches.{Has-same}

-- of jobs of distinct keys the earliest is the same, however they are listed
pub earliest-any_order : (xs ys : List Job) → HaveSameItems xs ys → IsApart (λ (j : Job). j.key) ys → earliest xs ≡ earliest ys
earliest-any_order xs ys same apart = by_both (earliest xs) (earliest ys) refl refl
  where
    by_both : (a b : Option Job) → earliest xs ≡ a → earliest ys ≡ b → a ≡ b
    by_both None None ea eb = refl
    by_both None (Some b) ea eb =
        let at = (IsEarliest-from_earliest ys b eb).among in
        absurd (earliest_of xs b (Has-same ys xs b (same-sym xs ys same) at) ea)
    by_both (Some a) None ea eb =
        let at = (IsEarliest-from_earliest xs a ea).among in
        absurd (earliest_of ys a (Has-same xs ys a same at) eb)
    by_both (Some a) (Some b) ea eb =
        let first = IsEarliest-from_earliest xs a ea in
        let second = IsEarliest-from_earliest ys b eb in
        let key = one_key-earliest xs ys a b same first second in
        ap (λ (j : Job). Some j) (same_member-from_apart (λ (j : Job). j.key) ys a b apart (Has-same xs ys a same first.among) second.among key)

-- the jobs of two lists have other keys: no job of the first is offline, each of the second is
pub record AreSides (first second : List Job) : Type 0 where
  pub carried : (job : Job) → Has first job → is_offline job.key ≡ false
  pub own : (job : Job) → Has second job → is_offline job.key ≡ true

-- a turn between the first carried job and the earliest ready one of the others
pub record IsTurn (t : ℕ) (carried own : List Job) (turn : Turn) : Type 0 where
  pub is : turn ≡ turn_between (slice_get carried 0) (earliest (ready t own))

-- an old turn is that of the first carried job
pub first-from_old : (first other : Option Job) (key : Key) → turn_between first other ≡ Old key → (job : Job) × (first ≡ Some job) × (job.key ≡ key)
first-from_old None None key e = absurd (cc e)
first-from_old None (Some other) key e = absurd (cc e)
first-from_old (Some job) None key e = (job, refl, cc e)
first-from_old (Some job) (Some other) key e =
    elim (nat_le job.dl other.dl) as (λ b. cond b (Old job.key) (New other.key) ≡ Old key → (j : Job) × (◌≡◌ {A = Option Job} (Some job) (Some j)) × (j.key ≡ key)) [
      | true ↦ λ f. (job, refl, cc f)
      | false ↦ λ f. absurd (cc f)
    ] e

-- a new one that of the earliest other one
pub other-from_new : (first other : Option Job) (key : Key) → turn_between first other ≡ New key → (job : Job) × (other ≡ Some job) × (job.key ≡ key)
other-from_new None None key e = absurd (cc e)
other-from_new None (Some other) key e = (other, refl, cc e)
other-from_new (Some job) None key e = absurd (cc e)
other-from_new (Some job) (Some other) key e =
    elim (nat_le job.dl other.dl) as (λ b. cond b (Old job.key) (New other.key) ≡ New key → (j : Job) × (◌≡◌ {A = Option Job} (Some other) (Some j)) × (j.key ≡ key)) [
      | true ↦ λ f. absurd (cc f)
      | false ↦ λ f. (other, refl, cc f)
    ] e

-- there is none exactly where there is neither
idle_not_both : (job other : Job) → turn_between (Some job) (Some other) ≡ Idle → ⊥
idle_not_both job other e =
    elim (nat_le job.dl other.dl) as (λ b. cond b (Old job.key) (New other.key) ≡ Idle → ⊥) [
      | true ↦ λ f. cc f
      | false ↦ λ f. cc f
    ] e

pub none-from_idle : (first other : Option Job) → turn_between first other ≡ Idle → (first ≡ None) × (other ≡ None)
none-from_idle None None e = (refl, refl)
none-from_idle None (Some other) e = absurd (cc e)
none-from_idle (Some job) None e = absurd (cc e)
none-from_idle (Some job) (Some other) e = absurd (idle_not_both job other e)

some_first : (jobs : List Job) (job : Job) → slice_get jobs 0 ≡ Some job → 1 ≤ length jobs
some_first [] job e = absurd (cc e)
some_first (j ∷ jobs) job e = omega arith

-- the ready job that is chosen is one of the list
pub chosen_one : (t : ℕ) (own : List Job) (job : Job) → earliest (ready t own) ≡ Some job → Has own job
chosen_one t own job e =
    (Has-filter_passes (λ (j : Job). nat_le j.est t) own job (IsEarliest-from_earliest (ready t own) job e).among).0

-- so the turn may run
pub HasItsJob-turn : (t : ℕ) (carried own : List Job) (turn : Turn) → IsTurn t carried own turn → HasItsJob turn carried own
HasItsJob-turn t carried own Idle is_turn = tt
HasItsJob-turn t carried own (Old key) is_turn =
    let first = first-from_old (slice_get carried 0) (earliest (ready t own)) key (sym is_turn.is) in
    some_first carried first.0 first.1
HasItsJob-turn t carried own (New key) is_turn =
    let other = other-from_new (slice_get carried 0) (earliest (ready t own)) key (sym is_turn.is) in
    counted (λ (j : Job). same_key j.key key) own other.0 (chosen_one t own other.0 other.1) (same_key-itself other.0.key key other.2)

-- a key of the one side is none of the other
other_side : (a b : Key) → is_offline a ≡ true → is_offline b ≡ false → a ≡ b → ⊥
other_side a b offline other e =
    let f : true ≡ false = sym offline ∙ ap is_offline e ∙ other in
    cc f

-- a turn runs a slot of the carried jobs as of any list
pub carried-ran : (t : ℕ) (carried own : List Job) (turn : Turn) → AreSides carried own → IsApart (λ (j : Job). j.key) carried → All (λ (j : Job). 1 ≤ j.left) carried → IsTurn t carried own turn → after_slot (ran_in turn) carried ≡ carried_after turn carried
carried-ran t carried own Idle sides apart left is_turn = refl
carried-ran t [] own (Old key) sides apart left is_turn =
    absurd (cc (first-from_old None (earliest (ready t own)) key (sym is_turn.is)).1)
carried-ran t (job ∷ carried) own (Old key) sides apart left is_turn =
    let first = first-from_old (Some job) (earliest (ready t own)) key (sym is_turn.is) in
    let one : job ≡ first.0 = cc first.1 in
    let same : job.key ≡ key = ap (λ (j : Job). j.key) one ∙ first.2 in
    let each = recursion_from_All (λ (j : Job). 1 ≤ j.left) (job ∷ carried) left in
    let rest = run_of_another job.key carried apart.0 each.1 in
    subst (λ k. after_run k (job ∷ carried) ≡ front_run (job ∷ carried)) same (run_of_first job carried rest)
carried-ran t carried own (New key) sides apart left is_turn =
    let other = other-from_new (slice_get carried 0) (earliest (ready t own)) key (sym is_turn.is) in
    let offline : is_offline key ≡ true = ap is_offline (sym other.2) ∙ sides.own other.0 (chosen_one t own other.0 other.1) in
    run_of_another key carried (λ j at. other_side key j.key offline (sides.carried j at)) (recursion_from_All (λ (j : Job). 1 ≤ j.left) carried left)

pub first_member : (jobs : List Job) (job : Job) → slice_get jobs 0 ≡ Some job → Has jobs job
first_member [] job e = absurd (cc e)
first_member (j ∷ jobs) job e = inl (cc e)

-- and of the other jobs
pub own-ran : (t : ℕ) (carried own : List Job) (turn : Turn) → AreSides carried own → All (λ (j : Job). 1 ≤ j.left) own → IsTurn t carried own turn → after_slot (ran_in turn) own ≡ own_after turn own
own-ran t carried own Idle sides left is_turn = refl
own-ran t carried own (Old key) sides left is_turn =
    let first = first-from_old (slice_get carried 0) (earliest (ready t own)) key (sym is_turn.is) in
    let other : is_offline key ≡ false = ap is_offline (sym first.2) ∙ sides.carried first.0 (first_member carried first.0 first.1) in
    run_of_another key own (λ j at e. other_side j.key key (sides.own j at) other (sym e)) (recursion_from_All (λ (j : Job). 1 ≤ j.left) own left)
own-ran t carried own (New key) sides left is_turn = refl

-- in any order of the other jobs
pub own_after-same : (turn : Turn) (xs ys : List Job) → HaveSameItems xs ys → HaveSameItems (own_after turn xs) (own_after turn ys)
own_after-same Idle xs ys same = same
own_after-same (Old key) xs ys same = same
own_after-same (New key) xs ys same = same-after_run key xs ys same

-- whether it may run does not depend on the times of the carried jobs
pub HasItsJob-any : (turn : Turn) (xs ys own : List Job) → length xs ≡ length ys → HasItsJob turn xs own → HasItsJob turn ys own
HasItsJob-any Idle xs ys own same may = tt
HasItsJob-any (Old key) xs ys own same may = omega arith
HasItsJob-any (New key) xs ys own same may = may

-- the turn by what the calls before it tell
pub turn-told : (at ended ran t : ℕ) (lent items jobs : List Job) (first other : Option Job) (turn : Turn) → turn ≡ turn_between first other → first ≡ slice_get (carried_left at lent ended ran) 0 → lent ≡ items → other ≡ earliest (ready t jobs) → turn ≡ turn_between (slice_get (carried_left at items ended ran) 0) (earliest (ready t jobs))
turn-told at ended ran t lent items jobs first other turn told is_first same is_other =
    let lent_first = ap (λ (js : List Job). slice_get (carried_left at js ended ran) 0) same in
    told ∙ ap₂ turn_between (is_first ∙ lent_first) is_other
