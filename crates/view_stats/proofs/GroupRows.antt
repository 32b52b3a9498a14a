-- The rows of groups, one more at a time.
use Rattle.std.proofs.Common.{◌≡◌, ℕ, ◌+◌, ◌<◌, ◌==◌, ◌&&◌, Bool, true, false, refl, List, [], ◌∷◌, ◌++◌, append-nil, append_assoc, length, take, map, sym, ap, ◌∙◌, inl, inr, arith}
use Rattle.std.specs.Prelude.{filter, flat_map}
use Rattle.std.specs.List.{range_with_len}
use Rattle.std.proofs.lemmas.Bool.{and_parts, cases_Bool}
use Rattle.std.proofs.lemmas.Grind.{flat_map-append}
use Rattle.std.proofs.lemmas.List.{map-append}
use Rattle.csv_table.specs.Tables.{row_line, rows_text}
use Rattle.csv_table.proofs.RowTexts.{rows_text-more, rows_text-on}
use Rattle.slot_facts.proofs.Lists.RangeFilters.{range-more}
use Rattle.slot_core.specs.declared.tasks.TaskSet.{TaskSet}
use Rattle.view_stats.specs.declared.groups.Group.{Group}
use Rattle.view_stats.specs.declared.outcomes.Outcome.{Outcome}
use Rattle.slot_core.specs.declared.jobs.Key.{Key}
use Rattle.slot_core.specs.declared.jobs.Key.TheVariants.{Offline, Sporadic as SporadicKey, Firm as FirmKey, Soft as SoftKey}
use Rattle.slot_core.specs.Offline.OfflineJobs.{tasks_of}
use Rattle.view_stats.specs.declared.groups.Group.TheVariants.{All, Firm, Soft, Task}
use Rattle.view_stats.specs.Figures.{figures_of}
use Rattle.view_stats.specs.Groups.{graph_groups, groups_of, holds, is_of_graph, outcomes_in, outcomes_of_graph, sporadic_groups, task_groups}
use Rattle.view_stats.specs.StatRows.{stat_row}
use Rattle.view_stats.specs.Tables.{group_row}

-- the text of the rows of groups
abbrev pub group_rows : TaskSet → ℕ → List Outcome → List Group → List ℕ
group_rows set slots outcomes groups = rows_text (map (group_row set slots outcomes) groups)

-- one group more, after some text
pub group-more : (set : TaskSet) (slots : ℕ) (outcomes : List Outcome) (text : List ℕ) (groups : List Group) (group : Group) → (text ++ group_rows set slots outcomes groups) ++ row_line (group_row set slots outcomes group) ≡ text ++ group_rows set slots outcomes (groups ++ group ∷ [])
group-more set slots outcomes text groups group =
    let row = group_row set slots outcomes in
    rows_text-more text (map row groups) (row group)
    ∙ ap (λ (rows : List (List (List ℕ))). text ++ rows_text rows) (sym (map-append row groups (group ∷ [])))

-- and then others
pub groups-on : (set : TaskSet) (slots : ℕ) (outcomes : List Outcome) (text : List ℕ) (groups others : List Group) → (text ++ group_rows set slots outcomes groups) ++ group_rows set slots outcomes others ≡ text ++ group_rows set slots outcomes (groups ++ others)
groups-on set slots outcomes text groups others =
    let row = group_row set slots outcomes in
    rows_text-on text (map row groups) (map row others)
    ∙ ap (λ (rows : List (List (List ℕ))). text ++ rows_text rows) (sym (map-append row groups others))

-- of the numbers below n + 1 the last
pub numbered-more : (make : ℕ → Group) (n : ℕ) → map make (range_with_len 0 n) ++ make n ∷ [] ≡ map make (range_with_len 0 (n + 1))
numbered-more make n = sym (ap (map make) (range-more n) ∙ map-append make (range_with_len 0 n) (n ∷ []))

pub many-more : (make : ℕ → List Group) (n : ℕ) → flat_map make (range_with_len 0 n) ++ make n ≡ flat_map make (range_with_len 0 (n + 1))
many-more make n =
    ap (λ gs. flat_map make (range_with_len 0 n) ++ gs) (sym (append-nil (make n)))
    ∙ sym (ap (flat_map make) (range-more n) ∙ flat_map-append make (range_with_len 0 n) (n ∷ []))

-- what passes a test is among what passes a wider one
filter-within : {X : Type 0} (p q : X → Bool) → ((x : X) → q x ≡ true → p x ≡ true) → (xs : List X) → filter q (filter p xs) ≡ filter q xs
filter-within p q within [] = refl
filter-within p q within (x ∷ xs) = elim (cases_Bool (p x)) [
  | inl passes ↦
      elim (cases_Bool (q x)) [
        | inl inner ↦ rw (passes, inner) (ap (λ ys. x ∷ ys) (filter-within p q within xs))
        | inr outer ↦ rw (passes, outer) (filter-within p q within xs)
      ]
  | inr fails ↦
      elim (cases_Bool (q x)) [
        | inl inner ↦ absurd (let both = sym fails ∙ within x inner in cc both)
        | inr outer ↦ rw (fails, outer) (filter-within p q within xs)
      ]
]

-- a job of a task is one of its graph
of-graph : (graph task : ℕ) (key : Key) → holds (Task graph task) key ≡ true → is_of_graph graph key ≡ true
of-graph graph task (Offline g t instance) has = (and_parts (g == graph) (t == task) has).0
of-graph graph task (SporadicKey index row) has = absurd (cc has)
of-graph graph task (FirmKey row) has = absurd (cc has)
of-graph graph task (SoftKey row) has = absurd (cc has)

-- the jobs of a task are those among the jobs of its graph
own-outcomes : (graph task : ℕ) (outcomes : List Outcome) → outcomes_in (Task graph task) (outcomes_of_graph graph outcomes) ≡ outcomes_in (Task graph task) outcomes
own-outcomes graph task outcomes =
    filter-within (λ (o : Outcome). is_of_graph graph o.key) (λ (o : Outcome). holds (Task graph task) o.key) (λ o has. of-graph graph task o.key has) outcomes

-- and so are their rows
own-rows : (set : TaskSet) (slots : ℕ) (outcomes : List Outcome) (graph : ℕ) (tasks : List ℕ) → map (group_row set slots (outcomes_of_graph graph outcomes)) (map (Task graph) tasks) ≡ map (group_row set slots outcomes) (map (Task graph) tasks)
own-rows set slots outcomes graph [] = refl
own-rows set slots outcomes graph (task ∷ tasks) =
    ap (λ own. stat_row set (Task graph task) (figures_of slots own) ∷ map (group_row set slots (outcomes_of_graph graph outcomes)) (map (Task graph) tasks)) (own-outcomes graph task outcomes)
    ∙ ap (λ rows. group_row set slots outcomes (Task graph task) ∷ rows) (own-rows set slots outcomes graph tasks)

pub graph-rows : (set : TaskSet) (slots : ℕ) (outcomes : List Outcome) (graph : ℕ) → group_rows set slots (outcomes_of_graph graph outcomes) (task_groups set graph) ≡ group_rows set slots outcomes (task_groups set graph)
graph-rows set slots outcomes graph =
    ap (λ (rows : List (List (List ℕ))). rows_text rows) (own-rows set slots outcomes graph (range_with_len 0 (length (tasks_of set graph))))

-- the rows of one graph more, of the outcomes of its jobs
pub graph-next : (set : TaskSet) (slots : ℕ) (outcomes : List Outcome) (text : List ℕ) (graph : ℕ) (own : List Outcome) → own ≡ outcomes_of_graph graph outcomes → (text ++ group_rows set slots outcomes (flat_map (task_groups set) (range_with_len 0 graph))) ++ group_rows set slots own (task_groups set graph) ≡ text ++ group_rows set slots outcomes (flat_map (task_groups set) (range_with_len 0 (graph + 1)))
graph-next set slots outcomes text graph own is =
    let front = flat_map (task_groups set) (range_with_len 0 graph) in
    ap (λ rows. (text ++ group_rows set slots outcomes front) ++ rows) (ap (λ os. group_rows set slots os (task_groups set graph)) is ∙ graph-rows set slots outcomes graph)
    ∙ groups-on set slots outcomes text front (task_groups set graph)
    ∙ ap (λ gs. text ++ group_rows set slots outcomes gs) (many-more (task_groups set) graph)

-- the row of one more of the groups that are numbered
pub numbered-next : (set : TaskSet) (slots : ℕ) (outcomes : List Outcome) (text : List ℕ) (make : ℕ → Group) (n : ℕ) → (text ++ group_rows set slots outcomes (map make (range_with_len 0 n))) ++ row_line (group_row set slots outcomes (make n)) ≡ text ++ group_rows set slots outcomes (map make (range_with_len 0 (n + 1)))
numbered-next set slots outcomes text make n =
    group-more set slots outcomes text (map make (range_with_len 0 n)) (make n)
    ∙ ap (λ gs. text ++ group_rows set slots outcomes gs) (numbered-more make n)

-- the rows of all groups, part by part
pub all-groups : (set : TaskSet) (slots : ℕ) (outcomes : List Outcome) (text : List ℕ) → ((((text ++ group_rows set slots outcomes (graph_groups set)) ++ group_rows set slots outcomes (sporadic_groups set)) ++ row_line (group_row set slots outcomes Firm)) ++ row_line (group_row set slots outcomes Soft)) ++ row_line (group_row set slots outcomes All) ≡ text ++ group_rows set slots outcomes (groups_of set)
all-groups set slots outcomes text =
    let graphs = graph_groups set in
    let sporadics = sporadic_groups set in
    let two = graphs ++ sporadics in
    ap (λ t. ((t ++ row_line (group_row set slots outcomes Firm)) ++ row_line (group_row set slots outcomes Soft)) ++ row_line (group_row set slots outcomes All)) (groups-on set slots outcomes text graphs sporadics)
    ∙ ap (λ t. (t ++ row_line (group_row set slots outcomes Soft)) ++ row_line (group_row set slots outcomes All)) (group-more set slots outcomes text two Firm)
    ∙ ap (λ t. t ++ row_line (group_row set slots outcomes All)) (group-more set slots outcomes text (two ++ Firm ∷ []) Soft)
    ∙ group-more set slots outcomes text ((two ++ Firm ∷ []) ++ Soft ∷ []) All
    ∙ ap (λ gs. text ++ group_rows set slots outcomes gs) (in-order graphs sporadics Firm Soft All)
  where
    in-order : (xs ys : List Group) (a b d : Group) → (((xs ++ ys) ++ a ∷ []) ++ b ∷ []) ++ d ∷ [] ≡ xs ++ ys ++ a ∷ b ∷ d ∷ []
    in-order xs ys a b d = search append_assoc
