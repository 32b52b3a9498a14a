-- A text writes a key exactly where it is the text of that key.
use Rattle.std.proofs.Common.{◌≡◌, ℕ, ◌<◌, ◌≤◌, true, false, ◌==◌, List, [], ◌∷◌, ◌++◌, length, Option, Some, None, refl, sym, ap, ◌∙◌, inl, inr, append_assoc, arith}
use Rattle.std.specs.Prelude.{slice_get, codes, decimal, nat_lt}
use Rattle.std.specs.Char.{is_ascii_digit}
use Rattle.std.specs.Option.{option_or, option_map_or}
use Rattle.std.specs.Str.{bytes_eq}
use Rattle.std.proofs.lemmas.Bool.{and_parts, cases_Bool, lt-ltb, ltb-true, le-leb, leb-true, and_from}
use Rattle.std.proofs.lemmas.List.Folds.{list_any-append}
use Rattle.std.proofs.lemmas.Option.{slice_get_within}
use Rattle.slot_core.specs.declared.faults.Part.TheVariants.{Graph as GraphPart, Task as TaskPart, Sporadic as SporadicPart}
use Rattle.slot_core.specs.declared.jobs.Key.{Key}
use Rattle.slot_core.specs.declared.jobs.Key.TheVariants.{Offline, Sporadic as SporadicKey, Firm as FirmKey, Soft as SoftKey}
use Rattle.slot_core.specs.declared.tasks.Task.{Task}
use Rattle.slot_core.specs.declared.tasks.Graph.{Graph}
use Rattle.slot_core.specs.declared.tasks.Sporadic.{Sporadic}
use Rattle.slot_core.specs.declared.tasks.TaskSet.{TaskSet}
use Rattle.slot_core.specs.declared.TheConstants.{ARRIVAL_LIMIT, NUMBER_LIMIT}
use Rattle.slot_core.specs.Runs.Arrivals.{key_in_set, key_in_range}
use Rattle.slot_core.specs.Sets.Names.{is_name, is_name_byte}
use Rattle.slot_core.specs.Offline.OfflineJobs.{tasks_of}
use Rattle.slot_core.specs.Sets.Ranges.{is_sound, is_between}
use Rattle.slot_core.specs.Output.Texts.{key_text, graph_name, task_name, sporadic_name}
use Rattle.slot_facts.proofs.Sets.Ranges.{bounds}
use Rattle.slot_facts.proofs.Sets.Tasks.{tasks_at, slice_get-within}
use Rattle.key_texts.specs.KeyTexts.{key_of_text, offline_key, sporadic_key, row_key, worded_key, cut_at, graph_named, task_named, sporadic_named}
use Rattle.key_texts.specs.Numbers.{number_of, row_number}
use Rattle.key_texts.specs.Options.{◌>>=◌}
use Rattle.key_texts.proofs.CutLemmas.{Lacks, Lacks-from_all, cut_at-Some, cut_at-append, cut_at-lacks}
use Rattle.key_texts.proofs.DigitLemmas.{number_between-decimal, decimal-number_between, number_of-decimal, decimal-number_of, all_digits}
use Rattle.key_texts.proofs.PlaceLemmas.{Some_same}
use Rattle.key_texts.proofs.NameLemmas.{all_name_bytes, graph_is_named, task_is_named, sporadic_is_named, named-at, named-Some, NamesApart-from_sound, same-from_bytes_eq}

-- the text is that of the key, which lies in the set
pub record IsKeyText (set : TaskSet) (text : List ℕ) (key : Key) : Type 0 where
  pub in_set : key_in_set set key ≡ true
  pub in_range : key_in_range key ≡ true
  pub is_text : text ≡ key_text set key

-- a chain that gave a value took its first step
pub step : {X Y P : Type 0} (o : Option X) {f : X → Option Y} {y : Y} → (o >>= f) ≡ Some y → ((x : X) → o ≡ Some x → f x ≡ Some y → P) → P
step (Some x) h next = next x refl h
step None h next = cc

-- the name of the graph at a place
pub graph_name-at : (set : TaskSet) (g : ℕ) (graph : Graph) → slice_get set.graphs g ≡ Some graph → graph_name set g ≡ graph.name
graph_name-at set g graph at = ap (λ o. option_map_or (λ (x : Graph). x.name) o []) at

-- the name of the task at a place
pub task_name-at : (set : TaskSet) (g t : ℕ) (task : Task) → slice_get (tasks_of set g) t ≡ Some task → task_name set g t ≡ task.name
task_name-at set g t task at = ap (λ o. option_map_or (λ (x : Task). x.name) o []) at

-- the name of the sporadic task at a place
pub sporadic_name-at : (set : TaskSet) (i : ℕ) (s : Sporadic) → slice_get set.sporadics i ≡ Some s → sporadic_name set i ≡ s.name
sporadic_name-at set i s at = ap (λ o. option_map_or (λ (x : Sporadic). x.name) o []) at

-- the text of an offline key around its two separators
pub offline_text : (graph task digits : List ℕ) → graph ++ codes "." ++ task ++ codes "#" ++ digits ≡ (graph ++ 46 ∷ task) ++ 35 ∷ digits
offline_text graph task digits = simp append_assoc

-- a text that is read as an offline key is the text of that key
offline_key-Some : (set : TaskSet) (text : List ℕ) (key : Key) → offline_key set text ≡ Some key → IsKeyText set text key
offline_key-Some set text key h =
    step (cut_at 35 text) h (λ parts cut h.
    step (cut_at 46 parts.0) h (λ names inner h.
    step (graph_named set.graphs names.0) h (λ g found h.
    step (task_named (tasks_of set g) names.1) h (λ t there h.
    step (number_of parts.1) h (λ instance number h.
    let same : Offline g t instance ≡ key = cc in
    let (graph, at, named) = named-Some (λ (x : Graph). x.name) set.graphs names.0 g found in
    let (task, place, titled) = named-Some (λ (x : Task). x.name) (tasks_of set g) names.1 t there in
    let (small, digits) = number_of-decimal instance parts.1 number in
    let within : g < length set.graphs = slice_get_within set.graphs g graph at in
    let inside : t < length (tasks_of set g) = slice_get_within (tasks_of set g) t task place in
    let whole = cut_at-Some 35 text parts cut in
    let front = cut_at-Some 46 parts.0 names inner in
    let graph_is = graph_name-at set g graph at ∙ named in
    let task_is = task_name-at set g t task place ∙ titled in
    rw (← same) (record {
      in_set = and_from _ _ (lt-ltb g (length set.graphs) within) (lt-ltb t (length (tasks_of set g)) inside);
      in_range = le-leb instance NUMBER_LIMIT small;
      is_text = rw (whole, front, digits, graph_is, task_is) (sym (offline_text names.0 names.1 (decimal instance)));
    }))))))

-- a text that is read as a sporadic key is the text of that key
sporadic_key-Some : (set : TaskSet) (text : List ℕ) (key : Key) → sporadic_key set text ≡ Some key → IsKeyText set text key
sporadic_key-Some set text key h =
    step (cut_at 64 text) h (λ parts cut h.
    step (sporadic_named set.sporadics parts.0) h (λ i found h.
    step (row_number parts.1) h (λ row number h.
    let same : SporadicKey i row ≡ key = cc in
    let (s, at, named) = named-Some (λ (x : Sporadic). x.name) set.sporadics parts.0 i found in
    let (range, digits) = number_between-decimal 1 ARRIVAL_LIMIT row parts.1 (omega arith) number in
    let whole = cut_at-Some 64 text parts cut in
    rw (← same) (record {
      in_set = lt-ltb i (length set.sporadics) (slice_get_within set.sporadics i s at);
      in_range = range;
      is_text = rw (whole, digits, sporadic_name-at set i s at ∙ named) (sym (append_assoc parts.0 (codes "@") (decimal row)));
    }))))

-- a text that is read as a firm or a soft key is the text of that key
row_key-Some : (set : TaskSet) (text : List ℕ) (key : Key) → row_key text ≡ Some key → IsKeyText set text key
row_key-Some set text key h =
    step (cut_at 58 text) h (λ parts cut h.
    step (row_number parts.1) h (λ row number h.
    let (range, digits) = number_between-decimal 1 ARRIVAL_LIMIT row parts.1 (omega arith) number in
    let whole = cut_at-Some 58 text parts cut in
    elim (cases_Bool (bytes_eq parts.0 (codes "firm"))) [
      | inl firm ↦
          let same = rw firm at h in
          let word = same-from_bytes_eq parts.0 (codes "firm") firm in
          rw (← Some_same same) (record { in_set = refl; in_range = range; is_text = rw (whole, word, digits) refl })
      | inr not_firm ↦ elim (cases_Bool (bytes_eq parts.0 (codes "soft"))) [
        | inl soft ↦
            let same = rw (not_firm, soft) at h in
            let word = same-from_bytes_eq parts.0 (codes "soft") soft in
            rw (← Some_same same) (record { in_set = refl; in_range = range; is_text = rw (whole, word, digits) refl })
        | inr not_soft ↦ let none = rw (not_firm, not_soft) at h in cc
      ]
    ]))

-- a text that is read as a key is the text of that key, which lies in the set
pub IsKeyText-from_key : (set : TaskSet) (text : List ℕ) (key : Key) → key_of_text set text ≡ Some key → IsKeyText set text key
IsKeyText-from_key set text key h = by_offline (offline_key set text) refl h
  where
    by_sporadic : (o : Option Key) → sporadic_key set text ≡ o → option_or o (row_key text) ≡ Some key → IsKeyText set text key
    by_sporadic (Some k) is h = sporadic_key-Some set text key (is ∙ h)
    by_sporadic None is h = row_key-Some set text key h

    by_offline : (o : Option Key) → offline_key set text ≡ o → option_or o (option_or (sporadic_key set text) (row_key text)) ≡ Some key → IsKeyText set text key
    by_offline (Some k) is h = offline_key-Some set text key (is ∙ h)
    by_offline None is h = by_sporadic (sporadic_key set text) refl h

-- a name holds no byte that may not stand in one
pub name_lacks : (byte : ℕ) (name : List ℕ) → is_name name ≡ true → is_name_byte byte ≡ false → Lacks byte name
name_lacks byte name named other = Lacks-from_all is_name_byte byte name (all_name_bytes name named) other

-- a number holds no byte but digits
pub digits_lack : (byte n : ℕ) → n ≤ NUMBER_LIMIT → is_ascii_digit byte ≡ false → Lacks byte (decimal n)
digits_lack byte n small other = Lacks-from_all is_ascii_digit byte (decimal n) (all_digits n small) other

-- nor does the number of a row
pub row_lacks : (byte row : ℕ) → is_between 1 ARRIVAL_LIMIT row ≡ true → is_ascii_digit byte ≡ false → Lacks byte (decimal row)
row_lacks byte row range other =
    let small = (bounds 1 ARRIVAL_LIMIT row range).1 in
    digits_lack byte row (omega arith) other

-- the decimal text of a row is read as that row
row_number-decimal : (row : ℕ) → is_between 1 ARRIVAL_LIMIT row ≡ true → row_number (decimal row) ≡ Some row
row_number-decimal row range = decimal-number_between 1 ARRIVAL_LIMIT row (decimal row) (omega arith) range refl

-- two texts that lack a byte, one after the other
pub Lacks-append : (byte : ℕ) (xs ys : List ℕ) → Lacks byte xs → Lacks byte ys → Lacks byte (xs ++ ys)
Lacks-append byte xs ys first second = list_any-append (λ b. b == byte) xs ys ∙ rw (first, second) refl

-- the parts of a text that make an offline key
pub offline_key-from_parts : (set : TaskSet) (text names digits graph_name task_name : List ℕ) (g t instance : ℕ) → cut_at 35 text ≡ Some (names, digits) → cut_at 46 names ≡ Some (graph_name, task_name) → graph_named set.graphs graph_name ≡ Some g → task_named (tasks_of set g) task_name ≡ Some t → number_of digits ≡ Some instance → offline_key set text ≡ Some (Offline g t instance)
offline_key-from_parts set text names digits graph_name task_name g t instance cut inner found there number =
    rw (cut, inner, found, there, number) refl

-- the text of an offline key is read as that key
offline_key-at : (set : TaskSet) (text : List ℕ) (g t instance : ℕ) → is_sound set ≡ true → IsKeyText set text (Offline g t instance) → offline_key set text ≡ Some (Offline g t instance)
offline_key-at set text g t instance sound is =
    let (within, inside) = and_parts (nat_lt g (length set.graphs)) (nat_lt t (length (tasks_of set g))) is.in_set in
    let apart = NamesApart-from_sound set sound in
    let (graph, at) = slice_get-within set.graphs g (ltb-true g (length set.graphs) within) in
    let tasks = tasks_at set g graph at in
    let (task, place) = slice_get-within (tasks_of set g) t (ltb-true t (length (tasks_of set g)) inside) in
    let there : slice_get graph.tasks t ≡ Some task = ap (λ (ts : List Task). slice_get ts t) (sym tasks) ∙ place in
    let graph_is = graph_is_named set g graph sound at in
    let task_is = task_is_named set g t graph task sound at there in
    let names_lack : Lacks 35 (graph.name ++ 46 ∷ task.name) = Lacks-append 35 graph.name (46 ∷ task.name) (name_lacks 35 graph.name graph_is refl) (name_lacks 35 task.name task_is refl) in
    let whole : text ≡ (graph.name ++ 46 ∷ task.name) ++ 35 ∷ decimal instance = is.is_text ∙ rw (graph_name-at set g graph at, task_name-at set g t task place) (offline_text graph.name task.name (decimal instance)) in
    let cut : cut_at 35 text ≡ Some (graph.name ++ 46 ∷ task.name, decimal instance) = ap (cut_at 35) whole ∙ cut_at-append 35 (graph.name ++ 46 ∷ task.name) (decimal instance) names_lack in
    let inner = cut_at-append 46 graph.name task.name (name_lacks 46 graph.name graph_is refl) in
    let found = named-at (λ (x : Graph). x.name) GraphPart set.graphs g graph apart.graphs at in
    let titled = named-at (λ (x : Task). x.name) (TaskPart (apart.tasks g graph at).0) graph.tasks t task (apart.tasks g graph at).1 there in
    let number = decimal-number_of instance (decimal instance) (leb-true instance NUMBER_LIMIT is.in_range) refl in
    let of_set : task_named (tasks_of set g) task.name ≡ Some t = ap (λ (ts : List Task). task_named ts task.name) tasks ∙ titled in
    offline_key-from_parts set text (graph.name ++ 46 ∷ task.name) (decimal instance) graph.name task.name g t instance cut inner found of_set number

-- the text of a sporadic key is read as that key, and not as an offline one
sporadic_key-at : (set : TaskSet) (text : List ℕ) (i row : ℕ) → is_sound set ≡ true → IsKeyText set text (SporadicKey i row) → (Lacks 35 text) × (sporadic_key set text ≡ Some (SporadicKey i row))
sporadic_key-at set text i row sound is =
    let (s, at) = slice_get-within set.sporadics i (ltb-true i (length set.sporadics) is.in_set) in
    let named = sporadic_is_named set i s sound at in
    let whole : text ≡ s.name ++ 64 ∷ decimal row = is.is_text ∙ rw (sporadic_name-at set i s at) (append_assoc s.name (codes "@") (decimal row)) in
    let lacks = Lacks-append 35 s.name (64 ∷ decimal row) (name_lacks 35 s.name named refl) (row_lacks 35 row is.in_range refl) in
    let cut = cut_at-append 64 s.name (decimal row) (name_lacks 64 s.name named refl) in
    let found = named-at (λ (x : Sporadic). x.name) SporadicPart set.sporadics i s (NamesApart-from_sound set sound).sporadics at in
    let number = row_number-decimal row is.in_range in
    (rw whole lacks, rw (whole, cut, found, number) refl)

-- a word of its own, a colon and a row are read as the key that the word says
row_key-at : (word : List ℕ) (row : ℕ) (key : Key) → is_between 1 ARRIVAL_LIMIT row ≡ true → Lacks 58 word → worded_key word row ≡ Some key → row_key (word ++ 58 ∷ decimal row) ≡ Some key
row_key-at word row key range lacks is =
    let cut = cut_at-append 58 word (decimal row) lacks in
    rw (cut, row_number-decimal row range) is

-- a text without the separators of the other forms is read by its word
key_of_text-worded : (set : TaskSet) (text : List ℕ) → Lacks 35 text → Lacks 64 text → key_of_text set text ≡ row_key text
key_of_text-worded set text no_instance no_at = rw (cut_at-lacks 35 text no_instance, cut_at-lacks 64 text no_at) refl

-- the text of a key that lies in a sound set is read as that key
pub key-from_IsKeyText : (set : TaskSet) (text : List ℕ) (key : Key) → is_sound set ≡ true → IsKeyText set text key → key_of_text set text ≡ Some key
key-from_IsKeyText set text (Offline g t instance) sound is = rw (offline_key-at set text g t instance sound is) refl
key-from_IsKeyText set text (SporadicKey i row) sound is =
    let (lacks, key) = sporadic_key-at set text i row sound is in
    rw (cut_at-lacks 35 text lacks, key) refl
key-from_IsKeyText set text (FirmKey row) sound is =
    let lacks = λ (byte : ℕ) (other : is_ascii_digit byte ≡ false) (front : Lacks byte (codes "firm:")). Lacks-append byte (codes "firm:") (decimal row) front (row_lacks byte row is.in_range other) in
    rw is.is_text (key_of_text-worded set (codes "firm:" ++ decimal row) (lacks 35 refl refl) (lacks 64 refl refl) ∙ row_key-at (codes "firm") row (FirmKey row) is.in_range refl refl)
key-from_IsKeyText set text (SoftKey row) sound is =
    let lacks = λ (byte : ℕ) (other : is_ascii_digit byte ≡ false) (front : Lacks byte (codes "soft:")). Lacks-append byte (codes "soft:") (decimal row) front (row_lacks byte row is.in_range other) in
    rw is.is_text (key_of_text-worded set (codes "soft:" ++ decimal row) (lacks 35 refl refl) (lacks 64 refl refl) ∙ row_key-at (codes "soft") row (SoftKey row) is.in_range refl refl)
