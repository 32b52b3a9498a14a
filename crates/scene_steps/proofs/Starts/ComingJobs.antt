-- Jobs that come in one by one beside others, each as f makes it, with keys of their own.
use Rattle.std.proofs.Common.{◌≡◌, ℕ, ◌+◌, ◌<◌, ◌≤◌, cond, List, [], ◌∷◌, ◌++◌, get_or, length, map, take, sym, ap, ◌∙◌, subst, arith}
use Rattle.std.specs.Prelude.{count_by, sum_by, All, IsPermutation}
use Rattle.std.proofs.lemmas.Bool.{cond-true}
use Rattle.std.proofs.lemmas.List.{get_or-map, length-append, length-map, length-take, map_more, take_all}
use Rattle.std.proofs.lemmas.List.Elements.{All-get_or}
use Rattle.std.proofs.lemmas.List.Sums.{sum_by-append, sum_by_more_le}
use Rattle.std.proofs.lemmas.Map.Views.{All-map-IsPermutation}
use Rattle.slot_core.specs.declared.jobs.Job.{Job}
use Rattle.slot_core.specs.Offline.Keys.{same_key}
use Rattle.slot_core.specs.Keeping.Kept.{AreApart}
use Rattle.slot_core.specs.Runs.Matches.{HaveSameItems}
use Rattle.slot_facts.proofs.Lists.ApartKeys.{same_key-itself}
use Rattle.slot_facts.proofs.Lists.SameItems.{same-append, same-from_permutation, same-map, same-sym}
use Rattle.slot_facts.proofs.Lists.Sums.{sum_by-map}
use Rattle.scene_steps.proofs.Facts.ProperScenes.{length-same_items}
use Rattle.scene_steps.proofs.Same.SameScenes.{same-refl, same-trans}

-- one more has come in
pub come_in-more : (f : Job → Job) (before coming queue after : List Job) (i : ℕ) (d made : Job) → i < length coming → made ≡ f (get_or coming i d) → HaveSameItems queue (before ++ map f (take i coming)) → HaveSameItems after (queue ++ made ∷ []) → HaveSameItems after (before ++ map f (take (i + 1) coming))
come_in-more f before coming queue after i d made inside is come pushed = λ g.
    let all = map_more f coming i d inside ∙ ap (λ job. map f (take i coming) ++ job ∷ []) (sym is) in
    omega (
      arith,
      pushed g,
      come g,
      sum_by-append g queue (made ∷ []),
      sum_by-append g before (map f (take i coming)),
      sum_by-append g before (map f (take (i + 1) coming)),
      sum_by-append g (map f (take i coming)) (made ∷ []),
      ap (sum_by g) all,
    )

-- once all have, the order in which they came does not matter
pub come_in-all : (f : Job → Job) (before listed coming queue : List Job) (i : ℕ) → length coming ≤ i → IsPermutation listed coming → HaveSameItems queue (before ++ map f (take i coming)) → HaveSameItems queue (before ++ map f listed)
come_in-all f before listed coming queue i past moved come =
    let all = subst (λ xs. HaveSameItems queue (before ++ map f xs)) (take_all i coming past) come in
    let same = same-map f coming listed (same-sym listed coming (same-from_permutation listed coming moved)) in
    same-trans queue (before ++ map f coming) (before ++ map f listed) all (same-append before before (map f coming) (map f listed) (same-refl before) same)

-- how many there are with those that have come
pub length-come_in : (f : Job → Job) (before coming queue : List Job) (i : ℕ) → i ≤ length coming → HaveSameItems queue (before ++ map f (take i coming)) → length queue ≡ length before + i
length-come_in f before coming queue i within come =
    omega (
      arith,
      length-same_items queue (before ++ map f (take i coming)) come,
      length-append before (map f (take i coming)),
      length-map (take i coming) f,
      length-take i coming,
    )

-- the key of the next one stands nowhere among them
pub fresh-come_in : (f : Job → Job) (before listed coming queue : List Job) (i : ℕ) (d made : Job) → i < length coming → made ≡ f (get_or coming i d) → IsPermutation listed coming → AreApart (before ++ map f listed) → HaveSameItems queue (before ++ map f (take i coming)) → count_by (λ (j : Job). same_key j.key made.key) queue ≡ 0
fresh-come_in f before listed coming queue i d made inside is moved apart come =
    let g : Job → ℕ = λ (j : Job). cond (same_key j.key made.key) 1 0 in
    let own = cond-true {A = ℕ} (same_key (f (get_or coming i d)).key made.key) 1 0 (same_key-itself (f (get_or coming i d)).key made.key (sym (ap (λ (j : Job). j.key) is))) in
    omega (
      arith,
      come g,
      apart made.key,
      own,
      sum_by-append g before (map f listed),
      sum_by-append g before (map f (take i coming)),
      sum_by-map g f listed,
      sum_by-map g f (take i coming),
      same-from_permutation listed coming moved (λ j. g (f j)),
      sum_by_more_le (λ j. g (f j)) coming i d inside,
    )

-- what holds of all that come holds of the one that comes next
pub each-come_in : (P : Job → Type 0) (f : Job → Job) (listed coming : List Job) (i : ℕ) (d made : Job) → i < length coming → made ≡ f (get_or coming i d) → IsPermutation listed coming → All P (map f listed) → P made
each-come_in P f listed coming i d made inside is moved all =
    let inside_map : i < length (map f coming) = omega (arith, length-map coming f) in
    let here = All-get_or P (map f coming) i (f d) inside_map (All-map-IsPermutation f P listed coming moved all) in
    subst P (get_or-map f coming i d (f d) inside ∙ sym is) here
