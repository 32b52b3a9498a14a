-- What is told of each job, one more deed at a time.
use Rattle.std.proofs.Common.{◌≡◌, ℕ, ◌+◌, ◌<◌, ◌++◌, Bool, true, false, cond, List, [], ◌∷◌, length, get_or, take, Option, Some, refl, sym, ap, subst, ◌∙◌}
use Rattle.std.specs.Prelude.{unwrap_or}
use Rattle.std.specs.Ordering.{is_eq}
use Rattle.std.specs.BTreeMap.{BTreeMap, get}
use Rattle.std.proofs.lemmas.List.{take_more}
use Rattle.slot_core.specs.declared.jobs.Key.{Key}
use Rattle.slot_core.specs.Offline.Keys.{same_key}
use Rattle.slot_facts.proofs.Choice.Earliest.{same_from_key}
use Rattle.view_jobs.specs.declared.deeds.Deed.{Deed}
use Rattle.view_jobs.specs.declared.tallies.Tally.{Tally}
use Rattle.view_jobs.proofs.KeyMaps.{key_cmp, key_cmp-by_order}
use Rattle.view_jobs.specs.Tallies.{after_does, tally_in, told_from, untold}

-- what a map has at a key that was written where the test passes
told-at : (test : Bool) (new changed : Tally) (old now : Option Tally) → now ≡ cond test (Some new) old → (test ≡ true → new ≡ changed) → unwrap_or now untold ≡ cond test changed (unwrap_or old untold)
told-at true new changed old now at same = ap (λ o. unwrap_or o untold) at ∙ same refl
told-at false new changed old now at same = ap (λ o. unwrap_or o untold) at

-- a change of the tally of one key is a change of the tally of each key that is the same
pub told-changed : (old new : BTreeMap Key Tally) (k key : Key) (change : Tally → Tally) (written : Tally) → written ≡ change (tally_in old k) → get key_cmp new key ≡ cond (is_eq (key_cmp k key)) (Some written) (get key_cmp old key) → tally_in new key ≡ cond (same_key k key) (change (tally_in old key)) (tally_in old key)
told-changed old new k key change written is at =
    told-at
    (same_key k key)
    written
    (change (tally_in old key))
    _
    _
    (subst (λ cmp. get cmp new key ≡ cond (is_eq (cmp k key)) (Some written) (get cmp old key)) key_cmp-by_order at)
    (λ same. is ∙ ap (λ q. change (tally_in old q)) (same_from_key k key same))

-- what more deeds tell
told_from-append : (key : Key) (tally : Tally) (front rest : List Deed) → told_from key tally (front ++ rest) ≡ told_from key (told_from key tally front) rest
told_from-append key tally [] rest = refl
told_from-append key tally (deed ∷ front) rest =
    told_from-append key (after_does key tally deed.time deed.does) front rest

-- what one more deed tells
pub told-next : (key : Key) (tally now after : Tally) (deeds : List Deed) (i : ℕ) (d : Deed) → i < length deeds → now ≡ told_from key tally (take i deeds) → after ≡ after_does key now (get_or deeds i d).time (get_or deeds i d).does → after ≡ told_from key tally (take (i + 1) deeds)
told-next key tally now after deeds i d inside so_far more =
    let deed = get_or deeds i d in
    more
    ∙ ap (λ t. after_does key t deed.time deed.does) so_far
    ∙ sym (ap (told_from key tally) (take_more deeds i d inside) ∙ told_from-append key tally (take i deeds) (deed ∷ []))
