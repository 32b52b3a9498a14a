-- Lines that are put one after the other: those so far and one more, or a part of it.
use Rattle.std.proofs.Common.{◌≡◌, ℕ, zero, suc, ◌+◌, ◌<◌, List, [], ◌∷◌, ◌++◌, append_assoc, length, take, drop, get_or, Option, refl, ap, sym, subst, ◌∙◌, arith}
use Rattle.std.specs.Prelude.{flat_map}
use Rattle.std.proofs.KnownBytes.{Appends-nil, Appends-trans}
use Rattle.std.proofs.lemmas.List.{flat_map_more, take_more}
use Rattle.std.specs.Io.KnownBytes.{Appends}
use Rattle.slot_io.specs.Sinks.{AppendsPart}
use Rattle.slot_io.proofs.SinkParts.{AppendsPart-more, AppendsPart-on}

-- the lines of a list, around that of one item
lines-around : {X : Type 0} (line : X → List ℕ) (xs : List X) (i : ℕ) (d : X) → i < length xs → flat_map line xs ≡ flat_map line (take i xs) ++ (line (get_or xs i d) ++ flat_map line (drop (suc i) xs))
lines-around line [] i d low = absurd (omega arith)
lines-around line (x ∷ xs) zero d low = refl
lines-around line (x ∷ xs) (suc i) d low =
    ap (λ ys. line x ++ ys) (lines-around line xs i d (omega arith)) ∙ sym (append_assoc (line x) (flat_map line (take i xs)) (line (get_or xs i d) ++ flat_map line (drop (suc i) xs)))

-- a part of the next line is a part of all lines
pub part_more : {X : Type 0} (before now after : Option (List ℕ)) (line : X → List ℕ) (all : List X) (at : ℕ) (d : X) (bytes : List ℕ) → at < length all → Appends before now (flat_map line (take at all)) → bytes ≡ line (get_or all at d) → AppendsPart now after bytes → AppendsPart before after (flat_map line all)
part_more before now after line all at d bytes low so_far text put =
    AppendsPart-more before now after (flat_map line (take at all)) (line (get_or all at d)) (flat_map line (drop (suc at) all)) (flat_map line all)
    (lines-around line all at d low)
    so_far
    (subst (AppendsPart now after) text put)

-- the next line after those so far
pub line_more : {X : Type 0} (before now after : Option (List ℕ)) (line : X → List ℕ) (all : List X) (at : ℕ) (d : X) (bytes : List ℕ) → at < length all → Appends before now (flat_map line (take at all)) → bytes ≡ line (get_or all at d) → Appends now after bytes → Appends before after (flat_map line (take (at + 1) all))
line_more before now after line all at d bytes low so_far text put =
    let x = get_or all at d in
    let next = take_more all at d low in
    let more : flat_map line (take at all) ++ line x ≡ flat_map line (take (at + 1) all) = flat_map_more line [] (take at all) x ∙ ap (flat_map line) (sym next) in
    subst (Appends before after) more (Appends-trans before now after (flat_map line (take at all)) (line x) so_far (subst (Appends now after) text put))

-- three texts in a row: where one of them fails, a part of all is written
pub part-first : (before after : Option (List ℕ)) (first second third : List ℕ) → AppendsPart before after first → AppendsPart before after (first ++ second ++ third)
part-first before after first second third put =
    AppendsPart-more before before after [] first (second ++ third) (first ++ second ++ third) (append_assoc first second third) (Appends-nil before) put

pub part-second : (before now after : Option (List ℕ)) (first second third : List ℕ) → Appends before now first → AppendsPart now after second → AppendsPart before after (first ++ second ++ third)
part-second before now after first second third told put =
    AppendsPart-more before now after first second third (first ++ second ++ third) (append_assoc first second third) told put

pub part-third : (before now then_ after : Option (List ℕ)) (first second third : List ℕ) → Appends before now first → Appends now then_ second → AppendsPart then_ after third → AppendsPart before after (first ++ second ++ third)
part-third before now then_ after first second third told more put =
    AppendsPart-on before then_ after (first ++ second) third (first ++ second ++ third) refl (Appends-trans before now then_ first second told more) put
