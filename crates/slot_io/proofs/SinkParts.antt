-- What is written in pieces: a whole piece and then a part of the next is a part of all.
use Rattle.std.proofs.Common.{◌≡◌, ℕ, ◌+◌, ◌-◌, min, List, [], ◌++◌, append-nil, append_assoc, length, take, drop, Option, sym, ap, subst, ◌∙◌, arith}
use Rattle.std.proofs.Math.Seq.{take-append-add, take-length}
use Rattle.std.proofs.lemmas.List.{take-append-le, take_min, take-append-drop, length-drop}
use Rattle.std.proofs.KnownBytes.{Appends-nil, Appends-trans, Appends-kept}
use Rattle.std.specs.Prelude.{Err, Ok, OnErr, OnOk, Result}
use Rattle.std.specs.Io.KnownBytes.{Appends, Keeps}
use Rattle.slot_io.specs.Sinks.{AppendsPart}

-- a part of a piece between others is what the front and so many bytes more are of all
take-between : (front middle rest : List ℕ) (n : ℕ) → take (length front + min n (length middle)) (front ++ (middle ++ rest)) ≡ front ++ take n middle
take-between front middle rest n =
    take-append-add front (middle ++ rest) (min n (length middle)) ∙ ap (λ xs. front ++ xs) (take-append-le (min n (length middle)) middle rest (omega arith) ∙ take_min n middle)

-- the bytes before a piece, and a part of the piece
pub AppendsPart-more : (a b c : Option (List ℕ)) (front middle rest whole : List ℕ) → whole ≡ front ++ (middle ++ rest) → Appends a b front → AppendsPart b c middle → AppendsPart a c whole
AppendsPart-more a b c front middle rest whole is before part =
    let n = part.0 in
    let same : front ++ take n middle ≡ take (length front + min n (length middle)) whole = sym (take-between front middle rest n) ∙ ap (take (length front + min n (length middle))) (sym is) in
    (length front + min n (length middle), subst (Appends a c) same (Appends-trans a b c front (take n middle) before part.1))

-- a front is written, and then a part of the rest
pub AppendsPart-on : (a b c : Option (List ℕ)) (front rest whole : List ℕ) → whole ≡ front ++ rest → Appends a b front → AppendsPart b c rest → AppendsPart a c whole
AppendsPart-on a b c front rest whole is before part =
    AppendsPart-more a b c front rest [] whole (is ∙ ap (λ xs. front ++ xs) (sym (append-nil rest))) before part

-- a front is written, and no more
pub AppendsPart-kept : (a b c : Option (List ℕ)) (front rest whole : List ℕ) → whole ≡ front ++ rest → Appends a b front → Keeps b c → AppendsPart a c whole
AppendsPart-kept a b c front rest whole is before same =
    AppendsPart-on a b c front rest whole is before (0, Appends-kept b b c [] (Appends-nil b) same)

-- the bytes after a front are so many more of the front, and the rest as a slice gives it
pub take_rest : (front rest : List ℕ) (n : ℕ) → front ++ rest ≡ (front ++ take n rest) ++ take (length rest - n) (drop n rest)
take_rest front rest n =
    ap (λ xs. front ++ xs) (sym (take-append-drop n rest))
    ∙ sym (append_assoc front (take n rest) (drop n rest))
    ∙ ap (λ xs. (front ++ take n rest) ++ xs) (sym (subst (λ k. take k (drop n rest) ≡ drop n rest) (length-drop n rest) (take-length (drop n rest))))

-- where nothing is written, it is a part from the front
pub AppendsPart-none : (a : Option (List ℕ)) (whole : List ℕ) → AppendsPart a a whole
AppendsPart-none a whole = (0, Appends-nil a)

-- what holds anyhow holds where a call succeeds
pub OnOk-anyhow : {T E P : Type 0} (r : Result T E) → P → OnOk r P
OnOk-anyhow (Ok x) p = p
OnOk-anyhow (Err e) p = tt

-- and where it fails
pub OnErr-anyhow : {T E P : Type 0} (r : Result T E) → P → OnErr r P
OnErr-anyhow (Ok x) p = tt
OnErr-anyhow (Err e) p = p
