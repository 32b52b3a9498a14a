-- A capacity by the recurrence is the least room of a stretch from its span on.
use Rattle.std.proofs.Common.{◌≡◌, ℕ, zero, suc, ◌+◌, ◌-◌, ◌<◌, ◌≤◌, ℤ, pos, ◌+ℤ◌, ◌≤ℤ◌, List, [], ◌∷◌, length, get_or, take, drop, slice_get, IfSome, refl, sym, ◌∙◌, ap, subst, arith}
use Rattle.std.specs.Int.{int_min}
use Rattle.std.proofs.lemmas.Int.{ints, clamps, by_lt_z}
use Rattle.std.proofs.lemmas.List.{drop_more, length-drop}
use Rattle.std.proofs.lemmas.Option.{slice_get-get_or}
use Rattle.slot_core.specs.declared.jobs.Span.{Span}
use Rattle.spare_capacity.specs.Recurrence.{filled, first_spare, room}
use Rattle.spare_capacity.proofs.Filled.{drop-filled}
use Rattle.spare_capacity.proofs.Steps.{no_row}
use Rattle.spare_capacity.specs.Laws.{room_of_all, sum_of_rooms, IsLeastRoom}

-- the least room of a stretch from the first row on: its rows after the first are counted by k
record IsLeastFront (rows : List Span) (least : ℤ) : Type 0 where
  bound : (k : ℕ) → k < length rows → least ≤ℤ room_of_all (take (suc k) rows)
  reached : (k : ℕ) × (k < length rows) × (least ≡ room_of_all (take (suc k) rows))

-- one row before: the stretch ends with it, or goes on as far as the least one of the others
IsLeastFront-cons : (s : Span) (ss : List Span) (m : ℤ) → IsLeastFront ss m → IsLeastFront (s ∷ ss) (room s +ℤ int_min (pos 0) m)
IsLeastFront-cons s ss m least = record { bound = bound; reached = reached }
  where
    bound : (k : ℕ) → k < suc (length ss) → (room s +ℤ int_min (pos 0) m) ≤ℤ room_of_all (take (suc k) (s ∷ ss))
    bound zero l = omega (arith, ints, clamps)
    bound (suc k) l =
        let b : m ≤ℤ room_of_all (take (suc k) ss) = least.bound k (omega arith) in
        omega (arith, ints, clamps)

    reached : (k : ℕ) × (k < suc (length ss)) × (room s +ℤ int_min (pos 0) m ≡ room_of_all (take (suc k) (s ∷ ss)))
    reached =
        by_lt_z m (pos 0)
        (λ l. (suc least.reached.0, omega arith, (let e : m ≡ room_of_all (take (suc least.reached.0) ss) = least.reached.2 in omega (arith, ints, clamps))))
        (λ l. (zero, omega arith, omega (arith, ints, clamps)))

-- the capacity of the first of some rows
IsLeastFront-filled : (s : Span) (ss : List Span) → IsLeastFront (s ∷ ss) (first_spare (filled (s ∷ ss)))
IsLeastFront-filled s [] =
    record {
      bound = λ k l. let e : k ≡ 0 = omega arith in rw e (omega (arith, ints));
      reached = (zero, omega arith, omega (arith, ints));
    }
IsLeastFront-filled s (t ∷ ts) = IsLeastFront-cons s (t ∷ ts) (first_spare (filled (t ∷ ts))) (IsLeastFront-filled t ts)

-- counted from the first place, as the law does
IsLeastRoom-from_front : (rows : List Span) (at : ℕ) (least : ℤ) → at < length rows → IsLeastFront (drop at rows) least → IsLeastRoom rows at least
IsLeastRoom-from_front rows at least l front = record { bound = bound; reached = reached }
  where
    sum : (k last : ℕ) → last + 1 - at ≡ suc k → room_of_all (take (suc k) (drop at rows)) ≡ sum_of_rooms rows at last
    sum k last e = rw e refl

    bound : (last : ℕ) → at ≤ last → last < length rows → least ≤ℤ sum_of_rooms rows at last
    bound last from within =
        let b : least ≤ℤ room_of_all (take (suc (last - at)) (drop at rows)) = front.bound (last - at) (omega (arith, length-drop at rows)) in
        subst (λ z. least ≤ℤ z) (sum (last - at) last (omega arith)) b

    reached : (last : ℕ) × (at ≤ last) × (last < length rows) × (least ≡ sum_of_rooms rows at last)
    reached =
        let k = front.reached.0 in
        let within : k < length (drop at rows) = front.reached.1 in
        (at + k, omega arith, omega (arith, length-drop at rows), front.reached.2 ∙ sum k (at + k) (omega arith))

pub capacity_is_least : (rows : List Span) (at : ℕ) → rows ≡ filled rows → at < length rows → IfSome (slice_get rows at) (λ row. IsLeastRoom rows at row.spare)
capacity_is_least rows at e l =
    let row = get_or rows at no_row in
    let rest = drop (at + 1) rows in
    let split : drop at rows ≡ row ∷ rest = drop_more rows at no_row l in
    let again : row ∷ rest ≡ filled (row ∷ rest) = sym split ∙ ap (drop at) e ∙ drop-filled at rows ∙ ap filled split in
    let front : IsLeastFront (row ∷ rest) row.spare = subst (IsLeastFront (row ∷ rest)) (ap first_spare (sym again)) (IsLeastFront-filled row rest) in
    let whole : IsLeastFront (drop at rows) row.spare = rw split front in
    rw (slice_get-get_or rows at no_row l) (IsLeastRoom-from_front rows at row.spare l whole)
