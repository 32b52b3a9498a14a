use Rattle.std.proofs.Common.{◌≡◌, ◌∙◌, ◌^◌, ◌-◌, ℤ, pos, neg_ℤ, ◌-ℤ◌, ◌+ℤ◌, ◌≤ℤ◌, to_z, of_z, w64, FitsSigned, refl, ap, arith}
use Rattle.std.specs.Int.{int_min}
use Rattle.std.proofs.lemmas.Int.{ints, clamps, to_z-of_z, to_z_pos}
use Rattle.slot_core.specs.declared.jobs.Span.{Span}
use Rattle.spare_capacity.specs.Recurrence.{room}
use Rattle.spare_capacity.specs.Refill.{IsShort}
use Rattle.spare_capacity.proofs.with_spare.Goals as goal

-- the room of a short row as the code computes it
room_is : (row : Span) → IsShort row → to_z w64 (row.end - row.start) -ℤ to_z w64 row.work ≡ room row
room_is row short =
    rw (to_z_pos w64 (row.end - row.start) (omega (arith, short.length)), to_z_pos w64 row.work (omega (arith, short.work))) refl

-- the room of a short row fits
room_fits : (row : Span) → IsShort row → FitsSigned w64 (room row)
room_fits row short = omega (arith, ints, short.length, short.work)

-- the capacity of a short row fits where the row after it borrows few
spare_fits : (row : Span) (borrowed : ℤ) → IsShort row → neg_ℤ (pos (2 ^ 61)) ≤ℤ borrowed → borrowed ≤ℤ pos 0 → FitsSigned w64 (room row +ℤ borrowed)
spare_fits row borrowed short few some = omega (arith, ints, short.length, short.work, few, some)

-- what a row after this one borrows
borrowed_is : (later least : ℤ) → FitsSigned w64 later → least ≡ int_min (to_z w64 (of_z w64 later)) (pos 0) → least ≡ int_min (pos 0) later
borrowed_is later least fits is = is ∙ rw (to_z-of_z w64 later fits) (omega (arith, ints, clamps))

-- the capacity of a short row before its last reading as bits
sum_is : (row : Span) (later least : ℤ) → IsShort row → FitsSigned w64 least → least ≡ int_min (pos 0) later → to_z w64 (of_z w64 (to_z w64 (row.end - row.start) -ℤ to_z w64 row.work)) +ℤ to_z w64 (of_z w64 least) ≡ room row +ℤ int_min (pos 0) later
sum_is row later least short fits is =
    rw (room_is row short, to_z-of_z w64 (room row) (room_fits row short), to_z-of_z w64 least fits, is) refl

-- and it fits
sum_fits : (row : Span) (later : ℤ) → IsShort row → neg_ℤ (pos (2 ^ 61)) ≤ℤ later → FitsSigned w64 (room row +ℤ int_min (pos 0) later)
sum_fits row later short few = spare_fits row (int_min (pos 0) later) short (omega (arith, ints, clamps, few)) (omega (arith, ints, clamps))

pub overflow_sub-slots : goal.overflow_sub-slots
overflow_sub-slots c = c.requires.short.rising

pub overflow_cast-result : goal.overflow_cast-result
overflow_cast-result c = omega (arith, ints, c.requires.short.length)

pub overflow_cast-result-2 : goal.overflow_cast-result-2
overflow_cast-result-2 c = omega (arith, ints, c.requires.short.work)

pub overflow_sub-result : goal.overflow_sub-result
overflow_sub-result c = rw (room_is c.args.row c.requires.short) (room_fits c.args.row c.requires.short)

pub overflow_add-result : goal.overflow_add-result
overflow_add-result c =
    let least = borrowed_is c.args.later c.min.result c.ranges.later c.min.ensures.value in
    rw (sum_is c.args.row c.args.later c.min.result c.requires.short (omega (arith, ints, c.min.type_inv)) least) (sum_fits c.args.row c.args.later c.requires.short c.requires.borrows_few)

pub returns : goal.returns
returns c =
    let least = borrowed_is c.args.later c.min.result c.ranges.later c.min.ensures.value in
    let sum = sum_is c.args.row c.args.later c.min.result c.requires.short (omega (arith, ints, c.min.type_inv)) least in
    ap (λ (z : ℤ). record c.args.row { spare = z }) (ap (λ z. to_z w64 (of_z w64 z)) sum ∙ to_z-of_z w64 _ (sum_fits c.args.row c.args.later c.requires.short c.requires.borrows_few))
