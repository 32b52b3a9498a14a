-- The cycle is a multiple of each of the lengths that it is made of.
use Rattle.std.proofs.Common.{◌≡◌, ℕ, ◌*◌, ◌/◌, ◌%◌, ◌≤◌, ◌==◌, List, [], ◌∷◌, Option, Some, None, refl, sym, ap, ◌∙◌, subst, inl, inr, arith}
use Rattle.std.specs.Prelude.{find, fold, unwrap_or, nat_lt}
use Rattle.std.specs.List.{range_with_len}
use Rattle.std.proofs.Math.Nat.{mul_assoc, mul_comm, mul-mod_left, one-le-mul}
use Rattle.std.proofs.lemmas.Bool.{eqb-true, ltb-false}
use Rattle.std.proofs.lemmas.Nat.{div-add-mod'}
use Rattle.slot_core.specs.Sets.Cycles.{least_common_multiple, first_multiple_above}
use Rattle.slot_facts.proofs.Lists.Members.{Has, Has-range_with_len_bounds}
use Rattle.slot_facts.proofs.Lists.Tests.{find-Some}
use Rattle.slot_facts.proofs.Sets.Faults.{cond-None}

-- n is a multiple of d
pub record IsMultiple (d n : ℕ) : Type 0 where
  pub times : ℕ
  pub is : n ≡ times * d

IsMultiple-trans : (a b c : ℕ) → IsMultiple a b → IsMultiple b c → IsMultiple a c
IsMultiple-trans a b c ab bc =
    record { times = bc.times * ab.times; is = bc.is ∙ (ap (λ x. bc.times * x) ab.is ∙ sym (mul_assoc bc.times ab.times a)) }

IsMultiple-from_mod : (d n : ℕ) → n % d ≡ 0 → IsMultiple d n
IsMultiple-from_mod d n none = record { times = n / d; is = omega (arith, div-add-mod' n d) }

-- a multiple is the divisor as often as it goes into it
pub div-mul-IsMultiple : (d n : ℕ) → 1 ≤ d → IsMultiple d n → (n / d) * d ≡ n
div-mul-IsMultiple d n some m =
    let even : n % d ≡ 0 = ap (λ x. x % d) m.is ∙ mul-mod_left m.times d in
    omega (arith, div-add-mod' n d)

-- the least common multiple is a times a number from 1 on, and a multiple of b
record IsCommon (a b m : ℕ) : Type 0 where
  factor : ℕ
  some : 1 ≤ factor
  is : m ≡ a * factor
  even : IsMultiple b (a * factor)

IsCommon-least_common_multiple : (a b : ℕ) → 1 ≤ b → IsCommon a b (least_common_multiple a b)
IsCommon-least_common_multiple a b some = go (find (λ n. (a * n) % b == 0) (range_with_len 1 b)) refl
  where
    go : (o : Option ℕ) → find (λ n. (a * n) % b == 0) (range_with_len 1 b) ≡ o → IsCommon a b (least_common_multiple a b)
    go None e = record {
      factor = b;
      some = some;
      is = ap (λ o. a * unwrap_or o b) e;
      even = record { times = a; is = refl };
    }
    go (Some n) e =
        let found = find-Some (λ n. (a * n) % b == 0) (range_with_len 1 b) n e in
        record {
          factor = n;
          some = (Has-range_with_len_bounds 1 b n found.0).0;
          is = ap (λ o. a * unwrap_or o b) e;
          even = IsMultiple-from_mod b (a * n) (eqb-true ((a * n) % b) 0 found.1);
        }

IsMultiple-first : (a b : ℕ) → 1 ≤ b → IsMultiple a (least_common_multiple a b)
IsMultiple-first a b some =
    let common = IsCommon-least_common_multiple a b some in
    record { times = common.factor; is = common.is ∙ mul_comm a common.factor }

IsMultiple-second : (a b : ℕ) → 1 ≤ b → IsMultiple b (least_common_multiple a b)
IsMultiple-second a b some =
    let common = IsCommon-least_common_multiple a b some in
    record { times = common.even.times; is = common.is ∙ common.even.is }

least_common_multiple-positive : (a b : ℕ) → 1 ≤ a → 1 ≤ b → 1 ≤ least_common_multiple a b
least_common_multiple-positive a b first second =
    let common = IsCommon-least_common_multiple a b second in
    omega (arith, common.is, one-le-mul first common.some)

-- the running multiple over lengths from 1 on is a multiple of its start, and of each length
IsMultiple-start : (m : ℕ) (lengths : List ℕ) → ((n : ℕ) → Has lengths n → 1 ≤ n) → IsMultiple m (fold least_common_multiple m lengths)
IsMultiple-start m [] some = record { times = 1; is = omega arith }
IsMultiple-start m (n ∷ ns) some =
    let next = least_common_multiple m n in
    IsMultiple-trans
    m
    next
    (fold least_common_multiple next ns)
    (IsMultiple-first m n (some n (inl refl)))
    (IsMultiple-start next ns (λ k h. some k (inr h)))

pub IsMultiple-fold : (m d : ℕ) (lengths : List ℕ) → ((n : ℕ) → Has lengths n → 1 ≤ n) → Has lengths d → IsMultiple d (fold least_common_multiple m lengths)
IsMultiple-fold m d [] some h = absurd h
IsMultiple-fold m d (n ∷ ns) some (inl e) =
    let next = least_common_multiple m n in
    subst
    (λ k. IsMultiple k (fold least_common_multiple next ns))
    e
    (IsMultiple-trans
    n
    next
    (fold least_common_multiple next ns)
    (IsMultiple-second m n (some n (inl refl)))
    (IsMultiple-start next ns (λ k h. some k (inr h))))
IsMultiple-fold m d (n ∷ ns) some (inr h) =
    IsMultiple-fold (least_common_multiple m n) d ns (λ k at. some k (inr at)) h

-- it is at least 1, and at most a limit that it is never above
pub fold_least_common_multiple-positive : (m : ℕ) (lengths : List ℕ) → 1 ≤ m → ((n : ℕ) → Has lengths n → 1 ≤ n) → 1 ≤ fold least_common_multiple m lengths
fold_least_common_multiple-positive m [] start some = start
fold_least_common_multiple-positive m (n ∷ ns) start some =
    fold_least_common_multiple-positive
    (least_common_multiple m n)
    ns
    (least_common_multiple-positive m n start (some n (inl refl)))
    (λ k h. some k (inr h))

pub fold_least_common_multiple-le : (limit m : ℕ) (lengths : List ℕ) → m ≤ limit → first_multiple_above limit m lengths ≡ None → fold least_common_multiple m lengths ≤ limit
fold_least_common_multiple-le limit m [] start none = start
fold_least_common_multiple-le limit m (n ∷ ns) start none =
    let next = least_common_multiple m n in
    let within = cond-None (nat_lt limit next) next (first_multiple_above limit next ns) none in
    fold_least_common_multiple-le limit next ns (ltb-false limit next within.0) within.1
