-- What contracts see of the numbers beside spans.
use Rattle.std.specs.Prelude.{ℕ, ◌^◌, ℤ, ◌+ℤ◌, neg_ℤ, pos, List, [], ◌∷◌, replicate}
use Rattle.std.specs.Int.{w64, int_wrap}
use Rattle.node_chain.specs.declared.marks.Lift.{Lift}
use Rattle.node_chain.specs.declared.marks.Mark.{Mark}
use Rattle.node_chain.specs.declared.marks.Rest.{Rest}
use Rattle.node_chain.specs.declared.marks.TheConstants.{LAP}

-- the marks and the lifts of a lap
pub record Laps : Type 0 where
  pub marks : List Mark
  pub lifts : List Lift

-- a mark without numbers
abbrev pub blank_mark : Mark
blank_mark = record { count = 0; works = 0; low = 0 }

-- a lift without numbers: its bound is the least number, since no span is there
abbrev pub blank_lift : Lift
blank_lift = record { high = neg_ℤ (pos (2 ^ 63)); add = pos 0 }

-- laps without numbers
abbrev pub blank_laps : Laps
blank_laps = record { marks = replicate LAP blank_mark; lifts = replicate LAP blank_lift }

-- two lists side by side, each item made of one of the first and one of the second
abbrev pub paired : {X Y Z : Type 0} → (X → Y → Z) → List X → List Y → List Z
paired f [] ys = []
paired f (x ∷ xs) [] = []
paired f (x ∷ xs) (y ∷ ys) = f x y ∷ paired f xs ys

-- the mark with a count, and with what it tells beside
abbrev pub made_mark : ℕ → Rest → Mark
made_mark count rest = record { count = count; works = rest.works; low = rest.low }

-- the lift of a bound that is kept without the sum, and of the sum: its own bound is the two
-- added, which wraps round
abbrev pub lift_over : ℤ → ℤ → Lift
lift_over top add = record { high = int_wrap w64 (top +ℤ add); add = add }
