-- Worked cases of marks, lifts, raises and chains: each holds by computing the definitions.
use Rattle.std.specs.Prelude.{◌≡◌, ℕ, suc, ◌-◌, ◌^◌, ℤ, pos, negsuc, neg_ℤ, List, [], ◌∷◌, true, false, refl}
use Rattle.std.specs.Int.{int_wrap}
use Rattle.slot_core.specs.declared.jobs.Span.{Span}
use Rattle.node_chain.specs.declared.chain.NodeId.{NodeId}
use Rattle.node_chain.specs.declared.marks.Lift.{Lift}
use Rattle.node_chain.specs.declared.marks.Mark.{Mark}
use Rattle.node_chain.specs.declared.marks.Rest.{Rest}
use Rattle.node_chain.specs.declared.raises.Raise.{Raise}
use Rattle.node_chain.specs.Laps.{blank_lift, lift_over, made_mark, paired}
use Rattle.node_chain.specs.Passes.{lifts_passed, spans_ending}
use Rattle.node_chain.specs.Raises.{lifted_by, map_between, passes_on, spare_after, spare_under}
use Rattle.node_chain.specs.Searches.{chain_spans, works_of_first}

-- a span
abbrev span : ℕ → ℕ → ℕ → ℤ → Span
span start end work spare = record { start = start; end = end; work = work; spare = spare }

-- a mark
abbrev mark : ℕ → ℕ → ℕ → Mark
mark count works low = record { count = count; works = works; low = low }

-- what a mark tells beside its count
abbrev beside : ℕ → ℕ → Rest
beside works low = record { works = works; low = low }

-- a lift
abbrev lift : ℤ → ℤ → Lift
lift high add = record { high = high; add = add }

-- the least number of 64 bits with a sign
abbrev least : ℤ
least = neg_ℤ (pos (2 ^ 63))

-- the greatest of them
abbrev greatest : ℤ
greatest = pos (2 ^ 63 - 1)

-- three marks: in the pages of the second no span ends
abbrev marks : List Mark
marks = mark 2 7 3 ∷ mark 0 0 4 ∷ mark 1 5 0 ∷ []

-- they are made of their counts and what they tell beside
pub marks_made :
    paired made_mark (2 ∷ 0 ∷ 1 ∷ []) (beside 7 3 ∷ beside 0 4 ∷ beside 5 0 ∷ []) ≡ marks
marks_made = refl

-- where one list is shorter, what the other has beyond its end is left out
pub two_made : paired made_mark (2 ∷ 0 ∷ 1 ∷ []) (beside 7 3 ∷ beside 5 4 ∷ [])
    ≡ mark 2 7 3 ∷ mark 0 5 4 ∷ []
two_made = refl

-- a bound that is kept as five, and a sum of two below 0: the bound of the lift is three
pub lift_of_both : lift_over (pos 5) (negsuc 1) ≡ lift (pos 3) (negsuc 1)
unfolding int_wrap
lift_of_both = refl

-- a bound that goes below the least number wraps round to the greatest
pub lift_wrapped : lift_over least (negsuc 0) ≡ lift greatest (negsuc 0)
unfolding int_wrap
lift_wrapped = refl

-- a lift for each of the three marks
abbrev lifts : List Lift
lifts = lift (pos 3) (pos 0) ∷ lift (pos 9) (pos 1) ∷ lift (pos 4) (negsuc 1) ∷ []

-- where all are passed with two less, the one in whose pages no span ends stays
pub all_passed : lifts_passed (negsuc 1) marks 0 3 lifts
    ≡ lift (pos 1) (negsuc 1) ∷ lift (pos 9) (pos 1) ∷ lift (pos 2) (negsuc 3) ∷ []
unfolding int_wrap
all_passed = refl

-- where two are passed from the second on, with two more, the first stays too
pub last_passed : lifts_passed (pos 2) marks 1 2 lifts
    ≡ lift (pos 3) (pos 0) ∷ lift (pos 9) (pos 1) ∷ lift (pos 6) (pos 0) ∷ []
unfolding int_wrap
last_passed = refl

-- a bound that is passed below the least number wraps round to the greatest too
pub passed_wrapped :
    lifts_passed (negsuc 0) (mark 1 0 0 ∷ []) 0 1 (blank_lift ∷ []) ≡ lift greatest (negsuc 0) ∷ []
unfolding int_wrap
passed_wrapped = refl

-- three spans end in the pages of all
pub ending_in_all : spans_ending marks 0 3 ≡ 3
ending_in_all = refl

-- and one of them in those of the last two
pub ending_in_last_two : spans_ending marks 1 2 ≡ 1
ending_in_last_two = refl

-- the second and the third item are changed, the one at the upper index is not
pub second_and_third : map_between suc 1 3 (4 ∷ 5 ∷ 6 ∷ 7 ∷ []) ≡ 4 ∷ 6 ∷ 7 ∷ 7 ∷ []
second_and_third = refl

-- three more, passed on by spans that start at 10 or later and had at most 5; what a span had is
-- what is kept of it and two
abbrev raise : Raise
raise = record { more = pos 3; border = 10; limit = pos 5; add = pos 2 }

-- a span that starts at the border, with as much as the limit, passes it on
pub passed_at_limit : passes_on raise (span 10 14 1 (pos 3)) ≡ true
unfolding int_wrap
passed_at_limit = refl

-- one that starts before the border does not
pub ended_before_border : passes_on raise (span 9 14 1 (pos 3)) ≡ false
unfolding int_wrap
ended_before_border = refl

-- nor one with more than the limit
pub ended_above_limit : passes_on raise (span 10 14 1 (pos 4)) ≡ false
unfolding int_wrap
ended_above_limit = refl

-- afterwards a span has what is kept, the two, and the three more
pub raised_spare : spare_after raise (span 10 14 1 (negsuc 3)) ≡ pos 1
unfolding int_wrap
raised_spare = refl

-- what is kept gets the three alone
pub raised_span : lifted_by (pos 3) (span 10 14 1 (negsuc 3)) ≡ span 10 14 1 (negsuc 0)
unfolding int_wrap
raised_span = refl

-- a capacity above the greatest number wraps round to the least
pub wrapped_spare : spare_under (pos 1) (span 10 14 1 greatest) ≡ least
unfolding int_wrap
wrapped_spare = refl

-- a chain of three spans, whose ids come in any order
abbrev chain : List (NodeId × Span)
chain =
    (record { 0 = 3 }, span 0 4 1 (pos 3))
    ∷ (record { 0 = 1 }, span 4 10 8 (negsuc 1))
    ∷ (record { 0 = 2 }, span 10 14 2 (pos 2))
    ∷ []

-- its spans
pub spans_of_chain :
    chain_spans chain ≡ span 0 4 1 (pos 3) ∷ span 4 10 8 (negsuc 1) ∷ span 10 14 2 (pos 2) ∷ []
spans_of_chain = refl

-- before the third span 9 slots are due
pub works_before_third : works_of_first 2 (chain_spans chain) ≡ 9
works_before_third = refl

-- and 11 in all, however many are asked for
pub works_of_all : works_of_first 5 (chain_spans chain) ≡ 11
works_of_all = refl
