-- Worked calls: each holds by computing the definitions.
use Rattle.std.specs.Prelude.{◌≡◌, pos, negsuc, List, [], ◌∷◌, drop, take, refl}
use Rattle.std.specs.Int.{int_wrap}
use Rattle.slot_core.specs.declared.jobs.Span.{Span}
use Rattle.spare_capacity.specs.Recurrence.{filled}
use Rattle.spare_capacity.specs.Examples.{span}
use Rattle.node_chain.specs.Laps.{blank_lift}
use Rattle.node_chain.specs.Passes.{lift_raised}
use Rattle.interval_row.specs.Changes.{after_pass, cut, ends_before, with_less, with_more}
use Rattle.interval_row.specs.Lifts.{lifted, lifted_by, lowered_by, raised_at}
use Rattle.interval_row.specs.Marks.{first_mark, count_at, mark_index, passed, with_change, with_cut, with_end, without_end, works_at, works_in_page}
use Rattle.interval_row.specs.Spans.{place_of}
use Rattle.interval_row.specs.Tables.{works}
use Rattle.interval_row.specs.Walks.{after_walk}
use Rattle.interval_row.specs.declared.spans.Change.TheVariants.{More}

-- three cycles of a set in which every second span lacks two slots
abbrev pub borrowing : List Span
borrowing =
    span 0 4 1 (pos 1)
    ∷ span 4 10 8 (negsuc 1)
    ∷ span 10 14 1 (pos 1)
    ∷ span 14 20 8 (negsuc 1)
    ∷ span 20 24 1 (pos 1)
    ∷ span 24 30 8 (negsuc 1)
    ∷ []

-- of which the first three have ten slots of work
pub works_of_three : works (take 3 borrowing) ≡ 10
works_of_three = refl

-- two end before 14, at which the third ends
pub ends_before_14 : ends_before 14 borrowing ≡ 2
ends_before_14 = refl

-- these are at the front, before the place of 14
pub place_of_14 : place_of 14 borrowing ≡ 2
place_of_14 = refl

-- none ends before 4, at which the first ends
pub ends_before_4 : ends_before 4 borrowing ≡ 0
ends_before_4 = refl

-- after 2 became the end of a span
abbrev pub cut_at_2 : List Span
cut_at_2 = span 0 2 0 (pos 1) ∷ span 2 4 1 (negsuc 0) ∷ drop 1 borrowing

pub after_cut : filled (cut 2 borrowing) ≡ cut_at_2
after_cut = refl

-- and a slot of work was due there
abbrev pub charged_at_2 : List Span
charged_at_2 = span 0 2 1 (pos 0) ∷ drop 1 cut_at_2

pub after_charge : filled (with_more 2 1 cut_at_2) ≡ charged_at_2
after_charge = refl

-- which is given back
pub after_give_back : filled (with_less 2 1 charged_at_2) ≡ cut_at_2
after_give_back = refl

-- a slot later
pub after_slot : filled (after_pass cut_at_2) ≡ span 1 2 0 (pos 0) ∷ drop 1 cut_at_2
after_slot = refl

-- a later span that runs repays the one that lent to it
pub after_run :
    filled (with_less 10 1 borrowing)
    ≡ span 0 4 1 (pos 2) ∷ span 4 10 7 (negsuc 0) ∷ drop 2 borrowing
after_run = refl

-- how that goes back: the span that ran is as it will be, and the one before it is repaid a slot
pub walk_of_run :
    after_walk
    (record { index = 1; more = pos 1 })
    (span 0 4 1 (pos 1) ∷ span 4 10 7 (negsuc 0) ∷ drop 2 borrowing)
    ≡ filled (with_less 10 1 borrowing)
walk_of_run = refl

-- spans of which the last has run, and the two before it, of another page, have nothing to give
abbrev pub lacking : List Span
lacking = span 0 30 33 (negsuc 7) ∷ span 30 50 22 (negsuc 4) ∷ span 50 90 42 (negsuc 1) ∷ []

-- both follow as one
pub walk_by_page :
    after_walk (record { index = 2; more = pos 1 }) lacking ≡ raised_at 0 (pos 1) lacking
walk_by_page = refl

-- spans that end in two pages of one mark, a lap apart, and one between
abbrev pub far : List Span
far = span 0 50 7 (pos 43) ∷ span 50 100 9 (pos 41) ∷ span 100 32800 5 (pos 32695) ∷ []

pub far_marks : mark_index 50 ∷ mark_index 100 ∷ mark_index 32800 ∷ [] ≡ 0 ∷ 1 ∷ 0 ∷ []
far_marks = refl

-- so two spans have the mark at 0, with twelve slots of work, of which five are in the later page
pub far_count : count_at 0 far ≡ 2
far_count = refl

pub far_works : works_at 0 far ≡ 12
far_works = refl

pub far_page : works_in_page 32800 far ≡ 5
far_page = refl

-- a mark that follows spans: two that end at 484 and 504, a slot more, a cut, the first has passed
pub marks_followed :
    without_end
    120
    (with_cut (with_change (More 1) (with_end 504 9 (with_end 484 120 (first_mark 7)))))
    ≡ record { count = 2; works = 10; low = 363 }
marks_followed = refl

-- an empty page that has passed is the one a lap later
pub mark_passed : passed 63 (first_mark 0) ≡ record { count = 0; works = 0; low = 32768 }
mark_passed = refl

-- a slot less for the spans that end in the pages of the mark at 0
abbrev pub far_less : List Span
far_less = span 0 50 7 (pos 42) ∷ span 50 100 9 (pos 41) ∷ span 100 32800 5 (pos 32694) ∷ []

pub far_raised : raised_at 0 (negsuc 0) far ≡ far_less
far_raised = refl

-- by the lift alone, where the shelf keeps the spans as they were
pub far_lifted : lifted (lift_raised (negsuc 0) blank_lift ∷ []) far ≡ far_less
unfolding int_wrap
far_lifted = refl

-- what is kept of a span under a lift, and read again
pub lowered_lifted :
    lifted_by (negsuc 0) (lowered_by (negsuc 0) (span 0 4 1 (pos 3))) ≡ span 0 4 1 (pos 3)
unfolding int_wrap
lowered_lifted = refl
