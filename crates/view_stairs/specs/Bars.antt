-- The bars of a staircase. Lengths are in pixels, from the left and from the top.
use Rattle.std.specs.Prelude.{◌≡◌, ℕ, ◌+◌, ◌-◌, ◌*◌, ◌≤◌, List, ◌++◌, codes, decimal, flat_map, map}
use Rattle.std.specs.List.{range_with_len}
use Rattle.svg_text.specs.declared.drawing.Frame.{Frame}
use Rattle.svg_text.specs.Shapes.{document_text, rect_text}
use Rattle.supply_lines.specs.Lines.{read_at}
use Rattle.view_stairs.specs.declared.lines.Step.{Step}
use Rattle.view_stairs.specs.declared.scale.Scale.{Scale}
use Rattle.view_stairs.specs.declared.scale.TheConstants.{LEFT, MARGIN, TOP}
use Rattle.view_stairs.specs.declared.style.TheConstants.{STYLE}
use Rattle.view_stairs.specs.Steps.{last_within, pair_of}

-- the lower edge of the bars: below the highest level
abbrev pub bottom_of : Scale → ℕ
bottom_of scale = TOP + scale.levels * scale.level

-- the size of the picture
abbrev pub width_of : Scale → ℕ
width_of scale = LEFT + scale.slots * scale.slot + MARGIN

abbrev pub height_of : Scale → ℕ
height_of scale = bottom_of scale + MARGIN

-- the bar of a number of slots: behind those of smaller numbers, as wide as a slot, and as high as
-- the supply within it has levels
abbrev pub bar_frame : Scale → ℕ → ℕ → Frame
bar_frame scale within supply = record {
  x = LEFT + (within - 1) * scale.slot;
  y = bottom_of scale - supply * scale.level;
  width = scale.slot;
  height = supply * scale.level;
}

-- the supply, and within how many slots
abbrev pub bar_title : ℕ → ℕ → List ℕ
bar_title within supply = decimal supply ++ codes " within " ++ decimal within

-- a bar with its title
abbrev pub bar_text : Scale → ℕ → ℕ → List ℕ
bar_text scale within supply =
    rect_text (codes "bar") (bar_frame scale within supply) (bar_title within supply)

-- the bars of all numbers of slots from 1 on, each of the supply that is read of the lines
abbrev pub bars_text : Scale → List Step → List ℕ
bars_text scale steps =
    flat_map
    (λ within. bar_text scale within (read_at (map pair_of steps) within))
    (range_with_len 1 scale.slots)

-- a document shows lines of a supply: behind a backdrop it has a bar for each number of slots up to
-- that of the last line, whose height is the supply that is read of the lines; slots are at least
-- one pixel wide and levels one high, and each bar lies inside the document
pub record ShowsStairs (steps : List Step) (document : List ℕ) : Type 0 where
  pub scale : Scale
  pub backdrop : List ℕ
  pub slots : scale.slots ≡ last_within steps
  pub wide : 1 ≤ scale.slot
  pub high : 1 ≤ scale.level
  pub inside : (within : ℕ) → read_at (map pair_of steps) within ≤ scale.levels
  pub drawn :
      document ≡
      document_text (width_of scale) (height_of scale) STYLE.now (backdrop ++ bars_text scale steps)
