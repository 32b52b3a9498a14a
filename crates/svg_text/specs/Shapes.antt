-- The elements of a drawing, each on a line of its own. Lengths are in pixels, from the left and
-- from the top.
use Rattle.std.specs.Prelude.{ℕ, List, [], ◌∷◌, ◌++◌, codes, decimal}
use Rattle.svg_text.specs.declared.drawing.Frame.{Frame}
use Rattle.svg_text.specs.Content.{Attribute, element_text, escaped, svg_names}

-- an attribute whose value is a number
abbrev pub numbered : List ℕ → ℕ → Attribute
numbered name n = (name, decimal n)

-- how an element looks, by the name that a style sheet has for it
abbrev pub classed : List ℕ → Attribute
classed class = (codes "class", class)

-- an element on a line of its own
abbrev pub line_text : List ℕ → List Attribute → List ℕ → List ℕ
line_text name attributes inside = element_text name attributes inside ++ 10 ∷ []

-- the title that is shown where one points at an element, if there is one
abbrev pub title_text : List ℕ → List ℕ
title_text [] = []
title_text (b ∷ bytes) = element_text (codes "title") [] (escaped (b ∷ bytes))

-- where a point lies
abbrev pub placed : ℕ → ℕ → List Attribute
placed x y = numbered (codes "x") x ∷ numbered (codes "y") y ∷ []

-- where a rectangle lies
abbrev pub framed : Frame → List Attribute
framed frame =
    numbered (codes "x") frame.x
    ∷ numbered (codes "y") frame.y
    ∷ numbered (codes "width") frame.width
    ∷ numbered (codes "height") frame.height
    ∷ []

-- a filled rectangle
abbrev pub rect_text : List ℕ → Frame → List ℕ → List ℕ
rect_text class frame title =
    line_text (codes "rect") (classed class ∷ framed frame) (title_text title)

-- strokes from a point on, as the value of an attribute
abbrev pub strokes_text : ℕ → ℕ → List ℕ → List ℕ
strokes_text x y strokes = codes "M" ++ decimal x ++ codes " " ++ decimal y ++ strokes

-- strokes from a point on
abbrev pub path_text : List ℕ → ℕ → ℕ → List ℕ → List ℕ → List ℕ
path_text class x y strokes title =
    line_text
    (codes "path")
    (classed class ∷ (codes "d", strokes_text x y strokes) ∷ [])
    (title_text title)

-- words at a point
abbrev pub label_text : List ℕ → ℕ → ℕ → List ℕ → List ℕ
label_text class x y words =
    line_text
    (codes "text")
    (classed class ∷ placed x y)
    (escaped words)

-- a width and a height, all of which is seen
abbrev pub size : ℕ → ℕ → List Attribute
size width height =
    numbered (codes "width") width
    ∷ numbered (codes "height") height
    ∷ (codes "viewBox", codes "0 0 " ++ decimal width ++ codes " " ++ decimal height)
    ∷ []

-- the attributes of a document: it is of SVG, and of this size
abbrev pub sized : ℕ → ℕ → List Attribute
sized width height = svg_names ∷ size width height

-- a document of this width and height: how each class of elements looks, and the drawing
abbrev pub document_text : ℕ → ℕ → List ℕ → List ℕ → List ℕ
document_text width height style drawing =
    line_text
    (codes "svg")
    (sized width height)
    (10 ∷ line_text (codes "style") [] (escaped style) ++ drawing)
