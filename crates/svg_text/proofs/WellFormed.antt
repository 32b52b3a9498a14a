-- The elements of a drawing are content, and a document of content is well-formed.
use Rattle.std.proofs.Common.{◌≡◌, ℕ, true, List, [], ◌∷◌, ◌++◌, codes, refl, sym, subst, ap, ◌∙◌, append_assoc, append-nil}
use Rattle.svg_text.specs.declared.drawing.Frame.{Frame}
use Rattle.svg_text.specs.Content.{Attribute, IsContent, IsDocument, are_attributes, element_text, escaped, is_name}
use Rattle.svg_text.specs.Content.IsContent.{nothing, text, element}
use Rattle.svg_text.specs.Shapes.{classed, document_text, framed, label_text, line_text, path_text, placed, rect_text, size, strokes_text, title_text}

-- content and then more content
pub IsContent-append : (first more : List ℕ) → IsContent first → IsContent more → IsContent (first ++ more)
IsContent-append _ more nothing then_ = then_
IsContent-append _ more (text bytes rest is) then_ =
    subst
    IsContent
    (sym (append_assoc (escaped bytes) rest more))
    (text bytes (rest ++ more) (IsContent-append rest more is then_))
IsContent-append _ more (element name attributes inside rest named apart inner is) then_ =
    subst
    IsContent
    (sym (append_assoc (element_text name attributes inside) rest more))
    (element name attributes inside (rest ++ more) named apart inner (IsContent-append rest more is then_))

-- a text is content
pub IsContent-escaped : (bytes : List ℕ) → IsContent (escaped bytes)
IsContent-escaped bytes = subst IsContent (append-nil (escaped bytes)) (text bytes [] nothing)

-- an element and a line feed
pub IsContent-line :
    (name : List ℕ) (attributes : List Attribute) (inside : List ℕ)
    → is_name name ≡ true → are_attributes attributes ≡ true → IsContent inside
    → IsContent (element_text name attributes inside ++ 10 ∷ [])
IsContent-line name attributes inside named apart inner =
    element name attributes inside (10 ∷ []) named apart inner (text (10 ∷ []) [] nothing)

-- a title, or none
pub IsContent-title : (title : List ℕ) → IsContent (title_text title)
IsContent-title [] = nothing
IsContent-title (b ∷ bytes) =
    let inside = escaped (b ∷ bytes) in
    subst
    IsContent
    (append-nil (element_text (codes "title") [] inside))
    (element (codes "title") [] inside [] refl refl (IsContent-escaped (b ∷ bytes)) nothing)

pub IsContent-rect : (class : List ℕ) (frame : Frame) (title : List ℕ) → IsContent (rect_text class frame title)
IsContent-rect class frame title =
    IsContent-line (codes "rect") (classed class ∷ framed frame) (title_text title) refl refl (IsContent-title title)

pub IsContent-path : (class : List ℕ) (x y : ℕ) (strokes title : List ℕ) → IsContent (path_text class x y strokes title)
IsContent-path class x y strokes title =
    IsContent-line
    (codes "path")
    (classed class ∷ (codes "d", strokes_text x y strokes) ∷ [])
    (title_text title)
    refl
    refl
    (IsContent-title title)

pub IsContent-label : (class : List ℕ) (x y : ℕ) (words : List ℕ) → IsContent (label_text class x y words)
IsContent-label class x y words =
    IsContent-line
    (codes "text")
    (classed class ∷ placed x y)
    (escaped words)
    refl
    refl
    (IsContent-escaped words)

-- a document of a drawing
pub IsDocument-drawing : (width height : ℕ) (style drawing : List ℕ) → IsContent drawing → IsDocument (document_text width height style drawing)
IsDocument-drawing width height style drawing is =
    let styled = line_text (codes "style") [] (escaped style) in
    record {
      attributes = size width height;
      inside = 10 ∷ styled ++ drawing;
      named = refl;
      content =
          text
          (10 ∷ [])
          (styled ++ drawing)
          (IsContent-append
          styled
          drawing
          (IsContent-line (codes "style") [] (escaped style) refl refl (IsContent-escaped style))
          is);
      text = refl;
    }

-- what a document was written into from nothing on
pub IsDocument-written :
    (before after : List ℕ) (width height : ℕ) (style drawing : List ℕ)
    → before ≡ [] → after ≡ before ++ document_text width height style drawing
    → IsContent drawing → IsDocument after
IsDocument-written before after width height style drawing none written is =
    let whole = document_text width height style drawing in
    subst
    IsDocument
    (sym (written ∙ ap (λ xs. xs ++ whole) none))
    (IsDocument-drawing width height style drawing is)

-- content with one more line
pub IsContent-grown :
    {before line after whole : List ℕ}
    → IsContent before → IsContent whole → line ≡ whole → after ≡ before ++ line → IsContent after
IsContent-grown {before = before} {whole = whole} is more same grown =
    subst IsContent (sym (grown ∙ ap (λ xs. before ++ xs) same)) (IsContent-append before whole is more)

-- three pieces one after the other
one_by_one : (t x y z : List ℕ) → ((t ++ x) ++ y) ++ z ≡ t ++ (x ++ (y ++ z))
one_by_one t x y z = search append_assoc

pub three-pieces :
    (before first second after x y z : List ℕ)
    → first ≡ before ++ x → second ≡ first ++ y → after ≡ second ++ z
    → after ≡ before ++ (x ++ (y ++ z))
three-pieces before first second after x y z is then_ last =
    last
    ∙ ap (λ xs. xs ++ z) (then_ ∙ ap (λ xs. xs ++ y) is)
    ∙ one_by_one before x y z

-- the tag that opens an element, what stands in it, and its end are its line
end_apart : (t o i c n : List ℕ) → t ++ (o ++ (i ++ (c ++ n))) ≡ t ++ (((o ++ i) ++ c) ++ n)
end_apart t o i c n = search append_assoc

pub line-pieces :
    (before opened filled after opens inside closes end : List ℕ)
    → opened ≡ before ++ opens → filled ≡ opened ++ inside → after ≡ filled ++ (closes ++ end)
    → after ≡ before ++ (((opens ++ inside) ++ closes) ++ end)
line-pieces before opened filled after opens inside closes end is then_ last =
    three-pieces before opened filled after opens inside (closes ++ end) is then_ last
    ∙ end_apart before opens inside closes end
