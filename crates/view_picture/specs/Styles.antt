-- How each class of elements looks: the shade of a block is its class.
use Rattle.std.specs.Prelude.{ℕ, List, ◌++◌, codes}

-- the style sheet: of each shade the colour is pinned
abbrev pub style_sheet : List ℕ
style_sheet =
    codes "\n"
    ++ codes "text { font: 11px ui-monospace, 'DejaVu Sans Mono', monospace; fill: #222 }\n"
    ++ codes ".page { fill: #fff }\n"
    ++ codes ".name { text-anchor: end }\n"
    ++ codes ".again { font-size: 10px; fill: #777 }\n"
    ++ codes ".what { text-anchor: end; fill: #555; font-style: italic }\n"
    ++ codes ".tick { text-anchor: middle; font-size: 10px; fill: #555 }\n"
    ++ codes ".grid { fill: #e4e4e4 }\n"
    ++ codes ".edge { fill: #999 }\n"
    ++ codes ".zero { fill: #222 }\n"
    ++ codes ".task-a { fill: #0072b2 }\n"
    ++ codes ".task-b { fill: #6fc0ee }\n"
    ++ codes ".alarm-a { fill: #d55e00 }\n"
    ++ codes ".alarm-b { fill: #f6b48a }\n"
    ++ codes ".firm-a { fill: #00735a }\n"
    ++ codes ".firm-b { fill: #66c7a8 }\n"
    ++ codes ".soft-a { fill: #94487a }\n"
    ++ codes ".soft-b { fill: #dfa9ca }\n"
    ++ codes ".due { fill: #00735a }\n"
    ++ codes ".release, .deadline { fill: none; stroke: #222; stroke-width: 1.2 }\n"
    ++ codes ".deadline { stroke: #b00020 }\n"
    ++ codes ".mark, .open, .grey { stroke-width: 1.6; stroke-linejoin: round; stroke-linecap: round }\n"
    ++ codes ".mark { fill: #222; stroke: #222 }\n"
    ++ codes ".open { fill: none; stroke: #222 }\n"
    ++ codes ".grey { fill: none; stroke: #999 }\n"
    ++ codes ".first { fill: #c3d3df }\n"
    ++ codes ".least { fill: #222 }\n"
