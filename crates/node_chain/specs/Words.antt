-- The words of a block: the links of each node side by side, then their spans.
use Rattle.std.specs.Prelude.{ℕ, ◌+◌, ◌*◌, ◌/◌, ◌%◌, ◌^◌, List, map, get_or, slice_set}
use Rattle.std.specs.Int.{w64, cast_signed, cast_unsigned}
use Rattle.std.specs.List.{range_with_len}
use Rattle.slot_core.specs.declared.jobs.Span.{Span}
use Rattle.node_chain.specs.declared.block.Node.{Node}

-- the word at a place
abbrev pub word_at : List ℕ → ℕ → ℕ
word_at words i = get_or words i 0

-- how many bits a link takes
abbrev pub link_bits : ℕ
link_bits = 32

-- the links of a node in one word
abbrev pub links_word : ℕ → ℕ → ℕ
links_word next prev = next + prev * 2 ^ link_bits

-- how many words a span takes: start, end, work and spare
abbrev pub span_words : ℕ
span_words = 4

-- how many words a node takes: one for its links, and those of its span
abbrev pub node_words : ℕ
node_words = 1 + span_words

-- where the span of a place begins, behind the links of so many nodes
abbrev pub span_place : ℕ → ℕ → ℕ
span_place count place = count + span_words * place

-- the span whose words begin at a place
abbrev pub span_in : List ℕ → ℕ → Span
span_in words i = record {
  start = word_at words i;
  end = word_at words (i + 1);
  work = word_at words (i + 2);
  spare = cast_signed w64 (word_at words (i + 3));
}

-- the words of a span are put from a place on
abbrev pub with_span_words : ℕ → Span → List ℕ → List ℕ
with_span_words i s words =
    let two = slice_set (slice_set words i s.start) (i + 1) s.end in
    slice_set (slice_set two (i + 2) s.work) (i + 3) (cast_unsigned w64 s.spare)

-- the node at a place, in the words of so many nodes
abbrev pub node_in : List ℕ → ℕ → ℕ → Node
node_in words count place = record {
  next = word_at words place % 2 ^ link_bits;
  prev = word_at words place / 2 ^ link_bits;
  span = span_in words (span_place count place);
}

-- the nodes whose words they are
abbrev pub nodes_of : List ℕ → ℕ → List Node
nodes_of words count = map (node_in words count) (range_with_len 0 count)
