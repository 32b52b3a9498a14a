-- What the nodes of a block are after words are put.
use Rattle.std.proofs.Common.{◌≡◌, ℕ, zero, suc, ◌+◌, ◌*◌, ◌/◌, ◌%◌, ◌≤◌, ◌<◌, ◌^◌, ℤ, List, length, replicate, slice_set, pos, refl, sym, ap, inl, inr, ◌∙◌, arith, add-zero, w64, SFits}
use Rattle.std.proofs.lemmas.Int.{to_z-of_z}
use Rattle.std.specs.Int.{cast_signed, cast_unsigned}
use Rattle.std.proofs.lemmas.List.{get_or-set_same, get_or-set_other, length-replicate, length-set, set-get_or}
use Rattle.std.proofs.lemmas.List.FromFn.{fill_by_all, get_or-map-range_with_len, length-map-range_with_len}
use Rattle.slot_core.specs.declared.jobs.Span.{Span}
use Rattle.node_chain.specs.declared.block.Node.{Node}
use Rattle.node_chain.specs.Nodes.{node_at, unused, unused_node}
use Rattle.node_chain.specs.Links.{span_of, with_span}
use Rattle.node_chain.specs.Words.{word_at, links_word, span_place, span_in, with_span_words, node_in, node_words, nodes_of}
use Rattle.node_chain.proofs.Counts.{same_or_not}
use Rattle.node_chain.proofs.Fresh.{length-unused, unused-at}
use Rattle.node_chain.proofs.Writes.{put-here, put-there}

-- the links come out of their word as they went in
pub links-next : (next prev : ℕ) → next < 2 ^ 32 → links_word next prev % 2 ^ 32 ≡ next
links-next next prev lt = omega arith

pub links-prev : (next prev : ℕ) → next < 2 ^ 32 → links_word next prev / 2 ^ 32 ≡ prev
links-prev next prev lt = omega arith

-- as many nodes as they say
pub length-nodes : (words : List ℕ) (count : ℕ) → length (nodes_of words count) ≡ count
length-nodes words count = length-map-range_with_len (node_in words count) 0 count

-- the node at a place is the one in its words
pub node-at : (words : List ℕ) (count place : ℕ) → place < count → node_at (nodes_of words count) place ≡ node_in words count place
node-at words count place lt =
    get_or-map-range_with_len (node_in words count) 0 count place place (unused_node 0) lt (omega arith)

-- a place of the nodes is one of so many
pub place-below : (words : List ℕ) (count place : ℕ) (nodes : List Node) → nodes_of words count ≡ nodes → place < length nodes → place < count
place-below words count place nodes is lt = omega (arith, length-nodes words count, ap length is, lt)

-- a node is put, where its words become its own and those of all others stay
pub nodes-set : (old new : List ℕ) (count place : ℕ) (node : Node) → place < count → node_in new count place ≡ node
    → ((q : ℕ) → q < count → (q ≡ place → ⊥) → node_in new count q ≡ node_in old count q)
    → nodes_of new count ≡ slice_set (nodes_of old count) place node
nodes-set old new count place node lt here there =
    let nodes : List Node = nodes_of old count in
    let long : length nodes ≡ count = length-nodes old count in
    let within : place < length nodes = omega (arith, lt, long) in
    let each : (q : ℕ) → q < count → node_at (slice_set nodes place node) q ≡ node_in new count q = λ q less.
    elim (same_or_not q place) [
      | inl same ↦ ap (node_at (slice_set nodes place node)) same ∙ put-here nodes place within node
          ∙ sym here ∙ ap (node_in new count) (sym same)
      | inr off ↦ put-there nodes place within node q off ∙ node-at old count q less ∙ sym (there q less off)
    ] in
    sym (fill_by_all (node_in new count) (slice_set nodes place node) count (unused_node 0) (length-set nodes place node ∙ long) each)

-- a word is put
module _ (words : List ℕ) (i w : ℕ) where
  pub word-here : i < length words → word_at (slice_set words i w) i ≡ w
  word-here lt = get_or-set_same words i w 0 lt

  pub word-there : (j : ℕ) → (j ≡ i → ⊥) → word_at (slice_set words i w) j ≡ word_at words j
  word-there j off = get_or-set_other words i j w 0 off

-- the words of a span are put from a place on
module _ (words : List ℕ) (i : ℕ) (s : Span) where
  abbrev one : List ℕ
  one = slice_set words i s.start

  abbrev two : List ℕ
  two = slice_set one (i + 1) s.end

  abbrev three : List ℕ
  three = slice_set two (i + 2) s.work

  abbrev spare : ℕ
  spare = cast_unsigned w64 s.spare

  -- there are as many words as there were
  pub length-span_words : length (with_span_words i s words) ≡ length words
  length-span_words =
      length-set three (i + 3) spare ∙ length-set two (i + 2) s.work ∙ length-set one (i + 1) s.end ∙ length-set words i s.start

  -- words before it and behind it stay
  pub outside : (j : ℕ) → (j ≡ i → ⊥) → (j ≡ i + 1 → ⊥) → (j ≡ i + 2 → ⊥) → (j ≡ i + 3 → ⊥)
      → word_at (with_span_words i s words) j ≡ word_at words j
  outside j a b c d =
      word-there three (i + 3) spare j d ∙ word-there two (i + 2) s.work j c
      ∙ word-there one (i + 1) s.end j b ∙ word-there words i s.start j a

  module _ (fits : i + 4 ≤ length words) (whole : SFits w64 s.spare) where
    abbrev last : List ℕ
    last = with_span_words i s words

    start_in : word_at last i ≡ s.start
    start_in =
        word-there three (i + 3) spare i (λ e. omega (arith, e)) ∙ word-there two (i + 2) s.work i (λ e. omega (arith, e))
        ∙ word-there one (i + 1) s.end i (λ e. omega (arith, e)) ∙ word-here words i s.start (omega (arith, fits))

    end_in : word_at last (i + 1) ≡ s.end
    end_in =
        word-there three (i + 3) spare (i + 1) (λ e. omega (arith, e)) ∙ word-there two (i + 2) s.work (i + 1) (λ e. omega (arith, e))
        ∙ word-here one (i + 1) s.end (omega (arith, fits, length-set words i s.start))

    work_in : word_at last (i + 2) ≡ s.work
    work_in =
        word-there three (i + 3) spare (i + 2) (λ e. omega (arith, e))
        ∙ word-here two (i + 2) s.work (omega (arith, fits, length-set words i s.start, length-set one (i + 1) s.end))

    spare_in : word_at last (i + 3) ≡ spare
    spare_in =
        word-here three (i + 3) spare
        (omega (arith, fits, length-set words i s.start, length-set one (i + 1) s.end, length-set two (i + 2) s.work))

    spare_back : cast_signed w64 (word_at last (i + 3)) ≡ s.spare
    spare_back = ap (cast_signed w64) spare_in ∙ to_z-of_z w64 s.spare whole

    -- the span comes out of its words as it went in
    pub span-back : span_in last i ≡ s
    span-back = λ k. record { start = start_in k; end = end_in k; work = work_in k; spare = spare_back k }

-- words that are the same have the same span in them
same-span : (old new : List ℕ) (i : ℕ) → ((k : ℕ) → k < 4 → word_at new (i + k) ≡ word_at old (i + k)) → span_in new i ≡ span_in old i
same-span old new i same =
    let start : word_at new i ≡ word_at old i =
    ap (word_at new) (sym (add-zero i)) ∙ same 0 (omega arith) ∙ ap (word_at old) (add-zero i) in
    let last = same 3 (omega arith) in
    λ k. record {
      start = start k;
      end = same 1 (omega arith) k;
      work = same 2 (omega arith) k;
      spare = cast_signed w64 (last k);
    }

-- a node is put: its span first, then its links
module _ (words : List ℕ) (count place : ℕ) (node : Node) (all : length words ≡ node_words * count) (lt : place < count)
    (small : node.next < 2 ^ 32) (whole : SFits w64 node.span.spare) where
  abbrev first : ℕ
  first = span_place count place

  abbrev spanned : List ℕ
  spanned = with_span_words first node.span words

  abbrev links : ℕ
  links = links_word node.next node.prev

  abbrev put : List ℕ
  put = slice_set spanned place links

  fits : first + 4 ≤ length words
  fits = omega (arith, all, lt)

  here_links : word_at put place ≡ links
  here_links = word-here spanned place links (omega (arith, length-span_words words first node.span, all, lt))

  here_span : span_in put first ≡ node.span
  here_span =
      same-span spanned put first (λ k less. word-there spanned place links (first + k) (λ e. omega (arith, e, lt)))
      ∙ span-back words first node.span fits whole

  here_next : word_at put place % 2 ^ 32 ≡ node.next
  here_next = ap (λ w. w % 2 ^ 32) here_links ∙ links-next node.next node.prev small

  here_prev : word_at put place / 2 ^ 32 ≡ node.prev
  here_prev = ap (λ w. w / 2 ^ 32) here_links ∙ links-prev node.next node.prev small

  here : node_in put count place ≡ node
  here = λ k. record { next = here_next k; prev = here_prev k; span = here_span k }

  -- each word belongs to one node
  there_links : (q : ℕ) → q < count → (q ≡ place → ⊥) → word_at put q ≡ word_at words q
  there_links q less off =
      word-there spanned place links q off
      ∙ outside words first node.span q
      (λ e. omega (arith, e, less)) (λ e. omega (arith, e, less)) (λ e. omega (arith, e, less)) (λ e. omega (arith, e, less))

  there_word : (q k : ℕ) → q < count → (q ≡ place → ⊥) → k < 4 → word_at put (span_place count q + k) ≡ word_at words (span_place count q + k)
  there_word q k less off four =
      word-there spanned place links (span_place count q + k) (λ e. omega (arith, e, lt))
      ∙ outside words first node.span (span_place count q + k)
      (λ e. off (omega (arith, e, four))) (λ e. off (omega (arith, e, four)))
      (λ e. off (omega (arith, e, four))) (λ e. off (omega (arith, e, four)))

  there : (q : ℕ) → q < count → (q ≡ place → ⊥) → node_in put count q ≡ node_in words count q
  there q less off =
      let links_stay = there_links q less off in
      let span_stays = same-span words put (span_place count q) (λ k four. there_word q k less off four) in
      λ k. record { next = links_stay k % 2 ^ 32; prev = links_stay k / 2 ^ 32; span = span_stays k }

  pub node-put : nodes_of put count ≡ slice_set (nodes_of words count) place node
  node-put = nodes-set words put count place node lt here there

-- a span is put alone
module _ (words : List ℕ) (count place : ℕ) (s : Span) (all : length words ≡ node_words * count) (lt : place < count)
    (whole : SFits w64 s.spare) where
  abbrev spot : ℕ
  spot = span_place count place

  abbrev spanned_there : List ℕ
  spanned_there = with_span_words spot s words

  abbrev own : Node
  own = record (node_at (nodes_of words count) place) { span = s }

  links_stay : (q : ℕ) → q < count → word_at spanned_there q ≡ word_at words q
  links_stay q less =
      outside words spot s q
      (λ e. omega (arith, e, less)) (λ e. omega (arith, e, less)) (λ e. omega (arith, e, less)) (λ e. omega (arith, e, less))

  here_now : node_in spanned_there count place ≡ own
  here_now =
      let stay = links_stay place lt in
      let was = node-at words count place lt in
      let next : word_at spanned_there place % 2 ^ 32 ≡ own.next = ap (λ w. w % 2 ^ 32) stay ∙ sym (ap (λ (n : Node). n.next) was) in
      let prev : word_at spanned_there place / 2 ^ 32 ≡ own.prev = ap (λ w. w / 2 ^ 32) stay ∙ sym (ap (λ (n : Node). n.prev) was) in
      let span : span_in spanned_there spot ≡ s = span-back words spot s (omega (arith, all, lt)) whole in
      λ k. record { next = next k; prev = prev k; span = span k }

  word_stays : (q k : ℕ) → (q ≡ place → ⊥) → k < 4 → word_at spanned_there (span_place count q + k) ≡ word_at words (span_place count q + k)
  word_stays q k off four =
      outside words spot s (span_place count q + k)
      (λ e. off (omega (arith, e, four))) (λ e. off (omega (arith, e, four)))
      (λ e. off (omega (arith, e, four))) (λ e. off (omega (arith, e, four)))

  others_stay : (q : ℕ) → q < count → (q ≡ place → ⊥) → node_in spanned_there count q ≡ node_in words count q
  others_stay q less off =
      let stay = links_stay q less in
      let span = same-span words spanned_there (span_place count q) (λ k four. word_stays q k off four) in
      λ k. record { next = stay k % 2 ^ 32; prev = stay k / 2 ^ 32; span = span k }

  pub span-put : nodes_of spanned_there count ≡ with_span place s (nodes_of words count)
  span-put = nodes-set words spanned_there count place own lt here_now others_stay

-- links are put alone
module _ (words : List ℕ) (count place next prev : ℕ) (all : length words ≡ node_words * count) (lt : place < count)
    (small : next < 2 ^ 32) where
  abbrev linked_there : List ℕ
  linked_there = slice_set words place (links_word next prev)

  abbrev linked : Node
  linked = record (node_at (nodes_of words count) place) { next = next; prev = prev }

  span_kept : (q : ℕ) → span_in linked_there (span_place count q) ≡ span_in words (span_place count q)
  span_kept q =
      same-span words linked_there (span_place count q)
      (λ k four. word-there words place (links_word next prev) (span_place count q + k) (λ e. omega (arith, e, lt)))

  here_linked : node_in linked_there count place ≡ linked
  here_linked =
      let word = word-here words place (links_word next prev) (omega (arith, lt, all)) in
      let next_now : word_at linked_there place % 2 ^ 32 ≡ next = ap (λ w. w % 2 ^ 32) word ∙ links-next next prev small in
      let prev_now : word_at linked_there place / 2 ^ 32 ≡ prev = ap (λ w. w / 2 ^ 32) word ∙ links-prev next prev small in
      let span = span_kept place ∙ sym (ap (λ (n : Node). n.span) (node-at words count place lt)) in
      λ k. record { next = next_now k; prev = prev_now k; span = span k }

  others_linked : (q : ℕ) → q < count → (q ≡ place → ⊥) → node_in linked_there count q ≡ node_in words count q
  others_linked q less off =
      let word = word-there words place (links_word next prev) q off in
      let span = span_kept q in
      λ k. record { next = word k % 2 ^ 32; prev = word k / 2 ^ 32; span = span k }

  pub links-put : nodes_of linked_there count ≡ slice_set (nodes_of words count) place linked
  links-put = nodes-set words linked_there count place linked lt here_linked others_linked

-- a capacity is put alone
module _ (words : List ℕ) (i : ℕ) (spare : ℤ) where
  -- the other words of the span are those that stand there
  put-own : with_span_words i (record (span_in words i) { spare = spare }) words ≡ slice_set words (i + 3) (cast_unsigned w64 spare)
  put-own =
      let start = set-get_or words i 0 in
      let end = set-get_or words (i + 1) 0 in
      let work = set-get_or words (i + 2) 0 in
      ap (λ (ws : List ℕ). slice_set (slice_set (slice_set ws (i + 1) (word_at words (i + 1))) (i + 2) (word_at words (i + 2))) (i + 3) (cast_unsigned w64 spare)) start
      ∙ ap (λ (ws : List ℕ). slice_set (slice_set ws (i + 2) (word_at words (i + 2))) (i + 3) (cast_unsigned w64 spare)) end
      ∙ ap (λ (ws : List ℕ). slice_set ws (i + 3) (cast_unsigned w64 spare)) work

pub spare-put : (words : List ℕ) (count place : ℕ) (spare : ℤ) → length words ≡ node_words * count → place < count → SFits w64 spare
    → nodes_of (slice_set words (span_place count place + 3) (cast_unsigned w64 spare)) count
    ≡ with_span place (record (span_of (nodes_of words count) place) { spare = spare }) (nodes_of words count)
spare-put words count place spare all lt whole =
    let nodes = nodes_of words count in
    let spot = span_place count place in
    let own = ap (λ (n : Node). record n.span { spare = spare }) (node-at words count place lt) in
    ap (λ ws. nodes_of ws count) (sym (put-own words spot spare))
    ∙ ap (λ (s : Span). nodes_of (with_span_words spot s words) count) (sym own)
    ∙ span-put words count place (record (span_of nodes place) { spare = spare }) all lt whole

-- the words of a new block, of which so many nodes have their links
pub record AreFresh (words : List ℕ) (count n : ℕ) : Type 0 where
  pub all : length words ≡ node_words * count
  pub linked : (p : ℕ) → p < n → word_at words p ≡ links_word (p + 1) 0
  pub zeros : (p : ℕ) → n ≤ p → word_at words p ≡ 0

-- each of some zeros is 0, and so is what is read past them
zero-at : (n p : ℕ) → word_at (replicate n 0) p ≡ 0
zero-at zero p = refl
zero-at (suc n) zero = refl
zero-at (suc n) (suc p) = zero-at n p

-- at first none has
pub AreFresh-zeros : (count : ℕ) → AreFresh (replicate (node_words * count) 0) count 0
AreFresh-zeros count = record {
  all = length-replicate (node_words * count) 0;
  linked = λ p less. absurd (omega (arith, less));
  zeros = λ p le. zero-at (node_words * count) p;
}

-- one more node has its links
pub AreFresh-more : (words : List ℕ) (count n : ℕ) → n < count → AreFresh words count n
    → AreFresh (slice_set words n (links_word (n + 1) 0)) count (n + 1)
AreFresh-more words count n lt f =
    let links : ℕ = links_word (n + 1) 0 in
    record {
      all = length-set words n links ∙ f.all;
      linked = λ p less. elim (same_or_not p n) [
        | inl same ↦ ap (word_at (slice_set words n links)) same ∙ word-here words n links (omega (arith, lt, f.all))
            ∙ ap (λ k. links_word (k + 1) 0) (sym same)
        | inr off ↦ word-there words n links p off ∙ f.linked p (omega (arith, less, off))
      ];
      zeros = λ p le. word-there words n links p (λ e. omega (arith, e, le)) ∙ f.zeros p (omega (arith, le));
    }

-- all nodes are unused
pub AreFresh-unused : (words : List ℕ) (count : ℕ) → count ≤ 2 ^ 20 + 1 → AreFresh words count count → nodes_of words count ≡ unused count
AreFresh-unused words count few f =
    let each : (p : ℕ) → p < count → node_at (unused count) p ≡ node_in words count p = λ p lt.
    let links = f.linked p lt in
    let next : word_at words p % 2 ^ 32 ≡ p + 1 = ap (λ w. w % 2 ^ 32) links ∙ links-next (p + 1) 0 (omega (arith, lt, few)) in
    let prev : word_at words p / 2 ^ 32 ≡ 0 = ap (λ w. w / 2 ^ 32) links ∙ links-prev (p + 1) 0 (omega (arith, lt, few)) in
    let first : ℕ = span_place count p in
    let start : word_at words first ≡ 0 = f.zeros first (omega arith) in
    let end : word_at words (first + 1) ≡ 0 = f.zeros (first + 1) (omega arith) in
    let work : word_at words (first + 2) ≡ 0 = f.zeros (first + 2) (omega arith) in
    let spare : cast_signed w64 (word_at words (first + 3)) ≡ pos 0 = ap (cast_signed w64) (f.zeros (first + 3) (omega arith)) in
    let is : node_in words count p ≡ unused_node p =
    λ k. record { next = next k; prev = prev k; span = record { start = start k; end = end k; work = work k; spare = spare k } } in
    unused-at count p lt ∙ sym is in
    sym (fill_by_all (node_in words count) (unused count) count (unused_node 0) (length-unused count) each)
