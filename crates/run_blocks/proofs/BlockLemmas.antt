-- Blocks that stand for runs, one run more.
use Rattle.std.proofs.Common.{◌≡◌, ◌≢◌, ℕ, zero, suc, ◌+◌, ◌-◌, ◌<◌, ◌==◌, true, ◌&&◌, nat_lt, List, [], ◌∷◌, ◌++◌, refl, sym, ap, ◌∙◌, arith, append_assoc}
use Rattle.std.specs.Prelude.{map}
use Rattle.std.specs.List.{range_with_len}
use Rattle.std.proofs.lemmas.Bool.{and_parts, and_from, eq-eqb, eqb-true, lt-ltb, ltb-true}
use Rattle.std.proofs.lemmas.List.Folds.{list_all-append}
use Rattle.std.proofs.lemmas.Grind.{flat_map-append}
use Rattle.std.proofs.lemmas.List.{append-nil, map-append}
use Rattle.trace_lines.specs.declared.line.KeyName.{KeyName}
use Rattle.run_blocks.specs.declared.blocks.Block.{Block}
use Rattle.run_blocks.specs.declared.rows.Row.{Row}
use Rattle.run_blocks.specs.Blocks.{are_placed, AreApart, AreBlocks, AreBlocksOf, block_runs, blocks_runs, is_placed, IsSlot}
use Rattle.run_blocks.specs.Rows.{row_at}

-- one number more
pub range-more : (a n : ℕ) → range_with_len a (n + 1) ≡ range_with_len a n ++ (a + n) ∷ []
range-more a zero = ap (λ k. k ∷ []) (omega arith)
range-more a (suc n) =
    let count : suc n + 1 ≡ suc (n + 1) = omega arith in
    ap (range_with_len a) count
    ∙ ap (λ ks. a ∷ ks) (range-more (a + 1) n ∙ ap (λ k. range_with_len (a + 1) n ++ k ∷ []) (omega arith))

-- the runs of a slot
slot_runs : (rows : List Row) (block : Block) (time : ℕ) (key : KeyName) → IsSlot rows block time key → block_runs block ≡ (time, key) ∷ []
slot_runs rows block time key is =
    let one : block.end - block.start ≡ 1 = omega (arith, is.first, is.after) in
    rw (one, is.first, is.job) refl

-- a slot is placed
slot_placed : (rows : List Row) (block : Block) (time : ℕ) (key : KeyName) → IsSlot rows block time key → is_placed rows block ≡ true
slot_placed rows block time key is =
    let some : nat_lt block.start block.end ≡ true = lt-ltb block.start block.end (omega (arith, is.first, is.after)) in
    and_from _ _ some (eq-eqb block.row (row_at rows block.key.now) (is.row ∙ ap (row_at rows) (sym is.job)))

-- the runs of a block, one slot more
longer_runs : (block longer : Block) → block.start < block.end → longer.start ≡ block.start → longer.key.now ≡ block.key.now → longer.end ≡ block.end + 1 → block_runs longer ≡ block_runs block ++ (block.end, block.key.now) ∷ []
longer_runs block longer some start job end =
    let count : longer.end - longer.start ≡ (block.end - block.start) + 1 = omega (arith, some, start, end) in
    let last : block.start + (block.end - block.start) ≡ block.end = omega (arith, some) in
    rw (count, start, job) (
    ap (map (λ time. (time, block.key.now))) (range-more block.start (block.end - block.start))
    ∙ map-append (λ time. (time, block.key.now)) (range_with_len block.start (block.end - block.start)) ((block.start + (block.end - block.start)) ∷ [])
    ∙ ap (λ t. block_runs block ++ (t, block.key.now) ∷ []) last)

-- the runs of blocks and a last one
last_runs : (front : List Block) (block : Block) → blocks_runs (front ++ block ∷ []) ≡ blocks_runs front ++ (block_runs block ++ [])
last_runs front block = flat_map-append block_runs front (block ∷ [])

-- a block that goes on nowhere
apart-more : (front : List Block) (last next : Block) → AreApart (front ++ last ∷ []) → (last.end ≡ next.start → last.key.now ≢ next.key.now) → AreApart ((front ++ last ∷ []) ++ next ∷ [])
apart-more [] last next apart new = (new, tt)
apart-more (a ∷ []) last next (here, apart) new = (here, apart-more [] last next apart new)
apart-more (a ∷ b ∷ front) last next (here, apart) new = (here, apart-more (b ∷ front) last next apart new)

-- a last block of another end
apart-longer : (front : List Block) (last longer : Block) → longer.start ≡ last.start → longer.key.now ≡ last.key.now → AreApart (front ++ last ∷ []) → AreApart (front ++ longer ∷ [])
apart-longer [] last longer start job apart = tt
apart-longer (a ∷ []) last longer start job (here, apart) = ((λ meets same. here (meets ∙ start) (same ∙ job)), tt)
apart-longer (a ∷ b ∷ front) last longer start job (here, apart) = (here, apart-longer (b ∷ front) last longer start job apart)

-- the first block
pub AreBlocksOf-first : (rows : List Row) (block : Block) (time : ℕ) (key : KeyName) → IsSlot rows block time key → AreBlocksOf rows (block ∷ []) ((time, key) ∷ [])
AreBlocksOf-first rows block time key is =
    record {
      placed = and_from _ _ (slot_placed rows block time key is) refl;
      apart = tt;
      stands = ap (λ t. t ++ []) (slot_runs rows block time key is);
    }

-- a block behind the last one, which does not go on
pub AreBlocksOf-behind : (rows : List Row) (front : List Block) (last block : Block) (time : ℕ) (key : KeyName) → AreBlocks rows (front ++ last ∷ []) → IsSlot rows block time key → (last.end ≡ time → last.key.now ≢ key) → AreBlocksOf rows ((front ++ last ∷ []) ++ block ∷ []) (blocks_runs (front ++ last ∷ []) ++ (time, key) ∷ [])
AreBlocksOf-behind rows front last block time key blocks is other =
    record {
      placed = list_all-append (is_placed rows) (front ++ last ∷ []) (block ∷ []) ∙ rw (blocks.placed, slot_placed rows block time key is) refl;
      apart = apart-more front last block blocks.apart (λ meets same. other (meets ∙ is.first) (same ∙ is.job));
      stands = last_runs (front ++ last ∷ []) block ∙ ap (λ t. blocks_runs (front ++ last ∷ []) ++ (t ++ [])) (slot_runs rows block time key is);
    }

-- the last block, one slot more
pub AreBlocksOf-longer : (rows : List Row) (front : List Block) (last longer : Block) (time : ℕ) (key : KeyName) → AreBlocks rows (front ++ last ∷ []) → last.end ≡ time → last.key.now ≡ key → longer.row ≡ last.row → longer.start ≡ last.start → longer.key.now ≡ last.key.now → longer.end ≡ last.end + 1 → AreBlocksOf rows (front ++ longer ∷ []) (blocks_runs (front ++ last ∷ []) ++ (time, key) ∷ [])
AreBlocksOf-longer rows front last longer time key blocks ends job row start same end =
    let split = sym (list_all-append (is_placed rows) front (last ∷ [])) ∙ blocks.placed in
    let (before, own) = and_parts (are_placed rows front) (is_placed rows last && true) split in
    let (mine, _) = and_parts (is_placed rows last) true own in
    let (some, place) = and_parts (nat_lt last.start last.end) (last.row == row_at rows last.key.now) mine in
    let begins : last.start < last.end = ltb-true last.start last.end some in
    let longer_some : nat_lt longer.start longer.end ≡ true = lt-ltb longer.start longer.end (omega (arith, begins, start, end)) in
    let longer_place : longer.row ≡ row_at rows longer.key.now = row ∙ eqb-true last.row (row_at rows last.key.now) place ∙ ap (row_at rows) (sym same) in
    let placed : is_placed rows longer ≡ true = and_from _ _ longer_some (eq-eqb longer.row (row_at rows longer.key.now) longer_place) in
    let runs = longer_runs last longer begins start same end ∙ ap (λ t. block_runs last ++ t) (rw (ends, job) refl) in
    record {
      placed = list_all-append (is_placed rows) front (longer ∷ []) ∙ rw (before, placed) refl;
      apart = apart-longer front last longer start same blocks.apart;
      stands = last_runs front longer ∙ ap (λ t. blocks_runs front ++ (t ++ [])) runs ∙ joined (blocks_runs front) (block_runs last) ∙ ap (λ t. t ++ (time, key) ∷ []) (sym (last_runs front last));
    }
  where
    joined : (xs ys : List (ℕ × KeyName)) → xs ++ ((ys ++ (time, key) ∷ []) ++ []) ≡ (xs ++ (ys ++ [])) ++ (time, key) ∷ []
    joined xs ys = simp (append_assoc, append-nil)
