use Rattle.std.proofs.Common.{◌+◌, ◌∷◌, ◌++◌, [], refl, sym, ap, subst, ◌∙◌}
use Rattle.std.proofs.lemmas.Result.{on_ok_weaker}
use Rattle.run_blocks.specs.declared.blocks.Block.{Block}
use Rattle.run_blocks.specs.Blocks.{AreBlocks, AreBlocksOf, blocks_runs}
use Rattle.run_blocks.proofs.BlockLemmas.{AreBlocksOf-behind, AreBlocksOf-longer}
use Rattle.run_blocks.proofs.blocks.push_behind.Goals as goal

pub returns-then-goes_on : goal.returns-then-goes_on
returns-then-goes_on c =
    let (ends, job) = c.goes_on.ensures.yes c.if-goes_on.true in
    let longer : Block = record { row = c.args.last.row; key = c.args.last.key; start = c.args.last.start; end = c.args.last.end + 1 } in
    let old : AreBlocks c.args.rows.now (c.args.blocks.now.items ++ c.args.last ∷ []) = record { placed = c.requires.placed; apart = c.requires.apart } in
    subst
    (λ bs. AreBlocksOf c.args.rows.now bs (blocks_runs (c.args.blocks.now.items ++ c.args.last ∷ []) ++ (c.args.time, c.args.key.now) ∷ []))
    (sym c.in_ok-push.ensures.items)
    (AreBlocksOf-longer c.args.rows.now c.args.blocks.now.items c.args.last longer c.args.time c.args.key.now old ends job refl refl refl refl)

pub returns : goal.returns
returns c =
    let old : AreBlocks c.args.rows.now (c.args.blocks.now.items ++ c.args.last ∷ []) = record { placed = c.requires.placed; apart = c.requires.apart } in
    on_ok_weaker c.push_block.result
    (λ made.
    (let (block, is, items) = made in
    subst
    (λ bs. AreBlocksOf c.args.rows.now bs (blocks_runs (c.args.blocks.now.items ++ c.args.last ∷ []) ++ (c.args.time, c.args.key.now) ∷ []))
    (sym (items ∙ ap (λ bs. bs ++ block ∷ []) c.in_ok-push-2.ensures.items))
    (AreBlocksOf-behind c.args.rows.now c.args.blocks.now.items c.args.last block c.args.time c.args.key.now old is (c.goes_on.ensures.not c.if-goes_on.false))))
    c.push_block.ensures
