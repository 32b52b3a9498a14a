-- The front of the block stands after what was before it.
use Rattle.std.proofs.Common.{◌≡◌, ◌-◌, ◌+◌, ◌≤◌, ◌++◌, length, take, ap, sym, ◌∙◌, rules, arith}
use Rattle.std.proofs.lemmas.List.{length-take-le}
use Rattle.trace_text.specs.declared.TheConstants.{LINE_LIMIT}
use Rattle.trace_text.proofs.Blocks.{block_put}
use Rattle.trace_text.proofs.line.Line.push_block.Goals as goal

pub returns : goal.returns
returns g c =
    let first : c.copy_from_slice.new.self ≡ c.args.block = search rules in
    let full : length c.self.inside.bytes ≡ LINE_LIMIT = search rules in
    let long : length c.args.block ≡ g.row.N = search rules in
    let start = c.self.inside.len in
    let bytes = c.self.inside.bytes in
    let here : length c.args.self.now ≡ start = sym (ap length c.self.view_is) ∙ length-take-le start bytes (omega arith) in
    let room : start + g.row.N ≤ length bytes = omega (arith, here, c.requires.room) in
    let front = block_put bytes c.args.block start (start + g.row.N - start) c.args.count (omega arith) (omega arith) in
    rw first (front ∙ ap (λ l. l ++ take c.args.count c.args.block) c.self.view_is)
