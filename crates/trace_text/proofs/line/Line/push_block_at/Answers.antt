-- The front of the block stands after what was before it.
use Rattle.std.proofs.Common.{◌≡◌, ◌-◌, ◌+◌, ◌≤◌, ◌++◌, length, take, drop, ap, sym, ◌∙◌, rules, arith}
use Rattle.std.proofs.lemmas.List.{length-take-le, length-drop}
use borrow.Rule.Slice.PartMut.{put_mid, same_len_mid}
use Rattle.trace_text.specs.declared.TheConstants.{LINE_LIMIT}
use Rattle.trace_text.proofs.Blocks.{block_put}
use Rattle.trace_text.proofs.line.Line.push_block_at.Goals as goal

pub returns : goal.returns
returns g c =
    let first : c.copy_from_slice.new.self ≡ c.args.block = search rules in
    let full : length c.self.inside.bytes ≡ LINE_LIMIT = search rules in
    let long : length c.args.block ≡ g.row.N = search rules in
    let start = c.args.len in
    let bytes = c.self.inside.bytes in
    let here : length c.args.self.now ≡ c.self.inside.len = sym (ap length c.self.view_is) ∙ length-take-le c.self.inside.len bytes (omega arith) in
    let same : start ≡ c.self.inside.len = c.requires.length ∙ here in
    let room : start + g.row.N ≤ length bytes = omega (arith, same, here, c.requires.room) in
    let all_bytes = put_mid start (start + g.row.N - start) bytes c.args.block in
    let kept : length all_bytes ≡ length bytes = same_len_mid start (start + g.row.N - start) bytes c.args.block (omega (arith, length-take-le (start + g.row.N - start) (drop start bytes) (omega (arith, length-drop start bytes)))) in
    let front = block_put bytes c.args.block start (start + g.row.N - start) c.args.count (omega arith) (omega arith) in
    rw first
    (record {
      text = front ∙ ap (λ l. l ++ take c.args.count c.args.block) (ap (λ n. take n bytes) same ∙ c.self.view_is);
      length = sym (length-take-le (start + c.args.count) all_bytes (omega arith));
    })
