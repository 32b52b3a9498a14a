-- The text is a name.
use Rattle.std.proofs.Common.{◌≡◌, ◌++◌, true, codes, ap, ◌∙◌, rules}
use Rattle.std.specs.Prelude.{decimal}
use Rattle.slot_core.specs.Sets.Names.{is_name}
use Rattle.load_gen.proofs.Sound.{graph_name-is_name}
use Rattle.load_gen.proofs.sets.graph_name.Goals as goal

pub unwrap-requires : goal.unwrap-requires
unwrap-requires c =
    let text : c.bytes.result.now ≡ codes "g" ++ decimal c.args.i = search rules in
    let name : is_name c.bytes.result.now ≡ true = ap is_name text ∙ graph_name-is_name c.args.i c.requires in
    rw (c.of.ensures, name)
