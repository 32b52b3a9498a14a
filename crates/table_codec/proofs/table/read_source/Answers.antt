use Rattle.table_codec.proofs.SetLaws.{set_whole}
use Rattle.table_codec.proofs.TableLaws.{sound_from_steps}
use Rattle.table_codec.proofs.table.read_source.Goals as goal

pub check_set-requires : goal.check_set-requires
check_set-requires c = ((set_whole c.args.layout).of_read c.args.input.now c.in_ok-set.set c.read_set.new.input c.in_ok-set.ensures).1

pub returns-clause-sound : goal.returns-clause-sound
returns-clause-sound c =
    let after = c.read_set.new.input in
    sound_from_steps c.args.layout c.args.input.now after c.in_ok-set.set (c.in_ok-set.set, after) c.in_ok-set.ensures (c.in_ok-check_set.ensures after)
