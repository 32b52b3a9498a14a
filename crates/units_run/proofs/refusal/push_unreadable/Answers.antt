use Rattle.std.proofs.Common.{codes}
use Rattle.command_line.proofs.JoinedTexts.{append_both}
use Rattle.units_run.proofs.refusal.push_unreadable.Goals as goal

pub returns : goal.returns
returns c =
    append_both c.push-2.result c.args.line.now.items _ _ (codes "cannot read ") c.args.name.now c.in_ok-push.ensures (rw (← c.as_bytes.ensures.value) c.push-2.ensures)
