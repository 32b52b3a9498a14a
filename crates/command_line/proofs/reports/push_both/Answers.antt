use Rattle.command_line.proofs.JoinedTexts.{append_both}
use Rattle.command_line.proofs.reports.push_both.Goals as goal

pub returns : goal.returns
returns c = append_both c.push-2.result c.args.line.now.items _ _ _ _ c.in_ok-push.ensures c.push-2.ensures
