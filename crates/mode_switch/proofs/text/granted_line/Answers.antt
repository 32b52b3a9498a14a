use Rattle.mode_switch.proofs.text.granted_line.Goals as goal

pub returns : goal.returns
returns c = rw (c.push-2.ensures, c.push.ensures, c.number.ensures.text, c.new-line.ensures)
