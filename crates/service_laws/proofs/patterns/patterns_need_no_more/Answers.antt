use Rattle.slot_facts.proofs.Patterns.NeedNoMore.{patterns_need_no_more}
use Rattle.service_laws.proofs.patterns.patterns_need_no_more.Goals as goal

pub returns : goal.returns
returns c = patterns_need_no_more
