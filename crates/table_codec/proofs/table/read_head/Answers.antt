use Rattle.std.proofs.Common.{rules}
use Rattle.table_codec.proofs.table.read_head.Goals as goal

pub returns-in_err-magic : goal.returns-in_err-magic
returns-in_err-magic c = search rules

pub returns-in_err-version : goal.returns-in_err-version
returns-in_err-version c = search rules
