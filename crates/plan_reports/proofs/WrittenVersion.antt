-- The version of tables that the command line names is that of the tables that are written.
use Rattle.std.specs.Prelude.{◌≡◌, refl}
use Rattle.command_line.specs.declared.TheConstants.{TABLE_VERSION}
use Rattle.table_codec.specs.Grammar.{layout_2}

-- tables are spelled in the second layout
pub written_version : TABLE_VERSION ≡ layout_2.version
written_version = refl
