-- Writers between two rows.
use Rattle.std.specs.Prelude.{◌≡◌, false}
use Rattle.csv.specs.Writing.{fields_written, has_written, writer_setup}
use Rattle.csv.specs.declared.writer.Writer.{Writer}
use Rattle.csv_table.specs.Tables.{comma_separated}

-- the writer writes rows of this form, and no field of the next row is written
pub record IsAtRow {W : Type 0} (writer : Writer W) : Type 0 where
  pub setup : writer_setup writer ≡ comma_separated
  pub fields : fields_written writer ≡ 0
  pub wrote : has_written writer ≡ false
