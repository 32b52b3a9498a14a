-- The texts of faults.
use Rattle.std.specs.Prelude.{ℕ, List, ◌++◌, codes, decimal}
use Rattle.view_picture.specs.declared.faults.PictureFault.{PictureFault}
use Rattle.view_picture.specs.declared.faults.PictureFault.TheVariants.{Memory, TooLong, TooManyRows}
use Rattle.run_blocks.specs.declared.TheConstants.{ROW_LIMIT}
use Rattle.view_picture.specs.declared.TheConstants.{PICTURE_LIMIT}

-- why there is no picture
abbrev pub picture_fault_text : PictureFault → List ℕ
picture_fault_text Memory = codes "out of memory"
picture_fault_text TooLong = codes "trace too long " ++ decimal PICTURE_LIMIT
picture_fault_text TooManyRows = codes "trace too many rows " ++ decimal ROW_LIMIT
