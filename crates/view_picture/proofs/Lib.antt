pub mod ShownBlocks
