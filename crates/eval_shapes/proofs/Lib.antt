-- Laws on the records of an accepted table.

-- for callers: the place of an accepted record and its kind (`KindLaws`), literals and names without a scope (`LeafLaws`), elements and entries
-- (`Rows`)
pub mod Numbered
pub mod KindLaws
pub mod LeafLaws
pub mod Rows
-- what is seen of operands' records (`Looks`, `SeenOfRecords`); for callers: comprehensions (`ComprehensionLaws`)
pub mod Looks
pub mod SeenOfRecords
pub mod ComprehensionLaws
-- for callers: how a record is evaluated (`ShapeLaws`), records of fixed operands (`Operands`); `NextLaws` is for the functions' proofs, those of
-- eval_operands too
pub mod ShapeLaws
pub mod Operands
pub mod NextLaws
