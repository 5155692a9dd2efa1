-- Laws for callers: IntLaws, UintLaws, DoubleLaws, RangeLaws; IntMag, an Int and its size.
pub mod DoubleLaws
pub mod IntLaws
pub mod IntMag
pub mod RangeLaws
pub mod UintLaws
