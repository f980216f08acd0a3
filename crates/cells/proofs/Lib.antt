pub mod RowLaws
pub mod StretchLaws
pub mod Tables
