-- The laws of a line's parts, for every crate that reads one: LineFrom of where lines and words end and go on, FieldsLeft of fields
-- one after another, Digits of a number's digits, Rests of names and printable bytes, BehindMark of what a known mark has behind it.
pub mod BehindMark
pub mod Digits
pub mod FieldsLeft
pub mod LineFrom
pub mod Rests
