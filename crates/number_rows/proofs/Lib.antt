-- The laws of numbers to a line's end: NumbersLeft of one number and the end, NumberLoops of reading them in turn, ShortSpeeds of the
-- short reading.
pub mod NumberLoops
pub mod NumbersLeft
pub mod ShortSpeeds
