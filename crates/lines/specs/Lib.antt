-- The definitions that the contracts cite: words of a line (`Word`), the texts that are put into an output (`Output`), those that a
-- log shows (`Text`), and the lines of an input (`Input`).
pub mod Word
pub mod Output
pub mod Printed
pub mod Text
pub mod Input
