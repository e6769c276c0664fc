-- Which texts are refused, with which number and where: the reader gives what the formats say.
pub mod Format
pub mod Faults
pub mod Numbers
