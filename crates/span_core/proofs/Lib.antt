pub mod FilterLemmas
pub mod Overlap
pub mod SameNumberSet
pub mod SomeBelow
pub mod Words
