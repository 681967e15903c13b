pub mod Asked
pub mod Built
pub mod CallerLemmas
mod FilterNumber
mod FilteredHooks
mod FilteredQuestions
pub mod HonestKept
pub mod RulesKept
pub mod Hint
pub mod Interest
mod Number
mod Parts
pub mod Pass
mod Takes
