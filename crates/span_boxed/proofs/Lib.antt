mod BoxLemmas
pub mod CallerLemmas
pub mod FilterCallerLemmas
mod FilterLemmas
