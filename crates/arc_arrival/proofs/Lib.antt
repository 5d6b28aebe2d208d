pub mod ArcRules
