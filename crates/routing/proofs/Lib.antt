pub mod Following
pub mod RouteRules
pub mod Tables
