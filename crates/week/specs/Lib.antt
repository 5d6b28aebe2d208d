pub mod History
pub mod Making
pub mod Planning
pub mod Store
pub mod WeekList
