pub mod RestLines
pub mod Scanning
