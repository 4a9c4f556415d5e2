-- The laws of an update.
pub mod Lists
pub mod Updating
