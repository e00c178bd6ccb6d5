pub mod Numbers
pub mod Serials
pub mod Replies
pub mod Listings
pub mod Notices
