pub mod Hmac
pub mod Mask
pub mod Quotes
