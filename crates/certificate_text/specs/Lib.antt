pub mod Answers
pub mod Cause
pub mod CertificateText
pub mod Item
pub mod Laws
pub mod State
pub mod Text
pub mod inside
