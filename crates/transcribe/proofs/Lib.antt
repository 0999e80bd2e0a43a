pub mod Codec
pub mod Round
pub mod Laws
pub mod Copying
