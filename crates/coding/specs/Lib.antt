pub mod Encode
