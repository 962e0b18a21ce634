pub mod Formats
pub mod Laws
pub mod Wholes
pub mod Examples
pub mod ExampleLaws
