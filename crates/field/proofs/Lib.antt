pub mod Table
pub mod TableRules
pub mod Xor
pub mod ProductLaws
pub mod Laws
