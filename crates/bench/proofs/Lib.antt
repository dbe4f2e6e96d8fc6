pub mod BenchLaws
pub mod ServeLaws
pub mod SessionLaws
pub mod Pieces
