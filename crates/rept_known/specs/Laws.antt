pub mod BitsLaws
pub mod Sums
pub mod Selected
pub mod Joined
pub mod Tops
pub mod BothLaws
