pub mod Made
pub mod PartsOrder
pub mod NextWord
pub mod Greatest
pub mod BothMade
pub mod BothFiner
