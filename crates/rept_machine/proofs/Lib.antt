pub mod ArithmeticLemmas
pub mod StepLaws
pub mod Running
