pub mod AsksBack
pub mod AnswersBack
pub mod VerdictsBack
pub mod RefusalsBack
