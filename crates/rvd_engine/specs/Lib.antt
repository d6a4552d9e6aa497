pub mod Inside
pub mod Performed
pub mod Offered
pub mod Settling
pub mod Admitted
