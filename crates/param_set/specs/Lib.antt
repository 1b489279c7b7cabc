pub mod Faults
pub mod Moduli
pub mod Numbers
pub mod Rules
