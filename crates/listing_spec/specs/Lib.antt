pub mod Faults
pub mod Listable
pub mod Listed
pub mod Printable
pub mod Printed
pub mod TreeOf
