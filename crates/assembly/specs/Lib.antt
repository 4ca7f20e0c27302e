pub mod Assembled
pub mod Bytes
pub mod CodeOf
pub mod Faults
pub mod Opcodes
pub mod Named
pub mod Operands
pub mod Sizes
