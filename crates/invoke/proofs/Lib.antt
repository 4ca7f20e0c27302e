pub mod Entering
mod Printed
