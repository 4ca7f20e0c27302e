pub mod Surrogates
