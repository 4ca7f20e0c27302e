mod Answers
mod Lines
mod Readings
mod Scripts
