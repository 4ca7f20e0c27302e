mod Covering
mod Defaults
mod Ended
mod Named
mod Reduced
