mod FirstWays
mod Further
mod Left
mod Named
mod Tests
mod Ways
