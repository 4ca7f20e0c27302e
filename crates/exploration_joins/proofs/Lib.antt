mod Covers
mod Fails
mod OneExploration
mod Orders
mod Parts
mod Sorted
mod Sums
