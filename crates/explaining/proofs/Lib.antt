mod Explained
mod Replays
