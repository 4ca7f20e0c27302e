mod Hits
mod Reading
mod Sessions
