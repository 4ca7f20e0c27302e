pub mod Coverage
pub use Rattle.schedule.specs as schedule
