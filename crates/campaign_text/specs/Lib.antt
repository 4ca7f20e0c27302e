pub mod Joined
pub mod TableTexts
pub use Rattle.campaign.specs as campaign
