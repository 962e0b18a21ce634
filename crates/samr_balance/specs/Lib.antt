pub mod Rounds
pub mod WayUp
pub mod WayDown
pub mod Home
pub mod HomeRow
pub mod StageLaws
pub mod OnAll
pub mod Laws
