pub mod Bridge
pub mod Found
pub mod BridgeRow
pub mod Search
pub mod BridgeParts
pub mod StageLaws
