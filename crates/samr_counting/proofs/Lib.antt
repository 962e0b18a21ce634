mod LoadSums
mod OwnClusters
mod OwnCuts
pub mod CutBegins
