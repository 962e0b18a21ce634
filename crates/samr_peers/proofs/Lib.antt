pub mod PeerRows
pub mod PairTurns
